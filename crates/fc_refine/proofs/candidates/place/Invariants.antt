use Rattle.std.proofs.Common.{ℕ, ◌+◌, drop}
use Rattle.fc_refine.specs.Listings.{parts_view}
use Rattle.fc_refine.specs.Parts.{IsPlace}
use Rattle.fc_refine.proofs.candidates.place.Given as goal

abbrev pub invariant-loop-at : goal.invariant-loop-at
invariant-loop-at l = (n : ℕ) → IsPlace (parts_view (drop l.at l.parts)) l.shard n → IsPlace (parts_view l.parts) l.shard (l.at + n)
