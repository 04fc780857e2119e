use Rattle.std.proofs.Common.{◌≡◌, ◌+◌, ◌∷◌, suc, drop, drop-cons, add-one, ap, sym, ◌∙◌, subst, arith}
use Rattle.fc_refine.specs.Listings.{part_view, parts_view}
use Rattle.fc_refine.specs.Parts.{IsPlace}
use Rattle.fc_refine.proofs.Gathering.{IsPlace-here, IsPlace-behind}
use Rattle.fc_refine.proofs.candidates.place.Goals as goal

pub loop-at-preserved : goal.loop-at-preserved
loop-at-preserved c = λ n h.
    let xs = c.args.parts.now in
    let i = c.loop-at.at in
    let item = c.index-parts-at.result in
    let first : drop i xs ≡ item ∷ drop (i + 1) xs = rw add-one (drop-cons xs i item c.loop-at-test.true ∙ ap (λ x. x ∷ drop (suc i) xs) (sym c.index-parts-at.is)) in
    let behind = IsPlace-behind (part_view item) (parts_view (drop (i + 1) xs)) c.args.shard n c.if-shard-part.false h in
    let here : IsPlace (parts_view (drop i xs)) c.args.shard (suc n) = subst (λ l. IsPlace (parts_view l) c.args.shard (suc n)) (sym first) behind in
    let same : i + suc n ≡ i + 1 + n = omega arith in
    subst (IsPlace (parts_view xs) c.args.shard) same (c.loop-at.invariant (suc n) here)

pub returns-then-shard-part : goal.returns-then-shard-part
returns-then-shard-part c =
    let xs = c.args.parts.now in
    let i = c.loop-at.at in
    let item = c.index-parts-at.result in
    let first : drop i xs ≡ item ∷ drop (i + 1) xs = rw add-one (drop-cons xs i item c.loop-at-test.true ∙ ap (λ x. x ∷ drop (suc i) xs) (sym c.index-parts-at.is)) in
    let here : IsPlace (parts_view (drop i xs)) c.args.shard 0 = subst (λ l. IsPlace (parts_view l) c.args.shard 0) (sym first) (IsPlace-here (part_view item) (parts_view (drop (i + 1) xs)) c.args.shard c.if-shard-part.true) in
    let same : i + 0 ≡ i = omega arith in
    subst (IsPlace (parts_view xs) c.args.shard) same (c.loop-at.invariant 0 here)
