use Rattle.std.proofs.Common.{◌≡◌, ℕ, ◌-◌, ◌≤◌, cond, nat_le, Option, Some, None, length, arith, ◌∙◌, ap, sym}
use Rattle.std.specs.Option.{SomeIff}
use Rattle.std.proofs.lemmas.Bool.Decides.{nat_tests}
use Rattle.std.specs.List.{sum_by}
use Rattle.fc_docs.specs.Kept.{parts}
use Rattle.fc_docs.proofs.Parts.{parts_kept}
use Rattle.fc_docs.proofs.ValueCounts.{value_count-document_of}
use Rattle.fc_docs.proofs.document.Document.room_after.Goals as goal

taken : (r : Option ℕ) (n room : ℕ) → SomeIff r (n ≤ room) (room - n) → r ≡ cond (nat_le n room) (Some (room - n)) None
taken None n room is = grind (arith, nat_tests)
taken (Some left) n room is = grind (arith, nat_tests)

pub returns : goal.returns
returns c =
    let counts = c.self.inside.counts in
    let values = c.self.inside.values.items in
    let are = c.self.invariant.are_values in
    let all = ap (sum_by (λ vs. length vs)) (sym c.self.view_is)
    ∙ value_count-document_of c.self.inside.fields (parts counts values) are.ascending are.ends
    ∙ parts_kept counts values c.self.invariant.whole in
    taken c.checked_sub.result c.len.result c.args.room c.checked_sub.ensures
    ∙ ap (λ n. cond (nat_le n c.args.room) (Some (c.args.room - n)) None) (omega (arith, all, c.self.inside.values.ok))
