use Rattle.std.proofs.Common.{◌≡◌, ◌<◌, ◌∙◌, ◌++◌, [], ◌∷◌, ℤ, true, List, All, length, w64, to_z, of_z, sym, ap, ap₂, subst, rules}
use Rattle.fc_count.specs.Counting.{Counting}
use Rattle.fc_count.specs.Countings.{counted_at}
use Rattle.fc_count.specs.declared.countings.Entry.{Entry}
use Rattle.fc_count.proofs.CountedRows.{all_counted, counted_more, there_more}
use Rattle.fc_count.proofs.countings.Countings.push.Goals as goal

pub invariant_of-self : goal.invariant_of-self
invariant_of-self c =
    let ps = c.self.inside.positions.items in
    record {
      there = subst (All (λ (e : Entry). e.row < length ps)) (sym c.reserve.ensures.items) c.self.invariant.there;
      counted = λ p all. c.self.invariant.counted p (subst (λ (l : List Entry). All (λ x. p x.at ≡ true) (counted_at ps l)) c.reserve.ensures.items all);
    }

pub invariant_of-self-in_err-row : goal.invariant_of-self-in_err-row
invariant_of-self-in_err-row c =
    let ps = c.self.inside.positions.items in
    let es = c.self.inside.entries.items in
    let new = c.reserve.new.self.items in
    let same = c.in_err-row.ensures.err in
    record {
      there = subst (λ qs. All (λ (e : Entry). e.row < length qs) new) (sym same) (subst (All (λ (e : Entry). e.row < length ps)) (sym c.reserve.ensures.items) c.self.invariant.there);
      counted = λ p all. subst (All (λ at. p at ≡ true)) (sym same)
          (c.self.invariant.counted p (subst (λ (l : List Counting). All (λ x. p x.at ≡ true) l) (ap₂ counted_at same c.reserve.ensures.items) all));
    }

pub invariant_of-self-2 : goal.invariant_of-self-2
invariant_of-self-2 c =
    let ps = c.self.inside.positions.items in
    let es = c.self.inside.entries.items in
    let new = c.row_for.new.positions.items in
    let e : Entry = record { number = to_z w64 (of_z w64 c.args.number); row = c.in_ok-row.row } in
    let grown = c.in_ok-row.ensures.grown in
    let own = c.in_ok-row.ensures.own in
    let pushed : c.push_reserved.new.self.items ≡ es ++ e ∷ [] = c.push_reserved.ensures.items ∙ ap (λ l. l ++ e ∷ []) c.reserve.ensures.items in
    record {
      there = subst (All (λ (x : Entry). x.row < length new)) (sym pushed) (there_more ps c.args.at new grown es c.self.invariant.there e own c.in_ok-row.ensures.within);
      counted = λ p all. all_counted ps c.args.at new grown es c.self.invariant.there e own c.self.invariant.counted p (subst (λ (l : List Entry). All (λ x. p x.at ≡ true) (counted_at new l)) pushed all);
    }

pub returns-clause-ok : goal.returns-clause-ok
returns-clause-ok c =
    let ps = c.self.inside.positions.items in
    let es = c.self.inside.entries.items in
    let new = c.row_for.new.positions.items in
    let e : Entry = record { number = to_z w64 (of_z w64 c.args.number); row = c.in_ok-row.row } in
    let pushed : c.push_reserved.new.self.items ≡ es ++ e ∷ [] = c.push_reserved.ensures.items ∙ ap (λ l. l ++ e ∷ []) c.reserve.ensures.items in
    let number : to_z w64 (of_z w64 c.args.number) ≡ c.args.number = search rules in
    ap (counted_at new) pushed
    ∙ counted_more ps c.args.at new c.in_ok-row.ensures.grown es c.self.invariant.there e c.in_ok-row.ensures.own
    ∙ ap₂ (λ (l : List Counting) (n : ℤ). l ++ record { number = n; at = c.args.at } ∷ []) c.self.view_is number
