use Rattle.std.proofs.Common.{◌≡◌, ◌-◌, ◌<◌, ℤ, All, [], length, get_or, true, w64, to_z, of_z, refl, subst, sym, ◌∙◌, arith, rules}
use Rattle.std.proofs.lemmas.Bool.{false≢true}
use Rattle.std.proofs.lemmas.List.{nil_from_length}
use Rattle.std.specs.List.{list_any}
use Rattle.fc_lane.specs.Between.{is_between}
use Rattle.fc_column.specs.Longs.{has_between}
use Rattle.fc_lists.specs.Ordered.{AreInOrder}
use Rattle.fc_column.proofs.Ends.{between_ends, none_in_rows, none_there, there_in_rows}
use Rattle.fc_column.proofs.long.LongColumn.ends.Goals as goal

pub returns-in-Some-Some-clause-between : goal.returns-in-Some-Some-clause-between
returns-in-Some-Some-clause-between c =
    let column = c.self.inside in
    let values = column.values.items in
    let positions = column.positions.items in
    let rows = c.args.self.now in
    let least = c.in-Some-Some.least.now in
    let greatest = c.in-Some-Some.greatest.now in
    let order : AreInOrder values positions rows = subst (AreInOrder values positions) c.self.view_is c.self.invariant.in_order in
    let low : to_z w64 (of_z w64 least) ≡ least = search rules in
    let high : to_z w64 (of_z w64 greatest) ≡ greatest = search rules in
    let some : 0 < length values = search rules in
    let first : least ≡ get_or values 0 least = search rules in
    let last : greatest ≡ get_or values (length values - 1) greatest = search rules in
    subst (λ (a : ℤ). All (All (λ value. is_between a (to_z w64 (of_z w64 greatest)) value ≡ true)) rows) (sym low)
    (subst (λ (b : ℤ). All (All (λ value. is_between least b value ≡ true)) rows) (sym high) (between_ends values positions rows least greatest order some first last))

pub returns-in-Some-Some-clause-there : goal.returns-in-Some-Some-clause-there
returns-in-Some-Some-clause-there c =
    let column = c.self.inside in
    let values = column.values.items in
    let positions = column.positions.items in
    let rows = c.args.self.now in
    let least = c.in-Some-Some.least.now in
    let greatest = c.in-Some-Some.greatest.now in
    let order : AreInOrder values positions rows = subst (AreInOrder values positions) c.self.view_is c.self.invariant.in_order in
    let low : to_z w64 (of_z w64 least) ≡ least = search rules in
    let high : to_z w64 (of_z w64 greatest) ≡ greatest = search rules in
    let some : 0 < length values = search rules in
    let first : least ≡ get_or values 0 least = search rules in
    let last : greatest ≡ get_or values (length values - 1) greatest = search rules in
    record {
      least_there = subst (λ (a : ℤ). list_any (has_between a a) rows ≡ true) (sym low) (there_in_rows values positions rows 0 least order some first);
      greatest_there = subst (λ (a : ℤ). list_any (has_between a a) rows ≡ true) (sym high) (there_in_rows values positions rows (length values - 1) greatest order (omega (arith, some)) last);
    }

pub returns-in-Some-Some-clause-none : goal.returns-in-Some-Some-clause-none
returns-in-Some-Some-clause-none c =
    let column = c.self.inside in
    let values = column.values.items in
    let positions = column.positions.items in
    let rows = c.args.self.now in
    let least = c.in-Some-Some.least.now in
    let order : AreInOrder values positions rows = subst (AreInOrder values positions) c.self.view_is c.self.invariant.in_order in
    let some : 0 < length values = search rules in
    let first : least ≡ get_or values 0 least = search rules in
    (λ is_none. absurd (false≢true (sym is_none)), λ none. absurd (false≢true (sym (none_there (is_between least least) rows none) ∙ there_in_rows values positions rows 0 least order some first)))

pub returns-in_default-2-clause-none : goal.returns-in_default-2-clause-none
returns-in_default-2-clause-none c =
    let column = c.self.inside in
    let values = column.values.items in
    let positions = column.positions.items in
    let small = c.in_default.ensures.item.3 in
    let none : values ≡ [] = sym c.deref.ensures.value ∙ nil_from_length c.deref.result.now (omega (arith, small)) in
    (λ is_none. none_in_rows positions c.args.self.now (subst (λ l. AreInOrder l positions c.args.self.now) none (subst (AreInOrder values positions) c.self.view_is c.self.invariant.in_order)), λ empty. refl)
