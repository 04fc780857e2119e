use Rattle.std.proofs.Common.{◌≡◌, ◌≤◌, true, length, Ok, sym, ◌∙◌, arith}
use Rattle.std.proofs.lemmas.List.{length-map}
use Rattle.serde_json.specs.View.{view}
use Rattle.fc_spec.specs.words.Walks.{each}
use Rattle.fc_spec.specs.documents.BlockReading.{items_in, takes, value_of}
use Rattle.fc_base.specs.View.{field_type_view}
use Rattle.fc_docs.specs.View.{values_view}
use Rattle.fc_docs.proofs.DifferentValues.{AreSorted, are_distinct}
use Rattle.fc_docs.proofs.MemberValues.{values_are, are_values}
use Rattle.fc_docs.proofs.read.values.read_values.Goals as goal

pub returns-clause-answer : goal.returns-clause-answer
returns-clause-answer c =
    let sorted : AreSorted c.in_ok-values.values.items c.sort_unstable.new.self.items c.dedup.new.self.items = record { moved = c.sort_unstable.ensures.permutation; sorted = c.sort_unstable.ensures.sorted; kept = c.dedup.ensures.filtered } in
    let kind = field_type_view c.args.kind in
    let items : each (value_of kind) (items_in (view c.args.json)) ≡ Ok (values_view c.in_ok-values.values) = c.in_ok-values.ensures.answer in
    let few : takes kind (length (values_view c.in_ok-values.values)) ≡ true = rw (length-map, ← c.in_ok-values.values.ok.0, ← c.len.ensures) (sym c.takes.ensures ∙ c.if-not-takes.false) in
    values_are kind (view c.args.json) _ _ items few (are_distinct _ _ _ sorted)

pub returns-clause-valid : goal.returns-clause-valid
returns-clause-valid c =
    let sorted : AreSorted c.in_ok-values.values.items c.sort_unstable.new.self.items c.dedup.new.self.items = record { moved = c.sort_unstable.ensures.permutation; sorted = c.sort_unstable.ensures.sorted; kept = c.dedup.ensures.filtered } in
    let kind = field_type_view c.args.kind in
    let few : takes kind (length c.in_ok-values.values.items) ≡ true = rw (← c.in_ok-values.values.ok.0, ← c.len.ensures) (sym c.takes.ensures ∙ c.if-not-takes.false) in
    let fewer : length c.dedup.new.self.items ≤ length c.in_ok-values.values.items = omega arith in
    are_values kind _ _ _ sorted c.in_ok-values.ensures.valid few fewer
