use Rattle.std.proofs.Common.{◌≡◌, ◌<◌, Some, length, slice_index_or, true, false, sym, ◌∙◌, arith}
use Rattle.std.proofs.lemmas.List.{get_or_default}
use Rattle.fc_spec.specs.documents.Schema.{field_named}
use Rattle.fc_base.specs.View.{field_type_view}
use Rattle.fc_docs.specs.Direct.{given_view}
use Rattle.fc_docs.proofs.MemberFields.{is_passed_over}
use Rattle.fc_docs.proofs.MemberRead.{silent_member, member_told}
use Rattle.fc_docs.proofs.direct.fields.read_member.Goals as goal

pub returns-then-is_passed_over-clause-member : goal.returns-then-is_passed_over-clause-member
returns-then-is_passed_over-clause-member c =
    let over : is_passed_over c.args.key.now ≡ true = rw (← c.as_bytes.ensures.value) (sym c.is_passed_over.ensures ∙ c.if-is_passed_over.true) in
    silent_member c.args.schema.now c.args.key.now c.args.reader.now c.pass_over.new.reader (given_view c.args.given.now.items) c.args.seen.now c.pass_over.result c.requires.list c.requires.other over c.pass_over.ensures.spells

pub bounds-seen-place : goal.bounds-seen-place
bounds-seen-place c = omega (arith, c.requires.list.few, c.in-Some.ensures.below)

pub bounds-seen-place-2 : goal.bounds-seen-place-2
bounds-seen-place-2 c = omega (arith, c.requires.list.few, c.in-Some.ensures.below)

pub returns-clause-member : goal.returns-clause-member
returns-clause-member c =
    let n = c.in-Some.field.0 in
    let kept : is_passed_over c.args.key.now ≡ false = rw (← c.as_bytes.ensures.value) (sym c.is_passed_over.ensures ∙ c.if-is_passed_over.false) in
    let named : field_named c.args.schema.now c.args.key.now ≡ Some n = rw (← c.as_bytes-2.ensures.value) (sym (rw c.in-Some.is at c.find.ensures.found)) in
    let few = c.requires.list.few in
    let below = c.in-Some.ensures.below in
    let in_seen : n < length c.args.seen.now = (let room : length c.args.seen.now ≡ 256 = c.told-seen in omega arith) in
    let not_seen : slice_index_or c.args.seen.now n true ≡ false = get_or_default c.args.seen.now n true false in_seen ∙ c.if-seen-place.false in
    member_told c.args.schema.now c.args.key.now c.args.reader.now c.read_values.new.reader (given_view c.args.given.now.items) (given_view c.read_values.new.given.items) c.args.seen.now c.read_values.result n
    (field_type_view c.field_type.result) c.requires.list c.requires.other kept named c.field_type.ensures c.in-Some.ensures.below in_seen not_seen c.read_values.ensures.values
