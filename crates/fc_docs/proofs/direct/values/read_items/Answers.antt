use Rattle.std.proofs.Common.{◌≡◌, ◌∷◌, ◌++◌, [], ◌-◌, length, true, None, Some, sym, ap, ◌∙◌, append-nil, arith}
use Rattle.std.proofs.lemmas.Bool.{OnTrue_at}
use Rattle.json.specs.Json.{after_end_array}
use Rattle.json.specs.Reads.{token_of}
use Rattle.fc_spec.specs.documents.BlockReading.{takes}
use Rattle.fc_base.specs.View.{field_type_view}
use Rattle.fc_docs.proofs.GivenMore.{given_more, so_many_given}
use Rattle.fc_docs.proofs.ItemsSoFar.{none_so_far, one_more, told_items}
use Rattle.fc_docs.proofs.direct.values.read_items.Goals as goal

pub items-init : goal.items-init
items-init c = ([], none_so_far (field_type_view c.args.kind) c.args.reader.now, sym (append-nil _), omega arith)

pub items-preserved : goal.items-preserved
items-preserved c =
    let l = c.items in
    let so_far = l.invariant in
    let going : (after_end_array l.reader ≡ None) × (c.take_end_array.new.self ≡ l.reader) = grind arith in
    let next : l.reader ≡ token_of c.in-Some.token ∷ c.next.new.self = sym going.1 ∙ c.in-Some.ensures.value in
    let shorter : length l.reader ≡ length (token_of c.in-Some.token ∷ c.next.new.self) = ap length next in
    let told : c.in_ok-read_item.field-0 ≡ true = grind arith in
    let item = OnTrue_at told c.in_ok-read_item.ensures in (
      so_far.0 ++ item.1,
      one_more (field_type_view c.args.kind) _ _ _ (token_of c.in-Some.token) item.0 so_far.0 item.1 so_far.1 going.0 next item.2 item.3 item.4,
      given_more _ _ _ _ so_far.0 item.1 so_far.2 item.5,
      omega (arith, so_far.3),
    )

pub returns-clause-values : goal.returns-clause-values
returns-clause-values c =
    let kind = field_type_view c.args.kind in
    let l = c.items in
    let so_far = l.invariant in
    let end : after_end_array l.reader ≡ Some c.take_end_array.new.self = grind arith in
    let count = so_many_given c.args.given.now.items l.given.items _ so_far.0 so_far.2 in
    let many : length so_far.0 ≡ c.len.result - c.len-before.result = omega (arith, count) in
    told_items _ kind _ _ _ _ _ _ so_far.0 so_far.1 end (c.takes.ensures ∙ ap (takes kind) (sym many)) so_far.2
