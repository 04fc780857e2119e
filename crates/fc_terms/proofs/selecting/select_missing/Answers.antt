use Rattle.std.proofs.Common.{◌≡◌, ◌∙◌, List, ◌&&◌, map, not, length, sym, ap, ap₂, arith}
use Rattle.std.proofs.lemmas.List.{length-map, with_items_is}
use Rattle.fc_lane.proofs.BitLists.{first_bits_is, length-first_bits}
use Rattle.fc_segment.specs.Columns.{column_values}
use Rattle.fc_spec.specs.documents.Bits.{has_bit}
use Rattle.fc_spec.specs.documents.Sets.{zip_with}
use Rattle.fc_spec.specs.documents.Val.{Val}
use Rattle.fc_spec.specs.words.Lists.{is_empty}
use Rattle.fc_spec.proofs.words.WhereTrue.{length-zip_with}
use Rattle.fc_terms.proofs.PickedPositions.{where_not}
use Rattle.fc_terms.proofs.selecting.select_missing.Goals as goal

pub returns-clause-set : goal.returns-clause-set
returns-clause-set c =
    let column = column_values c.args.column.now in
    let docs = c.args.docs.now in
    let some = map (λ (values : List Val). not (is_empty values)) column in
    let long : length some ≡ c.len.result = length-map column _ ∙ sym c.requires.docs ∙ sym c.len.ensures in
    let marked : c.deref.result.now ≡ c.mark_any.new.mask = c.deref.ensures.value ∙ with_items_is c.in_ok-mask.mask c.mark_any.new.mask (omega arith) in
    let having : c.in_ok-having.having ≡ some =
    c.in_ok-having.ensures ∙ first_bits_is c.len.result c.deref.result.now some long (λ k within. ap (λ words. has_bit words k) marked ∙ c.mark_any.ensures k) in
    let begun : c.set_mask.new.self ≡ docs =
    c.set_mask.ensures ∙ first_bits_is (length c.args.into.now) c.words-2.result.now docs (c.requires.docs ∙ sym c.requires.length) (λ k within. c.words-2.ensures.bits k) in
    c.without.ensures ∙ ap₂ (zip_with (λ here there. here && not there)) begun having ∙ where_not is_empty docs column

pub returns-clause-kept : goal.returns-clause-kept
returns-clause-kept c =
    let even : length c.set_mask.new.self ≡ length c.in_ok-having.having =
    ap length c.set_mask.ensures ∙ length-first_bits (length c.args.into.now) c.words-2.result.now ∙ c.requires.length ∙ sym c.requires.docs ∙ sym c.len.ensures
    ∙ sym (ap length c.in_ok-having.ensures ∙ length-first_bits c.len.result c.deref.result.now) in
    ap length c.without.ensures ∙ length-zip_with (λ here there. here && not there) c.set_mask.new.self c.in_ok-having.having even
    ∙ ap length c.set_mask.ensures ∙ length-first_bits (length c.args.into.now) c.words-2.result.now
