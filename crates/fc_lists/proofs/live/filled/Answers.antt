use Rattle.std.proofs.Common.{◌≡◌, ◌&&◌, ◌∙◌, length, map, not, sym, ap, arith}
use Rattle.std.proofs.lemmas.List.{length-map, take_at}
use Rattle.fc_spec.specs.documents.Bits.{has_bit}
use Rattle.fc_spec.specs.documents.Sets.{zip_with}
use Rattle.fc_spec.specs.words.Lists.{is_empty}
use Rattle.fc_lane.proofs.BitLists.{length-first_bits, first_bits_is}
use Rattle.fc_lists.proofs.live.filled.Goals as goal

pub and_with-requires : goal.and_with-requires
and_with-requires g c = ap length c.in_ok-filled.ensures ∙ length-first_bits _ _ ∙ c.len.ensures

pub returns : goal.returns
returns g c =
    let rows = c.args.rows.now in
    let words : c.deref.result.now ≡ c.any.new.into =
    c.deref.ensures.value ∙ take_at c.any.new.into _ _ (omega (arith, c.any.auto.into, c.deref_mut.ensures.len)) in
    c.and_with.ensures
    ∙ ap (λ bits. zip_with ◌&&◌ bits c.args.live.now)
    (c.in_ok-filled.ensures
    ∙ first_bits_is c.len.result c.deref.result.now (map (λ row. not (is_empty row)) rows) (length-map rows _ ∙ sym c.requires ∙ sym c.len.ensures)
    (λ k within. ap (λ l. has_bit l k) words ∙ c.any.ensures k))
