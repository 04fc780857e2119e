use Rattle.std.proofs.Common.{◌≡◌, inl, inr, [], false, not, length, get_or, map, sym, ap, ◌∙◌, arith}
use Rattle.std.proofs.lemmas.Bool.{cases_lt}
use Rattle.std.proofs.lemmas.List.{get_or-map, get_or_past, length-map}
use Rattle.std.proofs.lemmas.List.FromFn.{length-map-range_with_len, get_or-map-range_with_len}
use Rattle.fc_spec.specs.documents.Bits.{has_bit}
use Rattle.fc_spec.specs.words.Lists.{is_empty}
use Rattle.fc_lists.specs.Rows.{row_at}
use Rattle.fc_lists.proofs.BitRows.{row_some}
use Rattle.fc_lists.proofs.rows.Rows.any.Goals as goal

pub copy_bits-requires : goal.copy_bits-requires
copy_bits-requires g c =
    let inside = c.self.inside in
    let size = length-map-range_with_len (row_at inside.words.items inside.lists) 0 inside.len in
    let few = c.self.invariant.few in
    let long : inside.len ≡ length c.args.self.now = omega (arith, size, ap length c.self.view_is) in
    omega (arith, few, long, c.deref.ensures.len, c.requires)

pub returns : goal.returns
returns g c = λ at.
    let inside = c.self.inside in
    let words = inside.words.items in
    let size = length-map-range_with_len (row_at words inside.lists) 0 inside.len in
    let long : inside.len ≡ length c.args.self.now = omega (arith, size, ap length c.self.view_is) in
    let bit = c.copy_bits.ensures at ∙ ap (λ l. has_bit l at) c.deref.ensures.value in
    elim (cases_lt at inside.len) [
      | inl within ↦
          bit ∙ sym (row_some words inside.lists at c.self.invariant.some c.self.invariant.whole)
          ∙ ap (λ row. not (is_empty row)) (sym (get_or-map-range_with_len (row_at words inside.lists) 0 inside.len at at [] within (omega arith))
          ∙ ap (λ (rows : _). get_or rows at []) c.self.view_is)
          ∙ sym (get_or-map (λ row. not (is_empty row)) c.args.self.now at [] false (omega arith))
      | inr past ↦
          bit ∙ c.self.invariant.none_past at past
          ∙ sym (get_or_past (map (λ row. not (is_empty row)) c.args.self.now) at false (omega (arith, length-map c.args.self.now (λ row. not (is_empty row)))))
    ]
