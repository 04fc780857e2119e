use Rattle.std.proofs.Common.{◌≡◌, ◌&&◌, length, map, replicate, nat_le, nat_lt, false, sym, ap, ap₂, ◌∙◌}
use Rattle.std.proofs.lemmas.List.{length-map}
use Rattle.std.specs.Option.{is_some}
use Rattle.fc_column.specs.Terms.{ordinals_in, has_from_to, terms_below}
use Rattle.fc_lane.proofs.BitLists.{first_bits_is}
use Rattle.fc_spec.specs.documents.Val.{text, has_val, same_val}
use Rattle.fc_domain.proofs.TextRows.{at_text, texts_pass, text_nowhere}
use Rattle.fc_domain.proofs.texts.select_value.Goals as goal

pub returns-in_default : goal.returns-in_default
returns-in_default c =
    let column = c.args.column.now in
    let u = c.text_of-text.result.now in
    let none = sym c.ordinal_of.ensures.found ∙ ap is_some c.in_default.is in
    c.clear.ensures ∙ ap (λ n. replicate n false) c.requires.length ∙ text_nowhere u column none
    ∙ ap (λ v. map (has_val v) (map (map text) column)) (sym c.text_of-text.ensures)

pub returns : goal.returns
returns c =
    let column = c.args.column.now in
    let u = c.text_of-text.result.now in
    let ord = c.in-Some.ord in
    let past = c.first_past.result in
    let bits = map (λ ts. has_from_to ord past (ordinals_in column ts)) column in
    let size : length bits ≡ length c.args.into.now = length-map column _ ∙ sym c.requires.length in
    c.set_mask.ensures ∙ first_bits_is (length c.args.into.now) c.between.new.into bits size (λ k within. c.between.ensures k)
    ∙ texts_pass column ord past (same_val (text u))
    (λ t among. ap₂ (λ m n. nat_le m (terms_below column t) && nat_lt (terms_below column t) n) c.in-Some.ensures.ordinal c.first_past.ensures ∙ at_text column t among u)
    ∙ ap (λ v. map (has_val v) (map (map text) column)) (sym c.text_of-text.ensures)
