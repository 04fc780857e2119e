use Rattle.std.proofs.Common.{sym, ◌∙◌, ap}
use Rattle.std.specs.Cmp.Lexicographic.{pointwise}
use Rattle.std.proofs.Common.{nat_eq}
use Rattle.std.proofs.lemmas.Map.Text.{is_eq-slice_cmp}
use Rattle.fc_parameters.proofs.words.is_word.Goals as goal

pub returns : goal.returns
returns c = c.eq.ensures ∙ ap (pointwise nat_eq c.args.text.now) c.as_bytes.ensures.value ∙ sym (is_eq-slice_cmp c.args.text.now c.args.word.now)
