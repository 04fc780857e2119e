use Rattle.std.proofs.Common.{◌≡◌, ◌∙◌, get_or, arith}
use Rattle.std.proofs.lemmas.Bool.Decides.{nat_tests}
use Rattle.fc_base.proofs.SpelledIntegers.{spelled}
use Rattle.fc_base.proofs.integer.long_of.Goals as goal

pub returns : goal.returns
returns c =
    let first : get_or c.args.text.now 0 0 ≡ 43 → ⊥ = let is = rw c.as_bytes.ensures.value at c.begins_with_plus.ensures in let plain = c.if-begins_with_plus.false in grind (arith, nat_tests) in
    c.ok.ensures.value ∙ spelled c.args.text.now c.parse.result first c.parse.ensures.value.0
