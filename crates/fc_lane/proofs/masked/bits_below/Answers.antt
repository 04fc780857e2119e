use Rattle.std.proofs.Common.{◌≡◌, ◌∙◌, ◌-◌, ◌*◌, ◌%◌, ◌^◌, ap, mod-eq_of_lt, one-mul, bit_and}
use Rattle.std.proofs.lemmas.Nat.{and_mask, pow_below}
use Rattle.fc_lane.proofs.masked.bits_below.Goals as goal

pub returns-then-len-lt64 : goal.returns-then-len-lt64
returns-then-len-lt64 c =
    let n = c.args.len in
    let power : 1 * 2 ^ n % 2 ^ 64 ≡ 2 ^ n = ap (λ m. m % 2 ^ 64) (one-mul (2 ^ n)) ∙ mod-eq_of_lt (pow_below n 64 c.if-len-lt64.true) in
    ap (λ m. bit_and c.args.word (m - 1)) power ∙ and_mask c.args.word n
