use Rattle.std.proofs.Common.{◌+◌, ◌%◌, ◌/◌, ◌≤◌, ◌<◌, ◌&&◌, ◌||◌, nat_le, nat_lt, length, ap, ◌∙◌, arith}
use Rattle.std.proofs.Math.Bool.{or_assoc}
use Rattle.fc_spec.specs.documents.Bits.{has_bit}
use Rattle.fc_docset.proofs.ChangedBits.{has_bit-set_run, run_behind_run}
use Rattle.fc_docset.proofs.words.set_bits.Goals as goal

pub loop-at-preserved : goal.loop-at-preserved
loop-at-preserved c =
    let at = c.loop-at.at in
    let count = c.min-count.result in
    let most : at % 64 + count ≤ 64 = omega arith in
    let inside : at / 64 < length c.loop-at.words = omega arith in (
      omega arith,
      omega arith,
      λ k. has_bit-set_run c.loop-at.words at count k inside most
          ∙ ap (λ b. b || (nat_le at k && nat_lt k (at + count))) (c.loop-at.invariant.2 k)
          ∙ or_assoc (has_bit c.args.words.now k) (nat_le c.args.from k && nat_lt k at) (nat_le at k && nat_lt k (at + count))
          ∙ ap (λ b. has_bit c.args.words.now k || b) (run_behind_run c.args.from at (at + count) k c.loop-at.invariant.0 (omega arith)),
    )
