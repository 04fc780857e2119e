use Rattle.std.proofs.Common.{◌≡◌, ◌∙◌, ℕ, take, ap, arith}
use Rattle.fc_spec.specs.documents.Bits.{has_bit, words_for}
use Rattle.fc_lists.proofs.FrontBits.{whole_front, cut_front}
use Rattle.fc_lists.proofs.bits.copy_front.Goals as goal

pub returns-then-used-ne0 : goal.returns-then-used-ne0
returns-then-used-ne0 c =
    let words = c.args.words.now in
    let into = c.copy_bits.new.into in
    let copied : (k : ℕ) → has_bit into k ≡ has_bit (take (words_for c.args.len) words) k =
    λ k. c.copy_bits.ensures k ∙ ap (λ n. has_bit (take n words) k) c.word_count.ensures in
    cut_front words into c.args.len c.requires.enough copied c.if-used-ne0.true (omega (arith, c.requires.room, c.copy_bits.auto.into))

pub returns-else-used-ne0 : goal.returns-else-used-ne0
returns-else-used-ne0 c =
    let words = c.args.words.now in
    let into = c.copy_bits.new.into in
    let copied : (k : ℕ) → has_bit into k ≡ has_bit (take (words_for c.args.len) words) k =
    λ k. c.copy_bits.ensures k ∙ ap (λ n. has_bit (take n words) k) c.word_count.ensures in
    whole_front words into c.args.len c.requires.enough copied c.if-used-ne0.false
