use Rattle.std.proofs.Common.{◌≡◌, ◌+◌, ◌∷◌, [], List, ℕ, length, sym, ap, ap₂, ◌∙◌, arith}
use Rattle.std.proofs.lemmas.List.{nil_from_length}
use Rattle.fc_docset.specs.Positions.{positions_from}
use Rattle.fc_lane.proofs.WholeWords.{all_bits}
use Rattle.fc_docset.proofs.WordPositions.{positions_skip, next_position}
use Rattle.fc_docset.proofs.iter.PositionsIterator.next.Goals as goal

-- a word of 0s and no other leave nothing
nothing_left : (from word : ℕ) (words : List ℕ) → word ≡ 0 → length words ≡ 0 → positions_from from (all_bits (word ∷ words)) ≡ []
nothing_left from word words zero none =
    ap₂ (λ w l. positions_from from (all_bits (w ∷ l))) zero (nil_from_length words none) ∙ positions_skip from []

-- behind a word of 0s come the other words
others_left : (from word next : ℕ) (words rest : List ℕ) → word ≡ 0 → words ≡ next ∷ rest
    → positions_from (from + 64) (all_bits (next ∷ rest)) ≡ positions_from from (all_bits (word ∷ words))
others_left from word next words rest zero split =
    sym (ap₂ (λ w l. positions_from from (all_bits (w ∷ l))) zero split ∙ positions_skip from (next ∷ rest))

pub returns-in_err-word-clause-steps : goal.returns-in_err-word-clause-steps
returns-in_err-word-clause-steps c =
    let left = c.loop-self.self-inside in
    let nothing = nothing_left left.base left.word left.words.now c.loop-self-test.true c.in_err-word.ensures.cases in
    rw c.from_residual.ensures (sym c.loop-self.invariant.0 ∙ nothing, nothing)

pub loop-self-preserved : goal.loop-self-preserved
loop-self-preserved c =
    let left = c.loop-self.self-inside in (
      others_left left.base left.word _ left.words.now _ c.loop-self-test.true c.in_ok-word.ensures.cases.0 ∙ c.loop-self.invariant.0,
      omega (arith, c.in_ok-word.ensures.cases.1),
    )

pub returns-clause-steps : goal.returns-clause-steps
returns-clause-steps c =
    let left = c.loop-self.self-inside in
    sym c.loop-self.invariant.0 ∙ next_position left.base left.word left.words.now (omega arith) (omega arith)

pub returns-clause-goes : goal.returns-clause-goes
returns-clause-goes c =
    let left = c.loop-self.self-inside in
    let steps = sym c.loop-self.invariant.0 ∙ next_position left.base left.word left.words.now (omega arith) (omega arith) in
    record { on = λ _. (tt, tt, omega (arith, ap length steps)); keeps = tt; rests = λ _. tt }
