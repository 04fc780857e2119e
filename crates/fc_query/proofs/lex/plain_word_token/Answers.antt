use Rattle.std.proofs.Common.{◌≡◌, ◌∙◌, codes, refl}
use Rattle.fc_spec.specs.documents.Val.{Text}
use Rattle.fc_spec.specs.queries.QueryTokens.{value, word}
use Rattle.fc_spec.specs.queries.QueryWords.{plain_word}
use Rattle.fc_spec.proofs.words.Texts.{differs}
use Rattle.fc_query.proofs.lex.plain_word_token.Goals as goal

no_meaning : (t : Text) → (t ≡ codes "AND" → ⊥) → (t ≡ codes "&&" → ⊥) → (t ≡ codes "OR" → ⊥) → (t ≡ codes "||" → ⊥) → (t ≡ codes "NOT" → ⊥) → value (word t) ≡ plain_word t
unfolding plain_word
no_meaning t a b c d e = rw (differs _ _ a, differs _ _ b, differs _ _ c, differs _ _ d, differs _ _ e) refl

pub returns-in_default : goal.returns-in_default
returns-in_default c =
    let is = c.as_str.ensures.value in
    let n = c.in_default in
    no_meaning _ (λ h. n.not-AND (is ∙ h)) (λ h. n.not-text (is ∙ h)) (λ h. n.not-OR (is ∙ h)) (λ h. n.not-text-2 (is ∙ h)) (λ h. n.not-NOT (is ∙ h))
