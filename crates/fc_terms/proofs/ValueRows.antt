-- Rows of texts and of integers against rows of values.
use Rattle.std.proofs.Common.{◌≡◌, ℤ, false, List, [], ◌∷◌, length, map, replicate, refl, sym, ap₂}
use Rattle.fc_spec.specs.documents.Val.{Text, text, long, has_val}
use Rattle.fc_column.specs.Terms.{has_text}
use Rattle.fc_column.proofs.TermLists.{has_val-texts}

-- a text among texts
pub rows_with_text : (t : Text) (rows : List (List Text)) → map (has_text t) rows ≡ map (has_val (text t)) (map (map text) rows)
rows_with_text t [] = refl
rows_with_text t (ts ∷ rows) = ap₂ (λ a l. a ∷ l) (sym (has_val-texts t ts)) (rows_with_text t rows)

no_text : (t : Text) (zs : List ℤ) → has_val (text t) (map long zs) ≡ false
no_text t [] = refl
no_text t (z ∷ zs) = no_text t zs

no_long : (z : ℤ) (ts : List Text) → has_val (long z) (map text ts) ≡ false
no_long z [] = refl
no_long z (t ∷ ts) = no_long z ts

-- no text is among integers
pub text_among_longs : (t : Text) (rows : List (List ℤ)) → replicate (length (map (map long) rows)) false ≡ map (has_val (text t)) (map (map long) rows)
text_among_longs t [] = refl
text_among_longs t (zs ∷ rows) = ap₂ (λ a l. a ∷ l) (sym (no_text t zs)) (text_among_longs t rows)

-- and no integer among texts
pub long_among_texts : (z : ℤ) (rows : List (List Text)) → replicate (length (map (map text) rows)) false ≡ map (has_val (long z)) (map (map text) rows)
long_among_texts z [] = refl
long_among_texts z (ts ∷ rows) = ap₂ (λ a l. a ∷ l) (sym (no_long z ts)) (long_among_texts z rows)
