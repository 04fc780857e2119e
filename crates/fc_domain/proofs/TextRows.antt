-- Rows of ordinals against rows of texts.
use Rattle.std.proofs.Common.{◌≡◌, ℕ, Bool, true, false, ◌&&◌, ◌||◌, List, [], ◌∷◌, map, replicate, length, nat_le, nat_lt, refl, sym, ap₂, ◌∙◌}
use Rattle.std.proofs.lemmas.Bool.{or_left, or_right, or_parts}
use Rattle.std.specs.List.{list_any}
use Rattle.std.specs.Ordering.{is_lt, is_le}
use Rattle.fc_spec.specs.documents.Val.{Text, Val, text, text_cmp, same_text, same_val, has_val}
use Rattle.fc_column.specs.Terms.{terms_of, terms_below, terms_up_to, ordinals_in, has_text, has_from_to}
use Rattle.fc_column.proofs.TermLists.{has_text-terms_of, has_val-texts}
use Rattle.fc_spec.proofs.words.Texts.{same_itself}
use Rattle.fc_domain.proofs.TextOrder.{le_both_ways}
use Rattle.fc_domain.proofs.Ordinals.{below-le-below, up_to-le-below, below-lt-below, below-lt-up_to, below-lt-length}

-- ---- a text of the column against any text
module _ (column : List (List Text)) (t : Text) (among : list_any (has_text t) column ≡ true) (u : Text) where
  term : has_text t (terms_of column) ≡ true
  term = has_text-terms_of t column ∙ among

  pub from_including : nat_le (terms_below column u) (terms_below column t) ≡ is_le (text_cmp u t)
  from_including = below-le-below (terms_of column) t term u

  pub from_excluding : nat_le (terms_up_to column u) (terms_below column t) ≡ is_lt (text_cmp u t)
  from_excluding = up_to-le-below (terms_of column) t term u

  pub to_excluding : nat_lt (terms_below column t) (terms_below column u) ≡ is_lt (text_cmp t u)
  to_excluding = below-lt-below (terms_of column) t term u

  pub to_including : nat_lt (terms_below column t) (terms_up_to column u) ≡ is_le (text_cmp t u)
  to_including = below-lt-up_to (terms_of column) t term u

  pub at_text : (nat_le (terms_below column u) (terms_below column t) && nat_lt (terms_below column t) (terms_up_to column u)) ≡ same_val (text u) (text t)
  at_text = ap₂ (λ a b. a && b) from_including to_including ∙ le_both_ways u t

pub to_end : (column : List (List Text)) (t : Text) → list_any (has_text t) column ≡ true → nat_lt (terms_below column t) (length (terms_of column)) ≡ true
to_end column t among = below-lt-length (terms_of column) t (has_text-terms_of t column ∙ among)

-- ---- the ordinals of a row pass a test where its texts do
row_passes : (place : Text → ℕ) (test : ℕ → Bool) (p : Val → Bool) (ts : List Text) → ((t : Text) → has_text t ts ≡ true → test (place t) ≡ p (text t))
    → list_any test (map place ts) ≡ list_any p (map text ts)
row_passes place test p [] same = refl
row_passes place test p (t ∷ ts) same =
    ap₂ (λ a b. a || b) (same t (or_left (same_text t t) (has_text t ts) (same_itself t)))
    (row_passes place test p ts (λ u h. same u (or_right (same_text u t) (has_text u ts) h)))

rows_pass : (place : Text → ℕ) (test : ℕ → Bool) (p : Val → Bool) (rows : List (List Text)) → ((t : Text) → list_any (has_text t) rows ≡ true → test (place t) ≡ p (text t))
    → map (λ ts. list_any test (map place ts)) rows ≡ map (list_any p) (map (map text) rows)
rows_pass place test p [] same = refl
rows_pass place test p (ts ∷ rows) same =
    ap₂ (λ a l. a ∷ l) (row_passes place test p ts (λ t h. same t (or_left (has_text t ts) (list_any (has_text t) rows) h)))
    (rows_pass place test p rows (λ t h. same t (or_right (has_text t ts) (list_any (has_text t) rows) h)))

pub texts_pass : (column : List (List Text)) (from past : ℕ) (p : Val → Bool)
    → ((t : Text) → list_any (has_text t) column ≡ true → (nat_le from (terms_below column t) && nat_lt (terms_below column t) past) ≡ p (text t))
    → map (λ ts. has_from_to from past (ordinals_in column ts)) column ≡ map (list_any p) (map (map text) column)
texts_pass column from past p same = rows_pass (terms_below column) (λ ord. nat_le from ord && nat_lt ord past) p column same

-- ---- a text that no row has
pub text_nowhere : (u : Text) (rows : List (List Text)) → list_any (has_text u) rows ≡ false → replicate (length rows) false ≡ map (has_val (text u)) (map (map text) rows)
text_nowhere u [] none = refl
text_nowhere u (ts ∷ rows) none =
    let parts = or_parts (has_text u ts) (list_any (has_text u) rows) none in
    ap₂ (λ a l. a ∷ l) (sym (has_val-texts u ts ∙ parts.0)) (text_nowhere u rows parts.1)
