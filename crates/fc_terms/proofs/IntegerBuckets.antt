-- The integers between two ends are the buckets of a terms facet in a field of integers that lie there.
use Rattle.std.proofs.Common.{◌≡◌, ◌<◌, inl, inr, ℕ, ℤ, pos, ◌+ℤ◌, ◌-ℤ◌, ◌≤ℤ◌, nat_abs, Bool, true, false, ◌&&◌, ◌+◌, List, [], ◌∷◌, map, length, get_or, All, None, refl, sym, ap, ◌∙◌, arith}
use Rattle.std.proofs.lemmas.Bool.{false≢true}
use Rattle.std.proofs.lemmas.Int.{ints}
use Rattle.std.proofs.lemmas.List.{length-map}
use Rattle.std.proofs.lemmas.List.Folds.{list_any_none}
use Rattle.fc_spec.specs.documents.Columns.{column_of}
use Rattle.fc_spec.specs.documents.Document.{Block, values_of}
use Rattle.fc_spec.specs.documents.Totals.{documents_in, document_total}
use Rattle.fc_spec.specs.documents.Val.{Text, text, long, has_val, same_val}
use Rattle.fc_spec.specs.requests.Buckets.{Key, value, missing, gap, before, between, after, whole, has_prefix, in_bucket}
use Rattle.fc_spec.specs.requests.Request.{Terms, terms}
use Rattle.fc_lane.specs.Between.{is_between}
use Rattle.fc_kind.specs.PlaceAt.{place_at}
use Rattle.fc_kind.proofs.PlaceColumns.{row_at}
use Rattle.fc_count.proofs.CountedBuckets.{IsCountedOrNone}
use Rattle.fc_terms.specs.LongSpan.{has_integer, integer_key}
use Rattle.fc_terms.specs.Values.{is_value_key}
use Rattle.fc_terms.proofs.CountedIntegers.{any_long, longs_differ}

-- a test of what lies between two integers
between_parts : (lo hi z : ℤ) → is_between lo hi z ≡ true → (lo ≤ℤ z) × (z ≤ℤ hi)
between_parts lo hi z h = (grind (arith, ints), grind (arith, ints))

between_is : (lo hi z : ℤ) → lo ≤ℤ z → z ≤ℤ hi → is_between lo hi z ≡ true
between_is lo hi z low high = grind (arith, ints)

-- no text is among integers
text_among_longs : (t : Text) (zs : List ℤ) → has_val (text t) (map long zs) ≡ false
text_among_longs t [] = refl
text_among_longs t (z ∷ zs) = text_among_longs t zs

module _ (t : Terms) (blocks : List Block) (column : List (List ℤ)) (all : map (map long) column ≡ column_of t.field (documents_in blocks)) (free : t.prefix ≡ None) where
  pub integers_size : length column ≡ document_total blocks
  integers_size = sym (length-map column (map long)) ∙ ap length all ∙ length-map (documents_in blocks) (λ d. values_of d t.field)

  any_begins : (z : ℤ) → has_prefix t.prefix (long z) ≡ true
  any_begins z = ap (λ p. has_prefix p (long z)) free

  -- a document has the integers of its row, and no text
  pub integer_is_key : (least : ℤ) (i : ℕ) → is_value_key t (integer_key least (pos i)) ≡ true
  integer_is_key least i = any_begins (least +ℤ pos i)

  pub integer_bucket : (least : ℤ) (i at : ℕ) → at < document_total blocks → has_integer column least at i ≡ in_bucket (terms t) (integer_key least (pos i)) (place_at blocks at).document
  integer_bucket least i at there =
      ap (has_val (long (least +ℤ pos i))) (row_at long column blocks t.field at all there)
      ∙ sym (ap (λ b. has_val (long (least +ℤ pos i)) (values_of (place_at blocks at).document t.field) && b) (any_begins (least +ℤ pos i)) ∙ and_true _)
    where
      and_true : (b : Bool) → (b && true) ≡ b
      and_true true = refl
      and_true false = refl

  none_has : (least greatest z : ℤ) → All (All (λ v. is_between least greatest v ≡ true)) column → (least ≤ℤ z → z ≤ℤ greatest → ⊥) → (at : ℕ) → at < document_total blocks → in_bucket (terms t) (value (long z)) (place_at blocks at).document ≡ false
  none_has least greatest z lie outside at here = ap (λ b. b && has_prefix t.prefix (long z))
      (ap (has_val (long z)) (sym (row_at long column blocks t.field at all here)) ∙ any_long z (get_or column at [])
      ∙ list_any_none (λ v. same_val (long z) (long v)) (get_or column at []) (λ k d inside. longs_differ z (get_or (get_or column at []) k d) (λ e. away (get_or (get_or column at []) k d) e (lie at [] (omega (arith, here, integers_size)) k d inside))))
    where
      away : (v : ℤ) → z ≡ v → is_between least greatest v ≡ true → ⊥
      away v e h = let parts = between_parts least greatest v h in outside (omega (arith, ints, parts.0)) (omega (arith, ints, parts.1))

  pub integer_found : (least greatest : ℤ) (bound : ℕ) → least ≤ℤ greatest → bound ≡ nat_abs (greatest -ℤ least) + 1 → All (All (λ v. is_between least greatest v ≡ true)) column → (k : Key) → is_value_key t k ≡ true → IsCountedOrNone blocks (terms t) (integer_key least) bound k
  integer_found least greatest bound order wide lie (value (long z)) e = go (is_between least greatest z) refl
    where
      go : (b : Bool) → is_between least greatest z ≡ b → IsCountedOrNone blocks (terms t) (integer_key least) bound (value (long z))
      go true h =
          let parts = between_parts least greatest z h in
          let same : z ≡ least +ℤ pos (nat_abs (z -ℤ least)) = omega (arith, ints, parts.0) in
          inl (nat_abs (z -ℤ least), (omega (arith, ints, parts.0, parts.1), ap (λ y. value (long y)) same))
      go false h = inr (
        λ i here. longs_differ z (least +ℤ pos i) (λ e. false≢true (sym h ∙ between_is least greatest z (omega (arith, ints)) (omega (arith, ints)))),
        none_has least greatest z lie (λ low high. false≢true (sym h ∙ between_is least greatest z low high)),
      )
  integer_found least greatest bound order wide lie (value (text u)) e = inr (λ i here. refl, λ at here. ap (λ b. b && has_prefix t.prefix (text u)) (ap (has_val (text u)) (sym (row_at long column blocks t.field at all here)) ∙ text_among_longs u (get_or column at [])))
  integer_found least greatest bound order wide lie missing e = absurd (false≢true e)
  integer_found least greatest bound order wide lie (gap n) e = absurd (false≢true e)
  integer_found least greatest bound order wide lie before e = absurd (false≢true e)
  integer_found least greatest bound order wide lie between e = absurd (false≢true e)
  integer_found least greatest bound order wide lie after e = absurd (false≢true e)
  integer_found least greatest bound order wide lie whole e = absurd (false≢true e)
