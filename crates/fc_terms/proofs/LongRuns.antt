-- The integers of a field are the buckets of a terms facet there.
use Rattle.std.proofs.Common.{◌≡◌, ◌<◌, ℕ, ℤ, Bool, true, false, ◌&&◌, ◌||◌, List, [], ◌∷◌, map, length, None, get_or, refl, sym, ap, ◌∙◌}
use Rattle.std.specs.List.{AllPairs, list_any}
use Rattle.std.specs.Ordering.{int_cmp, int_eq, is_eq}
use Rattle.std.proofs.lemmas.Bool.{false≢true}
use Rattle.std.proofs.lemmas.Bool.Decides.{Decides-int_eq}
use Rattle.fc_spec.specs.documents.Columns.{IsAscending, column_of}
use Rattle.fc_spec.specs.documents.Document.{Block, values_of}
use Rattle.fc_spec.specs.documents.Sets.{places_on}
use Rattle.fc_spec.specs.documents.Totals.{documents_in, document_total}
use Rattle.fc_spec.specs.documents.Val.{Text, text, long, has_val}
use Rattle.fc_spec.specs.requests.Buckets.{Key, value, missing, gap, before, between, after, whole, bucket_places, has_prefix, in_bucket, is_key_of}
use Rattle.fc_spec.specs.requests.Request.{Terms, terms}
use Rattle.fc_spec.specs.words.Lists.{is_empty}
use Rattle.fc_partial.specs.TallyParts.{long_key}
use Rattle.fc_kind.specs.PlaceAt.{place_at}
use Rattle.fc_kind.proofs.PlaceColumns.{row_at}
use Rattle.fc_count.specs.Runs.{NumbersApart}
use Rattle.fc_count.proofs.CountedBuckets.{none_in_bucket}
use Rattle.fc_terms.specs.Values.{is_value_key}

-- ascending integers are different
pub longs_apart : (zs : List ℤ) → IsAscending int_cmp zs → AllPairs (λ a b. int_eq a b ≡ false) zs
longs_apart zs up = λ i j d order inside. ap is_eq (up i j d order inside)

pub long_keys_apart : NumbersApart (λ n. Unit {0}) long_key
long_keys_apart = λ m n has also same. (Decides-int_eq m n).0 same

pub value_keys : (t : Terms) (k : Key) → is_value_key t k ≡ true → is_key_of (terms t) k ≡ true
value_keys t (value v) e = e
value_keys t missing e = absurd (false≢true e)
value_keys t (gap n) e = absurd (false≢true e)
value_keys t before e = absurd (false≢true e)
value_keys t between e = absurd (false≢true e)
value_keys t after e = absurd (false≢true e)
value_keys t whole e = absurd (false≢true e)

long_among : (n : ℤ) (zs : List ℤ) → has_val (long n) (map long zs) ≡ list_any (int_eq n) zs
long_among n [] = refl
long_among n (z ∷ zs) = ap (λ b. int_eq n z || b) (long_among n zs)

text_among_longs : (u : Text) (zs : List ℤ) → has_val (text u) (map long zs) ≡ false
text_among_longs u [] = refl
text_among_longs u (z ∷ zs) = text_among_longs u zs

module _ (t : Terms) (blocks : List Block) (column : List (List ℤ)) (all : map (map long) column ≡ column_of t.field (documents_in blocks)) (prefix : t.prefix ≡ None) where
  pub long_is_key : (n : ℤ) → is_value_key t (long_key n) ≡ true
  long_is_key n = ap (λ p. has_prefix p (long n)) prefix

  pub long_bucket : (n : ℤ) (at : ℕ) → at < document_total blocks → list_any (int_eq n) (get_or column at []) ≡ in_bucket (terms t) (long_key n) (place_at blocks at).document
  long_bucket n at here =
      sym (long_among n (get_or column at [])) ∙ ap (has_val (long n)) (row_at long column blocks t.field at all here)
      ∙ sym (ap (λ b. has_val (long n) (values_of (place_at blocks at).document t.field) && b) (long_is_key n) ∙ and_true _)
    where
      and_true : (b : Bool) → (b && true) ≡ b
      and_true true = refl
      and_true false = refl

  no_text : (u : Text) (at : ℕ) → at < document_total blocks → in_bucket (terms t) (value (text u)) (place_at blocks at).document ≡ false
  no_text u at here = ap (λ b. b && has_prefix t.prefix (text u)) (ap (has_val (text u)) (sym (row_at long column blocks t.field at all here)) ∙ text_among_longs u (get_or column at []))

  -- a bucket of a value that has a document is an integer's
  pub long_found : (set : List Bool) → length set ≡ document_total blocks → (k : Key) → is_value_key t k ≡ true → is_empty (bucket_places (terms t) k (places_on 0 blocks set)) ≡ false
      → (n : ℤ) × Unit {0} × (long_key n ≡ k)
  long_found set size (value (long z)) e some = (z, tt, refl)
  long_found set size (value (text u)) e some = absurd (false≢true (sym some ∙ none_in_bucket blocks set size (terms t) (value (text u)) (λ at here. no_text u at here)))
  long_found set size missing e some = absurd (false≢true e)
  long_found set size (gap n) e some = absurd (false≢true e)
  long_found set size before e some = absurd (false≢true e)
  long_found set size between e some = absurd (false≢true e)
  long_found set size after e some = absurd (false≢true e)
  long_found set size whole e some = absurd (false≢true e)
