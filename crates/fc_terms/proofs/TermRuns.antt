-- The terms of a span that positions have, by number.
use Rattle.std.proofs.Common.{◌≡◌, ◌≤◌, ◌<◌, ◌+◌, ◌-◌, ◌≤ℤ◌, inl, inr, ℕ, ℤ, pos, negsuc, Bool, true, false, cond, ◌&&◌, ◌||◌, ◌==◌, nat_le, nat_lt, List, [], ◌∷◌, map, length, get_or, refl, sym, ap, ap₂, ◌∙◌, arith}
use Rattle.std.specs.Prelude.{nat_abs}
use Rattle.std.specs.List.{All, AllPairs, filter, list_any}
use Rattle.std.specs.List.Sorted.{IsStrictlyIncreasing}
use Rattle.std.specs.Ordering.{int_eq}
use Rattle.std.proofs.lemmas.Bool.{eqb-true, false≢true}
use Rattle.std.proofs.lemmas.Bool.Decides.{nat_tests}
use Rattle.std.proofs.lemmas.Int.{ints}
use Rattle.std.proofs.lemmas.List.{get_or-map, length-map}
use Rattle.std.proofs.lemmas.List.Elements.{All-map, All-weaker, filter_passes}
use Rattle.std.proofs.lemmas.List.Kept.{AllPairs-filter, AllPairs-from_increasing}
use Rattle.fc_spec.specs.documents.Columns.{column_of}
use Rattle.fc_spec.specs.documents.Document.{Block}
use Rattle.fc_spec.specs.documents.Sets.{places_on}
use Rattle.fc_spec.specs.documents.Totals.{documents_in, document_total}
use Rattle.fc_spec.specs.documents.Val.{Text, text}
use Rattle.fc_spec.specs.messages.KeyOrder.{same_key}
use Rattle.fc_spec.specs.requests.Buckets.{Key, bucket_places, in_bucket}
use Rattle.fc_spec.specs.requests.Request.{Terms, terms}
use Rattle.fc_spec.specs.words.Lists.{is_empty}
use Rattle.fc_lists.specs.Among.{is_among}
use Rattle.fc_column.specs.Terms.{ordinals_in, terms_of}
use Rattle.fc_kind.specs.PlaceAt.{place_at}
use Rattle.fc_count.specs.Runs.{NumbersApart}
use Rattle.fc_count.proofs.CountedBuckets.{IsCountedOrNone, none_in_bucket}
use Rattle.fc_terms.specs.Gathered.{ordinals_above, terms_at}
use Rattle.fc_terms.specs.Spans.{IsPrefixSpan}
use Rattle.fc_terms.specs.TermSpan.{IsTermNumber, term_key}
use Rattle.fc_terms.specs.Values.{is_value_key}
use Rattle.fc_terms.proofs.TermBuckets.{found, term_bucket, term_inside, term_is_key, terms_apart}

-- ---- ordinals of a span
in_span : (from x to : ℕ) → (nat_le from x && nat_lt x to) ≡ true → (from ≤ x) × (x < to)
in_span from x to e = (grind (arith, nat_tests), grind (arith, nat_tests))

same_numbers : (i from x : ℕ) → from ≤ x → int_eq (pos i) (pos (x - from)) ≡ ((from + i) == x)
same_numbers i from x low = grind (arith, ints, nat_tests)

other_number : (from x to i : ℕ) → (nat_le from x && nat_lt x to) ≡ false → from + i < to → ((from + i) == x) ≡ false
other_number from x to i out here = grind (arith, nat_tests)

different : (from a b : ℕ) → from ≤ a → a < b → int_eq (pos (a - from)) (pos (b - from)) ≡ false
different from a b low below = grind (arith, ints)

pub ordinals_apart : (from to : ℕ) (ords : List ℕ) → IsStrictlyIncreasing ords → AllPairs (λ a b. int_eq a b ≡ false) (ordinals_above from to ords)
ordinals_apart from to ords up = λ i j d order inside.
    let p : ℕ → Bool = λ ord. nat_le from ord && nat_lt ord to in
    let kept = filter p ords in
    let size = length-map kept (λ ord. pos (ord - from)) in
    let a = get_or-map (λ (ord : ℕ). pos (ord - from)) kept i 0 d (omega (arith, size)) in
    let b = get_or-map (λ (ord : ℕ). pos (ord - from)) kept j 0 d (omega (arith, size)) in
    let below = AllPairs-filter (λ x y. x < y) p ords (AllPairs-from_increasing ords up) i j 0 order (omega (arith, size, inside)) in
    let low = in_span from (get_or kept i 0) to (filter_passes p ords i 0 (omega (arith, size, order, inside))) in
    ap₂ int_eq a b ∙ different from (get_or kept i 0) (get_or kept j 0) low.0 below

pub ordinals_numbered : (column : List (List Text)) (from to : ℕ) (ords : List ℕ) → to ≤ length (terms_of column) → All (IsTermNumber column from to) (ordinals_above from to ords)
ordinals_numbered column from to ords within =
    let p : ℕ → Bool = λ ord. nat_le from ord && nat_lt ord to in
    All-map (IsTermNumber column from to) (λ ord. pos (ord - from)) (filter p ords)
    (All-weaker (λ ord. p ord ≡ true) (λ ord. IsTermNumber column from to (pos (ord - from))) one (filter p ords) (filter_passes p ords))
  where
    one : (ord : ℕ) → (nat_le from ord && nat_lt ord to) ≡ true → IsTermNumber column from to (pos (ord - from))
    one ord e = let inside = in_span from ord to e in (omega (arith, ints), (omega (arith, inside.0, inside.1), within))

above_among : (from to i : ℕ) (ords : List ℕ) → from + i < to → list_any (int_eq (pos i)) (ordinals_above from to ords) ≡ is_among (from + i) ords
above_among from to i [] here = refl
above_among from to i (x ∷ ords) here = go (nat_le from x && nat_lt x to) refl (above_among from to i ords here)
  where
    go : (b : Bool) → (nat_le from x && nat_lt x to) ≡ b → list_any (int_eq (pos i)) (ordinals_above from to ords) ≡ is_among (from + i) ords
        → list_any (int_eq (pos i)) (map (λ ord. pos (ord - from)) (cond b (x ∷ filter (λ ord. nat_le from ord && nat_lt ord to) ords) (filter (λ ord. nat_le from ord && nat_lt ord to) ords)))
        ≡ (((from + i) == x) || is_among (from + i) ords)
    go true e rest = ap₂ (λ a b. a || b) (same_numbers i from x (in_span from x to e).0) rest
    go false e rest = rest ∙ ap (λ b. b || is_among (from + i) ords) (sym (other_number from x to i e here))

-- ---- numbers from 0 on
back : (n : ℤ) → pos 0 ≤ℤ n → pos (nat_abs n) ≡ n
back (pos k) h = refl
back (negsuc k) h = absurd (omega (arith, ints))

module _ (t : Terms) (blocks : List Block) (column : List (List Text)) (all : map (map text) column ≡ column_of t.field (documents_in blocks)) (from to : ℕ) (span : IsPrefixSpan t.prefix column from to) where
  bound_of : (n : ℤ) → IsTermNumber column from to n → nat_abs n < to - from
  bound_of n has = omega (arith, has.1.0)

  pub numbers_apart : NumbersApart (λ n. IsTermNumber column from to n) (term_key column from)
  numbers_apart = λ m n has also same. go m n has also same (nat_abs m == nat_abs n) refl
    where
      go : (m n : ℤ) → IsTermNumber column from to m → IsTermNumber column from to n → same_key (term_key column from m) (term_key column from n) ≡ true
          → (b : Bool) → (nat_abs m == nat_abs n) ≡ b → m ≡ n
      go m n has also same true e = sym (back m has.0) ∙ ap pos (eqb-true (nat_abs m) (nat_abs n) e) ∙ back n also.0
      go m n has also same false e = absurd (false≢true (
          sym (terms_apart column from (to - from) (term_inside t blocks column all from to span) (nat_abs m) (nat_abs n) (bound_of m has) (bound_of n also) (λ i. false≢true (sym e ∙ grind (arith, nat_tests)))) ∙ same
          ))

  pub number_is_key : (n : ℤ) → IsTermNumber column from to n → is_value_key t (term_key column from n) ≡ true
  number_is_key n has = term_is_key t blocks column all from to span (nat_abs n) (bound_of n has)

  pub number_bucket : (n : ℤ) → IsTermNumber column from to n → (at : ℕ) → at < document_total blocks
      → list_any (int_eq n) (terms_at column from to at) ≡ in_bucket (terms t) (term_key column from n) (place_at blocks at).document
  number_bucket n has at here =
      ap (λ z. list_any (int_eq z) (terms_at column from to at)) (sym (back n has.0))
      ∙ above_among from to (nat_abs n) (ordinals_in column (get_or column at [])) has.1.0
      ∙ term_bucket t blocks column all from to span (nat_abs n) at (bound_of n has) here

  -- a bucket of a value that has a document is that of a term in the span
  pub number_found : (set : List Bool) → length set ≡ document_total blocks → (k : Key) → is_value_key t k ≡ true → is_empty (bucket_places (terms t) k (places_on 0 blocks set)) ≡ false
      → (n : ℤ) × IsTermNumber column from to n × (term_key column from n ≡ k)
  number_found set size k e some = go (found t blocks column all from to span k e)
    where
      go : IsCountedOrNone blocks (terms t) (term_key column from) (to - from) k → (n : ℤ) × IsTermNumber column from to n × (term_key column from n ≡ k)
      go (inl (i, (here, is))) = (pos i, (omega (arith, ints), (omega (arith, here), span.within)), sym is)
      go (inr none) = absurd (false≢true (sym some ∙ none_in_bucket blocks set size (terms t) k none.1))
