-- The terms that begin with a prefix are the buckets of a terms facet in a field of texts.
use Rattle.std.proofs.Common.{◌≡◌, ◌<◌, ◌≤◌, ◌+◌, ◌-◌, inl, inr, ℕ, ℤ, pos, Bool, true, false, ◌&&◌, ◌==◌, List, [], ◌∷◌, map, length, get_or, nat_le, nat_lt, refl, sym, ap, ◌∙◌, arith, ne_eqb}
use Rattle.std.specs.List.{list_any}
use Rattle.std.proofs.lemmas.Bool.{false≢true, false_from_ne_true, ltb-true}
use Rattle.std.proofs.lemmas.Bool.Decides.{nat_tests}
use Rattle.std.proofs.lemmas.List.{length-map}
use Rattle.std.proofs.lemmas.List.Folds.{list_any_at}
use Rattle.fc_spec.specs.documents.Columns.{column_of}
use Rattle.fc_spec.specs.documents.Document.{Block, values_of}
use Rattle.fc_spec.specs.documents.Totals.{documents_in, document_total}
use Rattle.fc_spec.specs.documents.Val.{Text, text, long, has_val}
use Rattle.fc_spec.specs.requests.Buckets.{Key, value, missing, gap, before, between, after, whole, has_prefix, in_bucket}
use Rattle.fc_spec.specs.requests.Request.{Terms, terms}
use Rattle.fc_spec.proofs.words.Texts.{equal}
use Rattle.fc_column.specs.Terms.{has_text, terms_below, terms_of}
use Rattle.fc_column.proofs.SortedTerms.{place_of_term}
use Rattle.fc_column.proofs.TermLists.{has_val-texts}
use Rattle.fc_domain.proofs.TextRows.{to_end}
use Rattle.fc_kind.specs.PlaceAt.{place_at}
use Rattle.fc_kind.proofs.PlaceColumns.{row_at}
use Rattle.fc_count.specs.Added.{AreApart}
use Rattle.fc_count.proofs.CountedBuckets.{IsCountedOrNone}
use Rattle.fc_terms.specs.Spans.{IsPrefixSpan}
use Rattle.fc_terms.specs.TermSpan.{has_term, term_key}
use Rattle.fc_terms.specs.Values.{is_value_key}
use Rattle.fc_column.proofs.TermOrder.{term_placed, terms_ascend}
use Rattle.fc_terms.proofs.TermRows.{is_ordinal, position_has, term_among}

span_parts : (from ord to : ℕ) → (nat_le from ord && nat_lt ord to) ≡ true → (from ≤ ord) × (ord < to)
span_parts from ord to inside = (grind (arith, nat_tests), grind (arith, nat_tests))

-- no integer is among texts
long_among_texts : (z : ℤ) (ts : List Text) → has_val (long z) (map text ts) ≡ false
long_among_texts z [] = refl
long_among_texts z (t ∷ ts) = long_among_texts z ts

-- different terms of a column have different keys
pub terms_apart : (column : List (List Text)) (from bound : ℕ) → ((i : ℕ) → i < bound → from + i < length (terms_of column)) → AreApart (term_key column from) bound
terms_apart column from bound inside i j i_here j_here differ =
    let there : ℕ → Text = λ (k : ℕ). get_or (terms_of column) (from + k) [] in
    let place : terms_below column (there j) ≡ from + j = place_of_term (terms_of column) (terms_ascend column) (from + j) [] (inside j j_here) in
    sym (is_ordinal column (from + i) (inside i i_here) (there j) (term_among column (from + j) (inside j j_here)))
    ∙ ap (λ n. (from + i) == n) place ∙ ne_eqb (from + i) (from + j) (λ e. differ (omega arith))

module _ (t : Terms) (blocks : List Block) (column : List (List Text)) (all : map (map text) column ≡ column_of t.field (documents_in blocks)) where
  pub column_size : length column ≡ document_total blocks
  column_size = sym (length-map column (map text)) ∙ ap length all ∙ length-map (documents_in blocks) (λ d. values_of d t.field)

  -- a document has the texts of its row, and no integer
  has_at : (u : Text) (at : ℕ) → at < document_total blocks → has_text u (get_or column at []) ≡ has_val (text u) (values_of (place_at blocks at).document t.field)
  has_at u at here = sym (has_val-texts u (get_or column at [])) ∙ ap (has_val (text u)) (row_at text column blocks t.field at all here)

  no_long : (z : ℤ) (at : ℕ) → at < document_total blocks → in_bucket (terms t) (value (long z)) (place_at blocks at).document ≡ false
  no_long z at here = ap (λ b. b && has_prefix t.prefix (long z)) (ap (has_val (long z)) (sym (row_at text column blocks t.field at all here)) ∙ long_among_texts z (get_or column at []))

  module _ (from to : ℕ) (span : IsPrefixSpan t.prefix column from to) where
    pub term_inside : (i : ℕ) → i < to - from → from + i < length (terms_of column)
    term_inside i here = omega (arith, span.order, span.within)

    prefixed : (i : ℕ) → i < to - from → has_prefix t.prefix (text (get_or (terms_of column) (from + i) [])) ≡ true
    prefixed i here = span.exact (from + i) (term_inside i here) ∙ inside
      where
        inside : (nat_le from (from + i) && nat_lt (from + i) to) ≡ true
        inside = grind (arith, nat_tests)

    pub term_is_key : (i : ℕ) → i < to - from → is_value_key t (term_key column from (pos i)) ≡ true
    term_is_key i here = prefixed i here

    pub term_bucket : (i at : ℕ) → i < to - from → at < document_total blocks → has_term column from at i ≡ in_bucket (terms t) (term_key column from (pos i)) (place_at blocks at).document
    term_bucket i at here there =
        position_has column (from + i) (term_inside i here) at (omega (arith, column_size, there)) ∙ has_at (get_or (terms_of column) (from + i) []) at there
        ∙ sym (ap (λ b. has_val (text (get_or (terms_of column) (from + i) [])) (values_of (place_at blocks at).document t.field) && b) (prefixed i here) ∙ and_true _)
      where
        and_true : (b : Bool) → (b && true) ≡ b
        and_true true = refl
        and_true false = refl

    text_found : (u : Text) → has_prefix t.prefix (text u) ≡ true → (b : Bool) → list_any (has_text u) column ≡ b → IsCountedOrNone blocks (terms t) (term_key column from) (to - from) (value (text u))
    text_found u begins true among =
        let ord = terms_below column u in
        let within : ord < length (terms_of column) = ltb-true _ _ (to_end column u among) in
        let is : get_or (terms_of column) ord [] ≡ u = term_placed column u among in
        let inside : (nat_le from ord && nat_lt ord to) ≡ true = sym (span.exact ord within) ∙ ap (λ w. has_prefix t.prefix (text w)) is ∙ begins in
        let parts = span_parts from ord to inside in
        let back : from + (ord - from) ≡ ord = omega (arith, parts.0) in
        inl (ord - from, (omega (arith, parts.0, parts.1), sym (ap (λ w. value (text w)) (ap (λ n. get_or (terms_of column) n []) back ∙ is))))
    text_found u begins false none = inr (
      λ i here. false_from_ne_true _ (λ h.
          let there : get_or (terms_of column) (from + i) [] ≡ u = sym (equal u _ h) in
          false≢true (sym none ∙ ap (λ w. list_any (has_text w) column) (sym there) ∙ term_among column (from + i) (term_inside i here))),
      λ at here. ap (λ b. b && has_prefix t.prefix (text u)) (sym (has_at u at here)
          ∙ false_from_ne_true _ (λ h. false≢true (sym none ∙ list_any_at (has_text u) column at [] (omega (arith, column_size, here)) h))),
    )

    pub found : (k : Key) → is_value_key t k ≡ true → IsCountedOrNone blocks (terms t) (term_key column from) (to - from) k
    found (value (text u)) e = text_found u e (list_any (has_text u) column) refl
    found (value (long z)) e = inr (λ i here. refl, λ at here. no_long z at here)
    found missing e = absurd (false≢true e)
    found (gap n) e = absurd (false≢true e)
    found before e = absurd (false≢true e)
    found between e = absurd (false≢true e)
    found after e = absurd (false≢true e)
    found whole e = absurd (false≢true e)
