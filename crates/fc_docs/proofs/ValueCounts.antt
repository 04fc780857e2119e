-- How many values a document has: as many as the lists that are kept.
use Rattle.std.proofs.Common.{◌≡◌, ℕ, zero, suc, ◌+◌, ◌<◌, ◌≤◌, List, [], ◌∷◌, length, map, arith, sym, ◌∙◌, ap, refl, subst, inl, inr}
use Rattle.std.specs.List.{range_with_len, sum_by}
use Rattle.std.proofs.lemmas.Bool.{cases_lt}
use Rattle.std.proofs.lemmas.List.Sums.{sum_by-cons}
use Rattle.fc_docs.specs.Fields.{FieldValues, Ascend, EndBelow, document_of, values_at}
use Rattle.fc_docs.proofs.Entries.{Entry, here, skip, below}

abbrev pub kept : FieldValues → ℕ
kept es = sum_by (λ (e : Entry). length e.1) es

none_kept : (a : ℕ) (es : FieldValues) → Ascend a es → ((n : ℕ) → a ≤ n → values_at es n ≡ []) → kept es ≡ 0
none_kept a [] up none = refl
none_kept a (e ∷ es) up none =
    let first : length e.1 ≡ 0 = ap length (sym (here e es) ∙ none e.0 up.0) in
    let others : kept es ≡ 0 = none_kept (e.0 + 1) es up.1 (λ n past. sym (skip e es n (omega arith)) ∙ none n (omega arith)) in
    sum_by-cons (λ (f : Entry). length f.1) e es ∙ omega arith

nothing : (ns : List ℕ) → sum_by (λ vs. length vs) (map (values_at []) ns) ≡ 0
nothing [] = refl
nothing (n ∷ ns) = sum_by-cons (λ vs. length vs) (values_at [] n) (map (values_at []) ns) ∙ omega (arith, nothing ns)

same_behind : (c a : ℕ) (e : Entry) (es : FieldValues) → e.0 < a → map (values_at (e ∷ es)) (range_with_len a c) ≡ map (values_at es) (range_with_len a c)
same_behind zero a e es small = refl
same_behind (suc c) a e es small =
    ap (λ vs. vs ∷ map (values_at (e ∷ es)) (range_with_len (a + 1) c)) (skip e es a (omega arith)) ∙ ap (λ vss. values_at es a ∷ vss) (same_behind c (a + 1) e es (omega arith))

-- the number of values of the fields of these numbers
abbrev count_of : FieldValues → List ℕ → ℕ
count_of es ns = sum_by (λ vs. length vs) (map (values_at es) ns)

passed : (c a : ℕ) (e : Entry) (es : FieldValues) → Ascend a (e ∷ es) → a < e.0 → count_of (e ∷ es) (range_with_len (a + 1) c) ≡ kept (e ∷ es) → length (values_at (e ∷ es) a) + count_of (e ∷ es) (range_with_len (a + 1) c) ≡ kept (e ∷ es)
passed c a e es up later others =
    let first : length (values_at (e ∷ es) a) ≡ 0 = ap length (below (a + 1) a (e ∷ es) (omega arith, up.1) (omega arith)) in
    omega arith

met : (c a : ℕ) (e : Entry) (es : FieldValues) → a ≡ e.0 → count_of es (range_with_len (a + 1) c) ≡ kept es → length (values_at (e ∷ es) a) + count_of (e ∷ es) (range_with_len (a + 1) c) ≡ kept (e ∷ es)
met c a e es same_place others =
    let first : length (values_at (e ∷ es) a) ≡ length e.1 = ap (λ n. length (values_at (e ∷ es) n)) same_place ∙ ap length (here e es) in
    let behind : count_of (e ∷ es) (range_with_len (a + 1) c) ≡ kept es = ap (λ vss. sum_by (λ vs. length vs) vss) (same_behind c (a + 1) e es (omega arith)) ∙ others in
    let all : kept (e ∷ es) ≡ length e.1 + kept es = sum_by-cons (λ (f : Entry). length f.1) e es in
    omega arith

behind : (a : ℕ) (e : Entry) (es : FieldValues) → a ≡ e.0 → Ascend (e.0 + 1) es → Ascend (a + 1) es
behind a e es same_place up = subst (λ n. Ascend (n + 1) es) (sym same_place) up

counted : (c a : ℕ) (es : FieldValues) → Ascend a es → ((n : ℕ) → a + c ≤ n → values_at es n ≡ []) → count_of es (range_with_len a c) ≡ kept es
counted zero a es up none = sym (none_kept a es up (λ n past. none n (omega arith)))
counted (suc c) a [] up none = nothing (range_with_len a (suc c))
counted (suc c) a (e ∷ es) up none =
    sum_by-cons (λ vs. length vs) (values_at (e ∷ es) a) (map (values_at (e ∷ es)) (range_with_len (a + 1) c))
    ∙ elim (cases_lt a e.0) [
      | inl later ↦ passed c a e es up later (counted c (a + 1) (e ∷ es) (omega arith, up.1) (λ n past. none n (omega arith)))
      | inr past ↦ met c a e es (omega arith) (counted c (a + 1) es (behind a e es (omega arith) up.1) (λ n more. sym (skip e es n (omega arith)) ∙ none n (omega arith)))
    ]

-- the values of a document are those that are kept
pub value_count-document_of : (count : ℕ) (es : FieldValues) → Ascend 0 es → EndBelow count es → sum_by (λ vs. length vs) (document_of count es) ≡ kept es
value_count-document_of count es up ends = counted count 0 es up (λ n past. ends n (omega arith))
