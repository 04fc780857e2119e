-- The positions with a number, as those of the rows that have it.
use Rattle.std.proofs.Common.{◌≡◌, ℕ, zero, suc, ◌+◌, ◌<◌, ◌≤◌, ◌⊎◌, inl, inr, Bool, true, false, cond, ◌&&◌, ◌||◌, ◌==◌, nat_lt, List, [], ◌∷◌, ◌++◌, length, get_or, map, All, refl, sym, ap, ap₂, ◌∙◌, subst, arith, lt-ltb, le-ltb, eq-eqb, ne_eqb, eqb-true, add-zero}
use Rattle.std.proofs.lemmas.Bool.{cases_order, eqb-false}
use Rattle.std.proofs.lemmas.List.{map-append, length-map}
use Rattle.std.proofs.lemmas.List.Kept.{AllPairs-from_increasing}
use Rattle.std.proofs.lemmas.List.FromFn.{map-range_with_len_more, length-map-range_with_len, get_or-map-range_with_len}
use Rattle.std.specs.List.Sorted.{IsStrictlyIncreasing, IsNonDecreasingBy}
use Rattle.fc_docset.specs.Positions.{positions, positions_from}
use Rattle.fc_lists.specs.declared.entries.Entry.{Entry}
use Rattle.fc_lists.specs.Among.{is_among}
use Rattle.fc_lists.specs.Items.{items_at, rows_below}
use Rattle.fc_lists.specs.Placed.{positions_with}
use Rattle.fc_lists.proofs.ItemsAt.{items_at_none}
use Rattle.fc_lists.proofs.Marks.{not_among}

-- ---- the positions of a set
positions_from-push : (from : ℕ) (bits : List Bool) (b : Bool) → positions_from from (bits ++ b ∷ []) ≡ positions_from from bits ++ cond b ((from + length bits) ∷ []) []
positions_from-push from [] true = ap (λ n. n ∷ []) (sym (add-zero from))
positions_from-push from [] false = refl
positions_from-push from (true ∷ bits) b =
    let next : from + 1 + length bits ≡ from + suc (length bits) = omega arith in
    ap (λ l. from ∷ l) (positions_from-push (from + 1) bits b ∙ ap (λ n. positions_from (from + 1) bits ++ cond b (n ∷ []) []) next)
positions_from-push from (false ∷ bits) b =
    let next : from + 1 + length bits ≡ from + suc (length bits) = omega arith in
    positions_from-push (from + 1) bits b ∙ ap (λ n. positions_from (from + 1) bits ++ cond b (n ∷ []) []) next

pub positions_lie : (from : ℕ) (bits : List Bool) → All (λ at. (from ≤ at) × (at < from + length bits)) (positions_from from bits)
positions_lie from [] = λ k d inside. absurd (omega arith)
positions_lie from (true ∷ bits) = λ k d inside. go (positions_lie (from + 1) bits) k d inside
  where
    go : All (λ at. (from + 1 ≤ at) × (at < from + 1 + length bits)) (positions_from (from + 1) bits) → (k d : ℕ) → k < length (from ∷ positions_from (from + 1) bits)
        → (from ≤ get_or (from ∷ positions_from (from + 1) bits) k d) × (get_or (from ∷ positions_from (from + 1) bits) k d < from + suc (length bits))
    go lies zero d inside = (omega arith, omega arith)
    go lies (suc k) d inside = let rest = lies k d (omega arith) in (omega (arith, rest.0), omega (arith, rest.1))
positions_lie from (false ∷ bits) = λ k d inside.
    let rest = positions_lie (from + 1) bits k d inside in (omega (arith, rest.0), omega (arith, rest.1))

pub positions_rise : (from : ℕ) (bits : List Bool) → IsStrictlyIncreasing (positions_from from bits)
positions_rise from [] k inside = absurd (omega arith)
positions_rise from (true ∷ bits) k inside = go (positions_rise (from + 1) bits) k inside
  where
    go : IsStrictlyIncreasing (positions_from (from + 1) bits) → (k : ℕ) → k + 1 < length (from ∷ positions_from (from + 1) bits)
        → get_or (from ∷ positions_from (from + 1) bits) k 0 < get_or (from ∷ positions_from (from + 1) bits) (k + 1) 0
    go rises zero inside = let first = positions_lie (from + 1) bits 0 0 (omega arith) in omega (arith, first.0)
    go rises (suc k) inside =
        let next : suc (k + 1) ≡ suc k + 1 = omega arith in
        subst (λ n. get_or (positions_from (from + 1) bits) k 0 < get_or (from ∷ positions_from (from + 1) bits) n 0) next (rises k (omega arith))
positions_rise from (false ∷ bits) k inside = positions_rise (from + 1) bits k inside

pub is_among-positions : (from : ℕ) (bits : List Bool) (k : ℕ) → is_among (from + k) (positions_from from bits) ≡ get_or bits k false
is_among-positions from [] k = refl
is_among-positions from (true ∷ bits) zero = ap (λ b. b || is_among (from + 0) (positions_from (from + 1) bits)) (eq-eqb (from + 0) from (add-zero from))
is_among-positions from (false ∷ bits) zero =
    not_among (from + 0) (positions_from (from + 1) bits)
    (λ k inside same. let lies = positions_lie (from + 1) bits k 0 inside in omega (arith, lies.0, same))
is_among-positions from (true ∷ bits) (suc k) =
    let next : from + suc k ≡ from + 1 + k = omega arith in
    ap (λ b. b || is_among (from + suc k) (positions_from (from + 1) bits)) (ne_eqb (from + suc k) from (λ same. omega arith))
    ∙ ap (λ n. is_among n (positions_from (from + 1) bits)) next ∙ is_among-positions (from + 1) bits k
is_among-positions from (false ∷ bits) (suc k) =
    let next : from + suc k ≡ from + 1 + k = omega arith in
    ap (λ n. is_among n (positions_from (from + 1) bits)) next ∙ is_among-positions (from + 1) bits k

-- ---- the entries before a position
abbrev before : ℕ → ℕ → List (Entry ℕ) → List ℕ
before n number [] = []
before n number (e ∷ es) = cond (nat_lt e.at n && (e.item == number)) (e.at ∷ before n number es) (before n number es)

before_none : (n number : ℕ) (es : List (Entry ℕ)) → All (λ e. n ≤ e.at) es → before n number es ≡ []
before_none n number [] above = refl
before_none n number (e ∷ es) above =
    ap (λ b. cond (b && (e.item == number)) (e.at ∷ before n number es) (before n number es)) (le-ltb e.at n (above 0 e (omega arith)))
    ∙ before_none n number es (λ k d inside. above (suc k) d (omega arith))

before_all : (n number : ℕ) (es : List (Entry ℕ)) → All (λ e. e.at < n) es → before n number es ≡ positions_with number es
before_all n number [] below = refl
before_all n number (e ∷ es) below =
    ap (λ b. cond (b && (e.item == number)) (e.at ∷ before n number es) (before n number es)) (lt-ltb e.at n (below 0 e (omega arith)))
    ∙ ap (λ l. cond (e.item == number) (e.at ∷ l) l) (before_all n number es (λ k d inside. below (suc k) d (omega arith)))

cond-append : (b : Bool) (x : ℕ) (l m : List ℕ) → cond b (x ∷ (l ++ m)) (l ++ m) ≡ cond b (x ∷ l) l ++ m
cond-append true x l m = refl
cond-append false x l m = refl

abbrev here_if : Bool → ℕ → List ℕ
here_if b n = cond b (n ∷ []) []

-- a number that begins a rising row does not stand in its rest
not_later : (x : ℕ) (xs : List ℕ) → IsStrictlyIncreasing (x ∷ xs) → is_among x xs ≡ false
not_later x xs rising =
    not_among x xs (λ k inside same. let more = AllPairs-from_increasing (x ∷ xs) rising 0 (suc k) 0 (omega arith) (omega arith) in omega (arith, more, same))

rest_rises : (x : ℕ) (xs : List ℕ) → IsStrictlyIncreasing (x ∷ xs) → IsStrictlyIncreasing xs
rest_rises x xs rising k inside =
    let next : suc k + 1 ≡ suc (k + 1) = omega arith in
    subst (λ n. get_or xs k 0 < get_or (x ∷ xs) n 0) next (rising (suc k) (omega arith))

-- the position itself
before_next : (n number : ℕ) (es : List (Entry ℕ)) → IsNonDecreasingBy (λ e. e.at) es → IsStrictlyIncreasing (items_at es n)
    → before (n + 1) number es ≡ before n number es ++ here_if (is_among number (items_at es n)) n
before_next n number [] sorted rising = refl
before_next n number (e ∷ es) sorted rising = go (cases_order e.at n) (before_next n number es (λ i j d order within. sorted (suc i) (suc j) d (omega arith) (omega arith)))
  where
    later : (k : ℕ) (d : Entry ℕ) → k < length es → e.at ≤ (get_or es k d).at
    later k d within = sorted 0 (suc k) d (omega arith) (omega arith)

    keep : (b : Bool) (bound : ℕ) → nat_lt e.at bound ≡ b → before bound number (e ∷ es) ≡ cond (b && (e.item == number)) (e.at ∷ before bound number es) (before bound number es)
    keep b bound is = ap (λ t. cond (t && (e.item == number)) (e.at ∷ before bound number es) (before bound number es)) is

    go : ((e.at ≡ n) ⊎ ((e.at < n) ⊎ (n < e.at)))
        → (IsStrictlyIncreasing (items_at es n) → before (n + 1) number es ≡ before n number es ++ here_if (is_among number (items_at es n)) n)
        → before (n + 1) number (e ∷ es) ≡ before n number (e ∷ es) ++ here_if (is_among number (items_at (e ∷ es) n)) n
    go (inr (inl below)) rest =
        let row : items_at (e ∷ es) n ≡ items_at es n = ap (λ b. cond b (e.item ∷ items_at es n) (items_at es n)) (ne_eqb e.at n (λ same. omega arith)) in
        let here = here_if (is_among number (items_at es n)) n in
        keep true (n + 1) (lt-ltb e.at (n + 1) (omega arith))
        ∙ ap (λ l. cond (e.item == number) (e.at ∷ l) l) (rest (subst IsStrictlyIncreasing row rising))
        ∙ cond-append (e.item == number) e.at (before n number es) here
        ∙ sym (ap₂ (λ l items. l ++ here_if (is_among number items) n) (keep true n (lt-ltb e.at n below)) row)
    go (inr (inr above)) rest =
        let row : items_at (e ∷ es) n ≡ [] = items_at_none (e ∷ es) n (λ k d inside same. let from = sorted 0 k d (omega arith) inside in omega arith) in
        before_none (n + 1) number (e ∷ es) (λ k d inside. let from = sorted 0 k d (omega arith) inside in omega arith)
        ∙ sym (ap₂ (λ l items. l ++ here_if (is_among number items) n)
        (before_none n number (e ∷ es) (λ k d inside. let from = sorted 0 k d (omega arith) inside in omega arith)) row)
    go (inl here) rest =
        let row : items_at (e ∷ es) n ≡ e.item ∷ items_at es n = ap (λ b. cond b (e.item ∷ items_at es n) (items_at es n)) (eq-eqb e.at n here) in
        let rises = subst IsStrictlyIncreasing row rising in
        let none = before_none n number es (λ k d within. let more = later k d within in omega arith) in
        let others = rest (rest_rises e.item (items_at es n) rises) ∙ ap (λ l. l ++ here_if (is_among number (items_at es n)) n) none in
        keep true (n + 1) (lt-ltb e.at (n + 1) (omega arith))
        ∙ ap (λ l. cond (e.item == number) (e.at ∷ l) l) others
        ∙ one (e.item == number) refl rises here
        ∙ sym (ap₂ (λ l items. l ++ here_if (is_among number items) n) (keep false n (le-ltb e.at n (omega arith)) ∙ none) row)
      where
        one : (b : Bool) → e.item == number ≡ b → IsStrictlyIncreasing (e.item ∷ items_at es n) → e.at ≡ n
            → cond (e.item == number) (e.at ∷ here_if (is_among number (items_at es n)) n) (here_if (is_among number (items_at es n)) n)
            ≡ here_if ((number == e.item) || is_among number (items_at es n)) n
        one true same rises here =
            let number_is : e.item ≡ number = eqb-true e.item number same in
            let alone = ap (λ m. is_among m (items_at es n)) (sym number_is) ∙ not_later e.item (items_at es n) rises in
            ap₂ (λ b t. cond b (e.at ∷ here_if t n) (here_if t n)) same alone ∙ ap (λ m. m ∷ []) here
            ∙ sym (ap (λ b. here_if (b || is_among number (items_at es n)) n) (eq-eqb number e.item (sym number_is)))
        one false other rises here =
            ap (λ b. cond b (e.at ∷ here_if (is_among number (items_at es n)) n) (here_if (is_among number (items_at es n)) n)) other
            ∙ sym (ap (λ b. here_if (b || is_among number (items_at es n)) n) (ne_eqb number e.item (λ same. eqb-false e.item number other (sym same))))

positions_before : (es : List (Entry ℕ)) (number len : ℕ) → IsNonDecreasingBy (λ e. e.at) es → ((n : ℕ) → n < len → IsStrictlyIncreasing (items_at es n))
    → positions (map (is_among number) (rows_below es len)) ≡ before len number es
positions_before es number zero sorted rising = sym (before_none 0 number es (λ k d inside. omega arith))
positions_before es number (suc len) sorted rising =
    let more : suc len ≡ len + 1 = omega arith in
    let rows = rows_below es len in
    let size = length-map rows (is_among number) ∙ length-map-range_with_len (items_at es) 0 len in
    ap (λ n. positions (map (is_among number) (rows_below es n))) more
    ∙ ap (λ l. positions (map (is_among number) l)) (map-range_with_len_more (items_at es) 0 len len (omega arith))
    ∙ ap positions (map-append (is_among number) rows (items_at es len ∷ []))
    ∙ positions_from-push 0 (map (is_among number) rows) (is_among number (items_at es len))
    ∙ ap₂ (λ l n. l ++ here_if (is_among number (items_at es len)) n) (positions_before es number len sorted (λ n below. rising n (omega arith))) (omega (arith, size))
    ∙ sym (ap (λ n. before n number es) more ∙ before_next len number es sorted (rising len (omega arith)))

pub positions_of_rows : (es : List (Entry ℕ)) (number len : ℕ) → IsNonDecreasingBy (λ e. e.at) es → All (λ e. e.at < len) es → All IsStrictlyIncreasing (rows_below es len)
    → positions_with number es ≡ positions (map (is_among number) (rows_below es len))
positions_of_rows es number len sorted below rising =
    sym (positions_before es number len sorted
    (λ n within. subst IsStrictlyIncreasing (get_or-map-range_with_len (items_at es) 0 len n n [] within (omega arith))
    (rising n [] (omega (arith, length-map-range_with_len (items_at es) 0 len))))
    ∙ before_all len number es below)
