-- What a mask picks, one word after another and one bit after another.
use Rattle.std.proofs.Common.{◌≡◌, ℕ, zero, suc, ◌+◌, ◌-◌, ◌*◌, ◌/◌, ◌%◌, ◌^◌, ◌<◌, ◌≤◌, ◌⊎◌, inl, inr, min, false, ◌==◌, List, [], ◌∷◌, ◌++◌, length, get_or, take, drop, refl, sym, ap, ap₂, ◌∙◌, arith, bit_and, mod-lt, zero-lt-suc, pow-suc, length-drop, take-append-drop, append-nil, add-one, replicate}
use Rattle.std.specs.Int.Bits.{and_step, and_self}
use Rattle.std.specs.Int.Count.{count_trailing_zeros, under}
use Rattle.std.specs.List.{items_where_true}
use Rattle.std.proofs.lemmas.Bool.{cases_lt}
use Rattle.std.proofs.lemmas.List.{take_all, length-take}
use Rattle.std.proofs.lemmas.Nat.{and_le_r, mod-pow-add}
use Rattle.std.proofs.Math.Pow.{ones_lt, pow_mono}
use Rattle.fc_spec.specs.documents.Bits.{first_bits}
use Rattle.fc_spec.proofs.documents.WordBits.{has_bit_past}
use Rattle.fc_spec.proofs.words.WhereTrue.{items_where_true-append}
use Rattle.fc_lane.specs.Masked.{masked}
use Rattle.fc_lane.proofs.BitLists.{first_bits_is, first_bits_all}
use Rattle.fc_lane.proofs.LowBits.{low_bits, length-low_bits, get_or-low_bits, bit_cases}
use Rattle.fc_lane.proofs.WholeWords.{has_bit_first, first_bits-cons}

-- ---- one word after another
pub first_bits-word : (n w : ℕ) (words : List ℕ) → n ≤ 64 → first_bits n (w ∷ words) ≡ low_bits n w
first_bits-word n w words few =
    first_bits_is n (w ∷ words) (low_bits n w) (length-low_bits n w)
    (λ k within. has_bit_first w words k (omega arith) ∙ sym (get_or-low_bits n w k within))

-- the bits of a word pick among up to 64 items
pub masked-word : {T : Type 0} (w : ℕ) (words : List ℕ) (items : List T) → length items ≤ 64
    → masked (w ∷ words) items ≡ items_where_true (low_bits (length items) w) items
masked-word w words items few = ap (λ bits. items_where_true bits items) (first_bits-word (length items) w words few)

pub masked-none : {T : Type 0} (words : List ℕ) (items : List T) → length items ≡ 0 → masked words items ≡ []
masked-none words [] none = refl
masked-none words (x ∷ items) none = absurd (omega arith)

-- where there is no word, no bit is 1
pub first_bits-nil : (n : ℕ) → first_bits n [] ≡ replicate n false
first_bits-nil n = first_bits_all n [] false (λ k within. has_bit_past [] k (omega arith))

pub masked-nil : {T : Type 0} (items : List T) → masked [] items ≡ []
masked-nil items = ap (λ bits. items_where_true bits items) (first_bits-nil (length items)) ∙ go items
  where
    go : {T : Type 0} (items : List T) → items_where_true (replicate (length items) false) items ≡ []
    go [] = refl
    go (x ∷ items) = go items

-- those of the first word, and those of the others
pub masked-cons : {T : Type 0} (w : ℕ) (words : List ℕ) (items : List T)
    → masked (w ∷ words) items ≡ masked (w ∷ []) (take 64 items) ++ masked words (drop 64 items)
masked-cons w words items = go (cases_lt (length items) 64)
  where
    go : ((length items < 64) ⊎ (64 ≤ length items)) → masked (w ∷ words) items ≡ masked (w ∷ []) (take 64 items) ++ masked words (drop 64 items)
    go (inl below) =
        let none : length (drop 64 items) ≡ 0 = simp length-drop (omega arith) in
        masked-word w words items (omega arith) ∙ sym (masked-word w [] items (omega arith))
        ∙ ap (λ l. masked (w ∷ []) l) (sym (take_all 64 items (omega arith)))
        ∙ sym (append-nil (masked (w ∷ []) (take 64 items)))
        ∙ ap (λ l. masked (w ∷ []) (take 64 items) ++ l) (sym (masked-none words (drop 64 items) none))
    go (inr enough) =
        let size : length (take 64 items) ≡ 64 = length-take 64 items ∙ omega arith in
        let first : masked (w ∷ []) (take 64 items) ≡ items_where_true (low_bits 64 w) (take 64 items) =
        masked-word w [] (take 64 items) (omega arith) ∙ ap (λ n. items_where_true (low_bits n w) (take 64 items)) size in
        let long : length items ≡ 64 + length (drop 64 items) = simp length-drop (omega arith) in
        ap₂ items_where_true (ap (λ n. first_bits n (w ∷ words)) long ∙ first_bits-cons (length (drop 64 items)) w words) (sym (take-append-drop 64 items))
        ∙ items_where_true-append (low_bits 64 w) (first_bits (length (drop 64 items)) words) (take 64 items) (drop 64 items) (length-low_bits 64 w ∙ sym size)
        ∙ ap (λ l. l ++ masked words (drop 64 items)) (sym first)

-- ---- one bit after another

-- the bits past the items make no difference
pub low_bits-mod : (n w : ℕ) → low_bits n (w % 2 ^ n) ≡ low_bits n w
unfolding low_bits
low_bits-mod zero w = refl
low_bits-mod (suc n) w =
    let m = w % 2 ^ suc n in
    let apart : m ≡ w / 2 % 2 ^ n * 2 + w % 2 = ap (λ k. w % 2 ^ k) (sym (add-one n)) ∙ mod-pow-add w n 1 in
    let lowest : m % 2 ≡ w % 2 = omega arith in
    let half : m / 2 ≡ w / 2 % 2 ^ n = omega arith in
    ap₂ (λ b l. b ∷ l) (ap (λ r. r == 1) lowest) (ap (low_bits n) half ∙ low_bits-mod n (w / 2))

pub masked-low : {T : Type 0} (w : ℕ) (items : List T) → length items ≤ 64 → masked (w % 2 ^ length items ∷ []) items ≡ masked (w ∷ []) items
masked-low w items few =
    masked-word (w % 2 ^ length items) [] items few ∙ ap (λ bits. items_where_true bits items) (low_bits-mod (length items) w)
    ∙ sym (masked-word w [] items few)

-- a word of 0s, and one of 1s
none_of_bits : {T : Type 0} (items : List T) → items_where_true (low_bits (length items) 0) items ≡ []
unfolding low_bits
none_of_bits [] = refl
none_of_bits (x ∷ items) = none_of_bits items

pub masked-zero : {T : Type 0} (items : List T) → length items ≤ 64 → masked (0 ∷ []) items ≡ []
masked-zero items few = masked-word 0 [] items few ∙ none_of_bits items

all_of_bits : {T : Type 0} (items : List T) (w : ℕ) → w ≡ 2 ^ length items - 1 → items_where_true (low_bits (length items) w) items ≡ items
unfolding low_bits
all_of_bits [] w is = refl
all_of_bits (x ∷ items) w is =
    let power = pow-suc 2 (length items) in
    let some = one-le-pow (length items) in
    let lowest : w % 2 ≡ 1 = omega arith in
    let half : w / 2 ≡ 2 ^ length items - 1 = omega arith in
    ap (λ r. items_where_true ((r == 1) ∷ low_bits (length items) (w / 2)) (x ∷ items)) lowest ∙ ap (λ l. x ∷ l) (all_of_bits items (w / 2) half)
  where
    one-le-pow : (k : ℕ) → 1 ≤ 2 ^ k
    one-le-pow k = omega (arith, ones_lt k)

pub masked-full : {T : Type 0} (items : List T) → length items ≡ 64 → masked ((2 ^ 64 - 1) ∷ []) items ≡ items
masked-full items full = masked-word (2 ^ 64 - 1) [] items (omega arith) ∙ all_of_bits items (2 ^ 64 - 1) (ap (λ n. 2 ^ n - 1) (sym full))

-- what is picked by the lowest bit, and by the others
turn : {T : Type 0} → T → List T → ℕ → ℕ → List T
turn x items lowest half = items_where_true ((lowest == 1) ∷ low_bits (length items) half) (x ∷ items)

-- a word picks at its lowest 1, and then what it picks without that bit
pub next_of_bits : {T : Type 0} (k w : ℕ) (items : List T) (d : T) → length items ≤ k → 0 < w → w < 2 ^ length items
    → items_where_true (low_bits (length items) w) items
    ≡ get_or items (count_trailing_zeros k w) d ∷ items_where_true (low_bits (length items) (bit_and w (w - 1))) items
unfolding low_bits count_trailing_zeros turn
next_of_bits k w [] d few some small = let no : ⊥ = omega arith in absurd no
next_of_bits zero w (x ∷ items) d few some small = absurd (omega arith)
next_of_bits (suc k) w (x ∷ items) d few some small =
    bit_cases (λ r. w % 2 ≡ r → turn x items (w % 2) (w / 2)
    ≡ get_or (x ∷ items) (under (w % 2) (count_trailing_zeros k (w / 2))) d ∷ turn x items (bit_and w (w - 1) % 2) (bit_and w (w - 1) / 2))
    (even (λ below. next_of_bits k (w / 2) items d (omega arith) below (omega (arith, pow-suc 2 (length items))))) odd (w % 2) (mod-lt w (zero-lt-suc 1)) refl
  where
    Next : Type 0
    Next = turn x items (w % 2) (w / 2)
        ≡ get_or (x ∷ items) (under (w % 2) (count_trailing_zeros k (w / 2))) d ∷ turn x items (bit_and w (w - 1) % 2) (bit_and w (w - 1) / 2)

    odd : w % 2 ≡ 1 → Next
    odd e =
        let y = bit_and w (w - 1) in
        let half : (w - 1) / 2 ≡ w / 2 = omega arith in
        let low : min (w % 2) ((w - 1) % 2) ≡ 0 = omega arith in
        let is : y ≡ w / 2 * 2 + 0 = and_step w (w - 1) ∙ ap₂ (λ u v. u * 2 + v) (ap (bit_and (w / 2)) half ∙ and_self (w / 2)) low in
        let p : y % 2 ≡ 0 = omega arith in
        let q : y / 2 ≡ w / 2 = omega arith in
        ap (λ r. turn x items r (w / 2)) e
        ∙ sym (ap₂ (λ u v. u ∷ v) (ap (λ r. get_or (x ∷ items) (under r (count_trailing_zeros k (w / 2))) d) e) (ap₂ (turn x items) p q))

    even : (0 < w / 2 → items_where_true (low_bits (length items) (w / 2)) items
        ≡ get_or items (count_trailing_zeros k (w / 2)) d ∷ items_where_true (low_bits (length items) (bit_and (w / 2) (w / 2 - 1))) items) → w % 2 ≡ 0 → Next
    even below e =
        let y = bit_and w (w - 1) in
        let half : (w - 1) / 2 ≡ w / 2 - 1 = omega arith in
        let low : min (w % 2) ((w - 1) % 2) ≡ 0 = omega arith in
        let z = bit_and (w / 2) (w / 2 - 1) in
        let is : y ≡ z * 2 + 0 = and_step w (w - 1) ∙ ap₂ (λ u v. u * 2 + v) (ap (bit_and (w / 2)) half) low in
        let p : y % 2 ≡ 0 = omega arith in
        let q : y / 2 ≡ z = omega arith in
        ap (λ r. turn x items r (w / 2)) e ∙ below (omega arith)
        ∙ sym (ap₂ (λ u v. u ∷ v) (ap (λ r. get_or (x ∷ items) (under r (count_trailing_zeros k (w / 2))) d) e) (ap₂ (turn x items) p q))

pub masked-next : {T : Type 0} (w : ℕ) (items : List T) (d : T) → length items ≤ 64 → 0 < w → w < 2 ^ length items
    → masked (w ∷ []) items ≡ get_or items (count_trailing_zeros 64 w) d ∷ masked (bit_and w (w - 1) ∷ []) items
masked-next w items d few some small =
    masked-word w [] items few ∙ next_of_bits 64 w items d few some small
    ∙ ap (λ l. get_or items (count_trailing_zeros 64 w) d ∷ l) (sym (masked-word (bit_and w (w - 1)) [] items few))

-- the lowest 1 is among the bits
pub lowest_within : (k n w : ℕ) → n ≤ k → 0 < w → w < 2 ^ n → count_trailing_zeros k w < n
unfolding count_trailing_zeros
lowest_within k zero w few some small = absurd (omega arith)
lowest_within zero (suc n) w few some small = absurd (omega arith)
lowest_within (suc k) (suc n) w few some small =
    bit_cases (λ r. w % 2 ≡ r → under r (count_trailing_zeros k (w / 2)) < suc n)
    (λ e. let t = lowest_within k n (w / 2) (omega arith) (omega arith) (omega (arith, pow-suc 2 n)) in omega arith) (λ e. omega arith) (w % 2) (mod-lt w (zero-lt-suc 1)) refl

pub fewer_bits : (w : ℕ) → 0 < w → bit_and w (w - 1) < w
fewer_bits w some = omega (arith, and_le_r w (w - 1))

-- a word of 64 1s has 64 items
pub full_length : (n : ℕ) → n ≤ 64 → 2 ^ 64 - 1 < 2 ^ n → n ≡ 64
full_length n few enough = go (cases_lt n 64)
  where
    go : ((n < 64) ⊎ (64 ≤ n)) → n ≡ 64
    go (inl below) = let least : n ≤ 63 = omega arith in absurd (omega (arith, pow_mono least))
    go (inr full) = omega arith
