-- How many of the first bits are 1, one word after another, and how many items they pick.
use Rattle.std.proofs.Common.{◌≡◌, ℕ, zero, suc, Bool, true, false, replicate, refl, ◌+◌, ◌-◌, ◌%◌, ◌^◌, ◌<◌, ◌≤◌, ◌⊎◌, inl, inr, min, cond, List, [], ◌∷◌, ◌++◌, length, get_or, drop, count_by, sym, ap, ap₂, ◌∙◌, arith, drop-cons, add-one, mod-lt, append-nil}
use Rattle.std.specs.Int.Count.{ones}
use Rattle.std.specs.List.{items_where_true}
use Rattle.std.proofs.lemmas.Bool.{cases_lt}
use Rattle.std.proofs.lemmas.List.Sums.{sum_by-append, sum_by-cons, count_by-le-length}
use Rattle.std.proofs.Math.ListN.{drop_of_length-le}
use Rattle.std.proofs.lemmas.Nat.{pow_pos}
use Rattle.fc_spec.specs.documents.Bits.{first_bits}
use Rattle.fc_lane.specs.Masked.{masked}
use Rattle.fc_lane.proofs.BitLists.{length-first_bits}
use Rattle.fc_lane.proofs.LowBits.{low_bits, count_by-low_bits}
use Rattle.fc_lane.proofs.WholeWords.{first_bits-cons}
use Rattle.fc_lane.proofs.MaskedWords.{first_bits-word, first_bits-nil, low_bits-mod}

-- those of the first word, and those of the others
first_bits-turn : (left w : ℕ) (words : List ℕ) → first_bits left (w ∷ words) ≡ low_bits (min left 64) w ++ first_bits (left - min left 64) words
first_bits-turn left w words = go (cases_lt left 64)
  where
    go : ((left < 64) ⊎ (64 ≤ left)) → first_bits left (w ∷ words) ≡ low_bits (min left 64) w ++ first_bits (left - min left 64) words
    go (inl below) =
        let here : left ≡ min left 64 = omega arith in
        let none : 0 ≡ left - min left 64 = omega arith in
        first_bits-word left w words (omega arith) ∙ sym (append-nil (low_bits left w))
        ∙ ap₂ (λ n m. low_bits n w ++ first_bits m words) here none
    go (inr enough) =
        let here : 64 ≡ min left 64 = omega arith in
        let all : left ≡ 64 + (left - min left 64) = omega arith in
        ap (λ n. first_bits n (w ∷ words)) all ∙ first_bits-cons (left - min left 64) w words
        ∙ ap (λ n. low_bits n w ++ first_bits (left - min left 64) words) here

count_of_word : (here w : ℕ) → count_by (λ b. b) (low_bits here w) ≡ ones (w % 2 ^ here)
count_of_word here w = ap (count_by (λ b. b)) (sym (low_bits-mod here w)) ∙ count_by-low_bits here (w % 2 ^ here) (mod-lt w (pow_pos here))

-- the 1s of the words from one on
pub count-turn : (mask : List ℕ) (i left here word : ℕ) → i < length mask → here ≡ min left 64 → word ≡ get_or mask i 0 % 2 ^ here
    → count_by (λ b. b) (first_bits left (drop i mask)) ≡ ones word + count_by (λ b. b) (first_bits (left - here) (drop (i + 1) mask))
count-turn mask i left here word within here_is word_is =
    ap (λ words. count_by (λ b. b) (first_bits left words)) (drop-cons mask i 0 within)
    ∙ ap (count_by (λ b. b)) (first_bits-turn left (get_or mask i 0) (drop (suc i) mask))
    ∙ sum_by-append (λ b. cond b 1 0) (low_bits (min left 64) (get_or mask i 0)) (first_bits (left - min left 64) (drop (suc i) mask))
    ∙ ap (λ n. count_by (λ b. b) (low_bits n (get_or mask i 0)) + count_by (λ b. b) (first_bits (left - n) (drop (suc i) mask))) (sym here_is)
    ∙ ap₂ (λ m n. m + count_by (λ b. b) (first_bits (left - here) (drop n mask))) (count_of_word here (get_or mask i 0) ∙ ap ones (sym word_is)) (sym (add-one i))

pub count_at_most : (len : ℕ) (mask : List ℕ) → count_by (λ b. b) (first_bits len mask) ≤ len
count_at_most len mask = omega (arith, count_by-le-length (λ b. b) (first_bits len mask), length-first_bits len mask)

-- behind the last word there is none
pub count-end : (mask : List ℕ) (i left : ℕ) → length mask ≤ i → count_by (λ b. b) (first_bits left (drop i mask)) ≡ 0
count-end mask i left past =
    ap (λ words. count_by (λ b. b) (first_bits left words)) (drop_of_length-le mask past) ∙ ap (count_by (λ b. b)) (first_bits-nil left) ∙ go left
  where
    go : (n : ℕ) → count_by (λ b. b) (replicate n false) ≡ 0
    go zero = refl
    go (suc n) = go n

-- ---- how many items are picked
length_picked : {T : Type 0} (bits : List Bool) (items : List T) → length bits ≡ length items → length (items_where_true bits items) ≡ count_by (λ b. b) bits
length_picked [] items size = refl
length_picked (b ∷ bits) [] size = absurd (cc)
length_picked (true ∷ bits) (x ∷ items) size = omega (arith, length_picked bits items (omega arith), sum_by-cons (λ b. cond b 1 0) true bits)
length_picked (false ∷ bits) (x ∷ items) size = omega (arith, length_picked bits items (omega arith), sum_by-cons (λ b. cond b 1 0) false bits)

pub length-masked : {T : Type 0} (words : List ℕ) (items : List T) → length (masked words items) ≡ count_by (λ b. b) (first_bits (length items) words)
length-masked words items = length_picked (first_bits (length items) words) items (length-first_bits (length items) words)
