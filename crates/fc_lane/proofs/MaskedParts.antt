-- The values of one word, and those behind them.
use Rattle.std.proofs.Common.{◌≡◌, ℕ, suc, ◌+◌, ◌%◌, ◌^◌, ◌<◌, ◌≤◌, ◌⊎◌, inl, inr, min, List, [], ◌∷◌, ◌++◌, length, get_or, take, drop, sym, ap, ap₂, ◌∙◌, arith, sum_by, take-append-drop, drop-cons, add-one}
use Rattle.std.proofs.lemmas.Bool.{cases_lt}
use Rattle.std.proofs.lemmas.List.{take_min, length-take}
use Rattle.std.proofs.lemmas.List.Sums.{sum_by-append}
use Rattle.std.proofs.Math.ListN.{drop_of_length-le}
use Rattle.fc_lane.specs.Masked.{masked}
use Rattle.fc_lane.proofs.MaskedWords.{masked-cons, masked-low, masked-nil}

pub take-min : {T : Type 0} (items : List T) → take (min (length items) 64) items ≡ take 64 items
take-min items =
    let turned : min (length items) 64 ≡ min 64 (length items) = omega arith in
    ap (λ n. take n items) turned ∙ take_min 64 items

pub drop-min : {T : Type 0} (items : List T) → drop (min (length items) 64) items ≡ drop 64 items
drop-min items = go (cases_lt (length items) 64)
  where
    go : ((length items < 64) ⊎ (64 ≤ length items)) → drop (min (length items) 64) items ≡ drop 64 items
    go (inl below) =
        let least : length items ≤ min (length items) 64 = omega arith in
        let few : length items ≤ 64 = omega arith in
        drop_of_length-le items least ∙ sym (drop_of_length-le items few)
    go (inr enough) =
        let all : min (length items) 64 ≡ 64 = omega arith in
        ap (λ n. drop n items) all

pub sum_of_parts : {T : Type 0} (f : T → ℕ) (items : List T) → sum_by f items ≡ sum_by f (take 64 items) + sum_by f (drop 64 items)
sum_of_parts f items = ap (sum_by f) (sym (take-append-drop 64 items)) ∙ sum_by-append f (take 64 items) (drop 64 items)

pub few_in_part : {T : Type 0} (items : List T) → length (take 64 items) ≤ 64
few_in_part items = omega (arith, length-take 64 items)

-- what the words from one on pick: that of this word, of which only the bits of its own items count, and that of the words behind it
pub masked-turn : {T : Type 0} (mask : List ℕ) (i word : ℕ) (rest part behind : List T) → i < length mask → part ≡ take 64 rest → behind ≡ drop 64 rest
    → word ≡ get_or mask i 0 % 2 ^ length part → masked (drop i mask) rest ≡ masked (word ∷ []) part ++ masked (drop (i + 1) mask) behind
masked-turn mask i word rest part behind within part_is behind_is word_is =
    ap (λ words. masked words rest) (drop-cons mask i 0 within) ∙ masked-cons (get_or mask i 0) (drop (suc i) mask) rest
    ∙ ap₂ (λ a b. a ++ b) (sym first) (ap₂ masked (ap (λ n. drop n mask) (sym (add-one i))) (sym behind_is))
  where
    few : length part ≤ 64
    few = omega (arith, ap length part_is, few_in_part rest)

    first : masked (word ∷ []) part ≡ masked (get_or mask i 0 ∷ []) (take 64 rest)
    first = ap (λ w. masked (w ∷ []) part) word_is ∙ masked-low (get_or mask i 0) part few ∙ ap (masked (get_or mask i 0 ∷ [])) part_is

-- behind the last word nothing is picked
pub masked-end : {T : Type 0} (mask : List ℕ) (i : ℕ) (rest : List T) → length mask ≤ i → masked (drop i mask) rest ≡ []
masked-end mask i rest past = ap (λ words. masked words rest) (drop_of_length-le mask past) ∙ masked-nil rest
