-- How many positions of a set stand before one.
use Rattle.std.proofs.Common.{◌≡◌, ℕ, zero, suc, ◌+◌, ◌<◌, ◌≤◌, Bool, true, false, cond, List, [], ◌∷◌, length, get_or, take, count_by, refl, sym, ap, ap₂, ◌∙◌, arith}
use Rattle.std.specs.List.{items_where_true}
use Rattle.std.proofs.lemmas.List.{take_all}
use Rattle.fc_spec.specs.documents.Bits.{HasBits}
use Rattle.fc_spec.proofs.words.Counting.{count_by-cons}
use Rattle.fc_docset.specs.Positions.{contains}
use Rattle.fc_lists.specs.Kept.{kept_before}
use Rattle.fc_lists.specs.Ranks.{bits_below}
use Rattle.fc_lists.proofs.BitRanks.{bits_below-next}

one_if : Bool → ℕ
one_if b = cond b 1 0

pub kept_before-cons : (h : Bool) (set : List Bool) (at : ℕ) → kept_before (h ∷ set) (suc at) ≡ cond h 1 0 + kept_before set at
kept_before-cons h set at = count_by-cons (λ here. here) h (take at set)

pub kept_before-next : (set : List Bool) (at : ℕ) → kept_before set (suc at) ≡ kept_before set at + cond (contains set at) 1 0
kept_before-next [] zero = refl
kept_before-next [] (suc at) = refl
kept_before-next (h ∷ set) zero = kept_before-cons h set 0 ∙ omega arith
kept_before-next (h ∷ set) (suc at) =
    let rest = kept_before-next set at in
    omega (arith, kept_before-cons h set (suc at), kept_before-cons h set at, rest)

-- the bits that are 1 are the positions in the set
pub bits_are : (words : List ℕ) (set : List Bool) → HasBits words set → (at : ℕ) → bits_below at words ≡ kept_before set at
bits_are words set is zero = refl
bits_are words set is (suc at) =
    let more : suc at ≡ at + 1 = omega arith in
    ap (λ n. bits_below n words) more ∙ bits_below-next at words ∙ ap₂ (λ n b. n + cond b 1 0) (bits_are words set is at) (is at) ∙ sym (kept_before-next set at)

pub kept_before-all : (set : List Bool) (at : ℕ) → length set ≤ at → kept_before set at ≡ count_by (λ here. here) set
kept_before-all set at past = ap (count_by (λ here. here)) (take_all at set past)

pub kept_before-most : (set : List Bool) (at : ℕ) → kept_before set at ≤ count_by (λ here. here) set
kept_before-most set zero = omega arith
kept_before-most [] (suc at) = omega arith
kept_before-most (h ∷ set) (suc at) =
    let rest = kept_before-most set at in
    omega (arith, kept_before-cons h set at, count_by-cons (λ here. here) h set, rest)

-- a position in the set has one more behind it than before
pub kept_before-less : (set : List Bool) (at : ℕ) → contains set at ≡ true → kept_before set at < count_by (λ here. here) set
kept_before-less [] at here = absurd cc
kept_before-less (h ∷ set) zero here =
    let one = ap (λ b. cond {A = ℕ} b 1 0) here in
    omega (arith, count_by-cons (λ x. x) h set, one)
kept_before-less (h ∷ set) (suc at) here =
    let rest = kept_before-less set at here in
    omega (arith, kept_before-cons h set at, count_by-cons (λ x. x) h set, rest)

-- ---- where a position goes

pub kept_at : {X : Type 0} (set : List Bool) (xs : List X) (at : ℕ) (d : X) → length set ≡ length xs → contains set at ≡ true → get_or (items_where_true set xs) (kept_before set at) d ≡ get_or xs at d
kept_at [] xs at d long here = absurd cc
kept_at (h ∷ set) [] at d long here = absurd (omega arith)
kept_at (true ∷ set) (x ∷ xs) zero d long here = refl
kept_at (true ∷ set) (x ∷ xs) (suc at) d long here =
    let more : kept_before (true ∷ set) (suc at) ≡ suc (kept_before set at) = omega (arith, kept_before-cons true set at) in
    ap (λ n. get_or (x ∷ items_where_true set xs) n d) more ∙ kept_at set xs at d (omega arith) here
kept_at (false ∷ set) (x ∷ xs) zero d long here = absurd cc
kept_at (false ∷ set) (x ∷ xs) (suc at) d long here =
    let more : kept_before (false ∷ set) (suc at) ≡ kept_before set at = omega (arith, kept_before-cons false set at) in
    ap (λ n. get_or (items_where_true set xs) n d) more ∙ kept_at set xs at d (omega arith) here

-- two positions do not go to one
pub kept_apart : (set : List Bool) (at other : ℕ) → contains set at ≡ true → contains set other ≡ true → kept_before set at ≡ kept_before set other → at ≡ other
kept_apart [] at other here there same = absurd cc
kept_apart (h ∷ set) zero zero here there same = refl
kept_apart (h ∷ set) zero (suc other) here there same =
    let one = ap (λ b. cond {A = ℕ} b 1 0) here in
    absurd (omega (arith, kept_before-cons h set other, one, same))
kept_apart (h ∷ set) (suc at) zero here there same =
    let one = ap (λ b. cond {A = ℕ} b 1 0) there in
    absurd (omega (arith, kept_before-cons h set at, one, same))
kept_apart (h ∷ set) (suc at) (suc other) here there same =
    let rest = kept_apart set at other here there (omega (arith, kept_before-cons h set at, kept_before-cons h set other, same)) in
    omega arith

-- the position that goes to a place
pub record GoesTo (set : List Bool) (place : ℕ) : Type 0 where
  pub from : ℕ
  pub here : contains set from ≡ true
  pub is : kept_before set from ≡ place

pub came_from : (set : List Bool) (place : ℕ) → place < count_by (λ here. here) set → GoesTo set place
came_from [] place less = absurd (omega arith)
came_from (true ∷ set) zero less = record { from = 0; here = refl; is = refl }
came_from (true ∷ set) (suc place) less =
    let rest = came_from set place (omega (arith, count_by-cons (λ x. x) true set)) in
    record { from = suc rest.from; here = rest.here; is = omega (arith, kept_before-cons true set rest.from, rest.is) }
came_from (false ∷ set) place less =
    let rest = came_from set place (omega (arith, count_by-cons (λ x. x) false set)) in
    record { from = suc rest.from; here = rest.here; is = omega (arith, kept_before-cons false set rest.from, rest.is) }

pub length-items_where_true : {X : Type 0} (set : List Bool) (xs : List X) → length set ≡ length xs → length (items_where_true set xs) ≡ count_by (λ here. here) set
length-items_where_true [] [] e = refl
length-items_where_true [] (x ∷ xs) e = absurd (omega arith)
length-items_where_true (h ∷ set) [] e = absurd (omega arith)
length-items_where_true (true ∷ set) (x ∷ xs) e = let rest = length-items_where_true set xs (omega arith) in omega (arith, count_by-cons (λ h. h) true set, rest)
length-items_where_true (false ∷ set) (x ∷ xs) e = let rest = length-items_where_true set xs (omega arith) in omega (arith, count_by-cons (λ h. h) false set, rest)
