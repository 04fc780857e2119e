-- The first bits of words, as a list.
use Rattle.std.proofs.Common.{◌≡◌, ℕ, zero, suc, ◌+◌, ◌/◌, ◌%◌, ◌<◌, ◌≤◌, ◌⊎◌, inl, inr, Bool, true, false, ◌||◌, ◌==◌, List, [], ◌∷◌, length, get_or, take, get_or-take, set, replicate, refl, sym, ap, ap₂, ◌∙◌, arith, eq-eqb, ne_eqb}
use Rattle.std.proofs.lemmas.List.{get_or-set_same, get_or-set_other, get_or-replicate, get_or_past, length-replicate, length-set}
use Rattle.std.proofs.lemmas.List.FromFn.{length-map-range_with_len, get_or-map-range_with_len, fill_by_all}
use Rattle.std.proofs.lemmas.Bool.{cases_eq, cases_lt}
use Rattle.std.specs.Int.{bit_at}
use Rattle.fc_spec.specs.documents.Bits.{has_bit, first_bits, HasBits}
use Rattle.fc_spec.specs.documents.Sets.{zip_with}
use Rattle.fc_spec.proofs.words.WhereTrue.{length-zip_with}

pub length-first_bits : (len : ℕ) (words : List ℕ) → length (first_bits len words) ≡ len
length-first_bits len words = length-map-range_with_len (has_bit words) 0 len

-- the length is that of the list
pub length_of : (len : ℕ) (words : List ℕ) (bits : List Bool) → first_bits len words ≡ bits → length bits ≡ len
length_of len words bits is = sym (ap length is) ∙ length-first_bits len words

pub get_or-first_bits : (len : ℕ) (words : List ℕ) (k : ℕ) → k < len → get_or (first_bits len words) k false ≡ has_bit words k
get_or-first_bits len words k within = get_or-map-range_with_len (has_bit words) 0 len k k false within (omega arith)

-- the list that says of each position whether its bit is 1
pub first_bits_is : (len : ℕ) (words : List ℕ) (bits : List Bool) → length bits ≡ len → ((k : ℕ) → k < len → has_bit words k ≡ get_or bits k false)
    → first_bits len words ≡ bits
first_bits_is len words bits size same = sym (fill_by_all (has_bit words) bits len false size (λ k within. sym (same k within)))

-- words with no bit past the length have the bits of that list
pub HasBits-first_bits : (len : ℕ) (words : List ℕ) → ((k : ℕ) → len ≤ k → has_bit words k ≡ false) → HasBits words (first_bits len words)
HasBits-first_bits len words none k = go (cases_lt k len)
  where
    go : ((k < len) ⊎ (len ≤ k)) → has_bit words k ≡ get_or (first_bits len words) k false
    go (inl within) = sym (get_or-first_bits len words k within)
    go (inr past) = none k past ∙ sym (get_or_past (first_bits len words) k false (omega (arith, length-first_bits len words)))

pub first_bits_same : (len : ℕ) (words others : List ℕ) → ((k : ℕ) → k < len → has_bit words k ≡ has_bit others k)
    → first_bits len words ≡ first_bits len others
first_bits_same len words others same =
    first_bits_is len words (first_bits len others) (length-first_bits len others)
    (λ k within. same k within ∙ sym (get_or-first_bits len others k within))

pub first_bits_all : (len : ℕ) (words : List ℕ) (bit : Bool) → ((k : ℕ) → k < len → has_bit words k ≡ bit) → first_bits len words ≡ replicate len bit
first_bits_all len words bit same =
    first_bits_is len words (replicate len bit) (length-replicate len bit)
    (λ k within. same k within ∙ sym (get_or-replicate len k bit false within))

-- the words that hold the first bits are enough
pub first_bits_of_front : (len : ℕ) (words : List ℕ) → first_bits len (take ((len + 63) / 64) words) ≡ first_bits len words
unfolding has_bit
first_bits_of_front len words =
    first_bits_same len (take ((len + 63) / 64) words) words
    (λ k within. ap (λ word. bit_at word (k % 64) == 1) (get_or-take ((len + 63) / 64) words (k / 64) 0 (omega arith)))

-- a position is added
pub first_bits-add : (len at : ℕ) (old new : List ℕ) (bits : List Bool) → first_bits len old ≡ bits → at < len
    → ((k : ℕ) → has_bit new k ≡ (has_bit old k || (k == at))) → first_bits len new ≡ set bits at true
first_bits-add len at old new bits is below added =
    first_bits_is len new (set bits at true) (length-set bits at true ∙ size) (λ k within. go k within (cases_eq k at))
  where
    size : length bits ≡ len
    size = length_of len old bits is

    or_last : (a b : Bool) → (b ≡ true → (a || b) ≡ true) × (b ≡ false → (a || b) ≡ a)
    or_last true b = (λ e. refl, λ e. refl)
    or_last false b = (λ e. e, λ e. e)

    go : (k : ℕ) → k < len → ((k ≡ at) ⊎ (k ≡ at → ⊥)) → has_bit new k ≡ get_or (set bits at true) k false
    go k within (inl here) =
        added k ∙ (or_last (has_bit old k) (k == at)).0 (eq-eqb k at here)
        ∙ sym (ap (λ j. get_or (set bits at true) j false) here ∙ get_or-set_same bits at true false (omega (arith, size)))
    go k within (inr other) =
        added k ∙ (or_last (has_bit old k) (k == at)).1 (ne_eqb k at other)
        ∙ sym (get_or-first_bits len old k within) ∙ ap (λ l. get_or l k false) is
        ∙ sym (get_or-set_other bits at k true false other)

-- ---- two sets joined position by position
pub get_or-zip_with : (join : Bool → Bool → Bool) (bits others : List Bool) (k : ℕ) → length bits ≡ length others → k < length bits
    → get_or (zip_with join bits others) k false ≡ join (get_or bits k false) (get_or others k false)
get_or-zip_with join [] others k size within = absurd (omega arith)
get_or-zip_with join (bit ∷ bits) [] k size within = absurd (omega arith)
get_or-zip_with join (bit ∷ bits) (other ∷ others) zero size within = refl
get_or-zip_with join (bit ∷ bits) (other ∷ others) (suc k) size within = get_or-zip_with join bits others k (omega arith) (omega arith)

pub first_bits-zip_with : (join : Bool → Bool → Bool) (len other_len : ℕ) (old others new : List ℕ) (bits other_bits : List Bool)
    → first_bits len old ≡ bits → first_bits other_len others ≡ other_bits → length bits ≡ length other_bits
    → ((k : ℕ) → has_bit new k ≡ join (has_bit old k) (has_bit others k)) → first_bits len new ≡ zip_with join bits other_bits
first_bits-zip_with join len other_len old others new bits other_bits is other_is size joined =
    first_bits_is len new (zip_with join bits other_bits) (length-zip_with join bits other_bits size ∙ long) (λ k within.
    joined k
    ∙ ap₂ join
    (sym (get_or-first_bits len old k within) ∙ ap (λ l. get_or l k false) is)
    (sym (get_or-first_bits other_len others k (omega (arith, long, other_long, size))) ∙ ap (λ l. get_or l k false) other_is)
    ∙ sym (get_or-zip_with join bits other_bits k size (omega (arith, long))))
  where
    long : length bits ≡ len
    long = length_of len old bits is

    other_long : length other_bits ≡ other_len
    other_long = length_of other_len others other_bits other_is

-- words that join two without a bit past the length have none
pub none_joined : (join : Bool → Bool → Bool) (len other_len : ℕ) (old others new : List ℕ) → join false false ≡ false → len ≡ other_len
    → ((k : ℕ) → len ≤ k → has_bit old k ≡ false) → ((k : ℕ) → other_len ≤ k → has_bit others k ≡ false)
    → ((k : ℕ) → has_bit new k ≡ join (has_bit old k) (has_bit others k)) → (k : ℕ) → len ≤ k → has_bit new k ≡ false
none_joined join len other_len old others new both_false same none none_other joined k past =
    joined k ∙ ap₂ join (none k past) (none_other k (omega arith)) ∙ both_false

-- nor do words with a bit set below the length
pub none_added : (len at : ℕ) (old new : List ℕ) → at < len → ((k : ℕ) → len ≤ k → has_bit old k ≡ false)
    → ((k : ℕ) → has_bit new k ≡ (has_bit old k || (k == at))) → (k : ℕ) → len ≤ k → has_bit new k ≡ false
none_added len at old new below none added k past =
    added k ∙ ap₂ (λ a b. a || b) (none k past) (ne_eqb k at (omega arith))
