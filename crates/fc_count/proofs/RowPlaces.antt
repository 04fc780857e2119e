-- The places of the rows that numbers have.
use Rattle.std.proofs.Common.{◌≡◌, ◌<◌, ℕ, ℤ, Bool, true, List, ◌++◌, map, get_or, All, sym, ap, subst, ◌∙◌, arith, nat_lt, lt-ltb}
use Rattle.std.proofs.lemmas.Bool.{ltb-true}
use Rattle.std.specs.Ordering.{int_eq}
use Rattle.std.proofs.lemmas.Simd.{map-map}
use Rattle.std.proofs.lemmas.List.{get_or-map, length-map, map-append}
use Rattle.std.proofs.lemmas.List.Elements.{filter-append}
use Rattle.std.proofs.lemmas.List.Sorted.{All-permutation}
use Rattle.std.specs.Prelude.{IsPermutation}
use Rattle.fc_spec.specs.documents.Document.{Block}
use Rattle.fc_spec.specs.documents.World.{Place}
use Rattle.fc_kind.specs.PlaceAt.{place_at}
use Rattle.fc_count.specs.Counting.{Counting}
use Rattle.fc_count.specs.Countings.{counted_at}
use Rattle.fc_count.specs.declared.countings.Entry.{Entry}
use Rattle.fc_count.specs.Rows.{entries_of}
use Rattle.fc_count.specs.Runs.{places_of}
use Rattle.fc_count.proofs.CountedBuckets.{filter-map}

abbrev pub place_of : List Block → List ℕ → Entry → Place
place_of blocks ps e = place_at blocks (get_or ps e.row 0)

abbrev pub row_places : List Block → List ℕ → List Entry → List Place
row_places blocks ps es = map (place_of blocks ps) es

-- those of a number
abbrev pub number_places : List Block → List ℕ → List Entry → ℤ → List Place
number_places blocks ps es n = row_places blocks ps (entries_of n es)

pub number_places-append : (blocks : List Block) (ps : List ℕ) (xs ys : List Entry) (n : ℤ) → number_places blocks ps (xs ++ ys) n ≡ number_places blocks ps xs n ++ number_places blocks ps ys n
number_places-append blocks ps xs ys n =
    ap (row_places blocks ps) (filter-append (λ e. int_eq e.number n) xs ys) ∙ map-append (place_of blocks ps) (entries_of n xs) (entries_of n ys)

-- they are those of the countings that the rows stand for
pub same_places : (blocks : List Block) (ps : List ℕ) (es : List Entry) (n : ℤ) → number_places blocks ps es n ≡ places_of blocks (counted_at ps es) n
same_places blocks ps es n =
    let counting : Entry → Counting = λ e. record { number = e.number; at = get_or ps e.row 0 } in
    sym (ap (λ l. map (place_at blocks) (map (λ c. c.at) l)) (filter-map (λ (c : Counting). int_eq c.number n) counting es)
    ∙ ap (map (place_at blocks)) (map-map (λ (c : Counting). c.at) counting (entries_of n es))
    ∙ map-map (place_at blocks) (λ (e : Entry). get_or ps e.row 0) (entries_of n es))

-- what is so of each counting is so of what it stands for
pub all_entries : (P : ℤ → Type 0) (ps : List ℕ) (es : List Entry) → All (λ c. P c.number) (counted_at ps es) → All (λ e. P e.number) es
all_entries P ps es all = λ k d inside.
    let counting : Entry → Counting = λ e. record { number = e.number; at = get_or ps e.row 0 } in
    subst (λ (c : Counting). P c.number) (get_or-map counting es k d (counting d) inside) (all k (counting d) (omega (arith, inside, length-map es counting)))

pub all_below : (total : ℕ) (cs : List Counting) (ps : List ℕ) → All (λ c. c.at < total) cs → ((p : ℕ → Bool) → All (λ c. p c.at ≡ true) cs → All (λ at. p at ≡ true) ps) → All (λ at. at < total) ps
all_below total cs ps there counted = λ k d inside.
    ltb-true (get_or ps k d) total (counted (λ at. nat_lt at total) (λ j c within. lt-ltb (get_or cs j c).at total (there j c within)) k d inside)

-- the places of each number, after a sort
pub sorted_places : (blocks : List Block) (ps : List ℕ) (es all : List Entry) (cs : List Counting) → counted_at ps es ≡ cs → ((n : ℤ) → entries_of n all ≡ entries_of n es)
    → (n : ℤ) → number_places blocks ps all n ≡ places_of blocks cs n
sorted_places blocks ps es all cs view same n = ap (row_places blocks ps) (same n) ∙ same_places blocks ps es n ∙ ap (λ l. places_of blocks l n) view

-- what is so of each number is so after a sort
pub sorted_numbers : (P : ℤ → Type 0) (ps : List ℕ) (es sorted all : List Entry) (cs : List Counting) → counted_at ps es ≡ cs → IsPermutation es sorted → all ≡ sorted
    → All (λ c. P c.number) cs → All (λ e. P e.number) all
sorted_numbers P ps es sorted all cs view moved same has =
    subst (All (λ (e : Entry). P e.number)) (sym same) (All-permutation (λ (e : Entry). P e.number) es sorted moved (all_entries P ps es (subst (All (λ (c : Counting). P c.number)) (sym view) has)))
