-- Which positions block steps put into a set.
use Rattle.std.proofs.Common.{◌≡◌, ℕ, zero, suc, refl, ◌+◌, ◌-◌, ◌<◌, ◌≤◌, ◌⊎◌, inl, inr, Bool, true, false, not, ◌&&◌, ◌||◌, List, [], ◌∷◌, ◌++◌, length, get_or, take, drop, replicate, sym, ap, ap₂, ◌∙◌, arith, get_or-take}
use Rattle.std.specs.List.{list_any}
use Rattle.std.proofs.lemmas.Bool.{false≢true, cases_eq, cases_lt, or_left, or_right}
use Rattle.std.proofs.lemmas.List.{get_or_append_left, get_or-append_right, get_or-replicate, get_or-drop, length-take-le, length-drop, length_push, length-replicate}
use Rattle.fc_spec.specs.documents.Document.{Block}
use Rattle.fc_spec.specs.documents.Totals.{documents_of, document_total}
use Rattle.fc_spec.specs.queries.Query.{all}
use Rattle.fc_spec.specs.requests.DomainSets.{by_blocks, to_parent, to_children}
use Rattle.fc_docset.specs.Positions.{contains}
use Rattle.fc_segment.specs.Parents.{parents_in}
use Rattle.fc_segment.specs.BlockPositions.{first_in_block, parent_in_block}
use Rattle.fc_segment.proofs.BlockMarks.{size_of, total_of, first_here, first_later, parent_here, parent_later, mark_of_child, mark_of_parent, mark_later}

-- some position of a list is true, and none
some_at : (xs : List Bool) (j : ℕ) → get_or xs j false ≡ true → list_any (λ here. here) xs ≡ true
some_at [] j h = absurd (false≢true h)
some_at (x ∷ xs) zero h = or_left x (list_any (λ here. here) xs) h
some_at (x ∷ xs) (suc j) h = or_right x (list_any (λ here. here) xs) (some_at xs j h)

none_at : (xs : List Bool) → ((j : ℕ) → j < length xs → get_or xs j false ≡ false) → list_any (λ here. here) xs ≡ false
none_at [] h = refl
none_at (x ∷ xs) h = ap₂ (λ a b. a || b) (h 0 (omega arith)) (none_at xs (λ j below. h (suc j) (omega arith)))

-- ---- what is made of the first block, and of later ones

length-row : (c : ℕ) (a b : Bool) → length (replicate c a ++ b ∷ []) ≡ c + 1
length-row c a b = length_push (replicate c a) b ∙ ap (λ n. n + 1) (length-replicate c a)

row_of_children : (c : ℕ) (a b : Bool) (rest : List Bool) (k : ℕ) → k < c → contains ((replicate c a ++ b ∷ []) ++ rest) k ≡ a
row_of_children c a b rest k h =
    get_or_append_left (replicate c a ++ b ∷ []) rest false k (omega (arith, length-row c a b))
    ∙ get_or_append_left (replicate c a) (b ∷ []) false k (omega (arith, length-replicate c a))
    ∙ get_or-replicate c k a false h

row_of_parent : (c : ℕ) (a b : Bool) (rest : List Bool) → contains ((replicate c a ++ b ∷ []) ++ rest) c ≡ b
row_of_parent c a b rest =
    let none : c - c ≡ 0 = omega arith in
    get_or_append_left (replicate c a ++ b ∷ []) rest false c (omega (arith, length-row c a b))
    ∙ get_or-append_right (replicate c a) (b ∷ []) c c false (length-replicate c a) (omega arith)
    ∙ ap (λ k. get_or (b ∷ []) k false) none

row_later : (b : Block) (row rest : List Bool) (k : ℕ) → length row ≡ length b.children + 1 → length (documents_of b) ≤ k → contains (row ++ rest) k ≡ contains rest (k - length (documents_of b))
row_later b row rest k size h = get_or-append_right row rest (length (documents_of b)) k false (size ∙ sym (size_of b)) h

-- a later position of a set
set_later : (n : ℕ) (set : List Bool) (j : ℕ) → contains (drop n set) j ≡ contains set (n + j)
set_later n set j = get_or-drop n set j false

set_back : (n : ℕ) (set : List Bool) (j : ℕ) → n ≤ j → contains (drop n set) (j - n) ≡ contains set j
set_back n set j h = set_later n set (j - n) ∙ ap (contains set) (let e : n + (j - n) ≡ j = omega arith in e)

-- ---- parents

-- the parents in whose block something of the set stands
abbrev pub gathered : List Block → List Bool → List Bool
gathered blocks set = by_blocks (to_parent all) blocks set

pub record IsGathered (blocks : List Block) (set : List Bool) (k : ℕ) : Type 0 where
  pub child : contains (parents_in blocks) k ≡ false → contains (gathered blocks set) k ≡ false
  pub some : (j : ℕ) → first_in_block blocks k ≤ j → j ≤ k → contains set j ≡ true → contains (parents_in blocks) k ≡ true → contains (gathered blocks set) k ≡ true
  pub none : ((j : ℕ) → first_in_block blocks k ≤ j → j ≤ k → contains set j ≡ false) → contains (gathered blocks set) k ≡ false

gathered_here : (b : Block) (blocks : List Block) (set : List Bool) (k : ℕ) → length set ≡ document_total (b ∷ blocks) → k < length (documents_of b) → IsGathered (b ∷ blocks) set k
gathered_here b blocks set k size h = go (cases_eq k (length b.children))
  where
    n : ℕ
    n = length (documents_of b)

    front : List Bool
    front = take n set

    any : Bool
    any = list_any (λ here. here) front

    long : length front ≡ n
    long = length-take-le n set (omega (arith, total_of b blocks))

    rest : List Bool
    rest = by_blocks (to_parent all) blocks (drop n set)

    go : ((k ≡ length b.children) ⊎ (k ≡ length b.children → ⊥)) → IsGathered (b ∷ blocks) set k
    go (inl same) =
        let value : contains (gathered (b ∷ blocks) set) k ≡ any = ap (contains (gathered (b ∷ blocks) set)) same ∙ row_of_parent (length b.children) false any rest in
        record {
          child = λ none. absurd (false≢true (sym none ∙ ap (contains (parents_in (b ∷ blocks))) same ∙ mark_of_parent b blocks));
          some = λ j low high is mark. value ∙ some_at front j (get_or-take n set j false (omega arith) ∙ is);
          none = λ none. value ∙ none_at front (λ j below. get_or-take n set j false (omega (arith, long)) ∙ none j (omega (arith, first_here b blocks k h)) (omega (arith, long, size_of b)));
        }
    go (inr other) =
        let below : k < length b.children = omega (arith, size_of b) in
        let value : contains (gathered (b ∷ blocks) set) k ≡ false = row_of_children (length b.children) false any rest k below in
        record {
          child = λ none. value;
          some = λ j low high is mark. absurd (false≢true (sym (mark_of_child b blocks k below) ∙ mark));
          none = λ none. value;
        }

gathered_later : (b : Block) (blocks : List Block) (set : List Bool) (k : ℕ) → length (documents_of b) ≤ k → IsGathered blocks (drop (length (documents_of b)) set) (k - length (documents_of b)) → IsGathered (b ∷ blocks) set k
gathered_later b blocks set k h is =
    let n = length (documents_of b) in
    let first = first_later b blocks k h in
    let value : contains (gathered (b ∷ blocks) set) k ≡ contains (gathered blocks (drop n set)) (k - n) = row_later b (to_parent all b (take n set)) (gathered blocks (drop n set)) k (length-row (length b.children) false (list_any (λ here. here) (take n set))) h in
    record {
      child = λ none. value ∙ is.child (sym (mark_later b blocks k h) ∙ none);
      some = λ j low high there mark. value ∙ is.some (j - n) (omega (arith, first)) (omega arith) (set_back n set j (omega (arith, first)) ∙ there) (sym (mark_later b blocks k h) ∙ mark);
      none = λ none. value ∙ is.none (λ j low high. set_later n set j ∙ none (n + j) (omega (arith, first)) (omega arith));
    }

pub is_gathered : (blocks : List Block) (set : List Bool) (k : ℕ) → length set ≡ document_total blocks → k < document_total blocks → IsGathered blocks set k
is_gathered [] set k size h = absurd (omega arith)
is_gathered (b ∷ blocks) set k size h = go (λ long below. is_gathered blocks (drop (length (documents_of b)) set) (k - length (documents_of b)) long below) (cases_lt k (length (documents_of b)))
  where
    go : (length (drop (length (documents_of b)) set) ≡ document_total blocks → k - length (documents_of b) < document_total blocks → IsGathered blocks (drop (length (documents_of b)) set) (k - length (documents_of b)))
        → ((k < length (documents_of b)) ⊎ (length (documents_of b) ≤ k)) → IsGathered (b ∷ blocks) set k
    go ih (inl here) = gathered_here b blocks set k size here
    go ih (inr later) = gathered_later b blocks set k later (ih (length-drop (length (documents_of b)) set ∙ omega (arith, total_of b blocks)) (omega (arith, total_of b blocks)))

-- ---- children

-- the children of the parents in the set
abbrev pub spread : List Block → List Bool → List Bool
spread blocks set = by_blocks (to_children all) blocks set

abbrev IsSpread : List Block → List Bool → ℕ → Type 0
IsSpread blocks set k = contains (spread blocks set) k ≡ (not (contains (parents_in blocks) k) && contains set (parent_in_block blocks k))

spread_here : (b : Block) (blocks : List Block) (set : List Bool) (k : ℕ) → length set ≡ document_total (b ∷ blocks) → k < length (documents_of b) → IsSpread (b ∷ blocks) set k
spread_here b blocks set k size h = go (cases_eq k (length b.children))
  where
    n : ℕ
    n = length (documents_of b)

    chosen : Bool
    chosen = get_or (take n set) (length b.children) false

    rest : List Bool
    rest = by_blocks (to_children all) blocks (drop n set)

    is_chosen : chosen ≡ contains set (parent_in_block (b ∷ blocks) k)
    is_chosen = get_or-take n set (length b.children) false (omega (arith, size_of b)) ∙ ap (contains set) (sym (parent_here b blocks k h))

    go : ((k ≡ length b.children) ⊎ (k ≡ length b.children → ⊥)) → IsSpread (b ∷ blocks) set k
    go (inl same) =
        ap (contains (spread (b ∷ blocks) set)) same ∙ row_of_parent (length b.children) chosen false rest
        ∙ sym (ap (λ m. not m && contains set (parent_in_block (b ∷ blocks) k)) (ap (contains (parents_in (b ∷ blocks))) same ∙ mark_of_parent b blocks))
    go (inr other) =
        let below : k < length b.children = omega (arith, size_of b) in
        row_of_children (length b.children) chosen false rest k below ∙ is_chosen
        ∙ sym (ap (λ m. not m && contains set (parent_in_block (b ∷ blocks) k)) (mark_of_child b blocks k below))

spread_later : (b : Block) (blocks : List Block) (set : List Bool) (k : ℕ) → length (documents_of b) ≤ k → IsSpread blocks (drop (length (documents_of b)) set) (k - length (documents_of b)) → IsSpread (b ∷ blocks) set k
spread_later b blocks set k h is =
    let n = length (documents_of b) in
    row_later b (to_children all b (take n set)) (spread blocks (drop n set)) k (length-row (length b.children) (get_or (take n set) (length b.children) false) false) h
    ∙ is
    ∙ ap₂ (λ m s. not m && s) (sym (mark_later b blocks k h)) (set_later n set (parent_in_block blocks (k - n)) ∙ ap (contains set) (sym (parent_later b blocks k h)))

pub is_spread : (blocks : List Block) (set : List Bool) (k : ℕ) → length set ≡ document_total blocks → k < document_total blocks
    → contains (spread blocks set) k ≡ (not (contains (parents_in blocks) k) && contains set (parent_in_block blocks k))
is_spread [] set k size h = absurd (omega arith)
is_spread (b ∷ blocks) set k size h = go (λ long below. is_spread blocks (drop (length (documents_of b)) set) (k - length (documents_of b)) long below) (cases_lt k (length (documents_of b)))
  where
    go : (length (drop (length (documents_of b)) set) ≡ document_total blocks → k - length (documents_of b) < document_total blocks → IsSpread blocks (drop (length (documents_of b)) set) (k - length (documents_of b)))
        → ((k < length (documents_of b)) ⊎ (length (documents_of b) ≤ k)) → IsSpread (b ∷ blocks) set k
    go ih (inl here) = spread_here b blocks set k size here
    go ih (inr later) = spread_later b blocks set k later (ih (length-drop (length (documents_of b)) set ∙ omega (arith, total_of b blocks)) (omega (arith, total_of b blocks)))
