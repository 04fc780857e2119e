-- What readers pin, taken together.
use Rattle.std.proofs.Common.{◌≡◌, ℕ, zero, suc, ◌+◌, ◌<◌, ◌≤◌, ◌⊎◌, inl, inr, List, [], ◌∷◌, ◌++◌, ◌==◌, Bool, true, false, length, map, get_or, set, refl, sym, ◌∙◌, ap, subst, arith}
use Rattle.std.specs.Prelude.{All, slice_index}
use Rattle.std.proofs.lemmas.Bool.{cases_lt, eqb-false, eqb-true}
use Rattle.std.proofs.lemmas.List.{get_or-set_other, get_or-set_same, length-append}
use Rattle.std.proofs.lemmas.List.Elements.{All-nil, All-cons, All-head, All-tail}
use Rattle.fc_spec.specs.documents.Schema.{Schema}
use Rattle.fc_spec.specs.scripts.PinnedWorlds.{AreBetween, world_at}
use Rattle.fc_round.specs.Askable.{world_of}
use Rattle.fc_store.specs.Ends.{IsNoLower, Pinning, PinsGeneration}
use Rattle.fc_store.specs.Generated.{Generated}
use Rattle.fc_work.proofs.Batches.{charted_blocks}
use Rattle.fc_work.specs.Pinned.{ArePinned, charters_of, having, least_of, most_of, numbers_in, starts_of}

-- what stands past the end plays no part
pub any_default : {X : Type 0} (xs : List X) (i : ℕ) (a b : X) → i < length xs → get_or xs i a ≡ get_or xs i b
any_default [] i a b below = absurd (omega arith)
any_default (x ∷ xs) zero a b below = refl
any_default (x ∷ xs) (suc i) a b below = any_default xs i a b (omega (arith, below))

-- reader by reader
abbrev pub AllPinned : List Pinning → List Generated → List Pinning → Type 0
AllPinned [] [] [] = Unit {0}
AllPinned (r ∷ rs) (g ∷ gs) (s ∷ ss) = PinsGeneration r g s × AllPinned rs gs ss
AllPinned rs gs ss = ⊥

pub all_pinned : (rs : List Pinning) (gs : List Generated) (ss : List Pinning) → ArePinned rs gs ss → AllPinned rs gs ss
all_pinned [] [] [] are = tt
all_pinned [] [] (s ∷ ss) are = let all = are.all in absurd (omega arith)
all_pinned [] (g ∷ gs) ss are = let count = are.count in absurd (omega arith)
all_pinned (r ∷ rs) [] ss are = let count = are.count in absurd (omega arith)
all_pinned (r ∷ rs) (g ∷ gs) [] are = let all = are.all in absurd (omega arith)
all_pinned (r ∷ rs) (g ∷ gs) (s ∷ ss) are =
    let count = are.count in
    let all = are.all in (
      are.each 0 r g (omega arith),
      all_pinned rs gs ss (record { count = omega (arith, count); all = omega (arith, all); each = λ k d e below. are.each (suc k) d e (omega (arith, below)) }),
    )

-- what holds of the schema of each reader holds of that of each generation
pub pinned_schemas : (P : Schema → Type 0) (rs : List Pinning) (gs : List Generated) (ss : List Pinning) → AllPinned rs gs ss → All (λ r. P r.schema) rs → All (λ g. P g.schema) gs
pinned_schemas P [] [] [] are all = All-nil (λ g. P g.schema)
pinned_schemas P [] [] (s ∷ ss) are all = absurd are
pinned_schemas P [] (g ∷ gs) ss are all = absurd are
pinned_schemas P (r ∷ rs) [] ss are all = absurd are
pinned_schemas P (r ∷ rs) (g ∷ gs) [] are all = absurd are
pinned_schemas P (r ∷ rs) (g ∷ gs) (s ∷ ss) are all =
    All-cons (λ g. P g.schema) g gs (subst P (sym are.0.schema) (All-head (λ r. P r.schema) r rs all)) (pinned_schemas P rs gs ss are.1 (All-tail (λ r. P r.schema) r rs all))

-- they have the schemas of the readers
pub same_schemas : (rs : List Pinning) (gs : List Generated) (ss : List Pinning) → AllPinned rs gs ss → map (λ g. g.schema) gs ≡ map (λ r. r.schema) rs
same_schemas [] [] [] are = refl
same_schemas [] [] (s ∷ ss) are = absurd are
same_schemas [] (g ∷ gs) ss are = absurd are
same_schemas (r ∷ rs) [] ss are = absurd are
same_schemas (r ∷ rs) (g ∷ gs) [] are = absurd are
same_schemas (r ∷ rs) (g ∷ gs) (s ∷ ss) are = λ i. are.0.schema i ∷ same_schemas rs gs ss are.1 i

-- their blocks are those of their charters' first batches
pub pinned_world : (rs : List Pinning) (gs : List Generated) (ss : List Pinning) → AllPinned rs gs ss → world_of gs ≡ world_at (charters_of rs) (numbers_in gs)
pinned_world [] [] [] are = refl
pinned_world [] [] (s ∷ ss) are = absurd are
pinned_world [] (g ∷ gs) ss are = absurd are
pinned_world (r ∷ rs) [] ss are = absurd are
pinned_world (r ∷ rs) (g ∷ gs) [] are = absurd are
pinned_world (r ∷ rs) (g ∷ gs) (s ∷ ss) are = λ i. charted_blocks r.charter g are.0.charted i ∷ pinned_world rs gs ss are.1 i

pub pinned_after : (rs : List Pinning) (gs : List Generated) (ss : List Pinning) → AllPinned rs gs ss → ss ≡ having rs (numbers_in gs)
pinned_after [] [] [] are = refl
pinned_after [] [] (s ∷ ss) are = absurd are
pinned_after [] (g ∷ gs) ss are = absurd are
pinned_after (r ∷ rs) [] ss are = absurd are
pinned_after (r ∷ rs) (g ∷ gs) [] are = absurd are
pinned_after (r ∷ rs) (g ∷ gs) (s ∷ ss) are = λ i. are.0.after i ∷ pinned_after rs gs ss are.1 i

-- their numbers are between those that each reader had and those of its charter
pinned_above : (rs : List Pinning) (gs : List Generated) (ss : List Pinning) → AllPinned rs gs ss → (s : ℕ) → slice_index (least_of rs) s ≤ slice_index (numbers_in gs) s
pinned_above [] gs ss are s = omega arith
pinned_above (r ∷ rs) [] ss are s = absurd are
pinned_above (r ∷ rs) (g ∷ gs) [] are s = absurd are
pinned_above (r ∷ rs) (g ∷ gs) (t ∷ ts) are zero = are.0.no_lower
pinned_above (r ∷ rs) (g ∷ gs) (t ∷ ts) are (suc s) = pinned_above rs gs ts are.1 s

pinned_started : (rs : List Pinning) (gs : List Generated) (ss : List Pinning) → AllPinned rs gs ss → (s : ℕ) → slice_index (starts_of rs) s ≤ slice_index (numbers_in gs) s
pinned_started [] gs ss are s = omega arith
pinned_started (r ∷ rs) [] ss are s = absurd are
pinned_started (r ∷ rs) (g ∷ gs) [] are s = absurd are
pinned_started (r ∷ rs) (g ∷ gs) (t ∷ ts) are zero = are.0.charted.2
pinned_started (r ∷ rs) (g ∷ gs) (t ∷ ts) are (suc s) = pinned_started rs gs ts are.1 s

pinned_below : (rs : List Pinning) (gs : List Generated) (ss : List Pinning) → AllPinned rs gs ss → (s : ℕ) → slice_index (numbers_in gs) s ≤ slice_index (most_of rs) s
pinned_below [] [] ss are s = omega arith
pinned_below [] (g ∷ gs) ss are s = absurd are
pinned_below (r ∷ rs) [] ss are s = absurd are
pinned_below (r ∷ rs) (g ∷ gs) [] are s = absurd are
pinned_below (r ∷ rs) (g ∷ gs) (t ∷ ts) are zero = are.0.charted.0
pinned_below (r ∷ rs) (g ∷ gs) (t ∷ ts) are (suc s) = pinned_below rs gs ts are.1 s

pinned_count : (rs : List Pinning) (gs : List Generated) (ss : List Pinning) → AllPinned rs gs ss → length (numbers_in gs) ≡ length (most_of rs)
pinned_count [] [] ss are = refl
pinned_count [] (g ∷ gs) ss are = absurd are
pinned_count (r ∷ rs) [] ss are = absurd are
pinned_count (r ∷ rs) (g ∷ gs) [] are = absurd are
pinned_count (r ∷ rs) (g ∷ gs) (t ∷ ts) are = ap (λ n. suc n) (pinned_count rs gs ts are.1)

pub pinned_between : (rs : List Pinning) (gs : List Generated) (ss : List Pinning) → AllPinned rs gs ss → AreBetween (least_of rs) (most_of rs) (numbers_in gs)
pinned_between rs gs ss are = record { count = pinned_count rs gs ss are; above = pinned_above rs gs ss are; below = pinned_below rs gs ss are }

pub pinned_from_start : (rs : List Pinning) (gs : List Generated) (ss : List Pinning) → AllPinned rs gs ss → AreBetween (starts_of rs) (most_of rs) (numbers_in gs)
pinned_from_start rs gs ss are = record { count = pinned_count rs gs ss are; above = pinned_started rs gs ss are; below = pinned_below rs gs ss are }

-- readers that have some numbers are of the same stores, and have these
pub having_least : (rs : List Pinning) (g : List ℕ) → length g ≡ length rs → least_of (having rs g) ≡ g
having_least [] [] same = refl
having_least [] (n ∷ g) same = absurd (omega arith)
having_least (r ∷ rs) [] same = absurd (omega arith)
having_least (r ∷ rs) (n ∷ g) same = ap (λ rest. n ∷ rest) (having_least rs g (omega (arith, same)))

pub having_same : {X : Type 0} (f : Pinning → X) (rs : List Pinning) (g : List ℕ) → ((r : Pinning) (n : ℕ) → f (record r { least = n }) ≡ f r) → length g ≡ length rs → map f (having rs g) ≡ map f rs
having_same f [] g kept same = refl
having_same f (r ∷ rs) [] kept same = absurd (omega arith)
having_same f (r ∷ rs) (n ∷ g) kept same = λ i. kept r n i ∷ having_same f rs g kept (omega (arith, same)) i

-- ---- pin by pin

same_reader : (r : Pinning) → IsNoLower r r
same_reader r = record { schema = refl; charter = refl; least = omega arith }

pub pins_no_lower : (r : Pinning) (g : Generated) (s : Pinning) → PinsGeneration r g s → IsNoLower r s
pins_no_lower r g s is = record {
  schema = ap (λ t. t.schema) is.after;
  charter = ap (λ t. t.charter) is.after;
  least = subst (λ n. r.least ≤ n) (sym (ap (λ t. t.least) is.after)) is.no_lower;
}

-- the readers before the i-th have pinned, and the others are as they were
pub record ArePinnedTo (i : ℕ) (init : List Pinning) (gs : List Generated) (now : List Pinning) : Type 0 where
  pub count : length gs ≡ i
  pub each : (k : ℕ) (d : Pinning) (g : Generated) → k < i → PinsGeneration (get_or init k d) (get_or gs k g) (get_or now k d)
  pub others : (k : ℕ) (d : Pinning) → i ≤ k → get_or now k d ≡ get_or init k d

pub no_lower_to : (i : ℕ) (init : List Pinning) (gs : List Generated) (now : List Pinning) → ArePinnedTo i init gs now → (k : ℕ) (d : Pinning) → IsNoLower (get_or init k d) (get_or now k d)
no_lower_to i init gs now are k d = go (cases_lt k i) gs are.count are.each
  where
    go : (k < i) ⊎ (i ≤ k) → (hs : List Generated) → length hs ≡ i → ((k : ℕ) (d : Pinning) (g : Generated) → k < i → PinsGeneration (get_or init k d) (get_or hs k g) (get_or now k d)) → IsNoLower (get_or init k d) (get_or now k d)
    go (inl less) [] count each = absurd (omega (arith, count, less))
    go (inl less) (g ∷ hs) count each = pins_no_lower (get_or init k d) (get_or (g ∷ hs) k g) (get_or now k d) (each k d g less)
    go (inr most) hs count each = subst (IsNoLower (get_or init k d)) (sym (are.others k d most)) (same_reader (get_or init k d))

pub no_lower_with : (i : ℕ) (init : List Pinning) (gs : List Generated) (now : List Pinning) (item new : Pinning) → ArePinnedTo i init gs now → i < length now → IsNoLower (get_or now i item) new
    → (k : ℕ) (d : Pinning) → IsNoLower (get_or init k d) (get_or (set now i new) k d)
no_lower_with i init gs now item new are below lower k d = go (k == i) refl
  where
    go : (b : Bool) → (k == i) ≡ b → IsNoLower (get_or init k d) (get_or (set now i new) k d)
    go true e =
        let here = eqb-true k i e in
        let first : get_or now i item ≡ get_or now i d = any_default now i item d below in
        subst (λ j. IsNoLower (get_or init j d) (get_or (set now i new) j d)) (sym here)
        (subst (IsNoLower (get_or init i d)) (sym (get_or-set_same now i new d below))
        (subst (λ r. IsNoLower r new) (first ∙ are.others i d (omega arith)) lower))
    go false e = subst (IsNoLower (get_or init k d)) (sym (get_or-set_other now i k new d (eqb-false k i e))) (no_lower_to i init gs now are k d)

at_old : (gs : List Generated) (e : Generated) (k : ℕ) (g : Generated) → k < length gs → get_or (gs ++ e ∷ []) k g ≡ get_or gs k g
at_old [] e k g below = absurd (omega arith)
at_old (h ∷ gs) e zero g below = refl
at_old (h ∷ gs) e (suc k) g below = at_old gs e k g (omega (arith, below))

at_new : (gs : List Generated) (e g : Generated) → get_or (gs ++ e ∷ []) (length gs) g ≡ e
at_new [] e g = refl
at_new (h ∷ gs) e g = at_new gs e g

-- once the i-th has pinned too
pub pinned_more : (i : ℕ) (init : List Pinning) (gs after : List Generated) (now : List Pinning) (item new : Pinning) (e : Generated) → ArePinnedTo i init gs now → i < length now
    → PinsGeneration (get_or now i item) e new → after ≡ gs ++ e ∷ [] → ArePinnedTo (i + 1) init after (set now i new)
pinned_more i init gs after now item new e are below pins more = record {
  count = (let count = are.count in let long = ap length more ∙ length-append gs (e ∷ []) in omega (arith, count, long));
  each = λ k d g less. each k d g less (k == i) refl;
  others = λ k d most. get_or-set_other now i k new d (λ same. omega (arith, same, most)) ∙ are.others k d (omega (arith, most));
}
  where
    each : (k : ℕ) (d : Pinning) (g : Generated) → k < i + 1 → (b : Bool) → (k == i) ≡ b → PinsGeneration (get_or init k d) (get_or after k g) (get_or (set now i new) k d)
    each k d g less true same =
        let here = eqb-true k i same in
        let first : get_or now i item ≡ get_or init i d = any_default now i item d below ∙ are.others i d (omega arith) in
        let last : get_or after i g ≡ e = ap (λ hs. get_or hs i g) more ∙ ap (λ j. get_or (gs ++ e ∷ []) j g) (sym are.count) ∙ at_new gs e g in
        subst (λ j. PinsGeneration (get_or init j d) (get_or after j g) (get_or (set now i new) j d)) (sym here)
        (subst (PinsGeneration (get_or init i d) (get_or after i g)) (sym (get_or-set_same now i new d below))
        (subst (λ h. PinsGeneration (get_or init i d) h new) (sym last) (subst (λ r. PinsGeneration r e new) first pins)))
    each k d g less false other =
        let before : k < i = (let ne = eqb-false k i other in omega (arith, ne, less)) in
        let old : get_or after k g ≡ get_or gs k g = ap (λ hs. get_or hs k g) more ∙ at_old gs e k g (let count = are.count in omega (arith, count, before)) in
        subst (PinsGeneration (get_or init k d) (get_or after k g)) (sym (get_or-set_other now i k new d (eqb-false k i other)))
        (subst (λ h. PinsGeneration (get_or init k d) h (get_or now k d)) (sym old) (are.each k d g before))

pub pinned_all : (i : ℕ) (init : List Pinning) (gs : List Generated) (now : List Pinning) → ArePinnedTo i init gs now → length init ≤ i → i ≤ length init → length now ≡ length init → ArePinned init gs now
pinned_all i init gs now are most least long = record {
  count = (let count = are.count in omega (arith, count, most, least));
  all = long;
  each = λ k d g below. are.each k d g (omega (arith, below, most));
}
