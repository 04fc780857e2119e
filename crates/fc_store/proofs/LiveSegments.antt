-- Segments and their live blocks: the first of them and the last, one more, fewer live blocks, and several as one.
use Rattle.std.proofs.Common.{◌≡◌, ◌==◌, ℕ, zero, suc, ◌*◌, ◌≤◌, ◌⊎◌, inl, inr, List, [], ◌∷◌, ◌++◌, length, map, take, drop, replicate, cond, sum, Bool, true, false, not, All, refl, sym, ap, ap₂, subst, ◌∙◌, arith, append_assoc, append-nil, eq-eqb, ne_eqb}
use Rattle.std.specs.List.{filter, items_where_true}
use Rattle.std.specs.Prelude.{sum_by}
use Rattle.std.proofs.lemmas.Bool.{cases_eq}
use Rattle.std.proofs.lemmas.List.{length-replicate}
use Rattle.std.proofs.lemmas.List.Elements.{All-nil, All-cons, All-head, All-tail, All-append, All-take, All-drop, All-map, filter-append}
use Rattle.std.proofs.lemmas.List.Sums.{sum_by-append, sum_by-cons}
use Rattle.fc_spec.specs.documents.Document.{Block}
use Rattle.fc_spec.specs.documents.Live.{HasWholeBlocks, live_in, parents_in_set}
use Rattle.fc_spec.specs.documents.Schema.{Schema, texts_held}
use Rattle.fc_spec.specs.documents.Totals.{document_total}
use Rattle.fc_spec.specs.documents.ValidBlocks.{IsBlockOf}
use Rattle.fc_spec.specs.scripts.WorldLimits.{IsWithinLimits}
use Rattle.fc_spec.specs.words.Lists.{joined}
use Rattle.fc_spec.proofs.documents.BlockTotals.{document_total-append, document_total-cons}
use Rattle.fc_spec.proofs.documents.LiveBlocks.{full_is_whole, live_of_whole, whole_has, without_has, without_live}
use Rattle.fc_spec.proofs.scripts.WorldTotals.{fewer_within}
use Rattle.fc_segment.specs.Merged.{blocks_each, live_blocks, live_blocks_of}
use Rattle.fc_segment.specs.Segmented.{Segmented}
use Rattle.fc_store.specs.Segments.{AreDense, AreSegmentsOf, if_any, merged, without}
use Rattle.fc_store.specs.Tiers.{sizes_of}
use Rattle.fc_store.proofs.Tiered.{some_size}

-- all their blocks, live or not
abbrev pub all_blocks : List Segmented → List Block
all_blocks segments = joined (blocks_each segments)

-- ---- one list of segments behind another

pub live-append : (gs hs : List Segmented) → live_blocks_of (gs ++ hs) ≡ live_blocks_of gs ++ live_blocks_of hs
live-append [] hs = refl
live-append (g ∷ gs) hs = ap (λ l. live_blocks g ++ l) (live-append gs hs) ∙ sym (append_assoc (live_blocks g) (live_blocks_of gs) (live_blocks_of hs))

pub sizes-append : (gs hs : List Segmented) → sizes_of (gs ++ hs) ≡ sizes_of gs ++ sizes_of hs
sizes-append [] hs = refl
sizes-append (g ∷ gs) hs = ap (λ l. document_total g.blocks ∷ l) (sizes-append gs hs)

all-append : (gs hs : List Segmented) → all_blocks (gs ++ hs) ≡ all_blocks gs ++ all_blocks hs
all-append [] hs = refl
all-append (g ∷ gs) hs = ap (λ l. g.blocks ++ l) (all-append gs hs) ∙ sym (append_assoc g.blocks (all_blocks gs) (all_blocks hs))

pub segments-append : (s : Schema) (gs hs : List Segmented) → AreSegmentsOf s gs → AreSegmentsOf s hs → AreSegmentsOf s (gs ++ hs)
segments-append s gs hs are more = record {
  kinds = All-append (λ (z : Segmented). z.texts ≡ texts_held s.fields) gs hs are.kinds more.kinds;
  valid = subst (All (IsBlockOf s)) (sym (all-append gs hs)) (All-append (IsBlockOf s) (all_blocks gs) (all_blocks hs) are.valid more.valid);
  limits = All-append (λ (z : Segmented). IsWithinLimits (z.blocks ∷ [])) gs hs are.limits more.limits;
  whole = All-append (λ (z : Segmented). HasWholeBlocks z.blocks z.live) gs hs are.whole more.whole;
}

pub segments-nil : (s : Schema) → AreSegmentsOf s []
segments-nil s = record {
  kinds = All-nil (λ (z : Segmented). z.texts ≡ texts_held s.fields);
  valid = All-nil (IsBlockOf s);
  limits = All-nil (λ (z : Segmented). IsWithinLimits (z.blocks ∷ []));
  whole = All-nil (λ (z : Segmented). HasWholeBlocks z.blocks z.live);
}

pub one_segment : (s : Schema) (g : Segmented) → g.texts ≡ texts_held s.fields → All (IsBlockOf s) g.blocks → IsWithinLimits (g.blocks ∷ []) → HasWholeBlocks g.blocks g.live → AreSegmentsOf s (g ∷ [])
one_segment s g kind valid limits whole = record {
  kinds = All-cons (λ (z : Segmented). z.texts ≡ texts_held s.fields) g [] kind (All-nil (λ (z : Segmented). z.texts ≡ texts_held s.fields));
  valid = subst (All (IsBlockOf s)) (sym (append-nil g.blocks)) valid;
  limits = All-cons (λ (z : Segmented). IsWithinLimits (z.blocks ∷ [])) g [] limits (All-nil (λ (z : Segmented). IsWithinLimits (z.blocks ∷ [])));
  whole = All-cons (λ (z : Segmented). HasWholeBlocks z.blocks z.live) g [] whole (All-nil (λ (z : Segmented). HasWholeBlocks z.blocks z.live));
}

-- ---- the first and the last

pub live_split : (k : ℕ) (gs : List Segmented) → live_blocks_of gs ≡ live_blocks_of (take k gs) ++ live_blocks_of (drop k gs)
live_split zero gs = refl
live_split (suc k) [] = refl
live_split (suc k) (g ∷ gs) = ap (λ l. live_blocks g ++ l) (live_split k gs) ∙ sym (append_assoc (live_blocks g) (live_blocks_of (take k gs)) (live_blocks_of (drop k gs)))

all_split : (P : Block → Type 0) (k : ℕ) (gs : List Segmented) → All P (all_blocks gs) → All P (all_blocks (take k gs)) × All P (all_blocks (drop k gs))
all_split P zero gs all = (All-nil P, all)
all_split P (suc k) [] all = (All-nil P, All-nil P)
all_split P (suc k) (g ∷ gs) all =
    let parts = parted g.blocks (all_blocks gs) all in
    let rest = all_split P k gs parts.1 in
    (All-append P g.blocks (all_blocks (take k gs)) parts.0 rest.0, rest.1)
  where
    parted : (xs ys : List Block) → All P (xs ++ ys) → All P xs × All P ys
    parted [] ys all = (All-nil P, all)
    parted (x ∷ xs) ys all =
        let more = parted xs ys (All-tail P x (xs ++ ys) all) in
        (All-cons P x xs (All-head P x (xs ++ ys) all) more.0, more.1)

pub first_segments : (s : Schema) (k : ℕ) (gs : List Segmented) → AreSegmentsOf s gs → AreSegmentsOf s (take k gs)
first_segments s k gs are = record {
  kinds = All-take (λ (z : Segmented). z.texts ≡ texts_held s.fields) k gs are.kinds;
  valid = (all_split (IsBlockOf s) k gs are.valid).0;
  limits = All-take (λ (z : Segmented). IsWithinLimits (z.blocks ∷ [])) k gs are.limits;
  whole = All-take (λ (z : Segmented). HasWholeBlocks z.blocks z.live) k gs are.whole;
}

pub last_segments : (s : Schema) (k : ℕ) (gs : List Segmented) → AreSegmentsOf s gs → AreSegmentsOf s (drop k gs)
last_segments s k gs are = record {
  kinds = All-drop (λ (z : Segmented). z.texts ≡ texts_held s.fields) k gs are.kinds;
  valid = (all_split (IsBlockOf s) k gs are.valid).1;
  limits = All-drop (λ (z : Segmented). IsWithinLimits (z.blocks ∷ [])) k gs are.limits;
  whole = All-drop (λ (z : Segmented). HasWholeBlocks z.blocks z.live) k gs are.whole;
}

-- ---- what is live is valid, and no more than all

pub kept_hold : {X : Type 0} (P : X → Type 0) (set : List Bool) (xs : List X) → All P xs → All P (items_where_true set xs)
kept_hold P [] xs all = All-nil P
kept_hold P (h ∷ set) [] all = All-nil P
kept_hold P (true ∷ set) (x ∷ xs) all = All-cons P x (items_where_true set xs) (All-head P x xs all) (kept_hold P set xs (All-tail P x xs all))
kept_hold P (false ∷ set) (x ∷ xs) all = kept_hold P set xs (All-tail P x xs all)

pub live_valid : (s : Schema) (gs : List Segmented) → All (IsBlockOf s) (all_blocks gs) → All (IsBlockOf s) (live_blocks_of gs)
live_valid s [] all = All-nil (IsBlockOf s)
live_valid s (g ∷ gs) all =
    let here = first_of g.blocks (all_blocks gs) all in
    All-append (IsBlockOf s) (live_blocks g) (live_blocks_of gs) (kept_hold (IsBlockOf s) (parents_in_set g.blocks g.live) g.blocks here.0) (live_valid s gs here.1)
  where
    first_of : (xs ys : List Block) → All (IsBlockOf s) (xs ++ ys) → All (IsBlockOf s) xs × All (IsBlockOf s) ys
    first_of [] ys all = (All-nil (IsBlockOf s), all)
    first_of (x ∷ xs) ys all =
        let more = first_of xs ys (All-tail (IsBlockOf s) x (xs ++ ys) all) in
        (All-cons (IsBlockOf s) x xs (All-head (IsBlockOf s) x (xs ++ ys) all) more.0, more.1)

pub kept_total : (set : List Bool) (blocks : List Block) → document_total (items_where_true set blocks) ≤ document_total blocks
kept_total [] blocks = omega arith
kept_total (h ∷ set) [] = omega arith
kept_total (true ∷ set) (b ∷ blocks) =
    let rest = kept_total set blocks in
    omega (arith, rest, document_total-cons b (items_where_true set blocks), document_total-cons b blocks)
kept_total (false ∷ set) (b ∷ blocks) = let rest = kept_total set blocks in omega (arith, rest, document_total-cons b blocks)

pub live_total : (gs : List Segmented) → document_total (live_blocks_of gs) ≤ sum (sizes_of gs)
live_total [] = omega arith
live_total (g ∷ gs) =
    omega (
      arith,
      live_total gs,
      kept_total (parents_in_set g.blocks g.live) g.blocks,
      document_total-append (live_blocks g) (live_blocks_of gs),
      sum_by-cons (λ (n : ℕ). n) (document_total g.blocks) (sizes_of gs),
    )

-- ---- a segment, if it has a document

no_blocks : (blocks : List Block) → document_total blocks ≡ 0 → blocks ≡ []
no_blocks [] none = refl
no_blocks (b ∷ blocks) none = absurd (omega (arith, document_total-cons b blocks, none))

pub any_live : (g : Segmented) → live_blocks_of (if_any g) ≡ live_blocks g
any_live g = go (cases_eq (document_total g.blocks) 0)
  where
    go : ((document_total g.blocks ≡ 0) ⊎ (document_total g.blocks ≡ 0 → ⊥)) → live_blocks_of (if_any g) ≡ live_blocks g
    go (inl none) = ap (λ b. live_blocks_of (cond b [] (g ∷ []))) (eq-eqb (document_total g.blocks) 0 none) ∙ sym (ap (λ l. live_in l g.live) (no_blocks g.blocks none))
    go (inr some) = ap (λ b. live_blocks_of (cond b [] (g ∷ []))) (ne_eqb (document_total g.blocks) 0 some) ∙ append-nil (live_blocks g)

either : {X : Type 0} (P : List X → Type 0) (b : Bool) (xs : List X) → P [] → P xs → P (cond b [] xs)
either P true xs none some = none
either P false xs none some = some

pub any_segment : (s : Schema) (g : Segmented) → AreSegmentsOf s (g ∷ []) → AreSegmentsOf s (if_any g)
any_segment s g are = either (AreSegmentsOf s) (document_total g.blocks == 0) (g ∷ []) (segments-nil s) are

pub any_dense : (g : Segmented) → AreDense (g ∷ []) → AreDense (if_any g)
any_dense g are = either AreDense (document_total g.blocks == 0) (g ∷ []) (All-nil (λ (z : Segmented). document_total z.blocks ≤ 2 * document_total (live_blocks z))) are

pub any_size : (g : Segmented) → sizes_of (if_any g) ≡ some_size (document_total g.blocks)
any_size g = go (document_total g.blocks == 0)
  where
    go : (b : Bool) → sizes_of (cond b [] (g ∷ [])) ≡ cond b [] (document_total g.blocks ∷ [])
    go true = refl
    go false = refl

-- and with it behind others
pub live_with : (gs : List Segmented) (g : Segmented) → live_blocks_of (gs ++ if_any g) ≡ live_blocks_of gs ++ live_blocks g
live_with gs g = live-append gs (if_any g) ∙ ap (λ (l : List Block). live_blocks_of gs ++ l) (any_live g)

pub sizes_with : (gs : List Segmented) (g : Segmented) → sizes_of (gs ++ if_any g) ≡ sizes_of gs ++ some_size (document_total g.blocks)
sizes_with gs g = sizes-append gs (if_any g) ∙ ap (λ l. sizes_of gs ++ l) (any_size g)

-- ---- without the blocks that pass a test

pub without_segments : (s : Schema) (test : Block → Bool) (gs : List Segmented) → AreSegmentsOf s gs → AreSegmentsOf s (map (without test) gs)
without_segments s test gs are = record {
  kinds = All-map (λ (z : Segmented). z.texts ≡ texts_held s.fields) (without test) gs are.kinds;
  valid = subst (All (IsBlockOf s)) (sym (same gs)) are.valid;
  limits = All-map (λ (z : Segmented). IsWithinLimits (z.blocks ∷ [])) (without test) gs are.limits;
  whole = All-map (λ (z : Segmented). HasWholeBlocks z.blocks z.live) (without test) gs (λ k d inside. without_has test _ _ (are.whole k d inside));
}
  where
    same : (hs : List Segmented) → all_blocks (map (without test) hs) ≡ all_blocks hs
    same [] = refl
    same (h ∷ hs) = ap (λ l. h.blocks ++ l) (same hs)

pub without_sizes : (test : Block → Bool) (gs : List Segmented) → sizes_of (map (without test) gs) ≡ sizes_of gs
without_sizes test [] = refl
without_sizes test (g ∷ gs) = ap (λ l. document_total g.blocks ∷ l) (without_sizes test gs)

pub without_blocks : (test : Block → Bool) (gs : List Segmented) → All (λ (z : Segmented). HasWholeBlocks z.blocks z.live) gs → live_blocks_of (map (without test) gs) ≡ filter (λ b. not (test b)) (live_blocks_of gs)
without_blocks test [] whole = refl
without_blocks test (g ∷ gs) whole =
    ap₂ (λ k l. k ++ l) (without_live test g.blocks g.live (All-head (λ (z : Segmented). HasWholeBlocks z.blocks z.live) g gs whole))
    (without_blocks test gs (All-tail (λ (z : Segmented). HasWholeBlocks z.blocks z.live) g gs whole))
    ∙ sym (filter-append (λ b. not (test b)) (live_blocks g) (live_blocks_of gs))

-- ---- several as one

all_of : {X : Type 0} (xs : List X) → items_where_true (replicate (length xs) true) xs ≡ xs
all_of [] = refl
all_of (x ∷ xs) = ap (λ ys. x ∷ ys) (all_of xs)

pub full_has : (blocks : List Block) → HasWholeBlocks blocks (replicate (document_total blocks) true)
full_has blocks = subst (HasWholeBlocks blocks) (full_is_whole blocks) (whole_has blocks (replicate (length blocks) true) (length-replicate (length blocks) true))

pub full_live : (blocks : List Block) → live_in blocks (replicate (document_total blocks) true) ≡ blocks
full_live blocks =
    ap (live_in blocks) (sym (full_is_whole blocks)) ∙ live_of_whole blocks (replicate (length blocks) true) (length-replicate (length blocks) true) ∙ all_of blocks

-- within the limits, as a part of what is
pub part_within : (front back : List Block) → IsWithinLimits ((front ++ back) ∷ []) → IsWithinLimits (back ∷ [])
part_within front back limits =
    fewer_within (back ∷ []) ((front ++ back) ∷ []) (omega arith)
    (λ f. omega (arith, sum_by-append f front back, ap (sum_by f) (append-nil back), ap (sum_by f) (append-nil (front ++ back)))) limits

pub merged_segment : (s : Schema) (gs : List Segmented) → AreSegmentsOf s gs → IsWithinLimits (live_blocks_of gs ∷ []) → AreSegmentsOf s (merged s gs ∷ [])
merged_segment s gs are limits = one_segment s (merged s gs) refl (live_valid s gs are.valid) limits (full_has (live_blocks_of gs))

pub merged_dense : (s : Schema) (gs : List Segmented) → AreDense (merged s gs ∷ [])
merged_dense s gs =
    let all = ap document_total (full_live (live_blocks_of gs)) in
    All-cons (λ (z : Segmented). document_total z.blocks ≤ 2 * document_total (live_blocks z)) (merged s gs) [] (omega (arith, all))
    (All-nil (λ (z : Segmented). document_total z.blocks ≤ 2 * document_total (live_blocks z)))
