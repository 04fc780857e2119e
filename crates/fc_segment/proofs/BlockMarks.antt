-- The parents of blocks, and the first position and the parent of each block.
use Rattle.std.proofs.Common.{◌≡◌, ℕ, ◌+◌, ◌-◌, ◌<◌, ◌≤◌, ◌⊎◌, inl, inr, true, false, cond, List, [], ◌∷◌, length, get_or, replicate, sym, ap, ◌∙◌, arith}
use Rattle.std.proofs.lemmas.Bool.{false≢true, cases_eq, cases_lt, lt-ltb, le-ltb}
use Rattle.std.proofs.lemmas.List.{get_or_append_left, get_or-append_right, get_or-replicate, length-append, length-replicate, length_push}
use Rattle.fc_spec.specs.documents.Document.{Block}
use Rattle.fc_spec.specs.documents.Totals.{documents_of, documents_in, document_total}
use Rattle.fc_docset.specs.Positions.{contains}
use Rattle.fc_docset.specs.Neighbours.{IsNextFrom, HasNoneFrom, IsLastUpTo, HasNoneUpTo}
use Rattle.fc_segment.specs.Parents.{marks_of, parents_in}
use Rattle.fc_segment.specs.BlockPositions.{first_in_block, parent_in_block}

-- ---- a position of the first block, and of a later one
pub size_of : (b : Block) → length (documents_of b) ≡ length b.children + 1
size_of b = length_push b.children b.parent

length-marks_of : (b : Block) → length (marks_of b) ≡ length (documents_of b)
length-marks_of b = length_push (replicate (length b.children) false) true ∙ ap (λ n. n + 1) (length-replicate (length b.children) false) ∙ sym (size_of b)

pub total_of : (b : Block) (blocks : List Block) → document_total (b ∷ blocks) ≡ length (documents_of b) + document_total blocks
total_of b blocks = length-append (documents_of b) (documents_in blocks)

pub first_here : (b : Block) (blocks : List Block) (at : ℕ) → at < length (documents_of b) → first_in_block (b ∷ blocks) at ≡ 0
first_here b blocks at h = ap (λ t. cond t 0 (length (documents_of b) + first_in_block blocks (at - length (documents_of b)))) (lt-ltb at (length (documents_of b)) h)

pub first_later : (b : Block) (blocks : List Block) (at : ℕ) → length (documents_of b) ≤ at → first_in_block (b ∷ blocks) at ≡ length (documents_of b) + first_in_block blocks (at - length (documents_of b))
first_later b blocks at h = ap (λ t. cond t 0 (length (documents_of b) + first_in_block blocks (at - length (documents_of b)))) (le-ltb at (length (documents_of b)) h)

pub parent_here : (b : Block) (blocks : List Block) (at : ℕ) → at < length (documents_of b) → parent_in_block (b ∷ blocks) at ≡ length b.children
parent_here b blocks at h = ap (λ t. cond t (length b.children) (length (documents_of b) + parent_in_block blocks (at - length (documents_of b)))) (lt-ltb at (length (documents_of b)) h)

pub parent_later : (b : Block) (blocks : List Block) (at : ℕ) → length (documents_of b) ≤ at → parent_in_block (b ∷ blocks) at ≡ length (documents_of b) + parent_in_block blocks (at - length (documents_of b))
parent_later b blocks at h = ap (λ t. cond t (length b.children) (length (documents_of b) + parent_in_block blocks (at - length (documents_of b)))) (le-ltb at (length (documents_of b)) h)

-- ---- where the parents stand
pub mark_of_child : (b : Block) (blocks : List Block) (at : ℕ) → at < length b.children → contains (parents_in (b ∷ blocks)) at ≡ false
mark_of_child b blocks at h =
    let size : at < length (marks_of b) = omega (arith, length-marks_of b, size_of b) in
    get_or_append_left (marks_of b) (parents_in blocks) false at size
    ∙ get_or_append_left (replicate (length b.children) false) (true ∷ []) false at (omega (arith, length-replicate (length b.children) false))
    ∙ get_or-replicate (length b.children) at false false h

pub mark_of_parent : (b : Block) (blocks : List Block) → contains (parents_in (b ∷ blocks)) (length b.children) ≡ true
mark_of_parent b blocks =
    let size : length b.children < length (marks_of b) = omega (arith, length-marks_of b, size_of b) in
    let zero_at : length b.children - length b.children ≡ 0 = omega arith in
    get_or_append_left (marks_of b) (parents_in blocks) false (length b.children) size
    ∙ get_or-append_right (replicate (length b.children) false) (true ∷ []) (length b.children) (length b.children) false (length-replicate (length b.children) false) (omega arith)
    ∙ ap (λ k. get_or (true ∷ []) k false) zero_at

pub mark_later : (b : Block) (blocks : List Block) (at : ℕ) → length (documents_of b) ≤ at → contains (parents_in (b ∷ blocks)) at ≡ contains (parents_in blocks) (at - length (documents_of b))
mark_later b blocks at h = get_or-append_right (marks_of b) (parents_in blocks) (length (documents_of b)) at false (length-marks_of b) h

-- what stands in the block of a position
pub record IsInBlock (blocks : List Block) (at : ℕ) : Type 0 where
  pub first : first_in_block blocks at ≤ at
  pub parent : at ≤ parent_in_block blocks at
  pub within : parent_in_block blocks at < document_total blocks
  pub is_parent : contains (parents_in blocks) (parent_in_block blocks at) ≡ true
  pub children : (k : ℕ) → first_in_block blocks at ≤ k → k < parent_in_block blocks at → contains (parents_in blocks) k ≡ false
  pub before : 0 < first_in_block blocks at → contains (parents_in blocks) (first_in_block blocks at - 1) ≡ true

-- a block behind another
in_later : (b : Block) (blocks : List Block) (at : ℕ) → length (documents_of b) ≤ at → IsInBlock blocks (at - length (documents_of b)) → IsInBlock (b ∷ blocks) at
in_later b blocks at h is =
    let size = length (documents_of b) in
    let first = first_later b blocks at h in
    let parent = parent_later b blocks at h in
    record {
      first = omega (arith, first, is.first);
      parent = omega (arith, parent, is.parent);
      within = omega (arith, parent, is.within, total_of b blocks);
      is_parent = ap (contains (parents_in (b ∷ blocks))) parent ∙ mark_later b blocks (size + parent_in_block blocks (at - size)) (omega arith)
          ∙ ap (contains (parents_in blocks)) (let e : size + parent_in_block blocks (at - size) - size ≡ parent_in_block blocks (at - size) = omega arith in e) ∙ is.is_parent;
      children = λ k low high. mark_later b blocks k (omega (arith, first)) ∙ is.children (k - size) (omega (arith, first)) (omega (arith, parent, first));
      before = λ some. ap (λ n. contains (parents_in (b ∷ blocks)) (n - 1)) first ∙ go (cases_eq (first_in_block blocks (at - size)) 0);
    }
  where
    go : ((first_in_block blocks (at - length (documents_of b)) ≡ 0) ⊎ (first_in_block blocks (at - length (documents_of b)) ≡ 0 → ⊥))
        → contains (parents_in (b ∷ blocks)) (length (documents_of b) + first_in_block blocks (at - length (documents_of b)) - 1) ≡ true
    go (inl none) = ap (contains (parents_in (b ∷ blocks))) (let e : length (documents_of b) + first_in_block blocks (at - length (documents_of b)) - 1 ≡ length b.children = omega (arith, size_of b) in e) ∙ mark_of_parent b blocks
    go (inr some) =
        mark_later b blocks (length (documents_of b) + first_in_block blocks (at - length (documents_of b)) - 1) (omega arith)
        ∙ ap (contains (parents_in blocks)) (let e : length (documents_of b) + first_in_block blocks (at - length (documents_of b)) - 1 - length (documents_of b) ≡ first_in_block blocks (at - length (documents_of b)) - 1 = omega arith in e)
        ∙ is.before (omega arith)

in_first : (b : Block) (blocks : List Block) (at : ℕ) → at < length (documents_of b) → IsInBlock (b ∷ blocks) at
in_first b blocks at h =
    let first = first_here b blocks at h in
    let parent = parent_here b blocks at h in
    record {
      first = omega (arith, first);
      parent = omega (arith, parent, size_of b);
      within = omega (arith, parent, total_of b blocks, size_of b);
      is_parent = ap (contains (parents_in (b ∷ blocks))) parent ∙ mark_of_parent b blocks;
      children = λ k low high. mark_of_child b blocks k (omega (arith, parent));
      before = λ some. absurd (omega (arith, first));
    }

pub in_block : (blocks : List Block) (at : ℕ) → at < document_total blocks → IsInBlock blocks at
in_block [] at h = absurd (omega arith)
in_block (b ∷ blocks) at h = go (λ below. in_block blocks (at - length (documents_of b)) below) (cases_lt at (length (documents_of b)))
  where
    go : (at - length (documents_of b) < document_total blocks → IsInBlock blocks (at - length (documents_of b)))
        → ((at < length (documents_of b)) ⊎ (length (documents_of b) ≤ at)) → IsInBlock (b ∷ blocks) at
    go ih (inl here) = in_first b blocks at here
    go ih (inr later) = in_later b blocks at later (ih (omega (arith, total_of b blocks)))

-- ---- what is next to a position among the parents
pub next_is_parent : (blocks : List Block) (at found : ℕ) → at < document_total blocks → IsNextFrom (contains (parents_in blocks)) at found → found ≡ parent_in_block blocks at
next_is_parent blocks at found h is = let b = in_block blocks at h in go b (cases_lt found (parent_in_block blocks at)) (cases_eq found (parent_in_block blocks at))
  where
    go : IsInBlock blocks at → ((found < parent_in_block blocks at) ⊎ (parent_in_block blocks at ≤ found)) → ((found ≡ parent_in_block blocks at) ⊎ (found ≡ parent_in_block blocks at → ⊥)) → found ≡ parent_in_block blocks at
    go b _ (inl same) = same
    go b (inl less) (inr other) = absurd (false≢true (sym (b.children found (omega (arith, b.first, is.behind)) less) ∙ is.member))
    go b (inr more) (inr other) = absurd (false≢true (sym (is.none_between (parent_in_block blocks at) b.parent (omega arith)) ∙ b.is_parent))

pub some_parent : (blocks : List Block) (at : ℕ) → at < document_total blocks → HasNoneFrom (contains (parents_in blocks)) at → ⊥
some_parent blocks at h none = let b = in_block blocks at h in false≢true (sym (none (parent_in_block blocks at) b.parent) ∙ b.is_parent)

pub first_behind_last : (blocks : List Block) (at found : ℕ) → at < document_total blocks → 0 < at → IsLastUpTo (contains (parents_in blocks)) (at - 1) found → found + 1 ≡ first_in_block blocks at
first_behind_last blocks at found h some is = let b = in_block blocks at h in go b (cases_lt found (first_in_block blocks at)) (cases_eq (found + 1) (first_in_block blocks at))
  where
    go : IsInBlock blocks at → ((found < first_in_block blocks at) ⊎ (first_in_block blocks at ≤ found)) → ((found + 1 ≡ first_in_block blocks at) ⊎ (found + 1 ≡ first_in_block blocks at → ⊥)) → found + 1 ≡ first_in_block blocks at
    go b _ (inl same) = same
    go b (inl less) (inr other) = absurd (false≢true (sym (is.none_between (first_in_block blocks at - 1) (omega arith) (omega (arith, b.first))) ∙ b.before (omega arith)))
    go b (inr more) (inr other) = absurd (false≢true (sym (b.children found more (omega (arith, b.parent, is.before))) ∙ is.member))

pub first_of_all : (blocks : List Block) (at : ℕ) → at < document_total blocks → 0 < at → HasNoneUpTo (contains (parents_in blocks)) (at - 1) → 0 ≡ first_in_block blocks at
first_of_all blocks at h some none = let b = in_block blocks at h in go b (cases_eq 0 (first_in_block blocks at))
  where
    go : IsInBlock blocks at → ((0 ≡ first_in_block blocks at) ⊎ (0 ≡ first_in_block blocks at → ⊥)) → 0 ≡ first_in_block blocks at
    go b (inl same) = same
    go b (inr other) = absurd (false≢true (sym (none (first_in_block blocks at - 1) (omega (arith, b.first))) ∙ b.before (omega arith)))
