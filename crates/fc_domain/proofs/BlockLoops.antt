-- Parents that are found, or give way to their children, one after another.
use Rattle.std.proofs.Common.{◌≡◌, ℕ, ◌+◌, ◌-◌, ◌<◌, ◌≤◌, ◌⊎◌, inl, inr, Bool, true, false, not, ◌&&◌, ◌||◌, nat_le, nat_lt, List, length, get_or, set, replicate, zero, suc, refl, sym, ap, ap₂, ◌∙◌, arith}
use Rattle.std.proofs.lemmas.Bool.{false≢true, and_parts, and_from, and_right, cases_eq, cases_lt, le-leb, lt-leb, lt-ltb, le-ltb}
use Rattle.std.proofs.lemmas.List.{get_or-set_same, get_or-set_other, get_or_past, length-set, length-replicate}
use Rattle.std.proofs.lemmas.List.FromFn.{fill_by_all}
use Rattle.fc_spec.specs.documents.Document.{Block}
use Rattle.fc_spec.specs.documents.Totals.{document_total}
use Rattle.fc_spec.specs.documents.Sets.{zip_with}
use Rattle.fc_spec.specs.queries.Query.{all}
use Rattle.fc_spec.specs.requests.Request.{children, parents}
use Rattle.fc_spec.proofs.words.WhereTrue.{length-zip_with}
use Rattle.fc_spec.proofs.requests.SetChanges.{moved_keeps}
use Rattle.fc_docset.specs.Positions.{contains}
use Rattle.fc_docset.specs.Neighbours.{IsNextFrom, HasNoneFrom}
use Rattle.fc_lane.proofs.BitLists.{get_or-zip_with}
use Rattle.fc_segment.specs.Parents.{parents_in}
use Rattle.fc_segment.specs.BlockPositions.{first_in_block, parent_in_block}
use Rattle.fc_segment.proofs.BlockMarks.{IsInBlock, in_block, next_is_parent}
use Rattle.fc_segment.proofs.Cutting.{length-parents_in}
use Rattle.fc_domain.proofs.BlockMembers.{gathered, is_gathered, spread, is_spread}

-- two sets with the same members
same_members : (xs ys : List Bool) → length xs ≡ length ys → ((k : ℕ) → k < length ys → get_or xs k false ≡ get_or ys k false) → xs ≡ ys
same_members xs ys size same =
    fill_by_all (λ k. get_or ys k false) xs (length ys) false size same ∙ sym (fill_by_all (λ k. get_or ys k false) ys (length ys) false refl (λ k below. refl))

-- a member is a position below the length
below_length : (xs : List Bool) (k : ℕ) → contains xs k ≡ true → k < length xs
below_length xs k h = go (cases_lt k (length xs))
  where
    go : ((k < length xs) ⊎ (length xs ≤ k)) → k < length xs
    go (inl below) = below
    go (inr past) = absurd (false≢true (sym (get_or_past xs k false past) ∙ h))

-- the position of a parent is that of its block's parent
pub own_parent : (blocks : List Block) (at : ℕ) → at < document_total blocks → contains (parents_in blocks) at ≡ true → parent_in_block blocks at ≡ at
own_parent blocks at below mark =
    sym (next_is_parent blocks at at below (record { behind = omega arith; member = mark; none_between = λ k low high. absurd (omega arith) }))

-- parents among some positions
pub parents_of_set : (blocks : List Block) (old into : List Bool) → length old ≡ document_total blocks → into ≡ zip_with ◌&&◌ old (parents_in blocks)
    → (length into ≡ document_total blocks) × ((k : ℕ) → k < document_total blocks → contains into k ≡ (contains old k && contains (parents_in blocks) k))
parents_of_set blocks old into size is =
    let even : length old ≡ length (parents_in blocks) = size ∙ sym (length-parents_in blocks) in (
      ap length is ∙ length-zip_with ◌&&◌ old (parents_in blocks) even ∙ size,
      λ k below. ap (λ l. contains l k) is ∙ get_or-zip_with ◌&&◌ old (parents_in blocks) k even (omega (arith, size)),
    )

-- ---- parents that are found

-- the positions before `from`, where a block begins, are decided, and nothing is put behind them
pub record AreGatheredTo (blocks : List Block) (docs into : List Bool) (from : ℕ) : Type 0 where
  pub size : length into ≡ document_total blocks
  pub whole : length docs ≡ document_total blocks
  pub begins : 0 < from → contains (parents_in blocks) (from - 1) ≡ true
  pub done : (k : ℕ) → k < from → contains into k ≡ contains (gathered blocks docs) k
  pub rest : (k : ℕ) → from ≤ k → contains into k ≡ false

pub none_gathered : (blocks : List Block) (docs into : List Bool) (size : ℕ) → length docs ≡ document_total blocks → size ≡ document_total blocks → into ≡ replicate size false → AreGatheredTo blocks docs into 0
none_gathered blocks docs into size whole same is = record {
  size = ap length is ∙ length-replicate size false ∙ same;
  whole = whole;
  begins = λ some. absurd (omega arith);
  done = λ k h. absurd (omega arith);
  rest = λ k low. ap (λ l. contains l k) is ∙ none_in size k;
}
  where
    none_in : (size k : ℕ) → contains (replicate size false) k ≡ false
    none_in zero k = refl
    none_in (suc size) zero = refl
    none_in (suc size) (suc k) = none_in size k

module _ (blocks : List Block) (docs into : List Bool) (from : ℕ) (so_far : AreGatheredTo blocks docs into from) where
  -- a block that ends behind `from` begins there or behind
  behind : (k : ℕ) → from ≤ k → k < document_total blocks → from ≤ first_in_block blocks k
  behind k low below = let b = in_block blocks k below in go b (cases_lt (first_in_block blocks k) from)
    where
      go : IsInBlock blocks k → ((first_in_block blocks k < from) ⊎ (from ≤ first_in_block blocks k)) → from ≤ first_in_block blocks k
      go b (inl less) = absurd (false≢true (sym (b.children (from - 1) (omega arith) (omega (arith, b.parent))) ∙ so_far.begins (omega arith)))
      go b (inr more) = more

  pub gathered_within : (at : ℕ) → IsNextFrom (contains docs) from at → at < document_total blocks
  gathered_within at is = omega (arith, below_length docs at is.member, so_far.whole)

  -- where no document stands from `from` on up to a position, nothing is found there
  nothing_at : (k : ℕ) → from ≤ k → k < document_total blocks → ((j : ℕ) → from ≤ j → j ≤ k → contains docs j ≡ false) → contains (gathered blocks docs) k ≡ false
  nothing_at k low below gone = (is_gathered blocks docs k so_far.whole below).none (λ j first last. gone j (let h = behind k low below in omega arith) last)

  -- the parent of the block in which a position stands is found
  parent_found : (at : ℕ) → at < document_total blocks → contains docs at ≡ true → contains (gathered blocks docs) (parent_in_block blocks at) ≡ true
  parent_found at below there = let b = in_block blocks at below in let c = in_block blocks (parent_in_block blocks at) b.within in
      (is_gathered blocks docs (parent_in_block blocks at) so_far.whole b.within).some at (go b c (cases_lt at (first_in_block blocks (parent_in_block blocks at)))) b.parent there b.is_parent
    where
      go : IsInBlock blocks at → IsInBlock blocks (parent_in_block blocks at) → ((at < first_in_block blocks (parent_in_block blocks at)) ⊎ (first_in_block blocks (parent_in_block blocks at) ≤ at)) → first_in_block blocks (parent_in_block blocks at) ≤ at
      go b c (inl less) = absurd (false≢true (sym (b.children (first_in_block blocks (parent_in_block blocks at) - 1) (omega (arith, b.first)) (omega (arith, c.first))) ∙ c.before (omega arith)))
      go b c (inr more) = more

  pub one_gathered : (at : ℕ) → IsNextFrom (contains docs) from at → AreGatheredTo blocks docs (set into (parent_in_block blocks at) true) (parent_in_block blocks at + 1)
  one_gathered at is =
      let within = gathered_within at is in
      let b = in_block blocks at within in
      let parent = parent_in_block blocks at in
      let back : parent ≡ parent + 1 - 1 = omega arith in
      record {
        size = length-set into parent true ∙ so_far.size;
        whole = so_far.whole;
        begins = λ some. ap (contains (parents_in blocks)) (sym back) ∙ b.is_parent;
        done = λ k h. go b within k h (cases_eq k parent) (cases_lt k from) (cases_lt k at);
        rest = λ k low. get_or-set_other into parent k true false (omega arith) ∙ so_far.rest k (omega (arith, is.behind, b.parent));
      }
    where
      go : IsInBlock blocks at → at < document_total blocks → (k : ℕ) → k < parent_in_block blocks at + 1 → ((k ≡ parent_in_block blocks at) ⊎ (k ≡ parent_in_block blocks at → ⊥)) → ((k < from) ⊎ (from ≤ k)) → ((k < at) ⊎ (at ≤ k))
          → contains (set into (parent_in_block blocks at) true) k ≡ contains (gathered blocks docs) k
      go b within k h (inl same) _ _ =
          ap (contains (set into (parent_in_block blocks at) true)) same ∙ get_or-set_same into (parent_in_block blocks at) true false (omega (arith, so_far.size, b.within))
          ∙ sym (ap (contains (gathered blocks docs)) same ∙ parent_found at within is.member)
      go b within k h (inr other) (inl before) _ = get_or-set_other into (parent_in_block blocks at) k true false other ∙ so_far.done k before
      go b within k h (inr other) (inr low) (inl less) =
          get_or-set_other into (parent_in_block blocks at) k true false other ∙ so_far.rest k low
          ∙ sym (nothing_at k low (omega arith) (λ j first last. is.none_between j first (omega arith)))
      go b within k h (inr other) (inr low) (inr more) =
          get_or-set_other into (parent_in_block blocks at) k true false other ∙ so_far.rest k low
          ∙ sym ((is_gathered blocks docs k so_far.whole (omega (arith, b.within))).child (b.children k (omega (arith, b.first)) (omega arith)))

  pub all_gathered : HasNoneFrom (contains docs) from → into ≡ gathered blocks docs
  all_gathered none =
      same_members into (gathered blocks docs) (so_far.size ∙ sym long) (λ k below. go k (omega (arith, long)) (cases_lt k from))
    where
      long : length (gathered blocks docs) ≡ document_total blocks
      long = moved_keeps (parents all) blocks docs so_far.whole

      go : (k : ℕ) → k < document_total blocks → ((k < from) ⊎ (from ≤ k)) → contains into k ≡ contains (gathered blocks docs) k
      go k below (inl before) = so_far.done k before
      go k below (inr low) = so_far.rest k low ∙ sym (nothing_at k low below (λ j first last. none j first))

-- ---- parents that give way to their children

-- the positions before `from` are decided, the others are the parents of old
pub record AreSpreadTo (blocks : List Block) (old into : List Bool) (from : ℕ) : Type 0 where
  pub size : length into ≡ document_total blocks
  pub whole : length old ≡ document_total blocks
  pub least : from ≤ document_total blocks
  pub done : (k : ℕ) → k < from → contains into k ≡ contains (spread blocks old) k
  pub rest : (k : ℕ) → from ≤ k → k < document_total blocks → contains into k ≡ (contains old k && contains (parents_in blocks) k)

pub none_spread : (blocks : List Block) (old into : List Bool) → length old ≡ document_total blocks → into ≡ zip_with ◌&&◌ old (parents_in blocks) → AreSpreadTo blocks old into 0
none_spread blocks old into size is =
    let parents = parents_of_set blocks old into size is in
    record { size = parents.0; whole = size; least = omega arith; done = λ k h. absurd (omega arith); rest = λ k low below. parents.1 k below }

not_both : (a b : Bool) → (a && b) ≡ false → b ≡ true → a ≡ false
not_both true b h e = absurd (false≢true (sym h ∙ e))
not_both false b h e = refl

module _ (blocks : List Block) (old into : List Bool) (from : ℕ) (so_far : AreSpreadTo blocks old into from) where
  -- a position whose parent is none of the set
  no_child : (k : ℕ) → from ≤ k → k < document_total blocks → contains into (parent_in_block blocks k) ≡ false → contains (spread blocks old) k ≡ false
  no_child k low below gone =
      let b = in_block blocks k below in
      let lost : contains old (parent_in_block blocks k) ≡ false = not_both _ _ (sym (so_far.rest (parent_in_block blocks k) (omega (arith, b.parent)) b.within) ∙ gone) b.is_parent in
      is_spread blocks old k so_far.whole below ∙ and_right (not (contains (parents_in blocks) k)) (contains old (parent_in_block blocks k)) lost

  -- a parent is no child
  no_parent : (k : ℕ) → k < document_total blocks → contains (parents_in blocks) k ≡ true → contains (spread blocks old) k ≡ false
  no_parent k below mark = is_spread blocks old k so_far.whole below ∙ ap (λ m. not m && contains old (parent_in_block blocks k)) mark

  pub spread_within : (at : ℕ) → IsNextFrom (contains into) from at → at < document_total blocks
  spread_within at is = omega (arith, below_length into at is.member, so_far.size)

  parent_parts : (at : ℕ) → IsNextFrom (contains into) from at → (contains old at ≡ true) × (contains (parents_in blocks) at ≡ true)
  parent_parts at is = and_parts (contains old at) (contains (parents_in blocks) at) (sym (so_far.rest at is.behind (spread_within at is)) ∙ is.member)

  -- the children of the parent at a position
  own_child : (at k : ℕ) → IsNextFrom (contains into) from at → first_in_block blocks at ≤ k → k < at → contains (spread blocks old) k ≡ true
  own_child at k is first below =
      let within = spread_within at is in
      let parts = parent_parts at is in
      let b = in_block blocks at within in
      let own = own_parent blocks at within parts.1 in
      let here : parent_in_block blocks k ≡ at = sym (next_is_parent blocks k at (omega arith) (record {
        behind = omega arith;
        member = parts.1;
        none_between = λ j low high. b.children j (omega arith) (omega (arith, own));
      })) in
      is_spread blocks old k so_far.whole (omega arith)
      ∙ and_from (not (contains (parents_in blocks) k)) (contains old (parent_in_block blocks k)) (ap not (b.children k first (omega (arith, own)))) (ap (contains old) here ∙ parts.0)

  -- a position of an earlier block has an earlier parent
  earlier : (at k : ℕ) → at < document_total blocks → k < first_in_block blocks at → parent_in_block blocks k < at
  earlier at k within before = let b = in_block blocks at within in let c = in_block blocks k (omega (arith, b.first)) in go b c (cases_lt (parent_in_block blocks k) at)
    where
      go : IsInBlock blocks at → IsInBlock blocks k → ((parent_in_block blocks k < at) ⊎ (at ≤ parent_in_block blocks k)) → parent_in_block blocks k < at
      go b c (inl less) = less
      go b c (inr more) = absurd (false≢true (sym (c.children (first_in_block blocks at - 1) (omega (arith, c.first)) (omega (arith, b.first))) ∙ b.before (omega arith)))

  -- the set with its parent at a position replaced by the children
  pub record IsReplaced (at : ℕ) (new : List Bool) : Type 0 where
    pub size : length new ≡ length into
    pub is : (k : ℕ) → contains new k ≡ (contains (set into at false) k || (nat_le (first_in_block blocks at) k && nat_lt k at))

  outside : (at k : ℕ) (new : List Bool) → IsReplaced at new → (k ≡ at → ⊥) → (k < first_in_block blocks at) ⊎ (at < k) → contains new k ≡ contains into k
  outside at k new is other (inl before) = is.is k ∙ ap₂ (λ a b. a || (b && nat_lt k at)) (get_or-set_other into at k false false other) (lt-leb (first_in_block blocks at) k before) ∙ or_none (contains into k)
    where
      or_none : (b : Bool) → (b || false) ≡ b
      or_none true = refl
      or_none false = refl
  outside at k new is other (inr past) =
      is.is k ∙ ap₂ (λ a b. a || b) (get_or-set_other into at k false false other) (and_right (nat_le (first_in_block blocks at) k) (nat_lt k at) (le-ltb k at (omega arith))) ∙ or_none (contains into k)
    where
      or_none : (b : Bool) → (b || false) ≡ b
      or_none true = refl
      or_none false = refl

  pub one_spread : (at : ℕ) (new : List Bool) → IsNextFrom (contains into) from at → IsReplaced at new → AreSpreadTo blocks old new (at + 1)
  one_spread at new is made =
      let within = spread_within at is in
      record {
        size = made.size ∙ so_far.size;
        whole = so_far.whole;
        least = omega arith;
        done = λ k h. go within k h (cases_eq k at) (cases_lt k (first_in_block blocks at)) (cases_lt k from);
        rest = λ k low below. outside at k new made (λ e. omega arith) (inr (omega arith)) ∙ so_far.rest k (omega (arith, is.behind)) below;
      }
    where
      inside : (k : ℕ) → first_in_block blocks at ≤ k → k < at → contains new k ≡ true
      inside k low high = made.is k ∙ ap (λ b. contains (set into at false) k || b) (and_from (nat_le (first_in_block blocks at) k) (nat_lt k at) (le-leb (first_in_block blocks at) k low) (lt-ltb k at high)) ∙ or_some (contains (set into at false) k)
        where
          or_some : (b : Bool) → (b || true) ≡ true
          or_some true = refl
          or_some false = refl

      go : at < document_total blocks → (k : ℕ) → k < at + 1 → ((k ≡ at) ⊎ (k ≡ at → ⊥)) → ((k < first_in_block blocks at) ⊎ (first_in_block blocks at ≤ k)) → ((k < from) ⊎ (from ≤ k)) → contains new k ≡ contains (spread blocks old) k
      go within k h (inl same) _ _ =
          ap (contains new) same
          ∙ made.is at
          ∙ ap₂ (λ a b. a || b) (get_or-set_same into at false false (omega (arith, so_far.size))) (and_right (nat_le (first_in_block blocks at) at) (nat_lt at at) (le-ltb at at (omega arith)))
          ∙ sym (ap (contains (spread blocks old)) same ∙ no_parent at within (parent_parts at is).1)
      go within k h (inr other) (inr low) _ = inside k low (omega arith) ∙ sym (own_child at k is low (omega arith))
      go within k h (inr other) (inl before) (inl early) = outside at k new made other (inl before) ∙ so_far.done k early
      go within k h (inr other) (inl before) (inr late) =
          let b = in_block blocks k (omega arith) in
          outside at k new made other (inl before) ∙ is.none_between k late (omega arith)
          ∙ sym (no_child k late (omega arith) (is.none_between (parent_in_block blocks k) (omega (arith, b.parent)) (earlier at k within before)))

  pub all_spread : HasNoneFrom (contains into) from → into ≡ spread blocks old
  all_spread none =
      same_members into (spread blocks old) (so_far.size ∙ sym long) (λ k below. go k (omega (arith, long)) (cases_lt k from))
    where
      long : length (spread blocks old) ≡ document_total blocks
      long = moved_keeps (children all) blocks old so_far.whole

      go : (k : ℕ) → k < document_total blocks → ((k < from) ⊎ (from ≤ k)) → contains into k ≡ contains (spread blocks old) k
      go k below (inl before) = so_far.done k before
      go k below (inr low) = let b = in_block blocks k below in none k low ∙ sym (no_child k low below (none (parent_in_block blocks k) (omega (arith, b.parent))))
