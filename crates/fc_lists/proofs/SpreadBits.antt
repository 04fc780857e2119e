-- Words that say of each item whether its row is in a set, row by row.
use Rattle.std.proofs.Common.{◌≡◌, ℕ, zero, suc, ◌+◌, ◌-◌, ◌<◌, ◌≤◌, ◌⊎◌, inl, inr, Bool, true, false, ◌&&◌, ◌||◌, nat_le, nat_lt, List, [], ◌∷◌, ◌++◌, length, take, get_or, map, replicate, refl, sym, ap, ap₂, subst, ◌∙◌, arith, add-zero, zero-add, lt-ltb, le-ltb, le-leb}
use Rattle.std.proofs.lemmas.Bool.{cases_lt, lt-leb, or_right}
use Rattle.std.proofs.lemmas.List.{append-nil, length-map, get_or_append_left, get_or-append_right, get_or_past}
use Rattle.std.proofs.lemmas.List.FromFn.{map-range_with_len_more}
use Rattle.fc_spec.specs.documents.Bits.{has_bit, first_bits, HasBits}
use Rattle.fc_spec.proofs.documents.WordBits.{has_bit_of_zeros, or_right_false}
use Rattle.fc_lane.proofs.BitLists.{length-first_bits}
use Rattle.fc_lists.specs.Flat.{flat, spread_over}
use Rattle.fc_lists.proofs.Flat.{spread_over-push, length-spread_front, length-flat-more}

-- ---- bits behind others
module _ {T : Type 0} where
  row_bit : (b : Bool) (row : List T) (k : ℕ) → k < length row → get_or (map (λ _. b) row) k false ≡ b
  row_bit b [] k within = absurd (omega arith)
  row_bit b (x ∷ row) zero within = refl
  row_bit b (x ∷ row) (suc k) within = row_bit b row k (omega arith)

  no_bit : (row : List T) (k : ℕ) → get_or (map (λ _. false) row) k false ≡ false
  no_bit [] k = refl
  no_bit (x ∷ row) zero = refl
  no_bit (x ∷ row) (suc k) = no_bit row k

  -- those of a row that is not in the set, or has no items, change nothing
  out_of_set : (bits : List Bool) (row : List T) (k : ℕ) → get_or (bits ++ map (λ _. false) row) k false ≡ get_or bits k false
  out_of_set bits row k = go (cases_lt k (length bits))
    where
      go : ((k < length bits) ⊎ (length bits ≤ k)) → get_or (bits ++ map (λ _. false) row) k false ≡ get_or bits k false
      go (inl front) = get_or_append_left bits (map (λ _. false) row) false k front
      go (inr behind) =
          get_or-append_right bits (map (λ _. false) row) (length bits) k false refl behind ∙ no_bit row (k - length bits)
          ∙ sym (get_or_past bits k false behind)

  pub unmarked : (words : List ℕ) (bits : List Bool) (b : Bool) (row : List T) → HasBits words bits → ((b ≡ false) ⊎ (row ≡ [])) → HasBits words (bits ++ map (λ _. b) row)
  unmarked words bits b row has none k = has k ∙ sym (go none)
    where
      go : ((b ≡ false) ⊎ (row ≡ [])) → get_or (bits ++ map (λ _. b) row) k false ≡ get_or bits k false
      go (inl out) = ap (λ t. get_or (bits ++ map (λ _. t) row) k false) out ∙ out_of_set bits row k
      go (inr empty) = ap (λ (l : List T). get_or (bits ++ map (λ _. b) l) k false) empty ∙ ap (λ l. get_or l k false) (append-nil bits)

  -- those of a row in the set are 1
  module _ (old new : List ℕ) (bits : List Bool) (row : List T) (start end : ℕ) (has : HasBits old bits) (start_is : start ≡ length bits)
      (end_is : end ≡ length bits + length row) (made : (k : ℕ) → has_bit new k ≡ (has_bit old k || (nat_le start k && nat_lt k end))) where
    before : (k : ℕ) → k < length bits → has_bit new k ≡ get_or (bits ++ map (λ _. true) row) k false
    before k front =
        made k ∙ or_right_false (has_bit old k) (nat_le start k && nat_lt k end) (ap (λ t. t && nat_lt k end) (lt-leb start k (omega arith)))
        ∙ has k ∙ sym (get_or_append_left bits (map (λ _. true) row) false k front)

    within : (k : ℕ) → length bits ≤ k → k < end → has_bit new k ≡ get_or (bits ++ map (λ _. true) row) k false
    within k behind inside =
        made k ∙ or_right (has_bit old k) (nat_le start k && nat_lt k end) (ap₂ (λ a b. a && b) (le-leb start k (omega arith)) (lt-ltb k end inside))
        ∙ sym (get_or-append_right bits (map (λ _. true) row) (length bits) k false refl behind ∙ row_bit true row (k - length bits) (omega arith))

    past : (k : ℕ) → length bits ≤ k → end ≤ k → has_bit new k ≡ get_or (bits ++ map (λ _. true) row) k false
    past k behind out =
        made k ∙ ap₂ (λ a b. a || (nat_le start k && b)) (has k ∙ get_or_past bits k false behind) (le-ltb k end out) ∙ and_false (nat_le start k)
        ∙ sym (get_or-append_right bits (map (λ _. true) row) (length bits) k false refl behind
        ∙ get_or_past (map (λ _. true) row) (k - length bits) false (omega (arith, length-map row (λ _. true))))
      where
        and_false : (b : Bool) → (b && false) ≡ false
        and_false true = refl
        and_false false = refl

    pub marked : HasBits new (bits ++ map (λ _. true) row)
    marked k = go (cases_lt k (length bits)) (cases_lt k end)
      where
        go : ((k < length bits) ⊎ (length bits ≤ k)) → ((k < end) ⊎ (end ≤ k)) → has_bit new k ≡ get_or (bits ++ map (λ _. true) row) k false
        go (inl front) side = before k front
        go (inr behind) (inl inside) = within k behind inside
        go (inr behind) (inr out) = past k behind out

-- ---- the rows before one are done
pub record AreSpread {T : Type 0} (docs : List ℕ) (rows : List (List T)) (into : List ℕ) (from : ℕ) : Type 0 where
  pub within : from ≤ length rows
  pub bits : HasBits into (spread_over (first_bits from docs) rows)

pub none_spread : {T : Type 0} (docs : List ℕ) (rows : List (List T)) (into : List ℕ) (n : ℕ) → into ≡ replicate n 0 → AreSpread docs rows into 0
none_spread docs rows into n zeros = record {
  within = omega arith;
  bits = λ k. ap (λ l. has_bit l k) zeros ∙ has_bit_of_zeros n k;
}

module _ {T : Type 0} (docs : List ℕ) (rows : List (List T)) where
  next_row : (at : ℕ) → at < length rows
      → spread_over (first_bits (at + 1) docs) rows ≡ spread_over (first_bits at docs) rows ++ map (λ _. has_bit docs at) (get_or rows at [])
  next_row at within =
      let size = length-first_bits at docs in
      ap (λ l. spread_over l rows) (map-range_with_len_more (has_bit docs) 0 at at (zero-add at))
      ∙ spread_over-push (first_bits at docs) (has_bit docs at) rows (omega arith)
      ∙ ap (λ n. spread_over (first_bits at docs) rows ++ map (λ _. has_bit docs at) (get_or rows n [])) size

  length-done : (at : ℕ) → at ≤ length rows → length (spread_over (first_bits at docs) rows) ≡ length (flat (take at rows))
  length-done at within =
      let size = length-first_bits at docs in
      length-spread_front (first_bits at docs) rows (omega arith) ∙ ap (λ n. length (flat (take n rows))) size

  passed : (into : List ℕ) (from n : ℕ) → AreSpread docs rows into from → from + n ≤ length rows
      → ((k : ℕ) → from ≤ k → k < from + n → (has_bit docs k ≡ false) ⊎ (get_or rows k [] ≡ [])) → AreSpread docs rows into (from + n)
  passed into from zero done few none = subst (AreSpread docs rows into) (sym (add-zero from)) done
  passed into from (suc n) done few none =
      let before = passed into from n done (omega arith) (λ k low high. none k low (omega arith)) in
      let more : from + n + 1 ≡ from + suc n = omega arith in
      subst (AreSpread docs rows into) more (record {
        within = omega arith;
        bits = subst (HasBits into) (sym (next_row (from + n) (omega arith)))
            (unmarked into (spread_over (first_bits (from + n) docs) rows) (has_bit docs (from + n)) (get_or rows (from + n) []) before.bits (none (from + n) (omega arith) (omega arith)));
      })

  -- rows that are not in the set, or have no items
  pub rows_passed : (into : List ℕ) (from to : ℕ) → AreSpread docs rows into from → from ≤ to → to ≤ length rows
      → ((k : ℕ) → from ≤ k → k < to → (has_bit docs k ≡ false) ⊎ (get_or rows k [] ≡ [])) → AreSpread docs rows into to
  rows_passed into from to done order few none =
      let there : from + (to - from) ≡ to = omega arith in
      subst (AreSpread docs rows into) there (passed into from (to - from) done (omega arith) (λ k low high. none k low (omega arith)))

  -- a row in the set
  pub row_spread : (old new : List ℕ) (at start end : ℕ) → AreSpread docs rows old at → at < length rows → has_bit docs at ≡ true
      → start ≡ length (flat (take at rows)) → end ≡ length (flat (take (at + 1) rows))
      → ((k : ℕ) → has_bit new k ≡ (has_bit old k || (nat_le start k && nat_lt k end))) → AreSpread docs rows new (at + 1)
  row_spread old new at start end done within here start_is end_is made =
      let front = spread_over (first_bits at docs) rows in
      let row = get_or rows at [] in
      let size = length-done at (omega arith) in
      let more = length-flat-more rows at within in
      record {
        within = omega arith;
        bits = subst (HasBits new) (sym (next_row at within ∙ ap (λ b. front ++ map (λ _. b) row) here))
            (marked old new front row start end done.bits (omega (arith, size, start_is)) (omega (arith, size, more, end_is)) made);
      }

  pub all_spread : (into : List ℕ) (from : ℕ) → AreSpread docs rows into from
      → ((k : ℕ) → from ≤ k → k < length rows → (has_bit docs k ≡ false) ⊎ (get_or rows k [] ≡ [])) → HasBits into (spread_over (first_bits (length rows) docs) rows)
  all_spread into from done none =
      let all = rows_passed into from (length rows) done done.within (omega arith) none in
      all.bits
