-- The items of rows, one row behind the other, and those of a set of rows.
use Rattle.std.proofs.Common.{◌≡◌, ℕ, ◌+◌, ◌<◌, ◌≤◌, Bool, true, false, List, [], ◌∷◌, ◌++◌, length, take, drop, get_or, map, refl, sym, ap, ap₂, ◌∙◌, arith, append_assoc, length-append, All, subst}
use Rattle.std.specs.List.{items_where_true}
use Rattle.std.proofs.lemmas.List.{append-nil, length-map, take_all, take_more, take-append-drop}
use Rattle.std.proofs.lemmas.List.Elements.{All-append, All-head, All-tail}
use Rattle.std.proofs.lemmas.List.Concat.{flat_map-append}
use Rattle.fc_spec.specs.documents.Bits.{first_bits, HasBits}
use Rattle.fc_spec.proofs.words.WhereTrue.{items_where_true-append}
use Rattle.fc_lane.proofs.BitLists.{first_bits_is}
use Rattle.fc_lists.specs.Flat.{flat, spread_over}

module _ {T : Type 0} where
  -- ---- the rows up to one
  pub flat-more : (rows : List (List T)) (at : ℕ) → at < length rows → flat (take (at + 1) rows) ≡ flat (take at rows) ++ get_or rows at []
  flat-more rows at within =
      ap flat (take_more rows at [] within) ∙ flat_map-append (λ row. row) (take at rows) (get_or rows at [] ∷ [])
      ∙ ap (λ l. flat (take at rows) ++ l) (append-nil (get_or rows at []))

  pub length-flat-more : (rows : List (List T)) (at : ℕ) → at < length rows → length (flat (take (at + 1) rows)) ≡ length (flat (take at rows)) + length (get_or rows at [])
  length-flat-more rows at within = ap length (flat-more rows at within) ∙ length-append (flat (take at rows)) (get_or rows at [])

  pub length-flat-take : (rows : List (List T)) (at : ℕ) → length (flat (take at rows)) ≤ length (flat rows)
  length-flat-take rows at =
      let rest = drop at rows in
      let both : flat rows ≡ flat (take at rows) ++ flat rest = ap flat (sym (take-append-drop at rows)) ∙ flat_map-append (λ row. row) (take at rows) rest in
      omega (arith, ap length both, length-append (flat (take at rows)) (flat rest))

  -- ---- whether each item is one of the rows in a set
  pub length-spread_front : (bits : List Bool) (rows : List (List T)) → length bits ≤ length rows → length (spread_over bits rows) ≡ length (flat (take (length bits) rows))
  length-spread_front [] rows few = refl
  length-spread_front (b ∷ bits) [] few = absurd (omega arith)
  length-spread_front (b ∷ bits) (row ∷ rows) few =
      let rest = length-spread_front bits rows (omega arith) in
      let front = flat (take (length bits) rows) in
      omega (arith, rest, length-map row (λ _. b), length-append (map (λ _. b) row) (spread_over bits rows), length-append row front)

  pub length-spread_over : (bits : List Bool) (rows : List (List T)) → length bits ≡ length rows → length (spread_over bits rows) ≡ length (flat rows)
  length-spread_over bits rows long =
      length-spread_front bits rows (omega arith) ∙ ap (λ l. length (flat l)) (take_all (length bits) rows (omega arith))

  all_items : (row : List T) → items_where_true (map (λ _. true) row) row ≡ row
  all_items [] = refl
  all_items (x ∷ row) = ap (λ l. x ∷ l) (all_items row)

  no_items : (row : List T) → items_where_true (map (λ _. false) row) row ≡ []
  no_items [] = refl
  no_items (x ∷ row) = no_items row

  -- the items that are in the set are those of the rows in the set
  pub items_where_true-spread_over : (bits : List Bool) (rows : List (List T)) → length bits ≡ length rows
      → items_where_true (spread_over bits rows) (flat rows) ≡ flat (items_where_true bits rows)
  items_where_true-spread_over [] [] long = refl
  items_where_true-spread_over [] (row ∷ rows) long = absurd (omega arith)
  items_where_true-spread_over (b ∷ bits) [] long = absurd (omega arith)
  items_where_true-spread_over (true ∷ bits) (row ∷ rows) long =
      items_where_true-append (map (λ _. true) row) (spread_over bits rows) row (flat rows) (length-map row (λ _. true))
      ∙ ap₂ (λ a b. a ++ b) (all_items row) (items_where_true-spread_over bits rows (omega arith))
  items_where_true-spread_over (false ∷ bits) (row ∷ rows) long =
      items_where_true-append (map (λ _. false) row) (spread_over bits rows) row (flat rows) (length-map row (λ _. false))
      ∙ ap₂ (λ a b. a ++ b) (no_items row) (items_where_true-spread_over bits rows (omega arith))

  -- words with these bits pick them
  pub first_bits-spread_over : (words : List ℕ) (bits : List Bool) (rows : List (List T)) → length bits ≡ length rows → HasBits words (spread_over bits rows)
      → first_bits (length (flat rows)) words ≡ spread_over bits rows
  first_bits-spread_over words bits rows long has =
      first_bits_is (length (flat rows)) words (spread_over bits rows) (length-spread_over bits rows long) (λ k within. has k)

  -- a set of one row more
  pub spread_over-push : (bits : List Bool) (b : Bool) (rows : List (List T)) → length bits < length rows
      → spread_over (bits ++ b ∷ []) rows ≡ spread_over bits rows ++ map (λ _. b) (get_or rows (length bits) [])
  spread_over-push [] b [] within = absurd (omega arith)
  spread_over-push [] b (row ∷ rows) within = append-nil (map (λ _. b) row)
  spread_over-push (here ∷ bits) b [] within = absurd (omega arith)
  spread_over-push (here ∷ bits) b (row ∷ rows) within =
      let last = map (λ (_ : T). b) (get_or rows (length bits) []) in
      ap (λ l. map (λ _. here) row ++ l) (spread_over-push bits b rows (omega arith))
      ∙ sym (append_assoc (map (λ _. here) row) (spread_over bits rows) last)

  -- what holds of the items of each row holds of all items
  pub All-flat : (P : T → Type 0) (rows : List (List T)) → All (All P) rows → All P (flat rows)
  All-flat P [] all = λ k d inside. absurd (omega arith)
  All-flat P (row ∷ rows) all =
      All-append P row (flat rows) (All-head (All P) row rows all) (All-flat P rows (All-tail (All P) row rows all))

  -- ---- where each row has one item
  pub flat-singles : (items : List T) → flat (map (λ item. item ∷ []) items) ≡ items
  flat-singles [] = refl
  flat-singles (item ∷ items) = ap (λ l. item ∷ l) (flat-singles items)

  pub spread_over-singles : (bits : List Bool) (items : List T) → length bits ≡ length items → spread_over bits (map (λ item. item ∷ []) items) ≡ bits
  spread_over-singles [] [] long = refl
  spread_over-singles [] (item ∷ items) long = absurd (omega arith)
  spread_over-singles (b ∷ bits) [] long = absurd (omega arith)
  spread_over-singles (b ∷ bits) (item ∷ items) long = ap (λ l. b ∷ l) (spread_over-singles bits items (omega arith))

  pub All-singles : (P : T → Type 0) (rows : List (List T)) (items : List T) → rows ≡ map (λ item. item ∷ []) items → All (All P) rows → All P items
  All-singles P rows items is all = subst (All P) (ap flat is ∙ flat-singles items) (All-flat P rows all)
