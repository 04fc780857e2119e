-- The integers of a set of positions of a column, picked by masks.
use Rattle.std.proofs.Common.{◌≡◌, ℕ, ℤ, List, [], ◌∷◌, map, length, Bool, sym, ap, ◌∙◌}
use Rattle.std.specs.List.{items_where_true}
use Rattle.std.proofs.lemmas.List.{length-map}
use Rattle.fc_spec.specs.documents.Bits.{first_bits, HasBits}
use Rattle.fc_spec.proofs.words.WhereTrue.{items_where_true-map}
use Rattle.fc_lane.specs.Masked.{masked}
use Rattle.fc_lane.proofs.BitLists.{first_bits_is, length-first_bits}
use Rattle.fc_lists.specs.Flat.{flat, spread_over}
use Rattle.fc_lists.proofs.Flat.{first_bits-spread_over, flat-singles, items_where_true-spread_over}

module _ (column : List (List ℤ)) (docs : List Bool) (words : List ℕ) (size : length docs ≡ length column) (bits : HasBits words docs) where
  set_is : (len : ℕ) → length column ≡ len → first_bits len words ≡ docs
  set_is len e = first_bits_is len words docs (size ∙ e) (λ k within. bits k)

  -- by the words of the set, where each position has one integer
  pub by_singles : (values : List ℤ) → column ≡ map (λ value. value ∷ []) values → masked words values ≡ flat (items_where_true docs column)
  by_singles values one =
      let len : length column ≡ length values = ap length one ∙ length-map values (λ value. value ∷ []) in
      ap (λ set. items_where_true set values) (set_is (length values) len)
      ∙ sym (flat-singles (items_where_true docs values))
      ∙ ap flat (sym (items_where_true-map (λ value. value ∷ []) docs values) ∙ ap (items_where_true docs) (sym one))

  -- by a mask that has the places of their integers
  pub by_spread : (mask : List ℕ) → HasBits mask (spread_over (first_bits (length column) words) column) → masked mask (flat column) ≡ flat (items_where_true docs column)
  by_spread mask spread =
      let set = first_bits (length column) words in
      let long = length-first_bits (length column) words in
      ap (λ picked. items_where_true picked (flat column)) (first_bits-spread_over mask set column long spread)
      ∙ items_where_true-spread_over set column long
      ∙ ap (λ docs'. flat (items_where_true docs' column)) (set_is (length column) (λ _. length column))
