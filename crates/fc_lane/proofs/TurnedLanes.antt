-- One comparison of turned lanes, as the word of a test.
use Rattle.std.proofs.Common.{◌≡◌, ℕ, suc, ◌+◌, ◌^◌, ◌-◌, ◌%◌, List, [], ◌∷◌, Bool, cond, map, length, drop, refl, ◌∙◌, ap, ap₂, arith}
use Rattle.std.specs.Prelude.{ℤ, int_lt, FitsSigned, ◌≤ℤ◌, replicate}
use Rattle.std.specs.Int.{w64}
use Rattle.std.specs.List.{All}
use Rattle.std.specs.Simd.Lanes.{mask_l, top, zip2, chunk}
use Rattle.std.proofs.lemmas.List.{length-map}
use Rattle.std.proofs.lemmas.List.Elements.{All-take, All-drop}
use Rattle.std.proofs.lemmas.Simd.{tops_compared, zip2_splat, zip2_splat_left, mask_l-mod, map-map}
use mir.Val.{to_z, of_z, bits, hbits}
use Rattle.fc_lane.specs.Between.{is_outside}
use Rattle.fc_lane.proofs.TurnedOrder.{past_is}

-- the lanes' own subtraction and test: of their bits, and of these read as signed
abbrev pub lane_minus : ℕ → ℕ → ℕ
lane_minus a b = (a + (2 ^ 64 - b)) % 2 ^ 64

abbrev pub lane_lt : ℕ → ℕ → Bool
lane_lt a b = int_lt (to_z w64 a) (to_z w64 b)

-- how far lanes are turned
abbrev pub turn : ℤ → ℕ
turn lo = (of_z w64 lo + 2 ^ 63) % 2 ^ 64

-- two tests that agree on each item
map_same : {X Y : Type 0} (f g : X → Y) (P : X → Type 0) → ((x : X) → P x → f x ≡ g x) → (xs : List X) → All P xs → map f xs ≡ map g xs
map_same f g P same [] all = refl
map_same f g P same (x ∷ xs) all = ap₂ (λ y ys. y ∷ ys) (same x (all 0 x (omega arith))) (map_same f g P same xs (λ k d within. all (suc k) d (omega arith)))

module _ (lo hi : ℤ) (f : FitsSigned w64 lo) (g : FitsSigned w64 hi) (ordered : lo ≤ℤ hi) (xs : List ℤ) (fit : All (FitsSigned w64) xs) (size : length xs ≡ 16) where
  turned_lanes : List ℕ
  turned_lanes = zip2 lane_minus (map (of_z w64) xs) (replicate 16 (turn lo))

  turned_lanes_are : turned_lanes ≡ map (λ x. lane_minus (of_z w64 x) (turn lo)) xs
  unfolding turned_lanes
  turned_lanes_are =
      zip2_splat lane_minus (map (of_z w64) xs) 16 (turn lo) (length-map xs (of_z w64) ∙ size)
      ∙ map-map (λ a. lane_minus a (turn lo)) (of_z w64) xs

  past : List ℕ
  past = zip2 (λ a b. cond (lane_lt a b) (2 ^ bits w64 - 1) 0) (replicate 16 (lane_minus (of_z w64 hi) (turn lo))) turned_lanes

  past_are : map (top (hbits w64)) past ≡ map (is_outside lo hi) xs
  unfolding past
  past_are =
      let highest = lane_minus (of_z w64 hi) (turn lo) in
      let long : length turned_lanes ≡ 16 = ap length turned_lanes_are ∙ length-map xs (λ x. lane_minus (of_z w64 x) (turn lo)) ∙ size in
      tops_compared w64 lane_lt (replicate 16 highest) turned_lanes
      ∙ zip2_splat_left lane_lt highest 16 turned_lanes long
      ∙ ap (map (lane_lt highest)) turned_lanes_are
      ∙ map-map (lane_lt highest) (λ x. lane_minus (of_z w64 x) (turn lo)) xs
      ∙ map_same (λ x. lane_lt highest (lane_minus (of_z w64 x) (turn lo))) (is_outside lo hi) (FitsSigned w64) (λ x h. past_is lo hi x f g h ordered) xs fit

  pub outside_of_lanes : mask_l (map (top (hbits w64)) (zip2 (λ a b. cond (lane_lt a b) (2 ^ bits w64 - 1) 0) (replicate 16 (lane_minus (of_z w64 hi) (turn lo))) (zip2 lane_minus (map (of_z w64) xs) (replicate 16 (turn lo))))) % 2 ^ 64
      ≡ mask_l (map (is_outside lo hi) xs)
  unfolding turned_lanes past
  outside_of_lanes = ap (λ tests. mask_l tests % 2 ^ 64) past_are ∙ mask_l-mod (map (is_outside lo hi) xs) 64 (omega (arith, length-map xs (is_outside lo hi), size))

-- a chunk of numbers that fit
pub chunk_fits : (xs : List ℤ) (at n : ℕ) → All (FitsSigned w64) xs → All (FitsSigned w64) (chunk at n xs)
chunk_fits xs at n all = All-take (FitsSigned w64) n (drop at xs) (All-drop (FitsSigned w64) at xs all)
