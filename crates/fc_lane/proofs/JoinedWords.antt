-- Words joined with others, eight at once and one by one.
use Rattle.std.proofs.Common.{◌≡◌, ℕ, ◌+◌, ◌-◌, ◌<◌, ◌≤◌, ◌⊎◌, inl, inr, List, [], ◌∷◌, length, get_or, map, refl, sym, ap, ap₂, ◌∙◌, arith}
use Rattle.std.specs.Simd.Lanes.{zip2, chunk, put_chunk}
use Rattle.std.proofs.lemmas.Bool.{cases_lt}
use Rattle.std.proofs.lemmas.Simd.{length-chunk, get_or-chunk, length-zip2, get_or-zip2, length-put_chunk, get_or-put_chunk_below, get_or-put_chunk_at, get_or-put_chunk_above}
use Rattle.fc_lane.specs.Joined.{AreJoinedFrom}

-- the words below a place are joined, and those from there on are as they were
pub record AreJoinedBefore (join : ℕ → ℕ → ℕ) (at : ℕ) (old others new : List ℕ) : Type 0 where
  pub within : at ≤ length new
  pub joined : (k : ℕ) → k < at → get_or new k 0 ≡ join (get_or old k 0) (get_or others k 0)
  pub past : (k : ℕ) → at ≤ k → get_or new k 0 ≡ get_or old k 0

-- eight more
pub joined_lanes : (join : ℕ → ℕ → ℕ) (at : ℕ) (old others new lanes : List ℕ) → AreJoinedBefore join at old others new → at + 8 ≤ length new → length lanes ≡ 8
    → ((j : ℕ) → j < 8 → get_or lanes j 0 ≡ join (get_or new (at + j) 0) (get_or others (at + j) 0))
    → AreJoinedBefore join (at + 8) old others (put_chunk at new lanes)
joined_lanes join at old others new lanes before room long is = record {
  within = omega (arith, length-put_chunk at new lanes);
  joined = λ k low. go k low (cases_lt k at);
  past = λ k high. get_or-put_chunk_above at new lanes k 0 (omega arith) ∙ before.past k (omega arith);
}
  where
    go : (k : ℕ) → k < at + 8 → ((k < at) ⊎ (at ≤ k)) → get_or (put_chunk at new lanes) k 0 ≡ join (get_or old k 0) (get_or others k 0)
    go k low (inl below) = get_or-put_chunk_below at new lanes k 0 below ∙ before.joined k below
    go k low (inr from) =
        let place : at + (k - at) ≡ k = omega arith in
        ap (λ i. get_or (put_chunk at new lanes) i 0) (sym place)
        ∙ get_or-put_chunk_at at new lanes (k - at) 0 (omega arith) (omega arith)
        ∙ is (k - at) (omega arith)
        ∙ ap (λ i. join (get_or new i 0) (get_or others i 0)) place
        ∙ ap (λ word. join word (get_or others k 0)) (before.past k from)

-- two vectors joined lane by lane
pub lanes_of_chunks : (join : ℕ → ℕ → ℕ) (at : ℕ) (words others : List ℕ) → at + 8 ≤ length words → at + 8 ≤ length others → (j : ℕ) → j < 8
    → get_or (zip2 join (chunk at 8 words) (chunk at 8 others)) j 0 ≡ join (get_or words (at + j) 0) (get_or others (at + j) 0)
lanes_of_chunks join at words others room others_room j low =
    get_or-zip2 join (chunk at 8 words) (chunk at 8 others) j 0 0 0 (omega (arith, length-chunk at 8 words room)) (omega (arith, length-chunk at 8 others others_room))
    ∙ ap₂ join (get_or-chunk at 8 words j 0 low) (get_or-chunk at 8 others j 0 low)

pub length_of_lanes : (join : ℕ → ℕ → ℕ) (at : ℕ) (words others : List ℕ) → at + 8 ≤ length words → at + 8 ≤ length others → length (zip2 join (chunk at 8 words) (chunk at 8 others)) ≡ 8
length_of_lanes join at words others room others_room =
    length-zip2 join (chunk at 8 words) (chunk at 8 others) (length-chunk at 8 words room ∙ sym (length-chunk at 8 others others_room)) ∙ length-chunk at 8 words room

-- the second changed lane by lane before
pub lanes_of_changed : (join : ℕ → ℕ → ℕ) (change : ℕ → ℕ) (xs ys : List ℕ) → length xs ≡ length ys → zip2 join xs (map change ys) ≡ zip2 (λ x y. join x (change y)) xs ys
lanes_of_changed join change [] ys long = refl
lanes_of_changed join change (x ∷ xs) [] long = absurd (omega arith)
lanes_of_changed join change (x ∷ xs) (y ∷ ys) long = ap (λ l. join x (change y) ∷ l) (lanes_of_changed join change xs ys (omega arith))

-- all of them
pub joined_all : (join : ℕ → ℕ → ℕ) (at : ℕ) (old others middle new : List ℕ) → AreJoinedBefore join at old others middle → AreJoinedFrom join at middle others new
    → (k : ℕ) → k < length middle → get_or new k 0 ≡ join (get_or old k 0) (get_or others k 0)
joined_all join at old others middle new before from k within = go (cases_lt k at)
  where
    go : ((k < at) ⊎ (at ≤ k)) → get_or new k 0 ≡ join (get_or old k 0) (get_or others k 0)
    go (inl below) = from.kept k below ∙ before.joined k below
    go (inr past) = from.joined k past within ∙ ap (λ word. join word (get_or others k 0)) (before.past k past)
