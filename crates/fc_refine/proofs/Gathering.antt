-- Parts of different shards, each put in its place.
use Rattle.std.proofs.Common.{◌≡◌, ℕ, suc, ◌<◌, ◌≤◌, List, [], ◌∷◌, ◌++◌, map, take, drop, Bool, true, false, cond, ◌==◌, refl, sym, ap, ◌∙◌, arith, eq-eqb}
use Rattle.std.specs.Prelude.{All, nat_lt}
use Rattle.std.specs.List.{AllByRecursion, insert}
use Rattle.std.proofs.lemmas.Bool.{ltb-true, ltb-false, le-ltb, lt-ltb, ne_eqb, or_parts, false≢true}
use Rattle.std.proofs.lemmas.List.Elements.{All-cons, All-head, All-tail}
use Rattle.fc_partial.specs.BucketView.{node_view}
use Rattle.fc_partial.specs.declared.bucket.PartialNode.{PartialNode}
use Rattle.fc_refine.specs.Gathered.{Gathered, AreGathered, HasFacetShape, added}
use Rattle.fc_refine.specs.Listings.{kept_part, part_view, parts_view}
use Rattle.fc_refine.specs.declared.listing.Part as code
use Rattle.fc_refine.specs.Parts.{Part, has_shard, HaveAscendingShards, with_part, told_by, IsPlace, SumsFit}
use Rattle.std.proofs.lemmas.List.{map-append, take-map, drop-map}
use Rattle.fc_refine.proofs.ToldValues.{AreTold}

-- what each member has, each has where one more that has it was put
pub All-with_part : (P : Part → Type 0) (p : Part) (ps : List Part) → P p → All P ps → All P (with_part p ps)
All-with_part P p [] h all = All-cons P p [] h all
All-with_part P p (q ∷ qs) h all = go (nat_lt p.shard q.shard) (All-with_part P p qs h (All-tail P q qs all))
  where
    go : (b : Bool) → All P (with_part p qs) → All P (cond b (p ∷ q ∷ qs) (q ∷ with_part p qs))
    go true ih = All-cons P p (q ∷ qs) h all
    go false ih = All-cons P q (with_part p qs) (All-head P q qs all) ih

under_with : (x : ℕ) (p : Part) (ps : List Part) → x < p.shard → AllByRecursion (λ q. x < q.shard) ps → AllByRecursion (λ q. x < q.shard) (with_part p ps)
under_with x p [] h all = (h, tt)
under_with x p (q ∷ qs) h all = go (nat_lt p.shard q.shard) (under_with x p qs h all.1)
  where
    go : (b : Bool) → AllByRecursion (λ r. x < r.shard) (with_part p qs) → AllByRecursion (λ r. x < r.shard) (cond b (p ∷ q ∷ qs) (q ∷ with_part p qs))
    go true ih = (h, all)
    go false ih = (all.0, ih)

further : (x y : ℕ) (ps : List Part) → x < y → AllByRecursion (λ q. y < q.shard) ps → AllByRecursion (λ q. x < q.shard) ps
further x y [] h all = tt
further x y (q ∷ qs) h all = (let one = all.0 in omega arith, further x y qs h all.1)

pub ascend_with : (p : Part) (ps : List Part) → HaveAscendingShards ps → has_shard p.shard ps ≡ false → HaveAscendingShards (with_part p ps)
ascend_with p [] up new = (tt, tt)
ascend_with p (q ∷ qs) up new = go (nat_lt p.shard q.shard) refl (ascend_with p qs up.1 parts.1)
  where
    parts : ((q.shard == p.shard) ≡ false) × (has_shard p.shard qs ≡ false)
    parts = or_parts (q.shard == p.shard) (has_shard p.shard qs) new

    apart : q.shard ≡ p.shard → ⊥
    apart e = false≢true (sym parts.0 ∙ eq-eqb q.shard p.shard e)

    go : (b : Bool) → nat_lt p.shard q.shard ≡ b → HaveAscendingShards (with_part p qs) → HaveAscendingShards (cond b (p ∷ q ∷ qs) (q ∷ with_part p qs))
    go true e ih = let less = ltb-true p.shard q.shard e in ((less, further p.shard q.shard qs less up.0), up)
    go false e ih = let more = ltb-false p.shard q.shard e in let other = apart in (under_with q.shard p qs (omega arith) up.0, ih)

-- each shard told its own part
pub told_own : (ps : List Part) → HaveAscendingShards ps → AreTold (told_by ps) ps
told_own [] up = λ k d l. absurd (omega arith)
told_own (p ∷ ps) up = All-cons P p ps (ap (λ b. cond b p.buckets (told_by ps p.shard)) (eq-eqb p.shard p.shard refl)) (later ps up.0 (told_own ps up.1))
  where
    P : Part → Type 0
    P q = told_by (p ∷ ps) q.shard ≡ q.buckets

    later : (qs : List Part) → AllByRecursion (λ q. p.shard < q.shard) qs → All (λ q. told_by ps q.shard ≡ q.buckets) qs → All P qs
    later [] under own = λ k d l. absurd (omega arith)
    later (q ∷ qs) under own =
        let less = under.0 in
        All-cons P q qs (ap (λ b. cond b p.buckets (told_by ps q.shard)) (ne_eqb p.shard q.shard (λ e. omega arith)) ∙ All-head (λ (r : Part). told_by ps r.shard ≡ r.buckets) q qs own)
        (later qs under.1 (All-tail (λ (r : Part). told_by ps r.shard ≡ r.buckets) q qs own))

-- the place behind a part of a lesser shard, and that before the first of a greater one
pub IsPlace-here : (p : Part) (ps : List Part) (i : ℕ) → i < p.shard → IsPlace (p ∷ ps) i 0
IsPlace-here p ps i less = (omega arith, λ buckets. ap (λ b. cond b (record { shard = i; buckets = buckets } ∷ p ∷ ps) (p ∷ with_part (record { shard = i; buckets = buckets }) ps)) (lt-ltb i p.shard less))

pub IsPlace-behind : (p : Part) (ps : List Part) (i at : ℕ) → p.shard ≤ i → IsPlace ps i at → IsPlace (p ∷ ps) i (suc at)
IsPlace-behind p ps i at more h = (let one = h.0 in omega arith, λ buckets. ap (λ b. cond b (record { shard = i; buckets = buckets } ∷ p ∷ ps) (p ∷ with_part (record { shard = i; buckets = buckets }) ps)) (le-ltb i p.shard more) ∙ ap (λ l. p ∷ l) (h.1 buckets))

-- ---- as candidates keep them

pub kept_parts : (xs : List code.Part) → map (λ (p : ℕ × PartialNode). record { shard = p.0; buckets = node_view p.1 }) (map kept_part xs) ≡ parts_view xs
kept_parts [] = refl
kept_parts (x ∷ xs) = ap (λ l. part_view x ∷ l) (kept_parts xs)

insert_view : (xs : List code.Part) (at : ℕ) (x : code.Part) → parts_view (insert xs at x) ≡ insert (parts_view xs) at (part_view x)
insert_view xs at x = map-append part_view (take at xs) (x ∷ drop at xs) ∙ ap (λ l. l ++ map part_view (x ∷ drop at xs)) (sym (take-map part_view at xs)) ∙ ap (λ l. take at (map part_view xs) ++ part_view x ∷ l) (sym (drop-map part_view at xs))

pub added_parts : (xs : List code.Part) (at : ℕ) (x : code.Part) → IsPlace (parts_view xs) x.shard at → parts_view (insert xs at x) ≡ with_part (part_view x) (parts_view xs)
added_parts xs at x place = insert_view xs at x ∙ sym (place.1 (part_view x).buckets)

-- one more part of its shape, of another shard, with sums that fit
pub keeps : (g : Gathered) (p : Part) → AreGathered g → HasFacetShape g.terms g.nodes p.buckets → has_shard p.shard g.parts ≡ false → SumsFit (with_part p g.parts) → AreGathered (added p g)
keeps g p ok shaped new fit = record {
  ascend = ascend_with p g.parts ok.ascend new;
  shaped = All-with_part (λ (q : Part). HasFacetShape g.terms g.nodes q.buckets) p g.parts shaped ok.shaped;
  fit = fit;
}
