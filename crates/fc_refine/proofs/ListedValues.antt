-- What is listed of a value, bucket by bucket and part by part.
use Rattle.std.proofs.Common.{◌≡◌, ℕ, List, [], ◌∷◌, ◌++◌, map, Bool, true, false, cond, ◌||◌, Option, Some, unwrap_or, refl, sym, ap, ◌∙◌, append_assoc, append-nil}
use Rattle.std.specs.List.Sorted.{IsStrictlySortedBy}
use Rattle.std.proofs.lemmas.Grind.{flat_map-append}
use Rattle.std.proofs.lemmas.List.{map-append}
use Rattle.fc_spec.specs.documents.Val.{Val, same_val}
use Rattle.fc_spec.specs.messages.Message.{Partials}
use Rattle.fc_partial.specs.declared.bucket.PartialBucket.{PartialBucket}
use Rattle.fc_partial.specs.declared.bucket.PartialBucket.TheFolds.{fold_out-PartialNode}
use Rattle.fc_partial.specs.declared.bucket.PartialNode.{PartialNode, out-PartialNode}
use Rattle.fc_partial.specs.BucketView.{Part, bucket_view, buckets_view, node_view, bucket_step, node_step, linked}
use Rattle.fc_refine.specs.Grouped.{ValueMap, map_view, list_at, grown, Grows, if_any, Holds}
use Rattle.fc_refine.specs.Listings.{Listing, is_key_of_value, listed_in, listed_by, extended, GrowsBy}
use Rattle.fc_refine.specs.Parts as parts

-- one list after another
extended_twice : {V : Type 0} (o : Option (List V)) (xs ys : List V) → extended (extended o xs) ys ≡ extended o (xs ++ ys)
extended_twice o [] ys = refl
extended_twice o (x ∷ xs) [] = ap (λ l. Some (unwrap_or o [] ++ x ∷ l)) (sym (append-nil xs))
extended_twice o (x ∷ xs) (y ∷ ys) = ap Some (append_assoc (unwrap_or o []) (x ∷ xs) (y ∷ ys))

extended_any : {V : Type 0} (xs ys : List V) → extended (if_any xs) ys ≡ if_any (xs ++ ys)
extended_any [] [] = refl
extended_any [] (y ∷ ys) = refl
extended_any (x ∷ xs) [] = ap (λ l. Some (x ∷ l)) (sym (append-nil xs))
extended_any (x ∷ xs) (y ∷ ys) = refl

module _ {T V : Type 0} (see : T → V) where
  pub grows_by_none : (m : ValueMap T) (items : Val → List V) → ((v : Val) → items v ≡ []) → GrowsBy see m m items
  grows_by_none m items none = record { lists = λ v. sym (ap (extended (list_at v (map_view see m))) (none v)); ascend = λ a. a }

  pub grows_by_again : (old now new : ValueMap T) (xs ys zs : Val → List V) → GrowsBy see old now xs → GrowsBy see now new ys → ((v : Val) → zs v ≡ xs v ++ ys v) → GrowsBy see old new zs
  grows_by_again old now new xs ys zs h k both = record {
    lists = λ v. k.lists v ∙ ap (λ o. extended o (ys v)) (h.lists v) ∙ extended_twice (list_at v (map_view see old)) (xs v) (ys v) ∙ ap (extended (list_at v (map_view see old))) (sym (both v));
    ascend = λ a. k.ascend (h.ascend a);
  }

  pub grows_by_same : (old new : ValueMap T) (xs ys : Val → List V) → GrowsBy see old new xs → ((v : Val) → ys v ≡ xs v) → GrowsBy see old new ys
  grows_by_same old new xs ys h same = record { lists = λ v. h.lists v ∙ ap (extended (list_at v (map_view see old))) (sym (same v)); ascend = h.ascend }

  grown_once : (b : Bool) (p : V) (o : Option (List V)) → grown (b || false) p o ≡ extended o (cond b (p ∷ []) [])
  grown_once true p o = refl
  grown_once false p o = refl

  pub grows_by_one : (old new : ValueMap T) (w : Val) (p : V) (items : Val → List V) → Grows see old new (w ∷ []) p → ((v : Val) → items v ≡ cond (same_val v w) (p ∷ []) []) → GrowsBy see old new items
  grows_by_one old new w p items h is = record {
    lists = λ v. h.lists v ∙ grown_once (same_val v w) p (list_at v (map_view see old)) ∙ ap (extended (list_at v (map_view see old))) (sym (is v));
    ascend = h.ascend;
  }

  pub holds_by : (f g : Val → List V) (items : Val → List V) (old new : ValueMap T) → Holds f (map_view see old) → GrowsBy see old new items → ((v : Val) → g v ≡ f v ++ items v) → Holds g (map_view see new)
  holds_by f g items old new holds grows both = record {
    lists = λ v. grows.lists v ∙ ap (λ o. extended o (items v)) (holds.lists v) ∙ extended_any (f v) (items v) ∙ ap if_any (sym (both v));
    ascend = grows.ascend holds.ascend;
  }

-- ---- buckets

pub node_is : (n : PartialNode) → node_view n ≡ buckets_view (out-PartialNode n).buckets.items
node_is n = fold_out-PartialNode Part Partials bucket_step node_step n

module _ (v : Val) (i : ℕ) where
  -- what one bucket lists
  one_listed : Part → List Listing
  one_listed p = listed_in v i (linked (p ∷ []))

  listed_cons : (p : Part) (ps : List Part) → listed_in v i (linked (p ∷ ps)) ≡ listed_in v i (linked (p ∷ [])) ++ listed_in v i (linked ps)
  listed_cons p ps = go (is_key_of_value v p.key)
    where
      go : (b : Bool) → cond b ((i, p.stats) ∷ listed_in v i (linked ps)) (listed_in v i (linked ps)) ≡ cond b ((i, p.stats) ∷ []) [] ++ listed_in v i (linked ps)
      go true = refl
      go false = refl

  listed_joined : (ps qs : List Part) → listed_in v i (linked (ps ++ qs)) ≡ listed_in v i (linked ps) ++ listed_in v i (linked qs)
  listed_joined [] qs = refl
  listed_joined (p ∷ ps) qs =
      listed_cons p (ps ++ qs) ∙ ap (λ l. listed_in v i (linked (p ∷ [])) ++ l) (listed_joined ps qs)
      ∙ sym (append_assoc (listed_in v i (linked (p ∷ []))) (listed_in v i (linked ps)) (listed_in v i (linked qs)))
      ∙ ap (λ l. l ++ listed_in v i (linked qs)) (sym (listed_cons p ps))

  pub listed_append : (xs ys : List PartialBucket) → listed_in v i (buckets_view (xs ++ ys)) ≡ listed_in v i (buckets_view xs) ++ listed_in v i (buckets_view ys)
  listed_append xs ys = ap (λ ps. listed_in v i (linked ps)) (map-append bucket_view xs ys) ∙ listed_joined (map bucket_view xs) (map bucket_view ys)

-- ---- parts

pub listed_by_append : (v : Val) (ps qs : List parts.Part) → listed_by v (ps ++ qs) ≡ listed_by v ps ++ listed_by v qs
listed_by_append v = flat_map-append (λ (p : parts.Part). listed_in v p.shard p.buckets)

-- one more part
pub listed_by_more : (v : Val) (ps : List parts.Part) (p : parts.Part) → listed_by v (ps ++ p ∷ []) ≡ listed_by v ps ++ listed_in v p.shard p.buckets
listed_by_more v ps p = listed_by_append v ps (p ∷ []) ∙ ap (λ l. listed_by v ps ++ l) (append-nil (listed_in v p.shard p.buckets))

pub holds_nothing : Holds (λ v. listed_by v []) []
unfolding IsStrictlySortedBy
holds_nothing = record { lists = λ v. refl; ascend = tt }
