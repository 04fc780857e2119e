-- The entries of gathered candidates.
use Rattle.std.proofs.Common.{◌≡◌, List, [], ◌∷◌, map, get_or, is_some, refl, sym, ap, ◌∙◌, subst, arith}
use Rattle.std.specs.Prelude.{All}
use Rattle.std.specs.List.{flat_map}
use Rattle.std.specs.List.Sorted.{IsStrictlySortedBy}
use Rattle.std.specs.Map.{keys_of}
use Rattle.std.proofs.lemmas.List.Elements.{All-head, All-tail, All-cons}
use Rattle.std.proofs.Math.Path.{fun_ext}
use Rattle.fc_spec.specs.documents.Val.{Val, val_cmp, distinct}
use Rattle.fc_spec.specs.requests.Buckets.{value}
use Rattle.fc_spec.specs.requests.Ranks.{Entry}
use Rattle.fc_spec.specs.requests.Request.{terms, stats_of}
use Rattle.fc_spec.specs.requests.Statistics.{Stats}
use Rattle.fc_spec.specs.replies.Reading.{stats_on}
use Rattle.fc_spec.specs.messages.Held.{listed_values}
use Rattle.fc_spec.proofs.documents.Ascending.{same_ascending, has_val-distinct, distinct_ascends}
use Rattle.fc_base.specs.View.{val_view}
use Rattle.fc_refine.specs.CandidateView.{found_entry, found_group, found_part, IsCombined}
use Rattle.fc_refine.specs.Entries.{HaveAscendingValues}
use Rattle.fc_refine.specs.Gathered.{Gathered, AreGathered, gathered_entries, listing_shards}
use Rattle.fc_refine.specs.Grouped.{Group, Holds}
use Rattle.fc_refine.specs.Listings.{Listing, CanCombine, listed_by, listed_view, all_of}
use Rattle.fc_refine.specs.Parts.{shards_of, told_by, over_told}
use Rattle.fc_refine.specs.declared.found.Found.{Found}
use Rattle.fc_refine.proofs.Gathering.{told_own}
use Rattle.fc_refine.proofs.Growing.{has_val-keys, held_groups, is_some-if_any}
use Rattle.fc_refine.proofs.ToldValues.{AreTold, offering_is, any_is, stats_are, can_combine}

-- what all have that a list is made of
all_made : {X Y : Type 0} (P : Y → Type 0) (f : X → Y) (xs : List X) → ((x : X) → P (f x)) → All P (map f xs)
all_made P f [] h = λ k d l. absurd (omega arith)
all_made P f (x ∷ xs) h = All-cons P (f x) (map f xs) (h x) (all_made P f xs h)

pub all_images : {X Y : Type 0} (P : Y → Type 0) (f : X → Y) (xs : List X) → All (λ x. P (f x)) xs → All P (map f xs)
all_images P f [] h = λ k d l. absurd (omega arith)
all_images {X} P f (x ∷ xs) h = All-cons P (f x) (map f xs) (All-head (λ (y : X). P (f y)) x xs h) (all_images P f xs (All-tail (λ (y : X). P (f y)) x xs h))

pub all_sources : {X Y : Type 0} (P : Y → Type 0) (f : X → Y) (xs : List X) → All P (map f xs) → All (λ x. P (f x)) xs
all_sources P f [] h = λ k d l. absurd (omega arith)
all_sources {X} P f (x ∷ xs) h = All-cons (λ (y : X). P (f y)) x xs (All-head P (f x) (map f xs) h) (all_sources P f xs (All-tail P (f x) (map f xs) h))

pub map_map : {X Y Z : Type 0} (f : X → Y) (h : Y → Z) (xs : List X) → map h (map f xs) ≡ map (λ x. h (f x)) xs
map_map f h [] = refl
map_map f h (x ∷ xs) = ap (λ l. h (f x) ∷ l) (map_map f h xs)

module _ (g : Gathered) (ok : AreGathered g) where
  own : AreTold (told_by g.parts) g.parts
  own = told_own g.parts ok.ascend

  abbrev pub vals : List Val
  vals = flat_map (λ i. listed_values (told_by g.parts i)) (shards_of g.parts)

  abbrev pub group_of : Val → Group Listing
  group_of v = (v, listed_by v g.parts)

  pub groups_are : (gs : List (Group Listing)) → Holds (λ v. listed_by v g.parts) gs → gs ≡ map group_of (distinct vals)
  groups_are gs holds =
      let keys : keys_of gs ≡ distinct vals = same_ascending (keys_of gs) (distinct vals) holds.ascend (distinct_ascends vals)
      (λ v. has_val-keys v gs ∙ ap is_some (holds.lists v) ∙ is_some-if_any (listed_by v g.parts) ∙ sym (any_is (terms g.terms) g.nodes (told_by g.parts) v g.parts ok.shaped own) ∙ sym (has_val-distinct v vals)) in
      held_groups (λ v. listed_by v g.parts) gs holds ∙ ap (map group_of) keys

  pub groups_combine : (gs : List (Group Listing)) → Holds (λ v. listed_by v g.parts) gs → All (λ group. CanCombine (stats_of g.nodes) group.1) gs
  groups_combine gs holds = subst (All (λ (group : Group Listing). CanCombine (stats_of g.nodes) group.1)) (sym (groups_are gs holds))
      (all_made (λ (group : Group Listing). CanCombine (stats_of g.nodes) group.1) group_of (distinct vals) (λ v. can_combine (terms g.terms) g.nodes (told_by g.parts) v g.parts ok.shaped ok.fit))

  abbrev entry_of : Group Listing → Entry
  entry_of group = record { val = group.0; stats = all_of (stats_of g.nodes) group.1 }

  found_entries : (fs : List Found) → All (IsCombined (stats_of g.nodes)) fs → map found_entry fs ≡ map entry_of (map found_group fs)
  found_entries [] h = refl
  found_entries (f ∷ fs) h =
      ap (λ (s : Stats). record { val = val_view f.val.now; stats = s } ∷ map found_entry fs) (All-head (IsCombined (stats_of g.nodes)) f fs h)
      ∙ ap (λ l. entry_of (found_group f) ∷ l) (found_entries fs (All-tail (IsCombined (stats_of g.nodes)) f fs h))

  shards_are : (v : Val) → listing_shards g v ≡ map (λ (l : Listing). l.0) (listed_by v g.parts)
  shards_are v = offering_is (terms g.terms) g.nodes (told_by g.parts) v g.parts ok.shaped own

  entry_is : (v : Val) → entry_of (group_of v) ≡ record { val = v; stats = stats_on (over_told (told_by g.parts)) (stats_of g.nodes) (listing_shards g v) (value v) }
  entry_is v = ap (λ (s : Stats). record { val = v; stats = s })
      (sym (ap (λ H. stats_on (over_told (told_by g.parts)) (stats_of g.nodes) H (value v)) (shards_are v) ∙ stats_are (terms g.terms) g.nodes (told_by g.parts) v g.parts ok.shaped own))

  pub entries_are : (fs : List Found) (gs : List (Group Listing)) → map found_group fs ≡ gs → Holds (λ v. listed_by v g.parts) gs → All (IsCombined (stats_of g.nodes)) fs → map found_entry fs ≡ gathered_entries g
  entries_are fs gs same holds h =
      found_entries fs h ∙ ap (map entry_of) (same ∙ groups_are gs holds) ∙ map_map group_of entry_of (distinct vals) ∙ ap (λ f. map f (distinct vals)) (fun_ext entry_is)

  entry_vals : (f : Val → Stats) (vs : List Val) → map (λ (e : Entry). e.val) (map (λ v. record { val = v; stats = f v }) vs) ≡ vs
  entry_vals f [] = refl
  entry_vals f (v ∷ vs) = ap (λ l. v ∷ l) (entry_vals f vs)

  pub entries_ascend : HaveAscendingValues (gathered_entries g)
  entries_ascend = subst (IsStrictlySortedBy val_cmp) (sym (entry_vals (λ v. stats_on (over_told (told_by g.parts)) (stats_of g.nodes) (listing_shards g v) (value v)) (distinct vals))) (distinct_ascends vals)

  -- each found value has the shards that list it
  pub lists_are : (fs : List Found) (gs : List (Group Listing)) → map found_group fs ≡ gs → Holds (λ v. listed_by v g.parts) gs → All (λ f. (found_part f).1 ≡ listing_shards g (val_view f.val.now)) fs
  lists_are fs gs same holds =
      let P : Group Listing → Type 0 = λ group. group.1 ≡ listed_by group.0 g.parts in
      let listed : All (λ f. P (found_group f)) fs = all_sources P found_group fs (subst (All P) (sym (same ∙ groups_are gs holds)) (all_made P group_of (distinct vals) (λ v. refl))) in
      λ k d l. sym (map_map listed_view (λ (x : Listing). x.0) (get_or fs k d).listed.items) ∙ ap (map (λ (x : Listing). x.0)) (listed k d l) ∙ sym (shards_are (val_view (get_or fs k d).val.now))
