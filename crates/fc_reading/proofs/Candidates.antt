-- What is known of candidates.
use Rattle.std.proofs.Common.{◌≡◌, ℕ, List, [], ◌∷◌, map, Bool, true, false, Option, None, Some, ◌||◌, refl, ap, sym, ◌∙◌, subst, cond}
use Rattle.std.specs.Prelude.{All, is_some}
use Rattle.std.specs.List.{flat_map}
use Rattle.std.specs.List.Sorted.{IsStrictlySortedBy}
use Rattle.std.proofs.lemmas.List.Elements.{All-head, All-tail}
use Rattle.fc_spec.specs.documents.Val.{Val, val_cmp}
use Rattle.fc_spec.specs.requests.Request.{Terms, Nodes}
use Rattle.fc_spec.specs.requests.Ranks.{Entry, below_rank, rank_bound}
use Rattle.fc_spec.specs.requests.Shape.{holds_exclusion, asks_again, counts_all}
use Rattle.fc_spec.specs.replies.Reading.{Reading}
use Rattle.fc_spec.specs.replies.Chosen as chosen
use Rattle.fc_spec.proofs.documents.Ascending.{distinct_ascends}
use Rattle.fc_spec.proofs.words.Counting.{filter-all}
use Rattle.fc_base.specs.View.{val_view}
use Rattle.fc_refine.specs.Entries.{HaveAscendingValues}
use Rattle.fc_reading.specs.declared.candidate.Candidate.{Candidate}
use Rattle.fc_reading.specs.Terms.{candidate_vals, candidates_view, counted_first, IsOn}

-- the values of the entries are those of the candidates
pub entry_vals : {B : Type 0} (cs : List (Candidate B)) → map (λ (e : Entry). e.val) (candidates_view cs) ≡ candidate_vals cs
entry_vals [] = refl
entry_vals (c ∷ cs) = ap (λ vs. val_view c.val ∷ vs) (entry_vals cs)

module _ {B H D : Type 0} (R : Reading H D) (t : Terms) (inner : Nodes) (K : List ℕ) (Y : D) (held : B → H) where
  -- the entries of candidates that are counted so
  pub entries_on : (counted : Val → List ℕ) (cs : List (Candidate B)) → All (IsOn R t inner K Y held counted) cs
      → candidates_view cs ≡ map (λ v. chosen.entry_on R t inner K Y (counted v) v) (candidate_vals cs)
  entries_on counted [] h = refl
  entries_on counted (c ∷ cs) h =
      ap (λ e. e ∷ candidates_view cs) ((All-head (IsOn R t inner K Y held counted) c cs h).entry)
      ∙ ap (λ es. chosen.entry_on R t inner K Y (counted (val_view c.val)) (val_view c.val) ∷ es) (entries_on counted cs (All-tail (IsOn R t inner K Y held counted) c cs h))

  -- the values of what is made of values
  vals_made : (f : Val → List ℕ) (vs : List Val) → map (λ (e : Entry). e.val) (map (λ v. chosen.entry_on R t inner K Y (f v) v) vs) ≡ vs
  vals_made f [] = refl
  vals_made f (v ∷ vs) = ap (λ ws. v ∷ ws) (vals_made f vs)

  -- without a further round every candidate is chosen
  all_chosen : asks_again t inner ≡ false → chosen.chosen R t inner K Y ≡ chosen.candidates R t inner K Y
  all_chosen none = go t.refine t.limit none
    where
      E : List Entry
      E = map (λ v. chosen.entry_on R t inner K Y (chosen.offering R t inner K Y v) v) (chosen.candidates R t inner K Y)

      all : map (λ (e : Entry). e.val) (below_rank t.sort None E) ≡ chosen.candidates R t inner K Y
      all = ap (λ es. map (λ (e : Entry). e.val) es) (filter-all E) ∙ vals_made (chosen.offering R t inner K Y) (chosen.candidates R t inner K Y)

      go : (refine : Bool) (limit : Option ℕ) → cond (is_some limit) refine (holds_exclusion inner) ≡ false
          → map (λ (e : Entry). e.val) (below_rank t.sort (cond refine (rank_bound t.offset limit t.overrefine) None) E) ≡ chosen.candidates R t inner K Y
      go true None h = all
      go true (Some n) h = absurd (cc h)
      go false limit h = all

  pub all_known : asks_again t inner ≡ false → (cs : List (Candidate B)) → All (IsOn R t inner K Y held (counted_first R t inner K Y)) cs
      → All (IsOn R t inner K Y held (chosen.known R t inner K Y)) cs
  all_known none cs h = subst (λ f. All (IsOn R t inner K Y held f) cs) (λ i v. cond (none i) (chosen.offering R t inner K Y v) (chosen.known R t inner K Y v)) h

  pub known_entries : asks_again t inner ≡ false → (cs : List (Candidate B)) → All (IsOn R t inner K Y held (counted_first R t inner K Y)) cs
      → candidate_vals cs ≡ chosen.candidates R t inner K Y → candidates_view cs ≡ chosen.chosen_entries R t inner K Y
  known_entries none cs h vals =
      entries_on (chosen.known R t inner K Y) cs (all_known none cs h)
      ∙ ap (λ vs. map (λ v. chosen.entry_on R t inner K Y (chosen.known R t inner K Y v) v) vs) (vals ∙ sym (all_chosen none))

  -- candidates ascend
  pub candidates_ascend : (cs : List (Candidate B)) → candidate_vals cs ≡ chosen.candidates R t inner K Y → HaveAscendingValues (candidates_view cs)
  candidates_ascend cs vals = subst (IsStrictlySortedBy val_cmp) (sym (entry_vals cs ∙ vals)) (distinct_ascends (flat_map (λ i. R.offered_by t inner Y i) K))

  -- ---- with a further round

  or_true : (b : Bool) → (b || true) ≡ true
  or_true true = refl
  or_true false = refl

  -- the chosen values are counted on all shards
  counts_all_shards : asks_again t inner ≡ true → counts_all t inner ≡ true
  counts_all_shards again = ap (λ b. t.refine || b) again ∙ or_true t.refine

  -- where there is a limit the facet refines, so that its bound is the one of chosen values
  bound_is : asks_again t inner ≡ true → rank_bound t.offset t.limit t.overrefine ≡ chosen.chosen_bound t
  bound_is again = go t.refine t.limit again
    where
      go : (refine : Bool) (limit : Option ℕ) → cond (is_some limit) refine (holds_exclusion inner) ≡ true → rank_bound t.offset limit t.overrefine ≡ cond refine (rank_bound t.offset limit t.overrefine) None
      go true limit h = refl
      go false None h = refl
      go false (Some n) h = absurd (cc h)

  pub first_offering : asks_again t inner ≡ true → (cs : List (Candidate B)) → All (IsOn R t inner K Y held (counted_first R t inner K Y)) cs
      → All (IsOn R t inner K Y held (chosen.offering R t inner K Y)) cs
  first_offering again cs h = subst (λ f. All (IsOn R t inner K Y held f) cs) (λ i v. cond (again i) (chosen.offering R t inner K Y v) (chosen.known R t inner K Y v)) h

  -- those whose rank is low enough are the chosen ones
  pub front_vals : asks_again t inner ≡ true → (cs front : List (Candidate B)) → All (IsOn R t inner K Y held (counted_first R t inner K Y)) cs
      → candidate_vals cs ≡ chosen.candidates R t inner K Y
      → candidate_vals front ≡ map (λ (e : Entry). e.val) (below_rank t.sort (rank_bound t.offset t.limit t.overrefine) (candidates_view cs))
      → candidate_vals front ≡ chosen.chosen R t inner K Y
  front_vals again cs front on vals is =
      let E : List Entry = map (λ v. chosen.entry_on R t inner K Y (chosen.offering R t inner K Y v) v) (chosen.candidates R t inner K Y) in
      let entries : candidates_view cs ≡ E = entries_on (chosen.offering R t inner K Y) cs (first_offering again cs on)
      ∙ ap (λ vs. map (λ v. chosen.entry_on R t inner K Y (chosen.offering R t inner K Y v) v) vs) vals in
      is ∙ ap (λ es. map (λ (e : Entry). e.val) (below_rank t.sort (rank_bound t.offset t.limit t.overrefine) es)) entries
      ∙ ap (λ b. map (λ (e : Entry). e.val) (below_rank t.sort b E)) (bound_is again)

  -- counted on all shards, as those of a facet that asks again are
  pub known_all : asks_again t inner ≡ true → (cs : List (Candidate B)) → All (IsOn R t inner K Y held (λ v. K)) cs → All (IsOn R t inner K Y held (chosen.known R t inner K Y)) cs
  known_all again cs h = subst (λ f. All (IsOn R t inner K Y held f) cs) (λ i v. cond (sym (counts_all_shards again) i) K (chosen.offering R t inner K Y v)) h

  pub refined_entries : asks_again t inner ≡ true → (cs : List (Candidate B)) → All (IsOn R t inner K Y held (λ v. K)) cs
      → candidate_vals cs ≡ chosen.chosen R t inner K Y → candidates_view cs ≡ chosen.chosen_entries R t inner K Y
  refined_entries again cs h vals = entries_on (chosen.known R t inner K Y) cs (known_all again cs h)
      ∙ ap (λ vs. map (λ v. chosen.entry_on R t inner K Y (chosen.known R t inner K Y v) v) vs) vals
