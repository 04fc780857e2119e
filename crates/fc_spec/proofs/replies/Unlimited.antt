-- A terms facet without a limit: every shard offers all that it has, and every value is chosen.
use Rattle.std.proofs.Common.{◌≡◌, ℕ, ◌+◌, List, [], ◌∷◌, map, length, Bool, true, false, cond, ◌||◌, ◌==◌, None, refl, sym, ◌∙◌, ap, ◌⊎◌, inl, inr}
use Rattle.std.specs.List.{list_any, flat_map, enumerate_from}
use Rattle.std.proofs.lemmas.Bool.{eqb-true, eq-eqb, false≢true}
use Rattle.fc_spec.specs.documents.Val.{Val, has_val, same_val, distinct}
use Rattle.fc_spec.specs.documents.World.{World, Place, on_shards}
use Rattle.fc_spec.specs.requests.Buckets.{value}
use Rattle.fc_spec.specs.requests.Request.{Stat, Terms, terms, Sort, Nodes, Request, stats_of}
use Rattle.fc_spec.specs.requests.Statistics.{value_over, stats_over}
use Rattle.fc_spec.specs.requests.Ranks.{Entry, below_rank, rank_bound}
use Rattle.fc_spec.specs.replies.Values.{value_places, values_in, entries_in}
use Rattle.fc_spec.specs.requests.Shape.{asks_again, counts_all}
use Rattle.fc_spec.specs.replies.Reading.{PathBucket, PathDomain, stats_on, offered, over_places}
use Rattle.fc_spec.specs.replies.Chosen.{candidates, offering, entry_on, chosen, known, chosen_entries}
use Rattle.fc_spec.proofs.replies.PathBuckets.{in_key}
use Rattle.fc_spec.proofs.words.Members.{Member, Every, every_from_members, every_member, every_filter, filter_member, member_of_filter, passing_member, any_by_member, same_tests, list_any-flat_map}
use Rattle.fc_spec.proofs.words.Counting.{filter-all}
use Rattle.fc_spec.proofs.documents.Shards.{is_on, on_shards_every}
use Rattle.fc_spec.proofs.documents.Ascending.{has_val-distinct, distinct_ascends, same_ascending}
use Rattle.fc_spec.proofs.requests.FoundValues.{holds_value, has_val-values_in, ascending-values_in}

-- every entry is below no bound
pub below_no_rank : (s : Sort) (V : List Entry) → below_rank s None V ≡ V
below_no_rank s V = filter-all V

-- the values of the entries made for some values
map-val : (stats : Val → Entry) → ((v : Val) → (stats v).val ≡ v) → (vs : List Val) → map (λ e. e.val) (map stats vs) ≡ vs
map-val stats same [] = refl
map-val stats same (v ∷ vs) = λ i. same v i ∷ map-val stats same vs i

-- a shard offers all that it has
pub offered_all : (t : Terms) (inner : Nodes) (Y : List Place) (i : ℕ) → t.limit ≡ None → offered t inner Y i ≡ values_in t (on_shards (i ∷ []) Y)
offered_all t inner Y i none =
    ap (λ limit. map (λ e. e.val) (below_rank t.sort (rank_bound t.offset limit t.overrequest) (entries_in t (stats_of inner) (on_shards (i ∷ []) Y)))) none
    ∙ ap (map (λ e. e.val)) (below_no_rank t.sort (entries_in t (stats_of inner) (on_shards (i ∷ []) Y)))
    ∙ map-val (λ v. record { val = v; stats = stats_over (stats_of inner) (value_places t v (on_shards (i ∷ []) Y)) }) (λ v. refl) (values_in t (on_shards (i ∷ []) Y))

-- a shard with a place that holds the value offers it
offers_held : (t : Terms) (inner : Nodes) (Y : List Place) (i : ℕ) (v : Val) (p : Place) → t.limit ≡ None → Member p Y → holds_value t v p ≡ true → i ≡ p.shard → has_val v (offered t inner Y i) ≡ true
offers_held t inner Y i v p none m h e =
    ap (has_val v) (offered_all t inner Y i none) ∙ has_val-values_in t v (on_shards (i ∷ []) Y)
    ∙ any_by_member (holds_value t v) (on_shards (i ∷ []) Y) p (member_of_filter (is_on (i ∷ [])) Y p m (ap (λ b. b || false) (eq-eqb i p.shard e))) h

-- the shards that offer a value hold all its places
pub offering_holds : (r : Request) (W : World) (t : Terms) (inner : Nodes) (H : List ℕ) (Y : PathDomain) (v : Val) → t.limit ≡ None → Every (is_on H) Y.places
    → Every (is_on (offering (over_places r W) t inner H Y v)) (value_places t v Y.places)
offering_holds r W t inner H Y v none on = every_from_members (is_on (offering (over_places r W) t inner H Y v)) (value_places t v Y.places) (λ p m.
    let held = filter_member (holds_value t v) Y.places p m in
    let shard = passing_member (λ i. i == p.shard) H (every_member (is_on H) Y.places p on held.0) in
    any_by_member (λ i. i == p.shard) (offering (over_places r W) t inner H Y v) shard.0
    (member_of_filter (λ i. has_val v (offered t inner Y.places i)) H shard.0 shard.1 (offers_held t inner Y.places shard.0 v p none held.0 held.1 (eqb-true shard.0 p.shard shard.2))) shard.2)

-- the known shards of a value hold all its places
pub known_holds : (r : Request) (W : World) (t : Terms) (inner : Nodes) (H : List ℕ) (Y : PathDomain) (v : Val) → (t.refine ≡ true) ⊎ (t.limit ≡ None) → Every (is_on H) Y.places
    → on_shards (known (over_places r W) t inner H Y v) (value_places t v Y.places) ≡ value_places t v Y.places
known_holds r W t inner H Y v why on = on_shards_every (known (over_places r W) t inner H Y v) (value_places t v Y.places) (go why (counts_all t inner) refl)
  where
    go : (t.refine ≡ true) ⊎ (t.limit ≡ None) → (b : Bool) → counts_all t inner ≡ b → Every (is_on (cond b H (offering (over_places r W) t inner H Y v))) (value_places t v Y.places)
    go why true e = every_filter (is_on H) (holds_value t v) Y.places on
    go (inl refines) false e = absurd (false≢true (sym e ∙ ap (λ b. b || asks_again t inner) refines))
    go (inr none) false e = offering_holds r W t inner H Y v none on

-- the candidates are the values found on all the shards together
pub candidates_all : (r : Request) (W : World) (t : Terms) (inner : Nodes) (H : List ℕ) (D : PathDomain) → t.limit ≡ None → Every (is_on H) D.places → candidates (over_places r W) t inner H D ≡ values_in t D.places
candidates_all r W t inner H D none on = same_ascending (distinct (flat_map offers H)) (values_in t Y) (distinct_ascends (flat_map offers H)) (ascending-values_in t Y) same
  where
    Y : List Place
    Y = D.places

    offers : ℕ → List Val
    offers i = offered t inner Y i

    forth : (v : Val) → list_any (λ i. has_val v (offers i)) H ≡ true → list_any (holds_value t v) Y ≡ true
    forth v h =
        let i = passing_member (λ i. has_val v (offers i)) H h in
        let p = passing_member (holds_value t v) (on_shards (i.0 ∷ []) Y) (sym (ap (has_val v) (offered_all t inner Y i.0 none) ∙ has_val-values_in t v (on_shards (i.0 ∷ []) Y)) ∙ i.2) in
        any_by_member (holds_value t v) Y p.0 (filter_member (is_on (i.0 ∷ [])) Y p.0 p.1).0 p.2

    back : (v : Val) → list_any (holds_value t v) Y ≡ true → list_any (λ i. has_val v (offers i)) H ≡ true
    back v h =
        let p = passing_member (holds_value t v) Y h in
        let i = passing_member (λ i. i == (p.0).shard) H (every_member (is_on H) Y p.0 on p.1) in
        any_by_member (λ i. has_val v (offers i)) H i.0 i.1 (offers_held t inner Y i.0 v p.0 none p.1 p.2 (eqb-true i.0 (p.0).shard i.2))

    same : (v : Val) → has_val v (distinct (flat_map offers H)) ≡ has_val v (values_in t Y)
    same v =
        has_val-distinct v (flat_map offers H) ∙ list_any-flat_map (same_val v) offers H ∙ same_tests _ _ (forth v) (back v) ∙ sym (has_val-values_in t v Y)

-- every candidate is chosen
pub chosen_all : (r : Request) (W : World) (t : Terms) (inner : Nodes) (H : List ℕ) (Y : PathDomain) → t.limit ≡ None → Every (is_on H) Y.places → chosen (over_places r W) t inner H Y ≡ values_in t Y.places
chosen_all r W t inner H Y none on =
    ap (λ bound. map (λ e. e.val) (below_rank t.sort bound (map made (candidates (over_places r W) t inner H Y)))) (no_bound t.refine)
    ∙ ap (map (λ e. e.val)) (below_no_rank t.sort (map made (candidates (over_places r W) t inner H Y))) ∙ map-val made (λ v. refl) (candidates (over_places r W) t inner H Y)
    ∙ candidates_all r W t inner H Y none on
  where
    made : Val → Entry
    made v = entry_on (over_places r W) t inner H Y (offering (over_places r W) t inner H Y v) v

    no_bound : (b : Bool) → cond b (rank_bound t.offset t.limit t.overrefine) None ≡ None
    no_bound true = ap (λ limit. rank_bound t.offset limit t.overrefine) none
    no_bound false = refl

-- to number a list changes nothing for what looks at its members alone
pub map-enumerate : {X Y : Type 0} (f : X → Y) (n : ℕ) (xs : List X) → map (λ x. f x.1) (enumerate_from n xs) ≡ map f xs
map-enumerate f n [] = refl
map-enumerate f n (x ∷ xs) = ap (λ ys. f x ∷ ys) (map-enumerate f (n + 1) xs)

-- the statistics of a bucket's part, where that part is P
pub stats_on_part : (r : Request) (W : World) (ss : List Stat) (H : List ℕ) (X : PathBucket) (P : List Place) → on_shards H X.places ≡ P → stats_on (over_places r W) ss H X ≡ stats_over ss P
stats_on_part r W ss H X P e = ap (λ Q. record { count = length Q; values = map (λ s. value_over s.1 Q) (enumerate_from 0 ss) }) e ∙ ap (λ vs. record { count = length P; values = vs }) (map-enumerate (λ s. value_over s P) 0 ss)

-- so the chosen values with their statistics are those of all the places
pub chosen_entries_all : (r : Request) (W : World) (t : Terms) (inner : Nodes) (H : List ℕ) (Y : PathDomain) → t.limit ≡ None → Every (is_on H) Y.places
    → chosen_entries (over_places r W) t inner H Y ≡ entries_in t (stats_of inner) Y.places
chosen_entries_all r W t inner H Y none on =
    ap (map made) (chosen_all r W t inner H Y none on)
    ∙ (λ i. map (λ v. record { val = v; stats = stats_on_part r W (stats_of inner) (known (over_places r W) t inner H Y v) (in_key Y (terms t) (value v)) (value_places t v Y.places) (known_holds r W t inner H Y v (inr none) on) i }) (values_in t Y.places))
  where
    made : Val → Entry
    made v = entry_on (over_places r W) t inner H Y (known (over_places r W) t inner H Y v) v
