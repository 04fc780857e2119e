-- What shards offer is what their held buckets list.
use Rattle.std.proofs.Common.{◌≡◌, ℕ, List, [], ◌∷◌, ◌++◌, map, Bool, true, false, cond, not, Some, is_some, refl, sym, ◌∙◌, ap, append-nil, subst, inl, inr}
use Rattle.std.specs.List.{AllByRecursion}
use Rattle.std.proofs.lemmas.Bool.{false≢true}
use Rattle.fc_spec.specs.documents.Val.{Text, Val, has_val, same_val}
use Rattle.fc_spec.specs.words.Lists.{is_empty}
use Rattle.fc_spec.specs.documents.World.{World, Place}
use Rattle.fc_spec.specs.requests.Request.{Terms, terms, DomainChange, Facet, Nodes, Request, stats_of}
use Rattle.fc_spec.specs.requests.Paths.{domain}
use Rattle.fc_spec.specs.requests.Shape.{no_exclusions}
use Rattle.fc_spec.specs.requests.Buckets.{Key, value, missing, bucket_places}
use Rattle.fc_spec.specs.replies.Printed.{asked}
use Rattle.fc_spec.specs.requests.Ranks.{Entry, below_rank, rank_bound}
use Rattle.fc_spec.specs.replies.Values.{entries_in}
use Rattle.fc_spec.specs.replies.Reading.{offered}
use Rattle.fc_spec.specs.messages.Message.{Way}
use Rattle.fc_spec.specs.requests.Statistics.{Stats}
use Rattle.fc_spec.specs.messages.Message.{Rows}
use Rattle.fc_spec.specs.messages.Target.{target_of, facet_at, nodes_in}
use Rattle.fc_spec.specs.messages.Answer.{not_empty, listed_keys, partials_of, answer_keys, answer_domain}
use Rattle.fc_spec.specs.messages.Held.{Told, find_key, held, listed_value, listed_values}
use Rattle.fc_spec.specs.messages.Merged.{values_held}
use Rattle.fc_spec.proofs.words.Members.{Member, passing_member}
use Rattle.fc_spec.proofs.documents.ValOrder.{same_val_exact}
use Rattle.fc_spec.proofs.requests.Locality.{domain_local, domain_of_nothing, filter_twice}
use Rattle.fc_spec.proofs.documents.Shards.{is_on}
use Rattle.fc_spec.proofs.messages.HeldAnswers.{part, answer_at, IsTold, row_at-answer_rows, listed_for, find_key-member}
use Rattle.fc_spec.proofs.messages.HeldFurther.{step_to, held_below}
use Rattle.fc_spec.proofs.messages.KnownBuckets.{places_at, nodes_of, path_of, IsKnown, held_is, facet_excludes_none}

-- the values among keys
abbrev pub key_values : List Key → List Val
key_values [] = []
key_values (k ∷ ks) = listed_value k (key_values ks)

pub listed_values-partials_of : (stats : Key → Stats) (rows : Key → Rows) (keys : List Key) → listed_values (partials_of stats rows keys) ≡ key_values keys
listed_values-partials_of stats rows [] = refl
listed_values-partials_of stats rows (k ∷ ks) = ap (listed_value k) (listed_values-partials_of stats rows ks)

pub key_values-values : (vs : List Val) (rest : List Key) → key_values (map value vs ++ rest) ≡ vs ++ key_values rest
key_values-values [] rest = refl
key_values-values (v ∷ vs) rest = ap (λ ws. v ∷ ws) (key_values-values vs rest)

-- missing is no value
pub no_value_missing : (t : Terms) (inner : Nodes) (Y : List Place) (b : Bool) → key_values (listed_keys (terms t) inner Y (asked b missing)) ≡ []
no_value_missing t inner Y b = go b (no_exclusions inner)
  where
    some : (c : Bool) → key_values (cond c (missing ∷ []) []) ≡ []
    some true = refl
    some false = refl

    go : (b none : Bool) → key_values (cond (not none) (asked b missing) (not_empty (terms t) Y (asked b missing))) ≡ []
    go false true = refl
    go false false = refl
    go true true = some (not (is_empty (bucket_places (terms t) missing Y)))
    go true false = refl

-- the values of an answer's keys are those offered
pub key_values-answer_keys : (t : Terms) (inner : Nodes) (Y : List Place) (i : ℕ) → key_values (answer_keys (terms t) inner Y i) ≡ offered t inner Y i
key_values-answer_keys t inner Y i =
    key_values-values (offered t inner Y i) (listed_keys (terms t) inner Y (asked t.missing missing)) ∙ ap (λ vs. offered t inner Y i ++ vs) (no_value_missing t inner Y t.missing) ∙ append-nil (offered t inner Y i)

-- what a shard offers depends on its part of the domain
pub offered_local : (t : Terms) (inner : Nodes) (Y Z : List Place) (i : ℕ) → part i Y ≡ part i Z → offered t inner Y i ≡ offered t inner Z i
offered_local t inner Y Z i e = ap (λ P. map (λ (w : Entry). w.val) (below_rank t.sort (rank_bound t.offset t.limit t.overrequest) (entries_in t (stats_of inner) P))) e

-- a shard without a place there offers nothing
offered_nothing : (t : Terms) (inner : Nodes) (Y : List Place) (i : ℕ) → part i Y ≡ [] → offered t inner Y i ≡ []
offered_nothing t inner Y i e = ap (λ P. map (λ (w : Entry). w.val) (below_rank t.sort (rank_bound t.offset t.limit t.overrequest) (entries_in t (stats_of inner) P))) e

-- the values held of a terms facet are those that the shard offers in the domain
pub values_are_offered : (r : Request) (W : World) (A : List Told) (way : Way) (n i : ℕ) (name : Text) (change : DomainChange) (t : Terms) (inner : Nodes) → AllByRecursion (IsTold r W) A → IsKnown r W A way i
    → facet_at n (nodes_of r way) ≡ Some (record { name = name; change = change; kind = terms t }, inner) → values_held n (held A i way) ≡ offered t inner (domain r W (path_of r way) change (places_at r W way)) i
values_are_offered r W A way n i name change t inner all (inl h) at =
    ap (values_held n) (held_is r W A way i all h) ∙ ap listed_values (row_at-answer_rows r W i n (path_of r way) (nodes_of r way) (part i (places_at r W way)) ∙ ap (listed_for r W i (path_of r way) (part i (places_at r W way))) at)
    ∙ listed_values-partials_of _ _ (answer_keys (terms t) inner Y i) ∙ key_values-answer_keys t inner Y i ∙ offered_local t inner Y (domain r W (path_of r way) change (places_at r W way)) i (filter_twice (is_on (i ∷ [])) _ ∙ domain_local r W (path_of r way) change (i ∷ []) (places_at r W way))
  where
    Y : List Place
    Y = answer_domain r W i (path_of r way) (record { name = name; change = change; kind = terms t }) (part i (places_at r W way))
values_are_offered r W A way n i name change t inner all (inr h) at =
    let none = facet_excludes_none n (nodes_of r way) (record { name = name; change = change; kind = terms t }) inner at h.2 in
    ap (values_held n) h.0 ∙ sym (offered_nothing t inner (domain r W (path_of r way) change (places_at r W way)) i (domain_of_nothing r W (path_of r way) change (i ∷ []) (places_at r W way) none.0 h.1))

-- a key that an answer lists has its bucket held
pub listed_is_held : (r : Request) (W : World) (A : List Told) (way : Way) (n i : ℕ) (f : Facet) (inner : Nodes) (key : Key) → AllByRecursion (IsTold r W) A → is_some (held A i way) ≡ true
    → facet_at n (nodes_of r way) ≡ Some (f, inner) → Member key (answer_keys f.kind inner (answer_domain r W i (path_of r way) f (part i (places_at r W way))) i) → is_some (held A i (way ++ step_to n key)) ≡ true
listed_is_held r W A way n i f inner key all h at m =
    held_below A i way n key (answer_at r W i (target_of r.nodes way)) (held_is r W A way i all h)
    (ap (λ ps. is_some (find_key (nodes_in (facet_at n (nodes_of r way))) key ps)) (row_at-answer_rows r W i n (path_of r way) (nodes_of r way) (part i (places_at r W way)) ∙ ap (listed_for r W i (path_of r way) (part i (places_at r W way))) at)
    ∙ find_key-member _ _ _ (answer_keys f.kind inner (answer_domain r W i (path_of r way) f (part i (places_at r W way))) i) key m)

member_value : (v : Val) (vs : List Val) (rest : List Key) → has_val v vs ≡ true → Member (value v) (map value vs ++ rest)
member_value v vs rest h = let r = passing_member (same_val v) vs h in go vs (subst (λ w. Member w vs) (sym (same_val_exact v r.0 r.2)) r.1)
  where
    go : (ws : List Val) → Member v ws → Member (value v) (map value ws ++ rest)
    go [] m = absurd m
    go (w ∷ ws) (inl e) = inl (ap value e)
    go (w ∷ ws) (inr m) = inr (go ws m)

-- an offered value's bucket is held
pub offered_is_held : (r : Request) (W : World) (A : List Told) (way : Way) (n i : ℕ) (name : Text) (change : DomainChange) (t : Terms) (inner : Nodes) (v : Val) → AllByRecursion (IsTold r W) A → IsKnown r W A way i
    → facet_at n (nodes_of r way) ≡ Some (record { name = name; change = change; kind = terms t }, inner) → has_val v (values_held n (held A i way)) ≡ true → is_some (held A i (way ++ step_to n (value v))) ≡ true
offered_is_held r W A way n i name change t inner v all (inl h) at has =
    listed_is_held r W A way n i (record { name = name; change = change; kind = terms t }) inner (value v) all h at (member_value v (offered t inner Y i) (listed_keys (terms t) inner Y (asked t.missing missing)) (ap (has_val v) (sym offers) ∙ has))
  where
    Y : List Place
    Y = answer_domain r W i (path_of r way) (record { name = name; change = change; kind = terms t }) (part i (places_at r W way))

    offers : values_held n (held A i way) ≡ offered t inner Y i
    offers =
        ap (values_held n) (held_is r W A way i all h) ∙ ap listed_values (row_at-answer_rows r W i n (path_of r way) (nodes_of r way) (part i (places_at r W way)) ∙ ap (listed_for r W i (path_of r way) (part i (places_at r W way))) at)
        ∙ listed_values-partials_of _ _ (answer_keys (terms t) inner Y i) ∙ key_values-answer_keys t inner Y i
offered_is_held r W A way n i name change t inner v all (inr h) at has = absurd (false≢true (sym (ap (λ o. has_val v (values_held n o)) h.0) ∙ has))
