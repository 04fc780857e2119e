-- The buckets that a facet prints are known, where nothing lacks there.
use Rattle.std.proofs.Common.{◌≡◌, ◌⊎◌, ℕ, suc, List, [], ◌∷◌, ◌++◌, map, length, Bool, true, false, cond, not, ◌||◌, Option, None, Some, is_some, refl, sym, ◌∙◌, ap, subst, inl, inr, arith}
use Rattle.std.specs.List.{AllByRecursion}
use Rattle.std.proofs.lemmas.Bool.{false≢true, eqb-true, not-false}
use Rattle.fc_spec.specs.documents.Val.{Text, Val, has_val}
use Rattle.fc_spec.specs.words.Lists.{is_empty}
use Rattle.fc_spec.specs.documents.World.{World, Place}
use Rattle.fc_spec.specs.requests.Request.{Terms, Kind, terms, range, date_range, query, DomainChange, Facet, Nodes, Request}
use Rattle.fc_spec.specs.requests.Paths.{domain}
use Rattle.fc_spec.specs.requests.Buckets.{Key, value, missing, whole, bucket_places}
use Rattle.fc_spec.specs.replies.Printed.{asked, range_keys, date_range_keys}
use Rattle.fc_spec.specs.replies.Values.{value_places, values_in}
use Rattle.fc_spec.specs.replies.Reading.{PathBucket, PathDomain, offered, over_places}
use Rattle.fc_spec.specs.replies.Chosen.{offering, known}
use Rattle.fc_spec.specs.messages.Message.{Way}
use Rattle.fc_spec.specs.messages.Target.{facet_at}
use Rattle.fc_spec.specs.messages.Answer.{not_empty, listed_keys, answer_keys, answer_domain}
use Rattle.fc_spec.specs.messages.Held.{HeldBucket, Told, held}
use Rattle.fc_spec.specs.requests.Shape.{no_exclusions, asks_again, counts_all}
use Rattle.fc_spec.proofs.words.Members.{Member, filter_member, member_of_filter}
use Rattle.fc_spec.proofs.requests.FoundValues.{holds_value, has_val-values_in, not-is_empty-filter}
use Rattle.fc_spec.proofs.replies.Unlimited.{offered_all}
use Rattle.fc_spec.proofs.requests.Locality.{bucket_local, domain_of_nothing}
use Rattle.fc_spec.proofs.messages.HeldAnswers.{part, IsTold, part_of_bucket}
use Rattle.fc_spec.proofs.messages.HeldFurther.{step_to}
use Rattle.fc_spec.proofs.messages.KnownBuckets.{places_at, nodes_of, path_of, IsKnown, facet_excludes_none}
use Rattle.fc_spec.proofs.messages.OfferedHeld.{listed_is_held, offered_is_held}
use Rattle.fc_spec.proofs.messages.NextBuckets.{IsState, next_nodes, next_bucket, facet_of, domain_there, part_there, offers_agree}

-- what is not held has no place, so it is known
pub known_by_absence : (r : Request) (W : World) (A : List Told) (way : Way) (i : ℕ) → no_exclusions (nodes_of r way) ≡ true → (held A i way ≡ None → part i (places_at r W way) ≡ []) → IsKnown r W A way i
known_by_absence r W A way i none absent = go (held A i way) refl
  where
    go : (o : Option HeldBucket) → held A i way ≡ o → IsKnown r W A way i
    go None e = inr (e, absent e, none)
    go (Some b) e = inl (ap is_some e)

pub nothing_is_empty : {X : Type 0} (xs : List X) → is_empty xs ≡ true → xs ≡ []
nothing_is_empty [] h = refl
nothing_is_empty (x ∷ xs) h = absurd (let e : suc (length xs) ≡ 0 = eqb-true (suc (length xs)) 0 h in omega arith)

none_held : {A : Type 0} (o : Option A) → o ≡ None → is_some o ≡ true → ⊥
none_held o e h = false≢true (sym (ap is_some e) ∙ h)

-- the keys that a facet prints beside values
abbrev pub other_keys : Kind → List Key
other_keys (terms t) = asked t.missing missing
other_keys (range g) = range_keys g
other_keys (date_range g) = date_range_keys g
other_keys (query q) = whole ∷ []

member_behind : {X : Type 0} (xs ys : List X) (x : X) → Member x ys → Member x (xs ++ ys)
member_behind [] ys x m = m
member_behind (z ∷ zs) ys x m = inr (member_behind zs ys x m)

-- a key of some is among those of them that are listed, or its bucket is empty
listed_among : (kind : Kind) (inner : Nodes) (Y : List Place) (keys : List Key) (key : Key) → Member key keys → Member key (listed_keys kind inner Y keys) ⊎ (is_empty (bucket_places kind key Y) ≡ true)
listed_among kind inner Y keys key m = go (no_exclusions inner)
  where
    test : (b : Bool) → is_empty (bucket_places kind key Y) ≡ b → Member key (not_empty kind Y keys) ⊎ (is_empty (bucket_places kind key Y) ≡ true)
    test true e = inr e
    test false e = inl (member_of_filter (λ k. not (is_empty (bucket_places kind k Y))) keys key m (ap not e))

    go : (none : Bool) → Member key (cond (not none) keys (not_empty kind Y keys)) ⊎ (is_empty (bucket_places kind key Y) ≡ true)
    go true = test (is_empty (bucket_places kind key Y)) refl
    go false = inl m

-- all are listed of a facet that holds an exclusion
all_listed : (kind : Kind) (inner : Nodes) (Y : List Place) (keys : List Key) (key : Key) → no_exclusions inner ≡ false → Member key keys → Member key (listed_keys kind inner Y keys)
all_listed kind inner Y keys key holds m = subst (λ none. Member key (cond (not none) keys (not_empty kind Y keys))) (sym holds) m

-- so it is with the other keys of a facet, in an answer
listed_or_empty : (kind : Kind) (inner : Nodes) (Y : List Place) (i : ℕ) (key : Key) → Member key (other_keys kind) → Member key (answer_keys kind inner Y i) ⊎ (is_empty (bucket_places kind key Y) ≡ true)
listed_or_empty (terms t) inner Y i key m = elim (listed_among (terms t) inner Y (asked t.missing missing) key m) [
  | inl listed ↦ inl (member_behind (map value (offered t inner Y i)) (listed_keys (terms t) inner Y (asked t.missing missing)) key listed)
  | inr empty ↦ inr empty
]
listed_or_empty (range g) inner Y i key m = listed_among (range g) inner Y (range_keys g) key m
listed_or_empty (date_range g) inner Y i key m = listed_among (date_range g) inner Y (date_range_keys g) key m
listed_or_empty (query q) inner Y i key m = inl m

all_others_listed : (kind : Kind) (inner : Nodes) (Y : List Place) (i : ℕ) (key : Key) → no_exclusions inner ≡ false → Member key (other_keys kind) → Member key (answer_keys kind inner Y i)
all_others_listed (terms t) inner Y i key holds m = member_behind (map value (offered t inner Y i)) (listed_keys (terms t) inner Y (asked t.missing missing)) key (all_listed (terms t) inner Y (asked t.missing missing) key holds m)
all_others_listed (range g) inner Y i key holds m = all_listed (range g) inner Y (range_keys g) key holds m
all_others_listed (date_range g) inner Y i key holds m = all_listed (date_range g) inner Y (date_range_keys g) key holds m
all_others_listed (query q) inner Y i key holds m = m

-- a shard without a place in the bucket around has none in the bucket of a key
nothing_inside : (r : Request) (W : World) (A : List Told) (way : Way) (n i : ℕ) (f : Facet) (inner : Nodes) (key : Key) → part i (places_at r W way) ≡ [] → no_exclusions (nodes_of r way) ≡ true → facet_at n (nodes_of r way) ≡ Some (f, inner)
    → part i (places_at r W (way ++ step_to n key)) ≡ []
nothing_inside r W A way n i f inner key empty none at =
    ap (part i) (next_bucket r W way n f inner key at) ∙ bucket_local f.kind key (i ∷ []) (domain r W (path_of r way) f.change (places_at r W way))
    ∙ ap (bucket_places f.kind key) (domain_of_nothing r W (path_of r way) f.change (i ∷ []) (places_at r W way) (facet_excludes_none n (nodes_of r way) f inner at none).0 empty)

-- the bucket around a facet that holds an exclusion is held, where it is known
around_is_held : (r : Request) (W : World) (A : List Told) (way : Way) (n i : ℕ) (f : Facet) (inner : Nodes) → facet_at n (nodes_of r way) ≡ Some (f, inner) → no_exclusions inner ≡ false → IsKnown r W A way i → is_some (held A i way) ≡ true
around_is_held r W A way n i f inner at holds (inl there) = there
around_is_held r W A way n i f inner at holds (inr gone) = absurd (false≢true (sym holds ∙ (facet_excludes_none n (nodes_of r way) f inner at gone.2).1))

-- the bucket of another key than a value is known at every shard: it is held where the facet holds an exclusion, and else it is held or has no place
pub other_known : (r : Request) (W : World) (A : List Told) (H : List ℕ) (way : Way) (X : PathBucket) (n : ℕ) (f : Facet) (inner : Nodes) (key : Key) (i : ℕ) → AllByRecursion (IsTold r W) A → IsState r W A H way X
    → facet_at n (nodes_of r way) ≡ Some (f, inner) → Member key (other_keys f.kind) → Member i H → IsKnown r W A (way ++ step_to n key) i
other_known r W A H way X n f inner key i all state at m here = by_holding (no_exclusions inner) refl
  where
    Y : List Place
    Y = answer_domain r W i (path_of r way) f (part i (places_at r W way))

    absent : IsKnown r W A way i → held A i (way ++ step_to n key) ≡ None → part i (places_at r W (way ++ step_to n key)) ≡ []
    absent (inr gone) e = nothing_inside r W A way n i f inner key gone.1 gone.2 at
    absent (inl there) e =
        elim (listed_or_empty f.kind inner Y i key m) [
          | inl listed ↦ absurd (none_held (held A i (way ++ step_to n key)) e (listed_is_held r W A way n i f inner key all there at listed))
          | inr empty ↦ ap (part i) (next_bucket r W way n f inner key at) ∙ sym (part_of_bucket r W i (path_of r way) f key (places_at r W way)) ∙ nothing_is_empty (bucket_places f.kind key Y) empty
        ]

    by_holding : (b : Bool) → no_exclusions inner ≡ b → IsKnown r W A (way ++ step_to n key) i
    by_holding true none = known_by_absence r W A (way ++ step_to n key) i (ap no_exclusions (next_nodes r way n f inner key at) ∙ none) (absent (state.known i here))
    by_holding false holds = inl (listed_is_held r W A way n i f inner key all (around_is_held r W A way n i f inner at holds (state.known i here)) at (all_others_listed f.kind inner Y i key holds m))

-- of a chosen value of a terms facet that asks again every shard has told
abbrev pub AreTold : List Told → List ℕ → Way → ℕ → Terms → Nodes → List Val → Type 0
AreTold A H way n t inner vs = asks_again t inner ≡ true → (v : Val) → Member v vs → (i : ℕ) → Member i H → is_some (held A i (way ++ step_to n (value v))) ≡ true

-- the bucket of a chosen value is known at its known shards
pub value_bucket_known : (r : Request) (W : World) (A : List Told) (H : List ℕ) (way : Way) (X : PathBucket) (n : ℕ) (name : Text) (change : DomainChange) (t : Terms) (inner : Nodes) (vs : List Val) (v : Val) (i : ℕ) → AllByRecursion (IsTold r W) A → IsState r W A H way X
    → facet_at n (nodes_of r way) ≡ Some (facet_of name change (terms t), inner) → AreTold A H way n t inner vs → Member v vs → Member i (known (over_places r W) t inner H (domain_there r W H (facet_of name change (terms t)) X) v)
    → IsKnown r W A (way ++ step_to n (value v)) i
value_bucket_known r W A H way X n name change t inner vs v i all state at told m here = by_counting (counts_all t inner) refl here
  where
    f : Facet
    f = facet_of name change (terms t)

    Y : PathDomain
    Y = domain_there r W H f X

    by_offer : Member i H → has_val v (offered t inner Y.places i) ≡ true → is_some (held A i (way ++ step_to n (value v))) ≡ true
    by_offer at_H offers = offered_is_held r W A way n i name change t inner v all (state.known i at_H) at (ap (has_val v) (offers_agree r W A H way X n name change t inner i all state at_H at) ∙ offers)

    -- without a limit a shard that holds nothing of the value has no place of it
    no_place : t.limit ≡ None → Member i H → held A i (way ++ step_to n (value v)) ≡ None → part i (places_at r W (way ++ step_to n (value v))) ≡ []
    no_place unlimited at_H e =
        ap (part i) (next_bucket r W way n f inner (value v) at) ∙ bucket_local (terms t) (value v) (i ∷ []) D
        ∙ nothing_is_empty (value_places t v (part i D)) (none_found (has_val v (offered t inner Y.places i)) refl)
      where
        D : List Place
        D = domain r W (path_of r way) change (places_at r W way)

        found_is : not (is_empty (value_places t v (part i D))) ≡ has_val v (offered t inner Y.places i)
        found_is =
            not-is_empty-filter (holds_value t v) (part i D) ∙ sym (has_val-values_in t v (part i D)) ∙ ap (λ P. has_val v (values_in t P)) (sym (part_there r W A H way X f i state at_H))
            ∙ ap (has_val v) (sym (offered_all t inner Y.places i unlimited))

        none_found : (b : Bool) → has_val v (offered t inner Y.places i) ≡ b → is_empty (value_places t v (part i D)) ≡ true
        none_found true offers = absurd (none_held (held A i (way ++ step_to n (value v))) e (by_offer at_H offers))
        none_found false offers = not-false (is_empty (value_places t v (part i D))) (found_is ∙ offers)

    -- a facet that counts on all shards and does not ask again has no limit, and holds no exclusion
    by_limit : counts_all t inner ≡ true → asks_again t inner ≡ false → Member i H → (o : Option ℕ) → t.limit ≡ o → IsKnown r W A (way ++ step_to n (value v)) i
    by_limit counts quiet at_H None e =
        let none = not-false (no_exclusions inner) (sym (ap (λ o. cond (is_some o) t.refine (not (no_exclusions inner))) e) ∙ quiet) in
        known_by_absence r W A (way ++ step_to n (value v)) i (ap no_exclusions (next_nodes r way n f inner (value v) at) ∙ none) (no_place e at_H)
    by_limit counts quiet at_H (Some k) e =
        let refines = sym (ap (λ o. cond (is_some o) t.refine (not (no_exclusions inner))) e) ∙ quiet in
        absurd (false≢true (sym ((λ j. refines j || quiet j)) ∙ counts))

    by_asking : (b : Bool) → asks_again t inner ≡ b → counts_all t inner ≡ true → Member i H → IsKnown r W A (way ++ step_to n (value v)) i
    by_asking true e counts at_H = inl (told e v m i at_H)
    by_asking false e counts at_H = by_limit counts e at_H t.limit refl

    by_counting : (b : Bool) → counts_all t inner ≡ b → Member i (cond b H (offering (over_places r W) t inner H Y v)) → IsKnown r W A (way ++ step_to n (value v)) i
    by_counting true e at_H = by_asking (asks_again t inner) refl e at_H
    by_counting false e offering_i = let both = filter_member (λ i. has_val v (offered t inner Y.places i)) H i offering_i in inl (by_offer both.0 both.1)
