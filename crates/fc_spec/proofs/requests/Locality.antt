-- Locality: the part of a domain on some shards is made from the part of the bucket around it there.
use Rattle.std.proofs.Common.{◌≡◌, ℕ, List, [], ◌∷◌, Bool, true, false, cond, ◌&&◌, refl, sym, ◌∙◌, ap}
use Rattle.std.specs.List.{filter, list_any, list_all}
use Rattle.std.proofs.lemmas.Bool.{false≢true, and_parts}
use Rattle.fc_spec.specs.words.Lists.{is_empty}
use Rattle.fc_spec.specs.queries.Query.{Query}
use Rattle.fc_spec.specs.queries.Matching.{matches}
use Rattle.fc_spec.specs.documents.World.{World, Place, places, on_shards, same_block}
use Rattle.fc_spec.specs.requests.Request.{Request, BlockStep, stay, parents, children, DomainChange, Kind}
use Rattle.fc_spec.specs.requests.Domain.{moved, filtered, children_of, parents_of, is_parent_of}
use Rattle.fc_spec.specs.requests.Paths.{Path, rebuilt, domain}
use Rattle.fc_spec.specs.requests.Buckets.{Key, in_bucket, bucket_places}
use Rattle.fc_spec.proofs.words.Members.{Every, same_tests, passing_member, any_by_member, filter_member, member_of_filter, filter_every, every_own_filter}
use Rattle.fc_spec.proofs.documents.Shards.{is_on, on_same_shard, parent_shard, same_block_shard, domain_on_shards}

-- the order of two filters does not matter
pub filter-filter : {X : Type 0} (p q : X → Bool) (xs : List X) → filter p (filter q xs) ≡ filter q (filter p xs)
filter-filter p q [] = refl
filter-filter p q (x ∷ xs) = go (p x) refl (q x) refl (filter-filter p q xs)
  where
    go : (b : Bool) → p x ≡ b → (c : Bool) → q x ≡ c → filter p (filter q xs) ≡ filter q (filter p xs) → filter p (cond c (x ∷ filter q xs) (filter q xs)) ≡ filter q (cond b (x ∷ filter p xs) (filter p xs))
    go true e true f ih = ap (λ a. cond a (x ∷ filter p (filter q xs)) (filter p (filter q xs))) e ∙ ap (λ ys. x ∷ ys) ih ∙ ap (λ a. cond a (x ∷ filter q (filter p xs)) (filter q (filter p xs))) (sym f)
    go true e false f ih = ih ∙ ap (λ a. cond a (x ∷ filter q (filter p xs)) (filter q (filter p xs))) (sym f)
    go false e true f ih = ap (λ a. cond a (x ∷ filter p (filter q xs)) (filter p (filter q xs))) e ∙ ih
    go false e false f ih = ih

-- tests that agree where a filter lets through filter alike behind it
pub filter_alike : {X : Type 0} (p q t : X → Bool) (xs : List X) → ((x : X) → p x ≡ true → q x ≡ t x) → filter p (filter q xs) ≡ filter p (filter t xs)
filter_alike {X} p q t xs h = filter-filter p q xs ∙ go xs ∙ filter-filter t p xs
  where
    step : {X : Type 0} (p q t : X → Bool) (x : X) (xs : List X) (b : Bool) → p x ≡ b → (p x ≡ true → q x ≡ t x) → filter q (filter p xs) ≡ filter t (filter p xs) → filter q (cond b (x ∷ filter p xs) (filter p xs)) ≡ filter t (cond b (x ∷ filter p xs) (filter p xs))
    step p q t x xs true e h ih = ap (λ c. cond c (x ∷ filter q (filter p xs)) (filter q (filter p xs))) (h e) ∙ ap (λ ys. cond (t x) (x ∷ ys) ys) ih
    step p q t x xs false e h ih = ih

    go : (ys : List X) → filter q (filter p ys) ≡ filter t (filter p ys)
    go [] = refl
    go (y ∷ ys) = step p q t y ys (p y) refl (h y) (go ys)

-- a part of a part
pub filter_twice : {X : Type 0} (p : X → Bool) (xs : List X) → filter p (filter p xs) ≡ filter p xs
filter_twice p xs = filter_every p (filter p xs) (every_own_filter p xs)

-- where all that a test finds passes another, looking there alone finds it
found_in_part : {X : Type 0} (p u : X → Bool) (xs : List X) → ((x : X) → u x ≡ true → p x ≡ true) → list_any u (filter p xs) ≡ list_any u xs
found_in_part p u xs h = same_tests (list_any u (filter p xs)) (list_any u xs)
    (λ e. let r = passing_member u (filter p xs) e in any_by_member u xs r.0 (filter_member p xs r.0 r.1).0 r.2)
    (λ e. let r = passing_member u xs e in any_by_member u (filter p xs) r.0 (member_of_filter p xs r.0 r.1 (h r.0 r.2)) r.2)

children_local : (W : World) (q : Query) (H : List ℕ) (S : List Place) → on_shards H (children_of W q (on_shards H S)) ≡ on_shards H (children_of W q S)
children_local W q H S =
    filter_alike (is_on H) (λ p. list_any (λ y. is_parent_of y p && matches q y.document) (on_shards H S)) (λ p. list_any (λ y. is_parent_of y p && matches q y.document) S) (places W) (λ p on.
    found_in_part (is_on H) (λ y. is_parent_of y p && matches q y.document) S (λ y h. on_same_shard H p y (sym (parent_shard y p (and_parts (is_parent_of y p) (matches q y.document) h).0)) on))

parents_local : (W : World) (q : Query) (H : List ℕ) (S : List Place) → on_shards H (parents_of W q (on_shards H S)) ≡ on_shards H (parents_of W q S)
parents_local W q H S =
    filter_alike (is_on H) (λ p. p.parent && matches q p.document && list_any (same_block p) (on_shards H S)) (λ p. p.parent && matches q p.document && list_any (same_block p) S) (places W) (λ p on.
    ap (λ b. p.parent && matches q p.document && b) (found_in_part (is_on H) (same_block p) S (λ y h. on_same_shard H p y (same_block_shard p y h) on)))

pub moved_local : (W : World) (b : BlockStep) (H : List ℕ) (S : List Place) → on_shards H (moved W b (on_shards H S)) ≡ on_shards H (moved W b S)
moved_local W stay H S = filter_twice (is_on H) S
moved_local W (parents q) H S = parents_local W q H S
moved_local W (children q) H S = children_local W q H S

-- the part of the domain on the shards H is that of the domain made from the bucket's part there
pub domain_local : (r : Request) (W : World) (path : Path) (change : DomainChange) (H : List ℕ) (S : List Place) → on_shards H (domain r W path change (on_shards H S)) ≡ on_shards H (domain r W path change S)
domain_local r W path change H S = go (is_empty change.exclude)
  where
    test : Place → Bool
    test p = list_all (λ q. matches q p.document) change.filters

    go : (b : Bool) → on_shards H (filtered change.filters (moved W change.block (cond b (on_shards H S) (rebuilt r W path change.exclude)))) ≡ on_shards H (filtered change.filters (moved W change.block (cond b S (rebuilt r W path change.exclude))))
    go true = filter-filter (is_on H) test (moved W change.block (on_shards H S)) ∙ ap (filter test) (moved_local W change.block H S) ∙ sym (filter-filter (is_on H) test (moved W change.block S))
    go false = refl

-- and so is the part of a bucket
pub bucket_local : (kind : Kind) (key : Key) (H : List ℕ) (S : List Place) → on_shards H (bucket_places kind key S) ≡ bucket_places kind key (on_shards H S)
bucket_local kind key H S = filter-filter (is_on H) (λ p. in_bucket kind key p.document) S

nowhere : (X : List Place) → Every (is_on []) X → X ≡ []
nowhere [] e = refl
nowhere (x ∷ xs) e = absurd (false≢true e.0)

-- without exclusion nothing comes of nothing
pub domain_of_nothing : (r : Request) (W : World) (path : Path) (change : DomainChange) (H : List ℕ) (S : List Place) → is_empty change.exclude ≡ true → on_shards H S ≡ [] → on_shards H (domain r W path change S) ≡ []
domain_of_nothing r W path change H S none e =
    sym (domain_local r W path change H S) ∙ ap (λ Q. on_shards H (domain r W path change Q)) e ∙ ap (on_shards H) (nowhere (domain r W path change []) (domain_on_shards r W path change [] [] none tt))

-- the part on one of the shards is that of the part on all of them
pub part_of_part : (H : List ℕ) (K : List ℕ) (S : List Place) → ((p : Place) → is_on K p ≡ true → is_on H p ≡ true) → on_shards K (on_shards H S) ≡ on_shards K S
part_of_part H K S h = filter_alike (is_on K) (is_on H) (λ p. true) S (λ p on. h p on) ∙ ap (on_shards K) (filter_all S)
  where
    filter_all : (X : List Place) → filter (λ p. true) X ≡ X
    filter_all [] = refl
    filter_all (x ∷ xs) = ap (λ ys. x ∷ ys) (filter_all xs)
