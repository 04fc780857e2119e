-- Where places stand: a domain stays on the shards of the bucket around it.
use Rattle.std.proofs.Common.{◌≡◌, ℕ, List, Bool, true, cond, ◌&&◌, ◌==◌, not, sym, subst}
use Rattle.std.specs.List.{list_any}
use Rattle.std.proofs.lemmas.Bool.{and_parts, eqb-true}
use Rattle.fc_spec.specs.words.Lists.{is_empty}
use Rattle.fc_spec.specs.queries.Query.{Query}
use Rattle.fc_spec.specs.queries.Matching.{matches}
use Rattle.fc_spec.specs.documents.World.{World, Place, places, same_block, on_shards}
use Rattle.fc_spec.specs.requests.Request.{Request, BlockStep, stay, parents, children, DomainChange}
use Rattle.fc_spec.specs.requests.Domain.{moved, children_of, parents_of, is_parent_of}
use Rattle.fc_spec.specs.requests.Paths.{Path, rebuilt, domain}
use Rattle.fc_spec.proofs.words.Members.{Every, every_from_members, every_member, filter_every, every_filter, every_own_filter, filter_member, passing_member}

-- the place is on one of the shards
abbrev pub is_on : List ℕ → Place → Bool
is_on H p = list_any (λ i. i == p.shard) H

-- places on the shards are their part there
pub on_shards_every : (H : List ℕ) (X : List Place) → Every (is_on H) X → on_shards H X ≡ X
on_shards_every H X e = filter_every (is_on H) X e

pub every_on_shards : (H : List ℕ) (X : List Place) → Every (is_on H) (on_shards H X)
every_on_shards H X = every_own_filter (is_on H) X

-- what is on the shard of a place on the shards is there too
pub on_same_shard : (H : List ℕ) (y p : Place) → y.shard ≡ p.shard → is_on H y ≡ true → is_on H p ≡ true
on_same_shard H y p e h = subst (λ s. list_any (λ i. i == s) H ≡ true) e h

-- where a test finds only places on a place's own shard, it finds none beside the shards
pub found_on_shards : (H : List ℕ) (t : Place → Bool) (p : Place) (Y : List Place) → ((y : Place) → t y ≡ true → y.shard ≡ p.shard) → Every (is_on H) Y → list_any t Y ≡ true → is_on H p ≡ true
found_on_shards H t p Y local e h = let r = passing_member t Y h in on_same_shard H r.0 p (local r.0 r.2) (every_member (is_on H) Y r.0 e r.1)

pub same_block_shard : (y p : Place) → same_block y p ≡ true → y.shard ≡ p.shard
same_block_shard y p h = eqb-true y.shard p.shard (and_parts (y.shard == p.shard) (y.block == p.block) h).0

pub parent_shard : (y p : Place) → is_parent_of y p ≡ true → y.shard ≡ p.shard
parent_shard y p h = same_block_shard y p (and_parts (y.parent && not p.parent) (same_block y p) h).1

pub children_on_shards : (W : World) (q : Query) (H : List ℕ) (Y : List Place) → Every (is_on H) Y → Every (is_on H) (children_of W q Y)
children_on_shards W q H Y e = every_from_members (is_on H) (children_of W q Y) (λ p m.
    found_on_shards H (λ y. is_parent_of y p && matches q y.document) p Y
    (λ y h. parent_shard y p (and_parts (is_parent_of y p) (matches q y.document) h).0) e
    (filter_member (λ p. list_any (λ y. is_parent_of y p && matches q y.document) Y) (places W) p m).1)

pub parents_on_shards : (W : World) (q : Query) (H : List ℕ) (Y : List Place) → Every (is_on H) Y → Every (is_on H) (parents_of W q Y)
parents_on_shards W q H Y e = every_from_members (is_on H) (parents_of W q Y) (λ p m.
    found_on_shards H (same_block p) p Y (λ y h. sym (same_block_shard p y h)) e
    (and_parts (p.parent && matches q p.document) (list_any (same_block p) Y)
    (filter_member (λ p. p.parent && matches q p.document && list_any (same_block p) Y) (places W) p m).1).1)

pub moved_on_shards : (W : World) (b : BlockStep) (H : List ℕ) (Y : List Place) → Every (is_on H) Y → Every (is_on H) (moved W b Y)
moved_on_shards W stay H Y e = e
moved_on_shards W (parents q) H Y e = parents_on_shards W q H Y e
moved_on_shards W (children q) H Y e = children_on_shards W q H Y e

-- without exclusion the change of a domain on the shards stays on them
pub domain_on_shards : (r : Request) (W : World) (path : Path) (change : DomainChange) (H : List ℕ) (X : List Place) → is_empty change.exclude ≡ true → Every (is_on H) X → Every (is_on H) (domain r W path change X)
domain_on_shards r W path change H X none e =
    every_filter (is_on H) _ (moved W change.block (cond (is_empty change.exclude) X (rebuilt r W path change.exclude)))
    (moved_on_shards W change.block H _ (subst (λ b. Every (is_on H) (cond b X (rebuilt r W path change.exclude))) (sym none) e))
