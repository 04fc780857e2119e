-- The domains of places with other numbers, where the numbers tell the same blocks and places apart.
use Rattle.std.proofs.Common.{◌≡◌, List, map, Bool, true, false, cond, ◌&&◌, not, refl, ◌∙◌, ap}
use Rattle.std.specs.List.{list_all}
use Rattle.fc_spec.specs.documents.Val.{Text}
use Rattle.fc_spec.specs.words.Lists.{is_empty}
use Rattle.fc_spec.specs.queries.Query.{Query}
use Rattle.fc_spec.specs.queries.Matching.{matches}
use Rattle.fc_spec.specs.documents.World.{World, Place, places, same_block}
use Rattle.fc_spec.specs.requests.Request.{Request, BlockStep, stay, parents, children, DomainChange}
use Rattle.fc_spec.specs.requests.Base.{base, meets_base}
use Rattle.fc_spec.specs.requests.Paths.{Path, meets_rebuilt, rebuilt, domain}
use Rattle.fc_spec.specs.requests.Domain.{moved, filtered, children_of, parents_of, is_parent_of}
use Rattle.fc_spec.proofs.words.Members.{Every, every_filter}
use Rattle.fc_spec.proofs.words.MappedLists.{list_any-map}
use Rattle.fc_spec.proofs.documents.Renumbered.{Renumbering, renumbered, filter_places, filter_renumbered}

-- the base, whatever is excluded
pub base_renumbered : {W V : World} (R : Renumbering W V) (r : Request) (tags : List Text) → base r V tags ≡ map (renumbered R.numbers) (base r W tags)
base_renumbered R r tags = filter_places R (λ p. meets_base r tags p.document) (λ p. meets_base r tags p.document) (λ x h. refl)

-- so it is as it is rebuilt along a path
rebuilt_renumbered : {W V : World} (R : Renumbering W V) (r : Request) (path : Path) (tags : List Text) → rebuilt r V path tags ≡ map (renumbered R.numbers) (rebuilt r W path tags)
rebuilt_renumbered R r path tags = filter_places R (λ p. meets_rebuilt r path tags p.document) (λ p. meets_rebuilt r path tags p.document) (λ x h. refl)

-- the children of renumbered places
children_renumbered : {W V : World} (R : Renumbering W V) (q : Query) (Y : List Place) → Every R.known Y
    → children_of V q (map (renumbered R.numbers) Y) ≡ map (renumbered R.numbers) (children_of W q Y)
children_renumbered R q Y known = filter_places R _ _ (λ p h.
    list_any-map (renumbered R.numbers) R.known (λ y. is_parent_of y (renumbered R.numbers p) && matches q y.document) (λ y. is_parent_of y p && matches q y.document) Y
    (λ y k i. (y.parent && not p.parent && R.same_blocks y p k h i) && matches q y.document) known)

-- the parents of renumbered places
parents_renumbered : {W V : World} (R : Renumbering W V) (q : Query) (Y : List Place) → Every R.known Y
    → parents_of V q (map (renumbered R.numbers) Y) ≡ map (renumbered R.numbers) (parents_of W q Y)
parents_renumbered R q Y known = filter_places R _ _ (λ p h.
    ap (λ b. p.parent && matches q p.document && b)
    (list_any-map (renumbered R.numbers) R.known (same_block (renumbered R.numbers p)) (same_block p) Y
    (λ y k. R.same_blocks p y h k) known))

-- a block step of renumbered places
moved_renumbered : {W V : World} (R : Renumbering W V) (b : BlockStep) (Y : List Place) → Every R.known Y
    → moved V b (map (renumbered R.numbers) Y) ≡ map (renumbered R.numbers) (moved W b Y)
moved_renumbered R stay Y known = refl
moved_renumbered R (parents q) Y known = parents_renumbered R q Y known
moved_renumbered R (children q) Y known = children_renumbered R q Y known

-- a block step stays among all places
moved_known : {W V : World} (R : Renumbering W V) (b : BlockStep) (Y : List Place) → Every R.known Y → Every R.known (moved W b Y)
moved_known R stay Y known = known
moved_known {W} R (parents q) Y known = every_filter R.known _ (places W) R.all_known
moved_known {W} R (children q) Y known = every_filter R.known _ (places W) R.all_known

-- a change begins among all places: at the domain around it, or at the base without what is excluded
start_known : {W V : World} (R : Renumbering W V) (r : Request) (path : Path) (tags : List Text) (X : List Place) (b : Bool) → Every R.known X → Every R.known (cond b X (rebuilt r W path tags))
start_known R r path tags X true known = known
start_known {W} R r path tags X false known = every_filter R.known _ (places W) R.all_known

-- where it begins for renumbered places
start_renumbered : {W V : World} (R : Renumbering W V) (r : Request) (path : Path) (tags : List Text) (X : List Place) (b : Bool)
    → cond b (map (renumbered R.numbers) X) (rebuilt r V path tags) ≡ map (renumbered R.numbers) (cond b X (rebuilt r W path tags))
start_renumbered R r path tags X true = refl
start_renumbered R r path tags X false = rebuilt_renumbered R r path tags

-- the change of a domain of renumbered places
pub domain_renumbered : {W V : World} (R : Renumbering W V) (r : Request) (path : Path) (change : DomainChange) (X : List Place) → Every R.known X
    → domain r V path change (map (renumbered R.numbers) X) ≡ map (renumbered R.numbers) (domain r W path change X)
domain_renumbered {W} {V} R r path change X known =
    ap (λ Y. filtered change.filters (moved V change.block Y)) (start_renumbered R r path change.exclude X (is_empty change.exclude))
    ∙ ap (filtered change.filters) (moved_renumbered R change.block (cond (is_empty change.exclude) X (rebuilt r W path change.exclude)) (start_known R r path change.exclude X (is_empty change.exclude) known))
    ∙ filter_renumbered R.numbers (λ p. list_all (λ q. matches q p.document) change.filters) _ (λ p. refl)

-- it stays among all places
pub domain_known : {W V : World} (R : Renumbering W V) (r : Request) (path : Path) (change : DomainChange) (X : List Place) → Every R.known X → Every R.known (domain r W path change X)
domain_known {W} R r path change X known =
    every_filter R.known _ _ (moved_known R change.block _ (start_known R r path change.exclude X (is_empty change.exclude) known))
