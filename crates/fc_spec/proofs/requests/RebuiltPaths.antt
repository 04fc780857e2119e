-- Along paths without block steps the base is rebuilt to the path's places.
use Rattle.std.proofs.Common.{◌≡◌, List, [], ◌∷◌, ◌++◌, Bool, true, false, cond, ◌&&◌, refl, sym, ◌∙◌, ap, append-nil}
use Rattle.std.specs.List.{filter, list_all}
use Rattle.std.proofs.lemmas.Bool.{false≢true, and_parts}
use Rattle.fc_spec.specs.documents.Document.{Document}
use Rattle.fc_spec.specs.documents.World.{World, Place, places}
use Rattle.fc_spec.specs.queries.Matching.{matches}
use Rattle.fc_spec.specs.words.Lists.{is_empty}
use Rattle.fc_spec.specs.requests.Request.{Request, BlockStep, stay, parents, children, Facet}
use Rattle.fc_spec.specs.requests.Base.{meets_base}
use Rattle.fc_spec.specs.requests.Domain.{moved, filtered}
use Rattle.fc_spec.specs.requests.Buckets.{Key, in_bucket, bucket_places}
use Rattle.fc_spec.specs.requests.Shape.{is_stay, stays}
use Rattle.fc_spec.specs.requests.Paths.{Path, at_root, into, excluded_on, meets_path, meets_rebuilt, rebuilt, path_places}
use Rattle.fc_spec.specs.laws.RebuiltPaths.{stays_along, RebuiltArePlaces}
use Rattle.fc_spec.proofs.messages.PrintedKnown.{nothing_is_empty}

stays_is : (W : World) (b : BlockStep) (Y : List Place) → is_stay b ≡ true → moved W b Y ≡ Y
stays_is W stay Y e = refl
stays_is W (parents q) Y e = absurd (false≢true e)
stays_is W (children q) Y e = absurd (false≢true e)

-- one test behind another is both
both_tests : {X : Type 0} (s t : X → Bool) (xs : List X) → filter t (filter s xs) ≡ filter (λ x. s x && t x) xs
both_tests s t [] = refl
both_tests {X} s t (x ∷ xs) = go (s x) (both_tests s t xs)
  where
    go : (b : Bool) → filter t (filter s xs) ≡ filter (λ x. s x && t x) xs → filter t (cond b (x ∷ filter s xs) (filter s xs)) ≡ cond (b && t x) (x ∷ filter (λ x. s x && t x) xs) (filter (λ x. s x && t x) xs)
    go true ih = ap (λ ys. cond (t x) (x ∷ ys) ys) ih
    go false ih = ih

last_first : (m b f k : Bool) → (m && b && f && k) ≡ (m && f && k && b)
last_first false b f k = refl
last_first true true true true = refl
last_first true true true false = refl
last_first true true false k = refl
last_first true false true true = refl
last_first true false true false = refl
last_first true false false k = refl

-- one step further in
step_is : (r : Request) (path : Path) (f : Facet) (key : Key) (d : Document)
    → (meets_rebuilt r path f.change.exclude d && list_all (λ q. matches q d) f.change.filters && in_bucket f.kind key d) ≡ meets_rebuilt r (into path f key) [] d
step_is r path f key d =
    last_first (meets_path path d) (meets_base r (excluded_on path ++ f.change.exclude) d) (list_all (λ q. matches q d) f.change.filters) (in_bucket f.kind key d)
    ∙ ap (λ tags. meets_path (into path f key) d && meets_base r tags d) (sym (append-nil (excluded_on path ++ f.change.exclude)))

pub rebuilt_are_places : RebuiltArePlaces
rebuilt_are_places r W at_root h = refl
rebuilt_are_places r W (into path f key) h =
    ap (λ Y. bucket_places f.kind key (filtered f.change.filters (moved W f.change.block Y))) (start (is_empty f.change.exclude) refl (rebuilt_are_places r W path parts.0))
    ∙ ap (λ Y. bucket_places f.kind key (filtered f.change.filters Y)) (stays_is W f.change.block (rebuilt r W path f.change.exclude) parts.1)
    ∙ ap (bucket_places f.kind key) (both_tests (λ p. meets_rebuilt r path f.change.exclude p.document) (λ p. list_all (λ q. matches q p.document) f.change.filters) (places W))
    ∙ both_tests (λ p. meets_rebuilt r path f.change.exclude p.document && list_all (λ q. matches q p.document) f.change.filters) (λ p. in_bucket f.kind key p.document) (places W)
    ∙ (λ i. filter (λ p. step_is r path f key p.document i) (places W))
  where
    parts : (stays_along path ≡ true) × (stays f.change ≡ true)
    parts = and_parts (stays_along path) (stays f.change) h

    start : (b : Bool) → is_empty f.change.exclude ≡ b → path_places r W path ≡ rebuilt r W path [] → cond b (path_places r W path) (rebuilt r W path f.change.exclude) ≡ rebuilt r W path f.change.exclude
    start true e ih = ih ∙ ap (rebuilt r W path) (sym (nothing_is_empty f.change.exclude e))
    start false e ih = refl
