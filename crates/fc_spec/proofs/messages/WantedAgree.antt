-- What is wanted at a depth is the same over what is held as over places, where nothing lacks at the depths below.
use Rattle.std.proofs.Common.{◌≡◌, ℕ, zero, suc, ◌<◌, List, [], ◌++◌, Bool, true, false, cond, ◌&&◌, ◌==◌, Some, is_some, refl, sym, ◌∙◌, ap, subst, arith}
use Rattle.std.specs.List.{AllByRecursion, flat_map}
use Rattle.fc_spec.specs.documents.Val.{Text}
use Rattle.fc_spec.specs.words.Lists.{is_empty}
use Rattle.fc_spec.specs.documents.World.{World}
use Rattle.fc_spec.specs.requests.Request.{Kind, terms, range, date_range, query, DomainChange, Facet, Nodes, no_nodes, statistic, facet, Request}
use Rattle.fc_spec.specs.requests.Buckets.{value}
use Rattle.fc_spec.specs.replies.Reading.{PathBucket, PathDomain, over_places}
use Rattle.fc_spec.specs.replies.Distributed.{printed_keys, carried}
use Rattle.fc_spec.specs.messages.Message.{Way, way_of}
use Rattle.fc_spec.specs.messages.Target.{facet_at}
use Rattle.fc_spec.specs.messages.Held.{Told, held}
use Rattle.fc_spec.specs.messages.Merged.{count_held, over_held}
use Rattle.fc_spec.specs.messages.Lacks.{Lack, want_of, each_of, wanted_at, facet_wanted, wanted}
use Rattle.fc_spec.specs.requests.Shape.{asks_again}
use Rattle.fc_spec.proofs.replies.PathBuckets.{in_key}
use Rattle.fc_spec.proofs.words.Members.{Member}
use Rattle.fc_spec.proofs.messages.HeldAnswers.{IsTold}
use Rattle.fc_spec.proofs.messages.HeldFurther.{step_to}
use Rattle.fc_spec.proofs.messages.KnownBuckets.{nodes_of}
use Rattle.fc_spec.proofs.words.AlikeLists.{flat_map_alike}
use Rattle.fc_spec.proofs.messages.NextBuckets.{IsState, next_nodes, facet_of, domain_there, count_agrees, chosen_agree}
use Rattle.fc_spec.proofs.messages.PrintedAgree.{node_at, FacetIsTold, keys_agree, carried_agree, printed_state}
use Rattle.fc_spec.proofs.messages.Merges.{AllTold, every_left, every_right, every_in, under_held, wanted_held, facet_told, AreFrom, from_start, facet_first, after_facet, after_statistic}

-- all is told of at each depth below e
abbrev pub ToldBelow : List Told → ℕ → (ℕ → List Lack) → Type 0
ToldBelow A e all = (d : ℕ) → d < e → AllTold A (all d)

-- what is wanted under the buckets of a facet, over places
abbrev pub under_places : Request → World → Kind → Nodes → ℕ → List ℕ → PathDomain → Way → ℕ → List Lack
under_places r W kind inner n H Y way d = flat_map (λ k. wanted (over_places r W) d inner 0 (carried (over_places r W) kind inner H Y k) (in_key Y kind k) (way ++ step_to n k)) (printed_keys (over_places r W) kind inner H Y)

abbrev pub wanted_there : Request → World → Kind → Nodes → ℕ → List ℕ → PathDomain → Way → ℕ → List Lack
wanted_there r W kind inner n H Y way d = wanted_at (over_places r W) kind inner d n H Y way (under_places r W kind inner n H Y way)

-- the step under the buckets of a facet
abbrev pub WantedInside : Request → World → List Told → Nodes → Type 0
WantedInside r W A inner = (e : ℕ) (H : List ℕ) (way : Way) (X : PathBucket) → IsState r W A H way X → AreFrom r W way 0 0 inner → ToldBelow A e (λ d. wanted (over_held A) d inner 0 H way way)
    → wanted (over_held A) e inner 0 H way way ≡ wanted (over_places r W) e inner 0 H X way

-- under the buckets of a facet whose own chosen values are told of
under_agrees : (r : Request) (W : World) (A : List Told) (H : List ℕ) (way : Way) (X : PathBucket) (n : ℕ) (name : Text) (change : DomainChange) (kind : Kind) (inner : Nodes) (e : ℕ) → AllByRecursion (IsTold r W) A → IsState r W A H way X
    → facet_at n (nodes_of r way) ≡ Some (facet_of name change kind, inner) → FacetIsTold r W A H way X n name change kind inner
    → ToldBelow A e (under_held A kind inner n H way) → WantedInside r W A inner → under_held A kind inner n H way e ≡ under_places r W kind inner n H (domain_there r W H (facet_of name change kind) X) way e
under_agrees r W A H way X n name change kind inner e all state at facet_is told inside =
    let f : Facet = facet_of name change kind in
    let Y = domain_there r W H f X in
    let keys = keys_agree r W A H way X n name change kind inner all state at facet_is in
    ap (flat_map (λ k. wanted (over_held A) e inner 0 (carried (over_held A) kind inner H (node_at way n) k) (way ++ step_to n k) (way ++ step_to n k))) keys
    ∙ flat_map_alike (λ k. wanted (over_held A) e inner 0 (carried (over_held A) kind inner H (node_at way n) k) (way ++ step_to n k) (way ++ step_to n k))
    (λ k. wanted (over_places r W) e inner 0 (carried (over_places r W) kind inner H Y k) (in_key Y kind k) (way ++ step_to n k)) (printed_keys (over_places r W) kind inner H Y)
    (λ k m. let shards = carried_agree r W A H way X n name change kind inner k all state at in
    ap (λ K. wanted (over_held A) e inner 0 K (way ++ step_to n k) (way ++ step_to n k)) shards
    ∙ inside e (carried (over_places r W) kind inner H Y k) (way ++ step_to n k) (in_key Y kind k) (printed_state r W A H way X n name change kind inner k all state at facet_is m)
    (from_start r W (way ++ step_to n k) inner (next_nodes r way n f inner k at))
    (λ d less. subst (λ K. AllTold A (wanted (over_held A) d inner 0 K (way ++ step_to n k) (way ++ step_to n k))) shards
    (every_in (λ l. is_some (held A l.shard (way_of l.want))) (λ l. wanted (over_held A) d inner 0 (carried (over_held A) kind inner H (node_at way n) l) (way ++ step_to n l) (way ++ step_to n l)) (printed_keys (over_held A) kind inner H (node_at way n)) k
    (told d less) (subst (λ ks. Member k ks) (sym keys) m))))

-- at a facet
at_agrees : (r : Request) (W : World) (A : List Told) (H : List ℕ) (way : Way) (X : PathBucket) (n : ℕ) (name : Text) (change : DomainChange) (kind : Kind) (inner : Nodes) (e : ℕ) → AllByRecursion (IsTold r W) A → IsState r W A H way X
    → facet_at n (nodes_of r way) ≡ Some (facet_of name change kind, inner) → ToldBelow A e (wanted_held A kind inner n H way) → WantedInside r W A inner
    → wanted_held A kind inner n H way e ≡ wanted_there r W kind inner n H (domain_there r W H (facet_of name change kind) X) way e
at_agrees r W A H way X n name change (terms t) inner zero all state at told inside =
    ap (λ vs. cond (asks_again t inner) (flat_map (λ v. each_of H (want_of way n (value v))) vs) []) (chosen_agree r W A H way X n name change t inner all state at)
at_agrees r W A H way X n name change (terms t) inner (suc e) all state at told inside =
    under_agrees r W A H way X n name change (terms t) inner e all state at (facet_told r W A H way X n name change (terms t) inner all state at (told 0 (omega arith))) (λ d less. told (suc d) (omega arith)) inside
at_agrees r W A H way X n name change (range g) inner e all state at told inside = under_agrees r W A H way X n name change (range g) inner e all state at tt told inside
at_agrees r W A H way X n name change (date_range g) inner e all state at told inside = under_agrees r W A H way X n name change (date_range g) inner e all state at tt told inside
at_agrees r W A H way X n name change (query q) inner e all state at told inside = under_agrees r W A H way X n name change (query q) inner e all state at tt told inside

-- of a facet that is not printed nothing is wanted
part_wanted : (A : List Told) (empty : Bool) (f : Facet) (e : ℕ) (held there : ℕ → List Lack) → (ToldBelow A e held → held e ≡ there e) → ToldBelow A e (λ d. facet_wanted empty f (held d)) → facet_wanted empty f (held e) ≡ facet_wanted empty f (there e)
part_wanted A empty f e held there h told = go (empty && is_empty f.change.exclude) told
  where
    go : (b : Bool) → ToldBelow A e (λ d. cond b [] (held d)) → cond b [] (held e) ≡ cond b [] (there e)
    go true t = refl
    go false t = h t

-- what is wanted for the nodes of a bucket, from some node on
pub wanted_agrees : (r : Request) (W : World) (A : List Told) (nodes : Nodes) (e n m : ℕ) (H : List ℕ) (way : Way) (X : PathBucket) → AllByRecursion (IsTold r W) A → IsState r W A H way X → AreFrom r W way n m nodes
    → ToldBelow A e (λ d. wanted (over_held A) d nodes n H way way) → wanted (over_held A) e nodes n H way way ≡ wanted (over_places r W) e nodes n H X way
wanted_agrees r W A no_nodes e n m H way X all state from told = refl
wanted_agrees r W A (statistic name s rest) e n m H way X all state from told = wanted_agrees r W A rest e (suc n) (suc m) H way X all state (after_statistic r W way n m name s rest from) told
wanted_agrees r W A (facet f inner rest) e n m H way X all state from told =
    let p = λ (l : Lack). is_some (held A l.shard (way_of l.want)) in
    let here = λ (d : ℕ). facet_wanted (count_held A H way == 0) f (wanted_held A f.kind inner n H way d) in
    let later = λ (d : ℕ). wanted (over_held A) d rest (suc n) H way way in
    let first = part_wanted A (count_held A H way == 0) f e (wanted_held A f.kind inner n H way) (wanted_there r W f.kind inner n H (domain_there r W H f X) way)
    (λ t. at_agrees r W A H way X n f.name f.change f.kind inner e all state (facet_first r W way n m f inner rest from) t (λ d K w P st fr to. wanted_agrees r W A inner d 0 0 K w P all st fr to))
    (λ d less. every_left p (here d) (later d) (told d less))
    ∙ ap (λ c. facet_wanted (c == 0) f (wanted_there r W f.kind inner n H (domain_there r W H f X) way e)) (count_agrees r W A H way X all state) in
    let second = wanted_agrees r W A rest e (suc n) m H way X all state (after_facet r W way n m f inner rest from) (λ d less. every_right p (here d) (later d) (told d less)) in
    λ i. first i ++ second i
