-- The exact reply is the same over places with other numbers: by recursion over the request's nodes.
use Rattle.std.proofs.Common.{◌≡◌, List, [], length, ◌==◌, refl, sym, ◌∙◌, ap, map}
use Rattle.std.specs.Prelude.{None}
use Rattle.fc_spec.specs.documents.World.{World, Place, places}
use Rattle.fc_spec.specs.requests.Request.{Nodes, no_nodes, statistic, facet, Request, stats_of}
use Rattle.fc_spec.specs.requests.Base.{root_domain}
use Rattle.fc_spec.specs.requests.Paths.{Path, at_root, into, domain}
use Rattle.fc_spec.specs.requests.Buckets.{Key, bucket_places}
use Rattle.fc_spec.specs.requests.Statistics.{value_over, shown}
use Rattle.fc_spec.specs.replies.Reply.{bucket, with_buckets}
use Rattle.fc_spec.specs.replies.Printed.{statistic_part, facet_part}
use Rattle.fc_spec.specs.replies.Exact.{exact, exact_keys, exact_facets}
use Rattle.fc_spec.proofs.words.Members.{Every, every_filter}
use Rattle.fc_spec.proofs.documents.Renumbered.{Renumbering, renumbered}
use Rattle.fc_spec.proofs.requests.RenumberedDomains.{base_renumbered, domain_renumbered, domain_known}
use Rattle.fc_spec.proofs.documents.AlikePlaces.{length_renumbered, bucket_renumbered, value_renumbered, keys_renumbered}

-- the facets of a bucket over renumbered places
facets_renumbered : {W V : World} (R : Renumbering W V) (r : Request) (nodes : Nodes) (path : Path) (X Q : List Place) → Every R.known X → Q ≡ map (renumbered R.numbers) X
    → exact_facets r V nodes path Q ≡ exact_facets r W nodes path X
facets_renumbered R r no_nodes path X Q known e = refl
facets_renumbered R r (statistic name s rest) path X Q known e =
    let more = facets_renumbered R r rest path X Q known e in
    let count = ap length e ∙ length_renumbered R.numbers X in
    let values = ap (value_over s) e ∙ value_renumbered R.numbers s X in
    λ i. statistic_part (count i == 0) name (shown (values i)) (more i)
facets_renumbered {W} {V} R r (facet f inner rest) path X Q known e =
    let more = facets_renumbered R r rest path X Q known e in
    let count = ap length e ∙ length_renumbered R.numbers X in
    let Y = domain r W path f.change X in
    let own = domain_known R r path f.change X known in
    let over = ap (domain r V path f.change) e ∙ domain_renumbered R r path f.change X known in
    let parts = λ (k : Key). ap (bucket_places f.kind k) over ∙ bucket_renumbered R.numbers f.kind k Y in
    let counts = λ (k : Key). ap length (parts k) ∙ length_renumbered R.numbers (bucket_places f.kind k Y) in
    let insides = λ (k : Key). facets_renumbered R r inner (into path f k) (bucket_places f.kind k Y) (bucket_places f.kind k (domain r V path f.change Q)) (every_filter R.known _ Y own) (parts k) in
    let keys = ap (exact_keys f.kind (stats_of inner)) over ∙ keys_renumbered R.numbers f.kind (stats_of inner) Y in
    λ i. facet_part (count i == 0) f (with_buckets f.name f.kind (λ k. counts k i) (λ k. insides k i) (keys i) (more i)) (more i)

-- the whole reply
pub exact_renumbered : {W V : World} (R : Renumbering W V) (r : Request) → exact r W ≡ exact r V
exact_renumbered {W} {V} R r =
    let root = base_renumbered R r [] in
    let count = ap length root ∙ length_renumbered R.numbers (root_domain r W) in
    let facets = facets_renumbered R r r.nodes at_root (root_domain r W) (root_domain r V) (every_filter R.known _ (places W) R.all_known) root in
    sym (λ i. bucket None (count i) (facets i))
