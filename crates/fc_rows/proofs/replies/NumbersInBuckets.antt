-- Numbers inside buckets, with a prefix, beside the missing bucket, in an empty root, and one behind another.
use Rattle.std.specs.Prelude.{◌≡◌, [], ◌∷◌, true, Some, refl, codes}
use Rattle.fc_spec.specs.queries.Query.{all}
use Rattle.fc_spec.specs.requests.Request.{Terms, terms, Facet, Nodes, no_nodes, facet, Request}
use Rattle.fc_spec.specs.requests.Spread.{number_facet, beside_facet}
use Rattle.fc_spec.specs.replies.Replied.{replied}
use Rattle.fc_spec.specs.replies.Json.{facets_text}
use Rattle.fc_rows.proofs.Words.{written, says, limited_on, no_change, named, changed, tagged, asking}
use Rattle.fc_rows.proofs.replies.ShortCount.{documents as labelled_ones, first_alone}
use Rattle.fc_rows.proofs.replies.NestedRefining.{documents as sized}
use Rattle.fc_rows.proofs.replies.Prefixes.{documents as prefixed}
use Rattle.fc_rows.proofs.replies.RootCounts.{documents as colored}

-- a facet with its number, and what stands behind
abbrev pub with_number : Facet → Terms → Nodes → Nodes
with_number f t rest = facet f no_nodes (facet (beside_facet f t) no_nodes rest)

-- two sizes at least of each value, and how many ids it has
abbrev pub pairs_alone : Terms
pairs_alone = record (limited_on 2 1) { mincount = 2 }

abbrev pub inside : Nodes
inside = with_number (named "sizes" (terms pairs_alone)) pairs_alone (facet (number_facet (codes "u") 0) no_nodes no_nodes)

abbrev pub cats : Terms → Request
cats t = asking (facet (named "cats" (terms t)) inside no_nodes)

-- the bucket carries the first shard alone: of its three documents two have the size s and one has l
pub of_one_shard : facets_text (replied (cats (record (limited_on 1 1) { overrequest = 0 })) sized)
    ≡ codes "{\"cats\":{\"buckets\":[{\"count\":3,\"sizes\":{\"buckets\":[{\"count\":2,\"val\":\"s\"}],\"numBuckets\":1},\"u\":3,\"val\":\"x\"}]},\"count\":8}"
unfolding written
of_one_shard = refl

-- refined it carries both: three of five have the size l
pub of_all_shards : facets_text (replied (cats (record (limited_on 1 1) { overrequest = 0; refine = true; overrefine = 0 })) sized)
    ≡ codes "{\"cats\":{\"buckets\":[{\"count\":5,\"sizes\":{\"buckets\":[{\"count\":3,\"val\":\"l\"}],\"numBuckets\":2},\"u\":5,\"val\":\"x\"}]},\"count\":8}"
unfolding written
of_all_shards = refl

-- values that begin so are counted, and the missing bucket is not; a unique has no prefix
abbrev pub begun : Terms
begun = record (limited_on 1 1) { prefix = Some (codes "ap"); missing = true }

pub with_prefix : facets_text (replied (asking (with_number (named "t" (terms begun)) begun (facet (number_facet (codes "u") 1) no_nodes no_nodes))) prefixed)
    ≡ codes "{\"count\":6,\"t\":{\"buckets\":[{\"count\":2,\"val\":\"apple\"}],\"missing\":{\"count\":1},\"numBuckets\":3},\"u\":5}"
unfolding written
with_prefix = refl

-- no document has color z: what leaves that filter out is printed with its number, and a unique is not
abbrev pub excluding : Facet
excluding = changed "all" (record no_change { exclude = codes "C" ∷ [] }) (terms (limited_on 1 1))

abbrev pub of_none : Request
of_none = record {
  query = all;
  filters = tagged "C" (says 1 "z") ∷ [];
  nodes = with_number excluding (limited_on 1 1) (with_number (named "b" (terms (limited_on 1 1))) (limited_on 1 1) (facet (number_facet (codes "u") 1) no_nodes no_nodes));
}

pub in_an_empty_root : facets_text (replied of_none colored) ≡ codes "{\"all\":{\"buckets\":[{\"count\":1,\"val\":\"a\"}],\"numBuckets\":3},\"count\":0}"
unfolding written
in_an_empty_root = refl

-- each number stands beside its own facet
pub one_behind_another : facets_text (replied (asking (with_number (named "c" (terms first_alone)) first_alone (with_number (named "d" (terms (limited_on 0 1))) (limited_on 0 1) no_nodes))) labelled_ones)
    ≡ codes "{\"c\":{\"buckets\":[{\"count\":3,\"val\":\"a\"}],\"numBuckets\":3},\"count\":9,\"d\":{\"buckets\":[{\"count\":1,\"val\":\"1\"}],\"numBuckets\":9}}"
unfolding written
one_behind_another = refl
