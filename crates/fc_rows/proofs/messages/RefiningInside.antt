-- Refining inside buckets that are not asked for again: of a query facet, of a range, of missing, of values that are not refined.
use Rattle.std.specs.Prelude.{◌≡◌, ℕ, pos, List, [], ◌∷◌, true, false, refl, codes}
use Prim.Native.String.{String}
use Rattle.fc_spec.specs.documents.Document.{Block}
use Rattle.fc_spec.specs.queries.Query.{all}
use Rattle.fc_spec.specs.documents.World.{World}
use Rattle.fc_spec.specs.requests.Request.{Kind, terms, range, query, no_nodes, facet, Request}
use Rattle.fc_spec.specs.requests.Buckets.{missing, gap, whole}
use Rattle.fc_spec.specs.messages.Lacks.{Lack, lacks}
use Rattle.fc_spec.specs.messages.Rounds.{told_in, search_rounds}
use Rattle.fc_rows.proofs.Words.{written, said, numbered, alone, limited_on, range_on, named, asking}
use Rattle.fc_rows.proofs.messages.MessageWords.{key_of, want, heard, heard_in, up_to_round, merged_text}
use Rattle.fc_rows.proofs.replies.ShortCount as short_count
use Rattle.fc_rows.proofs.messages.SeveralWants as several_wants

-- the refined facet of the short count inside a query facet: it is asked for in the second round, and only terms facets count as depth
abbrev pub in_query : Request
in_query = asking (facet (named "all" (query all)) (facet (named "c" (terms short_count.refined)) no_nodes no_nodes) no_nodes)

pub lack_in_query : lacks in_query 2 (told_in in_query.nodes (up_to_round 1 in_query short_count.documents)) 0 ≡ record { shard = 1; want = want (record { node = 0; key = whole } ∷ []) 0 (key_of "a") } ∷ []
lack_in_query = refl

pub rounds_in_query : heard_in (search_rounds in_query short_count.documents) ≡ heard 1 0 ∷ heard 1 1 ∷ heard 2 1 ∷ []
rounds_in_query = refl

pub merged_in_query : merged_text in_query (search_rounds in_query short_count.documents) ≡ codes "{\"all\":{\"c\":{\"buckets\":[{\"count\":4,\"val\":\"a\"}]},\"count\":9},\"count\":9}"
unfolding written
merged_in_query = refl

-- fields: id, size, n, and a fourth that no document has
abbrev pub sized : String → String → Block
sized id size = alone (said id ∷ said size ∷ numbered (pos 1) ∷ [] ∷ [])

abbrev pub documents : World
documents =
    (sized "1" "s" ∷ sized "2" "s" ∷ sized "3" "l" ∷ [])
    ∷ (sized "4" "l" ∷ sized "5" "l" ∷ [])
    ∷ []

-- one size inside
abbrev pub around_sizes : Kind → Request
around_sizes kind = asking (facet (named "out" kind) (facet (named "sizes" (terms (record (limited_on 1 1) { refine = true; overrequest = 0; overrefine = 0 }))) no_nodes no_nodes) no_nodes)

-- inside a gap, beside one that is empty
abbrev pub in_range : Request
in_range = around_sizes (range (range_on 2 (pos 0) (pos 4) (pos 2)))

pub lack_in_range : lacks in_range 2 (told_in in_range.nodes (up_to_round 1 in_range documents)) 0 ≡ record { shard = 0; want = want (record { node = 0; key = gap 0 } ∷ []) 0 (key_of "l") } ∷ []
lack_in_range = refl

pub merged_in_range : merged_text in_range (search_rounds in_range documents)
    ≡ codes "{\"count\":5,\"out\":{\"buckets\":[{\"count\":5,\"sizes\":{\"buckets\":[{\"count\":3,\"val\":\"l\"}]},\"val\":0},{\"count\":0,\"val\":2}]}}"
unfolding written
merged_in_range = refl

-- inside missing: the facet around it is a terms facet, and counts
abbrev pub in_missing : Request
in_missing = around_sizes (terms (record (limited_on 3 1) { missing = true; refine = true }))

abbrev pub missing_lacks : ℕ → List Lack
missing_lacks depth = lacks in_missing 2 (told_in in_missing.nodes (up_to_round 1 in_missing documents)) depth

pub no_lack_around_missing : missing_lacks 0 ≡ []
no_lack_around_missing = refl

pub lack_in_missing : missing_lacks 1 ≡ record { shard = 0; want = want (record { node = 0; key = missing } ∷ []) 0 (key_of "l") } ∷ []
lack_in_missing = refl

pub rounds_in_missing : heard_in (search_rounds in_missing documents) ≡ heard 1 0 ∷ heard 1 1 ∷ heard 2 0 ∷ []
rounds_in_missing = refl

pub merged_in_missing : merged_text in_missing (search_rounds in_missing documents)
    ≡ codes "{\"count\":5,\"out\":{\"buckets\":[],\"missing\":{\"count\":5,\"sizes\":{\"buckets\":[{\"count\":3,\"val\":\"l\"}]}}}}"
unfolding written
merged_in_missing = refl

-- a value that is not refined carries the shards that offer it: no other shard is asked inside
abbrev pub in_unrefined : Request
in_unrefined = several_wants.asking_for (record several_wants.two_of_three { refine = false })

pub one_round_in_unrefined : heard_in (search_rounds in_unrefined several_wants.documents) ≡ heard 1 0 ∷ heard 1 1 ∷ []
one_round_in_unrefined = refl

pub merged_in_unrefined : merged_text in_unrefined (search_rounds in_unrefined several_wants.documents)
    ≡ codes "{\"cats\":{\"buckets\":[{\"count\":4,\"sizes\":{\"buckets\":[{\"count\":4,\"val\":\"s\"}]},\"val\":\"c\"},{\"count\":3,\"sizes\":{\"buckets\":[{\"count\":3,\"val\":\"s\"}]},\"val\":\"a\"}]},\"count\":9}"
unfolding written
merged_in_unrefined = refl
