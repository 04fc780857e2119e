-- Which filters a facet leaves out, and the domain's own filters.
use Rattle.std.specs.Prelude.{List, [], ◌∷◌, refl, codes}
use Rattle.fc_spec.specs.documents.Val.{Text}
use Rattle.fc_spec.specs.queries.Query.{all}
use Rattle.fc_spec.specs.requests.Request.{DomainChange, terms, no_nodes, facet, Filter, Request}
use Rattle.fc_rows.proofs.Words.{written, BothSay, says, terms_on, no_change, changed, tagged}
use Rattle.fc_rows.proofs.replies.RootCounts.{documents, a_or_c}
use Rattle.fc_rows.proofs.replies.Exclusions.{without}

abbrev pub asking_one : List Filter → DomainChange → Request
asking_one filters change = record { query = all; filters = filters; nodes = facet (changed "all" change (terms (terms_on 1))) no_nodes no_nodes }

-- two filters that no document meets, one of them with two tags
abbrev pub two_filters : List Filter
two_filters = record { tags = codes "A" ∷ codes "B" ∷ []; query = says 1 "y" } ∷ tagged "C" (says 1 "z") ∷ []

abbrev pub leaving_out : List Text → Request
leaving_out tags = asking_one two_filters (record no_change { exclude = tags })

-- a filter is left out for any of its tags
pub both_out : BothSay (leaving_out (codes "B" ∷ codes "C" ∷ [])) documents
    (codes "{\"all\":{\"buckets\":[{\"count\":1,\"val\":\"a\"},{\"count\":1,\"val\":\"b\"},{\"count\":1,\"val\":\"c\"}]},\"count\":0}")
unfolding written
both_out = (refl, refl)

-- the other filter stays
pub one_out : BothSay (leaving_out (codes "A" ∷ codes "B" ∷ [])) documents (codes "{\"all\":{\"buckets\":[]},\"count\":0}")
unfolding written
one_out = (refl, refl)

-- an unknown tag leaves nothing out
pub none_out : BothSay (leaving_out (codes "D" ∷ [])) documents (codes "{\"all\":{\"buckets\":[]},\"count\":0}")
unfolding written
none_out = (refl, refl)

-- a place meets each of the domain's filters
pub both_met : BothSay (asking_one [] (record no_change { filters = without "b" ∷ without "c" ∷ [] })) documents (codes "{\"all\":{\"buckets\":[{\"count\":1,\"val\":\"a\"}]},\"count\":3}")
unfolding written
both_met = (refl, refl)

-- color:(a OR c): the main query is never left out
abbrev pub a_or_c_asked : Request
a_or_c_asked = record (leaving_out (codes "A" ∷ codes "C" ∷ [])) { query = a_or_c }

pub query_stays : BothSay a_or_c_asked documents (codes "{\"all\":{\"buckets\":[{\"count\":1,\"val\":\"a\"},{\"count\":1,\"val\":\"c\"}]},\"count\":0}")
unfolding written
query_stays = (refl, refl)
