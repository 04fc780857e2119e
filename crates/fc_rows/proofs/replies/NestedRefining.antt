-- Terms under terms, each refined: level by level.
use Rattle.std.specs.Prelude.{◌≡◌, ℕ, [], ◌∷◌, true, refl, codes}
use Rattle.fc_spec.specs.documents.World.{World}
use Rattle.fc_spec.specs.requests.Request.{Terms, terms, no_nodes, facet, Request}
use Rattle.fc_spec.specs.replies.Distributed.{distributed}
use Rattle.fc_spec.specs.replies.Json.{facets_text}
use Rattle.fc_rows.proofs.Words.{written, said, alone, limited_on, named, asking}

-- fields: id, cat, size
abbrev pub documents : World
documents =
    (alone (said "1" ∷ said "x" ∷ said "s" ∷ []) ∷ alone (said "2" ∷ said "x" ∷ said "s" ∷ []) ∷ alone (said "3" ∷ said "x" ∷ said "l" ∷ []) ∷ [])
    ∷ (alone (said "4" ∷ said "x" ∷ said "l" ∷ []) ∷ alone (said "5" ∷ said "x" ∷ said "l" ∷ []) ∷ alone (said "6" ∷ said "y" ∷ said "m" ∷ []) ∷ alone (said "7" ∷ said "y" ∷ said "m" ∷ []) ∷ alone (said "8" ∷ said "y" ∷ said "m" ∷ []) ∷ [])
    ∷ []

abbrev pub refined_on : ℕ → Terms
refined_on field = record (limited_on field 1) { refine = true; overrequest = 0; overrefine = 0 }

abbrev pub request : Request
request = asking (facet (named "cats" (terms (refined_on 1))) (facet (named "sizes" (terms (refined_on 2))) no_nodes no_nodes) no_nodes)

pub both_levels : facets_text (distributed request documents)
    ≡ codes "{\"cats\":{\"buckets\":[{\"count\":5,\"sizes\":{\"buckets\":[{\"count\":3,\"val\":\"l\"}]},\"val\":\"x\"}]},\"count\":8}"
unfolding written
both_levels = refl
