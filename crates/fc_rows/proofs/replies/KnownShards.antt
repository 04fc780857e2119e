-- What stands inside a bucket is of the shards over which the bucket is counted.
use Rattle.std.specs.Prelude.{◌≡◌, ℤ, pos, [], ◌∷◌, Bool, true, false, refl, codes}
use Rattle.fc_spec.specs.documents.Document.{Block}
use Rattle.fc_spec.specs.documents.Val.{long}
use Rattle.fc_spec.specs.queries.Query.{must_not, all, is, group, no_clauses, clause}
use Rattle.fc_spec.specs.documents.World.{World}
use Rattle.fc_spec.specs.requests.Request.{sum, terms, no_nodes, statistic, facet, Request}
use Rattle.fc_spec.specs.replies.Distributed.{distributed}
use Rattle.fc_spec.specs.replies.Json.{facets_text}
use Prim.Native.String.{String}
use Rattle.fc_rows.proofs.Words.{written, BothSay, said, numbered, alone, says, terms_on, limited_on, stat, no_change, named, changed, tagged}

-- fields: id, cat, n
abbrev pub valued : String → String → ℤ → Block
valued id cat n = alone (said id ∷ said cat ∷ numbered n ∷ [])

abbrev pub documents : World
documents =
    (valued "1" "a" (pos 1) ∷ valued "2" "a" (pos 2) ∷ valued "3" "a" (pos 3) ∷ valued "4" "b" (pos 4) ∷ valued "5" "b" (pos 5) ∷ [])
    ∷ (valued "6" "c" (pos 6) ∷ valued "7" "c" (pos 7) ∷ valued "8" "c" (pos 8) ∷ valued "9" "a" (pos 10) ∷ [])
    ∷ []

-- b and document 9 are filtered out, and `back` leaves that filter out again: a's document 9 comes back
abbrev pub asking_one : (refine : Bool) → Request
asking_one refine = record {
  query = all;
  filters = tagged "T" (group (clause must_not (says 1 "b") (clause must_not (is 2 (long (pos 10))) no_clauses))) ∷ [];
  nodes =
      facet (named "c" (terms (record (limited_on 1 1) { refine = refine; overrequest = 0; overrefine = 0 })))
      (facet (changed "back" (record no_change { exclude = codes "T" ∷ [] }) (terms (terms_on 1))) no_nodes (statistic (codes "s") (stat sum 2) no_nodes))
      no_nodes;
}

-- shard 0 alone offers a: the sum and the nested facet, too, are of shard 0
pub offering_shard : facets_text (distributed (asking_one false) documents)
    ≡ codes "{\"c\":{\"buckets\":[{\"back\":{\"buckets\":[{\"count\":3,\"val\":\"a\"}]},\"count\":3,\"s\":6,\"val\":\"a\"}]},\"count\":6}"
unfolding written
offering_shard = refl

-- a refined bucket has all shards, and so has what stands inside
pub all_shards : BothSay (asking_one true) documents
    (codes "{\"c\":{\"buckets\":[{\"back\":{\"buckets\":[{\"count\":4,\"val\":\"a\"}]},\"count\":3,\"s\":6,\"val\":\"a\"}]},\"count\":6}")
unfolding written
all_shards = (refl, refl)
