-- Integers, below zero too, and more than one in a document.
use Rattle.std.specs.Prelude.{pos, negsuc, [], ◌∷◌, true, refl, codes}
use Rattle.fc_spec.specs.documents.Val.{long}
use Rattle.fc_spec.specs.documents.World.{World}
use Rattle.fc_spec.specs.requests.Request.{sum, min, max, countvals, missing, terms, range, no_nodes, statistic, facet, Request}
use Rattle.fc_rows.proofs.Words.{written, BothSay, said, numbered, alone, index_asc, terms_on, range_on, stat, named, asking}

-- fields: id, n; negsuc 19 is -20, and negsuc 4 is -5; the last document has no number
abbrev pub documents : World
documents =
    (alone (said "1" ∷ numbered (negsuc 19) ∷ []) ∷ alone (said "2" ∷ (long (negsuc 4) ∷ long (pos 3) ∷ []) ∷ []) ∷ [])
    ∷ (alone (said "3" ∷ (long (pos 3) ∷ long (pos 7) ∷ []) ∷ []) ∷ alone (said "4" ∷ [] ∷ []) ∷ [])
    ∷ []

-- buckets in descending order of the numbers
abbrev pub values : Request
values = asking (facet (named "n" (terms (record (terms_on 1) { sort = record index_asc { descending = true } }))) no_nodes no_nodes)

pub by_number : BothSay values documents
    (codes "{\"count\":4,\"n\":{\"buckets\":[{\"count\":1,\"val\":7},{\"count\":2,\"val\":3},{\"count\":1,\"val\":-5},{\"count\":1,\"val\":-20}]}}")
unfolding written
by_number = (refl, refl)

-- a document is once in a gap that has two of its values; its values count one by one in the statistics
abbrev pub gaps_and_sums : Request
gaps_and_sums = asking
    (statistic (codes "hi") (stat max 1)
    (statistic (codes "lo") (stat min 1)
    (statistic (codes "m") (stat missing 1)
    (facet (named "r" (range (range_on 1 (negsuc 19) (pos 10) (pos 15)))) no_nodes
    (statistic (codes "s") (stat sum 1)
    (statistic (codes "v") (stat countvals 1) no_nodes))))))

pub one_by_one : BothSay gaps_and_sums documents
    (codes "{\"count\":4,\"hi\":7,\"lo\":-20,\"m\":1,\"r\":{\"buckets\":[{\"count\":1,\"val\":-20},{\"count\":2,\"val\":-5}]},\"s\":-12,\"v\":5}")
unfolding written
one_by_one = (refl, refl)
