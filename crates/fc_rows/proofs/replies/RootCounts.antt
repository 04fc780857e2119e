-- How many documents some queries match.
use Rattle.std.specs.Prelude.{[], ◌∷◌, refl, codes}
use Rattle.fc_spec.specs.documents.Val.{text}
use Rattle.fc_spec.specs.documents.Document.{Block}
use Rattle.fc_spec.specs.queries.Query.{unbounded, including, excluding, must, must_not, may, Query, has, between, group, no_clauses, clause}
use Rattle.fc_spec.specs.documents.World.{World}
use Rattle.fc_spec.specs.requests.Request.{no_nodes, Request}
use Prim.Native.String.{String}
use Rattle.fc_rows.proofs.Words.{written, BothSay, said, alone, says}

-- fields: id, color, size; no document has a size
abbrev pub colored : String → String → Block
colored id color = alone (said id ∷ said color ∷ [] ∷ [])

abbrev pub documents : World
documents = (colored "1" "a" ∷ colored "2" "b" ∷ colored "3" "c" ∷ []) ∷ []

abbrev pub of : Query → Request
of q = record { query = q; filters = []; nodes = no_nodes }

-- -color:a
abbrev pub not_a : Query
not_a = group (clause must_not (says 1 "a") no_clauses)

pub forbidden_alone : BothSay (of not_a) documents (codes "{\"count\":2}")
unfolding written
forbidden_alone = (refl, refl)

-- color:(a OR c)
abbrev pub a_or_c : Query
a_or_c = group (clause may (says 1 "a") (clause may (says 1 "c") no_clauses))

pub one_of_two : BothSay (of a_or_c) documents (codes "{\"count\":2}")
unfolding written
one_of_two = (refl, refl)

-- color:{a TO c]
abbrev pub above_a : Query
above_a = between 1 (excluding (text (codes "a"))) (including (text (codes "c")))

pub half_open : BothSay (of above_a) documents (codes "{\"count\":2}")
unfolding written
half_open = (refl, refl)

-- size:*
pub any_size : BothSay (of (has 2)) documents (codes "{\"count\":0}")
unfolding written
any_size = (refl, refl)

-- +color:a color:b
abbrev pub a_perhaps_b : Query
a_perhaps_b = group (clause must (says 1 "a") (clause may (says 1 "b") no_clauses))

pub required_and_optional : BothSay (of a_perhaps_b) documents (codes "{\"count\":1}")
unfolding written
required_and_optional = (refl, refl)

-- color:(a -b)
abbrev pub a_without_b : Query
a_without_b = group (clause may (says 1 "a") (clause must_not (says 1 "b") no_clauses))

pub optional_and_forbidden : BothSay (of a_without_b) documents (codes "{\"count\":1}")
unfolding written
optional_and_forbidden = (refl, refl)

-- color:{a TO c}
pub both_open : BothSay (of (between 1 (excluding (text (codes "a"))) (excluding (text (codes "c"))))) documents (codes "{\"count\":1}")
unfolding written
both_open = (refl, refl)

-- color:[* TO b]
pub up_to_b : BothSay (of (between 1 unbounded (including (text (codes "b"))))) documents (codes "{\"count\":2}")
unfolding written
up_to_b = (refl, refl)

-- color:[c TO a]: an end that passes the other
pub ends_passed : BothSay (of (between 1 (including (text (codes "c"))) (including (text (codes "a"))))) documents (codes "{\"count\":0}")
unfolding written
ends_passed = (refl, refl)
