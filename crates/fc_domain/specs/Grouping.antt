-- How the answers of a group's clauses are taken one after another.
use Rattle.std.specs.Prelude.{Bool, false, List, not, ◌&&◌, ◌||◌, if◌then◌else◌}
use Rattle.std.specs.List.{fold}
use Rattle.fc_spec.specs.queries.Query.{Need, must, must_not, may, Clauses, no_clauses, clause}
use Rattle.fc_spec.specs.queries.Matching.{same_need}

-- what stands so far, and the answer of one more clause with this need
abbrev pub taken : Need → Bool → Bool → Bool
taken must here there = here && there
taken must_not here there = here && not there
taken may here there = here || there

abbrev pub all_taken : Need → Bool → List Bool → Bool
all_taken need here answers = fold (taken need) here answers

-- a clause has this need
abbrev pub has_need : Need → Clauses → Bool
has_need need no_clauses = false
has_need need (clause n q cs) = same_need n need || has_need need cs

-- optional clauses are taken first where there is one and none is required; else the required ones
abbrev pub first_need : Clauses → Need
first_need cs = if has_need may cs && not (has_need must cs) then may else must
