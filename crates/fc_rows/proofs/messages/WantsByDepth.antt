-- Two levels of refining: what lacks at which depth, after each round.
use Rattle.std.specs.Prelude.{◌≡◌, ℕ, List, [], ◌∷◌, refl}
use Rattle.fc_spec.specs.requests.Buckets.{whole}
use Rattle.fc_spec.specs.messages.Message.{no_partials, partial, no_rows, row, first, more, Way}
use Rattle.fc_spec.specs.messages.Lacks.{Lack, terms_depth}
use Rattle.fc_spec.specs.messages.Rounds.{told_in, search_rounds}
use Rattle.fc_rows.proofs.messages.MessageWords.{answer_of, next_lacks_of, lacks_of, key_of, leaf, around, want, heard, heard_in, up_to_round}
use Rattle.fc_rows.proofs.replies.NestedRefining.{request, documents}

pub three_rounds : heard_in (search_rounds request documents) ≡ heard 1 0 ∷ heard 1 1 ∷ heard 2 1 ∷ heard 3 0 ∷ []
three_rounds = refl

-- what lacks at a depth after a round
abbrev pub lacks_after : (round depth : ℕ) → List Lack
lacks_after round depth = lacks_of 2 request (told_in request.nodes (up_to_round round request documents)) depth

-- each shard offers one category, and in it one size
pub first_answer : answer_of 0 request documents first
    ≡ around whole 3 (partial (key_of "x") (record { count = 3; values = [] }) (row (leaf (key_of "s") 2 no_partials) no_rows) no_partials)
first_answer = refl

pub second_answer : answer_of 1 request documents first
    ≡ around whole 5 (partial (key_of "y") (record { count = 3; values = [] }) (row (leaf (key_of "m") 3 no_partials) no_rows) no_partials)
second_answer = refl

-- of two categories with three each the first in index order is chosen, and the second shard has not told of it
pub category_lacks : lacks_after 1 0 ≡ record { shard = 1; want = want [] 0 (key_of "x") } ∷ []
category_lacks = refl

-- its answer offers one size
pub category_answer : answer_of 1 request documents (more (want [] 0 (key_of "x") ∷ [])) ≡ around (key_of "x") 2 (leaf (key_of "l") 2 no_partials)
category_answer = refl

-- then nothing lacks among the categories, and in the printed one the chosen size lacks
pub no_category_lacks : lacks_after 2 0 ≡ []
no_category_lacks = refl

abbrev pub under_x : Way
under_x = record { node = 0; key = key_of "x" } ∷ []

pub size_lacks : lacks_after 2 1 ≡ record { shard = 0; want = want under_x 0 (key_of "l") } ∷ []
size_lacks = refl

pub size_answer : answer_of 0 request documents (more (want under_x 0 (key_of "l") ∷ [])) ≡ leaf (key_of "l") 1 no_partials
size_answer = refl

-- the least depth where something lacks comes next
pub category_next : next_lacks_of 2 request (told_in request.nodes (up_to_round 1 request documents)) 2 0 ≡ record { shard = 1; want = want [] 0 (key_of "x") } ∷ []
category_next = refl

pub size_next : next_lacks_of 2 request (told_in request.nodes (up_to_round 2 request documents)) 2 0 ≡ record { shard = 0; want = want under_x 0 (key_of "l") } ∷ []
size_next = refl

-- in the end nothing lacks, at no depth
pub no_category_lacks_in_the_end : lacks_after 3 0 ≡ []
no_category_lacks_in_the_end = refl

pub no_size_lacks_in_the_end : lacks_after 3 1 ≡ []
no_size_lacks_in_the_end = refl

pub nothing_lacks_deeper : lacks_after 1 2 ≡ []
nothing_lacks_deeper = refl

-- terms under terms
pub two_deep : terms_depth request.nodes ≡ 2
two_deep = refl
