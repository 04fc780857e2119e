-- The parts of a message's shape: the buckets of a facet without what is nested in them, however many; what is nested in each of them; another bound on the number of values.
use Rattle.std.specs.Prelude.{◌≡◌, ℕ, pos, [], ◌∷◌, Bool, true, false, Option, None, Some, refl, codes}
use Rattle.fc_spec.specs.requests.Request.{sum, Terms, terms, no_nodes, statistic, facet, Request}
use Rattle.fc_spec.specs.requests.Buckets.{missing, whole}
use Rattle.fc_spec.specs.requests.Statistics.{number}
use Rattle.fc_spec.specs.messages.Message.{Partials, no_partials, partial, Rows, no_rows, row, first}
use Rattle.fc_spec.specs.messages.MessageShape.{buckets_fit, is_shaped_within, is_shaped}
use Rattle.fc_rows.proofs.Words.{unlimited_on, stat, named, asking}
use Rattle.fc_rows.proofs.messages.MessageWords.{key_of, counted, leaf, around}
use Rattle.fc_rows.proofs.messages.ShapedStatistics.{summed, no_values}
use Rattle.fc_rows.proofs.replies.ShortCount as short_count

-- the buckets of a terms facet of one value, with a sum in each: as many as there are, whatever is nested in them
abbrev pub one_value : Terms
one_value = short_count.first_alone

abbrev pub listed : Terms → Partials → Bool
listed t ps = buckets_fit (terms t) (statistic (codes "s") (stat sum 2) no_nodes) ps None

pub two_of_one : listed one_value (summed (key_of "a") no_rows (summed (key_of "b") no_rows no_partials)) ≡ true
two_of_one = refl

pub inside_aside : listed one_value (summed (key_of "a") no_values (summed (key_of "b") no_rows no_partials)) ≡ true
inside_aside = refl

pub nothing_listed : listed one_value no_partials ≡ true
nothing_listed = refl

pub listed_backwards : listed one_value (summed (key_of "b") no_rows (summed (key_of "a") no_rows no_partials)) ≡ false
listed_backwards = refl

pub second_without_statistic : listed one_value (summed (key_of "a") no_rows (leaf (key_of "b") 1 no_partials)) ≡ false
second_without_statistic = refl

pub second_not_asked : listed one_value (summed (key_of "a") no_rows (summed missing no_rows no_partials)) ≡ false
second_not_asked = refl

pub second_asked : listed (record one_value { missing = true }) (summed (key_of "a") no_rows (summed missing no_rows no_partials)) ≡ true
second_asked = refl

pub second_without_prefix : listed (record one_value { prefix = Some (codes "a") }) (summed (key_of "a") no_rows (summed (key_of "b") no_rows no_partials)) ≡ false
second_without_prefix = refl

pub second_empty : listed one_value (summed (key_of "a") no_rows (partial (key_of "b") (record { count = 0; values = number (pos 0) ∷ [] }) no_rows no_partials)) ≡ false
second_empty = refl

-- what is nested in the second bucket counts as in the first: there one value of two
abbrev pub nested : Request
nested = asking (facet (named "c" (terms (unlimited_on 1))) (facet (named "d" (terms one_value)) no_nodes no_nodes) no_nodes)

abbrev pub nested_shaped : (second : Rows) → Bool
nested_shaped second =
    is_shaped nested first (around whole 5 (partial (key_of "a") (counted 1) (row (leaf (key_of "x") 1 no_partials) no_rows) (partial (key_of "b") (counted 1) second no_partials)))

pub second_inside : nested_shaped (row (leaf (key_of "x") 1 no_partials) no_rows) ≡ true
second_inside = refl

pub second_without_list : nested_shaped no_rows ≡ false
second_without_list = refl

pub too_many_inside_second : nested_shaped (row (leaf (key_of "x") 1 (leaf (key_of "y") 1 no_partials)) no_rows) ≡ false
too_many_inside_second = refl

pub backwards_inside_second : nested_shaped (row (leaf (key_of "y") 1 (leaf (key_of "x") 1 no_partials)) no_rows) ≡ false
backwards_inside_second = refl

-- the shape with another bound on the number of values: none, and none at all listed
abbrev pub shaped_within : Option ℕ → Partials → Bool
shaped_within bound ps = is_shaped_within (λ t. bound) (short_count.asking_one one_value) first (around whole 5 ps)

pub without_bound : shaped_within None (leaf (key_of "a") 3 (leaf (key_of "b") 2 no_partials)) ≡ true
without_bound = refl

pub without_bound_backwards : shaped_within None (leaf (key_of "b") 3 (leaf (key_of "a") 2 no_partials)) ≡ false
without_bound_backwards = refl

pub no_value_allowed : shaped_within (Some 0) (leaf (key_of "a") 3 no_partials) ≡ false
no_value_allowed = refl

pub no_value_listed : shaped_within (Some 0) no_partials ≡ true
no_value_listed = refl
