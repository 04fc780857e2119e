-- Which statistics have the shape of their kind, and that a top bucket has those of its node.
use Rattle.std.specs.Prelude.{◌≡◌, pos, [], ◌∷◌, true, false, None, Some, refl, codes}
use Rattle.fc_spec.specs.requests.Request as request
use Rattle.fc_spec.specs.requests.Request.{sum, max, countvals, terms, no_nodes, statistic, facet, Request}
use Rattle.fc_spec.specs.requests.Buckets.{whole, Key}
use Rattle.fc_spec.specs.requests.Statistics.{number, extreme}
use Rattle.fc_spec.specs.messages.Message.{Partials, no_partials, partial, Rows, no_rows, row, first, more}
use Rattle.fc_spec.specs.messages.MessageShape.{value_fits, is_shaped}
use Rattle.fc_rows.proofs.Words.{unlimited_on, stat, named, asking}
use Rattle.fc_rows.proofs.messages.MessageWords.{key_of, leaf, want}

-- least and greatest values are extremes, also where absent; sums and the two counts are numbers
pub greatest : value_fits (stat max 2) (extreme (Some (pos 4))) ≡ true
greatest = refl

pub absent_greatest : value_fits (stat max 2) (extreme None) ≡ true
absent_greatest = refl

pub number_for_greatest : value_fits (stat max 2) (number (pos 4)) ≡ false
number_for_greatest = refl

pub number_of_values : value_fits (stat countvals 2) (number (pos 4)) ≡ true
number_of_values = refl

pub extreme_for_values : value_fits (stat countvals 2) (extreme (Some (pos 4))) ≡ false
extreme_for_values = refl

pub number_of_places : value_fits (stat request.missing 2) (number (pos 4)) ≡ true
number_of_places = refl

pub extreme_for_places : value_fits (stat request.missing 2) (extreme None) ≡ false
extreme_for_places = refl

-- a bucket with a sum, before others
abbrev pub summed : Key → Rows → Partials → Partials
summed key inside rest = partial key (record { count = 1; values = number (pos 9) ∷ [] }) inside rest

-- the root and its facet have a sum each
abbrev pub priced : Request
priced = asking (statistic (codes "a") (stat sum 2) (facet (named "c" (terms (unlimited_on 1))) (statistic (codes "a") (stat sum 2) no_nodes) no_nodes))

-- no value of its facet
abbrev pub no_values : Rows
no_values = row no_partials no_rows

-- a top bucket has the statistics of its node: the root, and a wanted bucket
pub root_statistic : is_shaped priced first (summed whole no_values no_partials) ≡ true
root_statistic = refl

pub root_without_statistic : is_shaped priced first (partial whole (record { count = 1; values = [] }) no_values no_partials) ≡ false
root_without_statistic = refl

pub root_with_least : is_shaped priced first (partial whole (record { count = 1; values = extreme None ∷ [] }) no_values no_partials) ≡ false
root_with_least = refl

pub want_statistic : is_shaped priced (more (want [] 1 (key_of "a") ∷ [])) (summed (key_of "a") no_rows no_partials) ≡ true
want_statistic = refl

pub want_without_statistic : is_shaped priced (more (want [] 1 (key_of "a") ∷ [])) (leaf (key_of "a") 1 no_partials) ≡ false
want_without_statistic = refl
