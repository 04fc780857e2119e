-- What is told, facet by facet and value by value.
use Rattle.std.specs.Prelude.{ℕ, zero, suc, List, [], ◌∷◌, ◌++◌, map, length, sum, ◌==◌, Option, None, Some, is_none, unwrap_or, if◌then◌else◌}
use Rattle.std.specs.List.{filter}
use Rattle.fc_spec.specs.documents.Val.{Val, same_val, distinct}
use Rattle.fc_spec.specs.requests.Buckets.{value}
use Rattle.fc_spec.specs.requests.Least.{least_count}
use Rattle.fc_spec.specs.requests.Ranks.{Entry}
use Rattle.fc_spec.specs.requests.Request.{Kind, terms, Nodes, no_nodes, statistic, facet}
use Rattle.fc_spec.specs.requests.RequestReading.{Node, of_statistic, of_facet}
use Rattle.fc_spec.specs.replies.Tops.{printed_values, top_bound}
use Rattle.fc_spec.specs.messages.Message.{Want}
use Rattle.fc_spec.specs.messages.TopRounds.{ToldCount}

-- what is told of the n-th facet
abbrev pub told_of_facet : List ToldCount → ℕ → List ToldCount
told_of_facet A n = filter (λ a. a.node == n) A

-- one more, behind what is told of a facet
abbrev pub with_told : ℕ → ToldCount → List (List ToldCount) → List (List ToldCount)
with_told n a [] = []
with_told zero a (ts ∷ rest) = (ts ++ a ∷ []) ∷ rest
with_told (suc n) a (ts ∷ rest) = ts ∷ with_told n a rest

-- a shard with the count that it told
abbrev pub Count : Type 0
Count = ℕ × ℕ

-- a value with what is told of it
abbrev pub ToldValue : Type 0
ToldValue = Val × List Count

-- a facet with its values
abbrev pub ToldFacet : Type 0
ToldFacet = Kind × List ToldValue

-- what is told of a value, in its order
abbrev pub counts_of : Val → List ToldCount → List Count
counts_of v A = map (λ a. (a.shard, a.count)) (filter (λ a. same_val v a.val) A)

-- each value in index order
abbrev pub values_in : List ToldCount → List ToldValue
values_in A = map (λ v. (v, counts_of v A)) (distinct (map (λ a. a.val) A))

-- the kind of a node that is a facet
abbrev pub kind_of_node : Node → Option Kind
kind_of_node (of_statistic s) = None
kind_of_node (of_facet change kind inner) = Some kind

-- each facet, from the n-th on
abbrev pub facets_in : List ToldCount → Nodes → ℕ → List ToldFacet
facets_in A no_nodes n = []
facets_in A (statistic name s rest) n = facets_in A rest n
facets_in A (facet f inner rest) n = (f.kind, values_in (told_of_facet A n)) ∷ facets_in A rest (suc n)

-- ---- what is made of it

-- what a shard told first
abbrev pub count_on : ℕ → List Count → Option ℕ
count_on i [] = None
count_on i (c ∷ cs) = if c.0 == i then Some c.1 else count_on i cs

-- a value with the counts of the shards H together
abbrev pub total_entry : List ℕ → ToldValue → Entry
total_entry H t = record { val = t.0; stats = record { count = sum (map (λ i. unwrap_or (count_on i t.1) 0) H); values = [] } }

-- the least count that the shards H are asked for
abbrev pub least_in : List ℕ → Kind → List ToldValue → ℕ
least_in H (terms t) vs = least_count (length H) (top_bound t) (map (total_entry H) vs)
least_in H _ vs = 0

abbrev pub least_of : List ℕ → ToldFacet → ℕ
least_of H f = least_in H f.0 f.1

-- the values that are printed
abbrev pub printed_in : List ℕ → Kind → List ToldValue → List Val
printed_in H (terms t) vs = printed_values t (map (total_entry H) vs)
printed_in H _ vs = []

abbrev pub printed_of : List ℕ → ToldFacet → List Val
printed_of H f = printed_in H f.0 f.1

-- what a shard is asked for of the n-th facet: the values of which it has not told
abbrev pub wants_in : ℕ → ℕ → List ToldValue → List Want
wants_in i n vs = map (λ t. record { path = []; node = n; key = value t.0 }) (filter (λ t. is_none (count_on i t.1)) vs)

-- of facets from the n-th on
abbrev pub wants_among : ℕ → ℕ → List ToldFacet → List Want
wants_among i n [] = []
wants_among i n (f ∷ fs) = wants_in i n f.1 ++ wants_among i (suc n) fs
