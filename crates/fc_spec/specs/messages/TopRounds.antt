-- The rounds that find the values of exact facets: what shards are asked, what they answer, and what is told. They speak of a request of exact facets alone, in which nothing is nested. Guide: JSON Facet API, "Terms Facet" (`refine`).
use Rattle.std.specs.Prelude.{ℕ, suc, List, [], ◌∷◌, ◌++◌, map, length, sum, not, ◌&&◌, ◌==◌, Option, None, Some, is_none, unwrap_or, if◌then◌else◌}
use Rattle.std.specs.List.{filter, flat_map}
use Rattle.fc_spec.specs.documents.Val.{Val, same_val, distinct}
use Rattle.fc_spec.specs.words.Lists.{is_empty, numbers_below}
use Rattle.fc_spec.specs.documents.World.{World, Place, on_shards}
use Rattle.fc_spec.specs.requests.Request.{Kind, terms, Nodes, no_nodes, statistic, facet, Request, stats_of}
use Rattle.fc_spec.specs.requests.Base.{root_domain}
use Rattle.fc_spec.specs.requests.Paths.{at_root, into}
use Rattle.fc_spec.specs.requests.Buckets.{Key, value, missing, whole, bucket_places}
use Rattle.fc_spec.specs.requests.Statistics.{Stats, stats_over}
use Rattle.fc_spec.specs.requests.Ranks.{Entry}
use Rattle.fc_spec.specs.requests.Least.{least_count}
use Rattle.fc_spec.specs.replies.Printed.{asked}
use Rattle.fc_spec.specs.replies.Tops.{printed_values, top_bound, values_from}
use Rattle.fc_spec.specs.messages.Message.{Partials, no_partials, partial, Rows, no_rows, row, Want, first, more}
use Rattle.fc_spec.specs.messages.Answer.{listed_keys, partials_of, answer_domain, answer_keys, answer_rows, answer}

-- what a shard is asked: what it offers; the values from a count on, one count for each facet; or some buckets
pub data ExactAsk : Type 0 where
  exact_first : ExactAsk
  exact_least : List ℕ → ExactAsk
  exact_more : List Want → ExactAsk

-- ---- what a shard answers

-- the first number, and those after it
abbrev pub first_number : List ℕ → ℕ
first_number [] = 0
first_number (n ∷ ns) = n

abbrev pub later_numbers : List ℕ → List ℕ
later_numbers [] = []
later_numbers (n ∷ ns) = ns

-- the keys that shard i lists of a facet over its part Y of the domain: the values from the count on, and missing where asked
abbrev pub least_keys : Kind → Nodes → ℕ → List Place → ℕ → List Key
least_keys (terms t) inner least Y i = map value (values_from t least Y i) ++ listed_keys (terms t) inner Y (asked t.missing missing)
least_keys kind inner least Y i = answer_keys kind inner Y i

-- the lists of the facets of the root, from its part X there
abbrev pub least_rows : Request → World → ℕ → Nodes → List ℕ → List Place → Rows
least_rows r W i no_nodes ns X = no_rows
least_rows r W i (statistic name s rest) ns X = least_rows r W i rest ns X
least_rows r W i (facet f inner rest) ns X =
    row
    (partials_of (λ k. stats_over (stats_of inner) (bucket_places f.kind k (answer_domain r W i at_root f X)))
    (λ k. answer_rows r W i (into at_root f k) inner (bucket_places f.kind k (answer_domain r W i at_root f X)))
    (least_keys f.kind inner (first_number ns) (answer_domain r W i at_root f X) i))
    (least_rows r W i rest (later_numbers ns) X)

abbrev pub exact_answer : Request → World → ℕ → ExactAsk → Partials
exact_answer r W i exact_first = answer r W i first
exact_answer r W i (exact_least ns) = let X = on_shards (i ∷ []) (root_domain r W) in partial whole (stats_over (stats_of r.nodes) X) (least_rows r W i r.nodes ns X) no_partials
exact_answer r W i (exact_more wants) = answer r W i (more wants)

-- ---- what is told

-- the count of a value of a facet on a shard
pub record ToldCount : Type 0 where
  pub node : ℕ
  pub shard : ℕ
  pub val : Val
  pub count : ℕ

-- the entries of the values among partial buckets
abbrev pub entry_at : Key → Stats → List Entry → List Entry
entry_at (value v) stats later = record { val = v; stats = stats } ∷ later
entry_at _ stats later = later

abbrev pub listed_entries : Partials → List Entry
listed_entries no_partials = []
listed_entries (partial key stats rows rest) = entry_at key stats (listed_entries rest)

-- as told by shard i of the n-th facet
abbrev pub tell : ℕ → ℕ → Entry → ToldCount
tell n i e = record { node = n; shard = i; val = e.val; count = e.stats.count }

-- of the facets of the root, from the n-th on
abbrev pub told_rows : ℕ → ℕ → Rows → List ToldCount
told_rows n i no_rows = []
told_rows n i (row ps rest) = map (tell n i) (listed_entries ps) ++ told_rows (suc n) i rest

abbrev pub told_top : ℕ → Partials → List ToldCount
told_top i no_partials = []
told_top i (partial key stats rows rest) = told_rows 0 i rows

-- of wants, one bucket for each
abbrev pub told_wanted : ℕ → List Want → Partials → List ToldCount
told_wanted i [] m = []
told_wanted i (w ∷ ws) no_partials = []
told_wanted i (w ∷ ws) (partial key stats rows rest) = map (tell w.node i) (entry_at w.key stats []) ++ told_wanted i ws rest

abbrev pub exact_told : ℕ → ExactAsk → Partials → List ToldCount
exact_told i exact_first m = told_top i m
exact_told i (exact_least ns) m = told_top i m
exact_told i (exact_more wants) m = told_wanted i wants m

-- ---- what is made of it

-- the values that are told of the n-th facet, in index order
abbrev pub values_told : List ToldCount → ℕ → List Val
values_told A n = distinct (map (λ a. a.val) (filter (λ a. a.node == n) A))

-- the count of a value on a shard, where it is told
abbrev pub count_told : List ToldCount → ℕ → Val → ℕ → Option ℕ
count_told [] n v i = None
count_told (a ∷ rest) n v i = if (a.node == n) && (a.shard == i) && same_val v a.val then Some a.count else count_told rest n v i

-- what is told of a value by the shards H, together
abbrev pub entry_told : List ToldCount → List ℕ → ℕ → Val → Entry
entry_told A H n v = record { val = v; stats = record { count = sum (map (λ i. unwrap_or (count_told A n v i) 0) H); values = [] } }

abbrev pub entries_told : List ToldCount → List ℕ → ℕ → List Entry
entries_told A H n = map (entry_told A H n) (values_told A n)

-- for each facet from the n-th on the least count that the shards H are asked for next
abbrev pub least_asked : List ToldCount → List ℕ → ℕ → Kind → ℕ
least_asked A H n (terms t) = least_count (length H) (top_bound t) (entries_told A H n)
least_asked A H n _ = 0

abbrev pub leasts_from : List ToldCount → List ℕ → Nodes → ℕ → List ℕ
leasts_from A H no_nodes n = []
leasts_from A H (statistic name s rest) n = leasts_from A H rest n
leasts_from A H (facet f inner rest) n = least_asked A H n f.kind ∷ leasts_from A H rest (suc n)

-- the values that are told and that a shard has not told of, as wants of that shard; n counts facets, which is a want's number where no statistic stands among them
abbrev pub wants_at : List ToldCount → ℕ → ℕ → List Want
wants_at A i n = map (λ v. record { path = []; node = n; key = value v }) (filter (λ v. is_none (count_told A n v i)) (values_told A n))

abbrev pub wants_from : List ToldCount → ℕ → Nodes → ℕ → List Want
wants_from A i no_nodes n = []
wants_from A i (statistic name s rest) n = wants_from A i rest n
wants_from A i (facet f inner rest) n = wants_at A i n ++ wants_from A i rest (suc n)

-- the values that each facet prints by what is told
abbrev pub tops_told_of : List ToldCount → List ℕ → ℕ → Kind → List Val
tops_told_of A H n (terms t) = printed_values t (entries_told A H n)
tops_told_of A H n _ = []

abbrev pub tops_told_from : List ToldCount → List ℕ → Nodes → ℕ → List (List Val)
tops_told_from A H no_nodes n = []
tops_told_from A H (statistic name s rest) n = tops_told_from A H rest n
tops_told_from A H (facet f inner rest) n = tops_told_of A H n f.kind ∷ tops_told_from A H rest (suc n)

-- of n shards
abbrev pub leasts : Request → ℕ → List ToldCount → List ℕ
leasts r n A = leasts_from A (numbers_below n) r.nodes 0

abbrev pub tops_told : Request → ℕ → List ToldCount → List (List Val)
tops_told r n A = tops_told_from A (numbers_below n) r.nodes 0

-- ---- the rounds

pub record ExactSent : Type 0 where
  pub round : ℕ
  pub shard : ℕ
  pub ask : ExactAsk
  pub message : Partials

abbrev pub exact_sent : Request → World → ℕ → ℕ → ExactAsk → ExactSent
exact_sent r W round i ask = record { round = round; shard = i; ask = ask; message = exact_answer r W i ask }

abbrev pub exact_told_in : List ExactSent → List ToldCount
exact_told_in sent = flat_map (λ s. exact_told s.shard s.ask s.message) sent

-- every shard is asked what it offers
abbrev pub offering_round : Request → World → List ExactSent
offering_round r W = map (λ i. exact_sent r W 1 i exact_first) (numbers_below (length W))

-- every shard is asked for the values from the counts on
abbrev pub least_round : Request → World → List ToldCount → List ExactSent
least_round r W A = map (λ i. exact_sent r W 2 i (exact_least (leasts r (length W) A))) (numbers_below (length W))

-- each shard that has not told of some value is asked for all such values
abbrev pub lacking_round : Request → World → List ToldCount → List ExactSent
lacking_round r W A = map (λ i. exact_sent r W 3 i (exact_more (wants_from A i r.nodes 0))) (filter (λ i. not (is_empty (wants_from A i r.nodes 0))) (numbers_below (length W)))

-- the messages of these rounds
abbrev pub exact_rounds : Request → World → List ExactSent
exact_rounds r W =
    let one = offering_round r W in
    let two = one ++ least_round r W (exact_told_in one) in
    two ++ lacking_round r W (exact_told_in two)
