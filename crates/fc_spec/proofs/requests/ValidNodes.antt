-- The terms facets, answers and rounds of valid nodes are no deeper than they are; their exact facets are sorted by count, and their names differ.
use Rattle.std.proofs.Common.{◌≡◌, refl, ap, ℕ, zero, suc, ◌+◌, ◌≤◌, max, List, [], ◌∷◌, Bool, true, false, ◌||◌, Option, None, Some, IsTrue, ◌∙◌, arith}
use Rattle.std.specs.List.{AllByRecursion}
use Rattle.std.specs.List.Sorted.{IsStrictlySortedBy}
use Rattle.std.specs.Ordering.{is_eq}
use Rattle.std.specs.declared.cmp.Ordering.TheVariants.{Less}
use Rattle.std.proofs.lemmas.Bool.{and_parts}
use Rattle.fc_spec.specs.documents.Schema.{Schema}
use Rattle.fc_spec.specs.documents.Val.{Text, text_cmp}
use Rattle.fc_spec.specs.documents.World.{World, Place, on_shards}
use Rattle.fc_spec.specs.requests.Request.{Show, its_buckets, its_number, number_beside, Kind, terms, range, date_range, query, Facet, Nodes, no_nodes, statistic, facet, Request, stats_of}
use Rattle.fc_spec.specs.requests.Buckets.{Key, whole, bucket_places}
use Rattle.fc_spec.specs.requests.Paths.{Path, at_root, into}
use Rattle.fc_spec.specs.requests.Statistics.{Stats, stats_over}
use Rattle.fc_spec.specs.requests.ValidRequests.{IsValidKind, AreValidNodes, node_depth, with_name, node_names}
use Rattle.fc_spec.specs.requests.Spread.{show_of}
use Rattle.fc_spec.specs.requests.Shape.{has_limit, is_exact}
use Rattle.fc_spec.specs.messages.Lacks.{own_depth, terms_depth}
use Rattle.fc_spec.specs.messages.Message.{Partials, no_partials, Rows, Way, Want, way_of, Ask, first, more}
use Rattle.fc_spec.specs.messages.Target.{Target, leads_nowhere, leads_to, target_nodes, target_path, target_places, target_in, target_from, target_of, facet_at, nodes_in}
use Rattle.fc_spec.specs.messages.Answer.{answer_rows, answer, partials_of, answer_keys, answer_domain, answer_bucket, answer_wants}
use Rattle.fc_spec.specs.messages.Nesting.{nesting, rows_nesting}
use Rattle.fc_spec.specs.messages.TopRounds.{exact_first, exact_least, exact_more, least_rows, least_keys, first_number, later_numbers}
use Rattle.fc_spec.specs.requests.Base.{root_domain}
use Rattle.fc_spec.specs.messages.Rounds.{SentMessage, search_rounds}
use Rattle.fc_spec.specs.laws.ReplacedLaw.{has_statistic, AreNamedApart}
use Rattle.fc_spec.specs.laws.TopRoundsLaw.{IsTopKind, SortExactByCount}
use Rattle.fc_spec.specs.laws.RequestLaws.{ValidSortExactByCount, ValidAreNamedApart, ValidHaveFewDepths, ValidHaveFewRounds, ValidAnswersNestLittle, ExactAnswersNestLittle}
use Rattle.fc_spec.proofs.messages.SearchEnds.{rounds_are_few}

-- ---- rounds

own_is_one : (kind : Kind) → own_depth kind ≤ 1
own_is_one (terms t) = omega arith
own_is_one (range g) = omega arith
own_is_one (date_range g) = omega arith
own_is_one (query q) = omega arith

-- terms facets are among the nodes
terms_within : (nodes : Nodes) → terms_depth nodes ≤ node_depth nodes
terms_within no_nodes = omega arith
terms_within (statistic name st rest) = let h = terms_within rest in omega arith
terms_within (facet f inner rest) = let h = terms_within inner in let k = terms_within rest in let o = own_is_one f.kind in omega arith

pub valid_have_few_depths : ValidHaveFewDepths
valid_have_few_depths s r h = let k = terms_within r.nodes in let d = h.depth in omega arith

few : (n : ℕ) (sent : List SentMessage) → n ≤ 8 → AllByRecursion (λ m. (1 ≤ m.round) × (m.round ≤ n + 1)) sent → AllByRecursion (λ m. (1 ≤ m.round) × (m.round ≤ 9)) sent
few n [] h all = tt
few n (m ∷ ms) h all = ((all.0.0, (let k : m.round ≤ n + 1 = all.0.1 in omega arith)), few n ms h all.1)

pub valid_have_few_rounds : ValidHaveFewRounds
valid_have_few_rounds s r W h = few (terms_depth r.nodes) (search_rounds r W) (valid_have_few_depths s r h) (rounds_are_few r W)

-- ---- answers

-- one bucket for each key, each with rows that nest so deep at most
partials_nest : (stats : Key → Stats) (rows : Key → Rows) (n : ℕ) → ((k : Key) → rows_nesting (rows k) ≤ n) → (keys : List Key) → nesting (partials_of stats rows keys) ≤ suc n
partials_nest stats rows n h [] = omega arith
partials_nest stats rows n h (k ∷ ks) = let here = h k in let more = partials_nest stats rows n h ks in omega arith

both_within : (a b m n : ℕ) → a ≤ m → b ≤ n → max a b ≤ max m n
both_within a b m n h k = omega arith

rows_nest : (r : Request) (W : World) (i : ℕ) (path : Path) (nodes : Nodes) (X : List Place) → rows_nesting (answer_rows r W i path nodes X) ≤ node_depth nodes
rows_nest r W i path no_nodes X = omega arith
rows_nest r W i path (statistic name st rest) X = let h = rows_nest r W i path rest X in omega arith
rows_nest r W i path (facet f inner rest) X =
    let Y = answer_domain r W i path f X in
    both_within _ _ _ _
    (partials_nest (λ k. stats_over (stats_of inner) (bucket_places f.kind k Y)) (λ k. answer_rows r W i (into path f k) inner (bucket_places f.kind k Y)) (node_depth inner) (λ k. rows_nest r W i (into path f k) inner (bucket_places f.kind k Y)) (answer_keys f.kind inner Y i))
    (rows_nest r W i path rest X)

-- the nodes nested in one of them are no deeper
deeper : (n : ℕ) (nodes : Nodes) → node_depth (nodes_in (facet_at n nodes)) ≤ node_depth nodes
deeper n no_nodes = omega arith
deeper zero (statistic name st rest) = omega arith
deeper zero (facet f inner rest) = omega arith
deeper (suc n) (statistic name st rest) = let h = deeper n rest in omega arith
deeper (suc n) (facet f inner rest) = let h = deeper n rest in omega arith

step_in : (key : Key) (t : Target) (o : Option (Facet × Nodes)) → node_depth (target_nodes (target_in key t o)) ≤ node_depth (nodes_in o)
step_in key leads_nowhere o = omega arith
step_in key (leads_to path nodes) None = omega arith
step_in key (leads_to path nodes) (Some f) = omega arith

ways_lead_in : (way : Way) (t : Target) → node_depth (target_nodes (target_from t way)) ≤ node_depth (target_nodes t)
ways_lead_in [] t = omega arith
ways_lead_in (step ∷ way) t =
    let o = facet_at step.node (target_nodes t) in
    let further : node_depth (target_nodes (target_from (target_in step.key t o) way)) ≤ node_depth (target_nodes (target_in step.key t o)) = ways_lead_in way (target_in step.key t o) in
    let in_it : node_depth (target_nodes (target_in step.key t o)) ≤ node_depth (nodes_in o) = step_in step.key t o in
    let here : node_depth (nodes_in o) ≤ node_depth (target_nodes t) = deeper step.node (target_nodes t) in
    omega arith

bucket_nests : (r : Request) (W : World) (i : ℕ) (way : Way) (key : Key) (rest : Partials) → node_depth r.nodes ≤ 8 → nesting rest ≤ 9 → nesting (answer_bucket r W i way key rest) ≤ 9
bucket_nests r W i way key rest shallow h =
    let nodes = target_nodes (target_of r.nodes way) in
    let X = on_shards (i ∷ []) (target_places r W (target_of r.nodes way)) in
    let here : rows_nesting (answer_rows r W i (target_path (target_of r.nodes way)) nodes X) ≤ node_depth nodes = rows_nest r W i (target_path (target_of r.nodes way)) nodes X in
    let inside : node_depth nodes ≤ node_depth r.nodes = ways_lead_in way (leads_to at_root r.nodes) in
    omega arith

wants_nest : (r : Request) (W : World) (i : ℕ) (wants : List Want) → node_depth r.nodes ≤ 8 → nesting (answer_wants r W i wants) ≤ 9
wants_nest r W i [] shallow = omega arith
wants_nest r W i (w ∷ ws) shallow = bucket_nests r W i (way_of w) w.key (answer_wants r W i ws) shallow (wants_nest r W i ws shallow)

answers_nest : (r : Request) (W : World) (i : ℕ) (ask : Ask) → node_depth r.nodes ≤ 8 → nesting (answer r W i ask) ≤ 9
answers_nest r W i first shallow = bucket_nests r W i [] whole no_partials shallow (omega arith)
answers_nest r W i (more wants) shallow = wants_nest r W i wants shallow

pub valid_answers_nest_little : ValidAnswersNestLittle
valid_answers_nest_little s r W i ask h = answers_nest r W i ask h.depth

-- the values from a count on are in rows that nest no deeper
leasts_nest : (r : Request) (W : World) (i : ℕ) (nodes : Nodes) (ns : List ℕ) (X : List Place) → rows_nesting (least_rows r W i nodes ns X) ≤ node_depth nodes
leasts_nest r W i no_nodes ns X = omega arith
leasts_nest r W i (statistic name st rest) ns X = let h = leasts_nest r W i rest ns X in omega arith
leasts_nest r W i (facet f inner rest) ns X =
    let Y = answer_domain r W i at_root f X in
    both_within _ _ _ _
    (partials_nest (λ k. stats_over (stats_of inner) (bucket_places f.kind k Y)) (λ k. answer_rows r W i (into at_root f k) inner (bucket_places f.kind k Y)) (node_depth inner) (λ k. rows_nest r W i (into at_root f k) inner (bucket_places f.kind k Y))
    (least_keys f.kind inner (first_number ns) Y i))
    (leasts_nest r W i rest (later_numbers ns) X)

pub exact_answers_nest_little : ExactAnswersNestLittle
exact_answers_nest_little s x W i exact_first h = answers_nest x W i first h.depth
exact_answers_nest_little s x W i (exact_more wants) h = answers_nest x W i (more wants) h.depth
exact_answers_nest_little s x W i (exact_least ns) h =
    let X = on_shards (i ∷ []) (root_domain x W) in
    let inside : rows_nesting (least_rows x W i x.nodes ns X) ≤ node_depth x.nodes = leasts_nest x W i x.nodes ns X in
    let d = h.depth in omega arith

-- ---- exact facets

top_kind : (s : Schema) (inner : Nodes) (kind : Kind) → IsValidKind s inner kind → IsTrue (is_exact kind) → IsTopKind kind
top_kind s inner (terms t) valid h = (h, (valid.exact (and_parts t.exact (has_limit t) h).0).1)
top_kind s inner (range g) valid h = absurd cc
top_kind s inner (date_range g) valid h = absurd cc
top_kind s inner (query q) valid h = absurd cc

sorted_by_count : (s : Schema) (unmoved : Bool) (nodes : Nodes) → AreValidNodes s unmoved nodes → SortExactByCount nodes
sorted_by_count s unmoved no_nodes h = tt
sorted_by_count s unmoved (statistic name st rest) h = sorted_by_count s unmoved rest h.1
sorted_by_count s unmoved (facet f inner rest) h = (top_kind s inner f.kind (h.0).kind, sorted_by_count s unmoved rest h.2)

pub valid_sort_exact_by_count : ValidSortExactByCount
valid_sort_exact_by_count s r h = sorted_by_count s true r.nodes h.nodes

-- names that ascend differ
no_statistic : (name : Text) (nodes : Nodes) → AllByRecursion (λ n. text_cmp name n ≡ Less) (node_names nodes) → has_statistic name nodes ≡ false
no_statistic name no_nodes h = refl
no_statistic name (statistic other s rest) h = ap (λ o. is_eq o || has_statistic name rest) h.0 ∙ no_statistic name rest h.1
no_statistic name (facet f inner rest) h = no_statistic name rest (behind (show_of f.kind) h)
  where
    behind : (w : Show) → AllByRecursion (λ n. text_cmp name n ≡ Less) (with_name w f.name (node_names rest)) → AllByRecursion (λ n. text_cmp name n ≡ Less) (node_names rest)
    behind its_buckets h = h.1
    behind its_number h = h.1
    behind number_beside h = h

named_apart : (nodes : Nodes) → IsStrictlySortedBy text_cmp (node_names nodes) → AreNamedApart nodes
unfolding IsStrictlySortedBy
named_apart no_nodes h = tt
named_apart (statistic name s rest) h = (no_statistic name rest h.0, named_apart rest h.1)
named_apart (facet f inner rest) h = named_apart rest (behind (show_of f.kind) h)
  where
    behind : (w : Show) → IsStrictlySortedBy text_cmp (with_name w f.name (node_names rest)) → IsStrictlySortedBy text_cmp (node_names rest)
    behind its_buckets h = h.1
    behind its_number h = h.1
    behind number_beside h = h

pub valid_are_named_apart : ValidAreNamedApart
valid_are_named_apart s r h = named_apart r.nodes (h.names).0
