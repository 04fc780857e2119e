-- What a node says before the nodes nested in it are read, and what is read behind them: the walk of requests, cut at its recursion.
use Rattle.std.specs.Prelude.{ℕ, zero, suc, List, [], ◌∷◌, codes, Bool, true, false, not, ◌&&◌, nat_lt, Option, None, Some, ok_or, Result, Ok, Err}
use Rattle.serde_json.specs.Data.{Data, string, Members}
use Rattle.serde_json.specs.Find.{as_object, get_member}
use Rattle.fc_spec.specs.documents.Val.{Text}
use Rattle.fc_spec.specs.documents.Schema.{Schema, field_named}
use Rattle.fc_spec.specs.queries.Query.{Query, all}
use Rattle.fc_spec.specs.requests.Request.{Filter, Stat, DomainChange, Terms, Kind, terms, Nodes, no_nodes, Request}
use Rattle.fc_spec.specs.requests.RequestFault.{QFault, unknown_field, not_an_object, bad_command, bad_parameter, reserved_name, too_large, RequestFault}
use Rattle.fc_spec.specs.requests.RequestWalk.{truth_in, check_names, required, optional, said_or, text_in}
use Rattle.fc_spec.specs.requests.Spread.{unchanged, number_terms}
use Rattle.fc_spec.specs.requests.StatisticReading.{unique_called, statistic_of}
use Rattle.fc_spec.specs.requests.DomainReading.{change_in, text_query}
use Rattle.fc_spec.specs.requests.SortReading.{sort_of, default_sort, allows_exact}
use Rattle.fc_spec.specs.requests.FacetReading.{terms_parts, query_part}
use Rattle.fc_spec.specs.requests.DateRangeReading.{range_part}
use Rattle.fc_spec.specs.requests.RequestReading.{Node, of_statistic, of_facet, Walked, Reader, is_reserved, own, facet_read, FacetType, terms_type, range_type, query_type, func_type, parameters, type_of, node_read, nodes_within, inner_read, filters_in, zero_in}
use Rattle.fc_spec.specs.requests.Shape.{stays}
use Rattle.fc_spec.specs.words.Walks.{◌>>=◌, unless}

-- a kind that is whole, or a terms facet whose sort, as it is written, is read last
pub data KindHead : Type 0 where
  whole : Kind → KindHead
  unsorted : Terms → Option Data → KindHead

-- a statistic; or a facet's change, its kind, and the members of its `facet`
pub data Head : Type 0 where
  statistic_head : Stat → Head
  facet_head : DomainChange → KindHead → Option Members → Head

-- ---- before the nested nodes

abbrev pub some_object : Data → Result (Option Members) QFault
some_object d = do
  ms ← ok_or (as_object d) not_an_object
  Ok (Some ms)

-- the members of `facet`
abbrev pub inner_members : Members → Result (Option Members) QFault
inner_members ms = optional (codes "facet") some_object None ms

abbrev pub facet_of : Schema → (unmoved : Bool) → KindHead → Members → Result Head QFault
facet_of s unmoved kind ms = do
  change ← change_in s unmoved ms
  inner ← inner_members ms
  Ok (facet_head change kind inner)

-- a `unique` of the field of this name
abbrev pub number_head : Schema → Text → Result Head QFault
number_head s name = do
  field ← ok_or (field_named s name) unknown_field
  Ok (facet_head unchanged (whole (terms (number_terms field))) None)

abbrev pub statistic_before : Schema → Text → Result Head QFault
statistic_before s t = do
  st ← statistic_of s t
  Ok (statistic_head st)

-- a `unique`, or else a statistic
abbrev pub measure_before : Schema → Text → (unique : Option Text) → Result Head QFault
measure_before s t (Some name) = number_head s name
measure_before s t None = statistic_before s t

abbrev pub measure_head : Schema → Text → Result Head QFault
measure_head s t = measure_before s t (unique_called t)

abbrev pub func_head : Schema → Members → Result Head QFault
func_head s ms = do
  t ← required (codes "func") text_in ms
  measure_head s t

abbrev pub typed_head : FacetType → Schema → (unmoved : Bool) → Members → Result Head QFault
typed_head terms_type s unmoved ms = do
  t ← terms_parts s ms
  _ ← optional (codes "numBuckets") truth_in false ms
  facet_of s unmoved (unsorted t (get_member (codes "sort") ms)) ms
typed_head range_type s unmoved ms = do
  k ← range_part s ms
  facet_of s unmoved (whole k) ms
typed_head query_type s unmoved ms = do
  q ← query_part s ms
  facet_of s unmoved (whole q) ms
typed_head func_type s unmoved ms = func_head s ms

abbrev pub object_head : Schema → (unmoved : Bool) → Members → Result Head QFault
object_head s unmoved ms = do
  kind ← type_of ms
  _ ← check_names (parameters kind) ms
  typed_head kind s unmoved ms

abbrev pub command_head : Schema → (unmoved : Bool) → Data → Result Head QFault
command_head s unmoved (string t) = measure_head s t
command_head s unmoved d = do
  ms ← ok_or (as_object d) bad_command
  object_head s unmoved ms

-- with so many depths left, behind n nodes of the walk
abbrev pub node_head : (left n : ℕ) → Schema → (unmoved : Bool) → Text → Data → Result Head QFault
node_head left n s unmoved name d = do
  _ ← unless (nat_lt 0 left && nat_lt n 64) too_large
  _ ← unless (not (is_reserved name)) reserved_name
  command_head s unmoved d

-- ---- behind them

abbrev pub kind_behind : (outermost : Bool) → KindHead → Nodes → Result Kind QFault
kind_behind outermost (whole k) inner = Ok k
kind_behind outermost (unsorted t d) inner = do
  sort ← said_or (sort_of inner) default_sort d
  _ ← unless (allows_exact outermost t.exact sort) bad_parameter
  Ok (terms (record t { sort = sort }))

-- the facet of this name over its nested nodes
abbrev pub facet_behind : (outermost : Bool) → Text → DomainChange → KindHead → Nodes → Result (Text × Node) QFault
facet_behind outermost name change kind inner = do
  k ← kind_behind outermost kind inner
  Ok (name, of_facet change k inner)

abbrev pub walked : {A : Type 0} → A → ℕ → Walked A
walked a n = record { read = a; nodes = n }

abbrev pub inner_nodes : Reader → ℕ → Option Members → Result (Walked Nodes) RequestFault
inner_nodes deeper n None = Ok (walked no_nodes n)
inner_nodes deeper n (Some ms) = deeper n ms

-- what reads the nodes nested in a facet with this change, where it reads those under a block step, or under none
abbrev pub under : (Bool → Reader) → (unmoved : Bool) → DomainChange → Reader
under deeper unmoved change = deeper (unmoved && stays change)

abbrev pub resumed : (outermost : Bool) → (DomainChange → Reader) → ℕ → Head → Result (Walked Node) RequestFault
resumed outermost deeper n (statistic_head st) = Ok (walked (of_statistic st) n)
resumed outermost deeper n (facet_head change kind inner) = do
  w ← inner_nodes (deeper change) n inner
  k ← own (kind_behind outermost kind w.read)
  Ok (facet_read change k w)

-- a node with so many depths left
abbrev pub node_within : ℕ → Schema → (outermost unmoved : Bool) → ℕ → Text → Data → Result (Walked Node) RequestFault
node_within zero s outermost unmoved n name d = own (Err too_large)
node_within (suc left) s outermost unmoved n name d = node_read s outermost unmoved (nodes_within left s false) n name d

-- ---- the request

-- its query and its filters, where its members are known and it asks for no documents
abbrev pub request_head : Schema → Members → Result (Query × List Filter) QFault
request_head s ms = do
  _ ← check_names (codes "query" ∷ codes "filter" ∷ codes "limit" ∷ codes "facet" ∷ []) ms
  q ← optional (codes "query") (text_query s) all ms
  fs ← optional (codes "filter") (filters_in s) [] ms
  _ ← optional (codes "limit") zero_in tt ms
  Ok (q, fs)

-- its outermost nodes
abbrev pub outermost_nodes : Schema → Members → Result Nodes RequestFault
outermost_nodes s ms = do
  w ← inner_read (nodes_within 8 s true true) 0 (get_member (codes "facet") ms)
  Ok w.read

abbrev pub request_parts : Schema → Members → Result Request RequestFault
request_parts s ms = do
  head ← own (request_head s ms)
  nodes ← outermost_nodes s ms
  Ok (record { query = head.0; filters = head.1; nodes = nodes })
