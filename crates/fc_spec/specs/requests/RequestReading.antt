-- What request a JSON value is, or the first fault of a walk over it, with the names of the facets around it. Guide: JSON Request API; JSON Facet API.
use Rattle.std.specs.Prelude.{ℕ, zero, suc, ◌+◌, List, [], ◌∷◌, codes, Bool, true, false, not, ◌||◌, ◌&&◌, ◌==◌, nat_lt, Option, None, Some, option_map, unwrap_or, ok_or, Result, Ok, Err, if◌then◌else◌}
use Rattle.std.specs.Option.{option_and_then}
use Rattle.serde_json.specs.Data.{Data, boolean, object, string, array, Members, no_members, member}
use Rattle.serde_json.specs.Find.{as_object, as_str, get_member}
use Rattle.fc_spec.specs.documents.Val.{Text, same_text}
use Rattle.fc_spec.specs.documents.Schema.{Schema, field_named}
use Rattle.fc_spec.specs.scripts.JsonObjects.{natural_in}
use Rattle.fc_spec.specs.queries.Query.{all}
use Rattle.fc_spec.specs.queries.QueryFault.{FilterFault, shape, query as of_query}
use Rattle.fc_spec.specs.queries.FilterReading.{filter_of}
use Rattle.fc_spec.specs.requests.Request.{Show, its_buckets, Filter, Stat, DomainChange, Terms, Kind, terms, Facet, Nodes, no_nodes, statistic, facet, Request}
use Rattle.fc_spec.specs.requests.RequestFault.{QFault, unknown_field, not_an_object, bad_command, unknown_type, bad_parameter, reserved_name, too_large, RequestFault}
use Rattle.fc_spec.specs.requests.RequestWalk.{query_fault, truth_in, outside, inside, check_names, required, optional, text_in, each_item}
use Rattle.fc_spec.specs.requests.Spread.{unchanged, number_terms, beside_facet}
use Rattle.fc_spec.specs.requests.StatisticReading.{unique_called, statistic_of}
use Rattle.fc_spec.specs.requests.DomainReading.{change_in, text_query}
use Rattle.fc_spec.specs.requests.Shape.{stays}
use Rattle.fc_spec.specs.requests.SortReading.{sort_in, allows_exact}
use Rattle.fc_spec.specs.requests.FacetReading.{terms_parts, query_part}
use Rattle.fc_spec.specs.requests.DateRangeReading.{range_part}
use Rattle.fc_spec.specs.words.Walks.{◌>>=◌, unless, with_fault}

-- ---- nodes

-- a node that was read: a statistic, or a facet with the nodes nested in it
pub data Node : Type 0 where
  of_statistic : Stat → Node
  of_facet : DomainChange → Kind → Nodes → Node

-- nodes that were read, and how many nodes of the walk there are up to here
pub record Walked (A : Type 0) : Type 0 where
  pub read : A
  pub nodes : ℕ

-- in front of others, under its name
abbrev pub with_node : Text → Node → Nodes → Nodes
with_node name (of_statistic s) rest = statistic name s rest
with_node name (of_facet change kind inner) rest = facet (record { name = name; change = change; kind = kind }) inner rest

-- whether a command asks for the number of its facet's buckets
abbrev pub is_true : Option Data → Bool
is_true (Some (boolean b)) = b
is_true _ = false

abbrev pub asks_number : Data → Bool
asks_number (object ms) = is_true (get_member (codes "numBuckets") ms)
asks_number _ = false

-- the facet that shows the number of a terms facet's buckets beside them, in front of others
abbrev pub number_behind : Show → Facet → Terms → Nodes → Nodes
number_behind its_buckets f t rest = facet (beside_facet f t) no_nodes rest
number_behind _ f t rest = rest

-- what stands behind a node that was read, where its number is asked for too; this is no node of the walk
abbrev pub with_its_number : (asked : Bool) → Text → Node → Nodes → Nodes
with_its_number true name (of_facet change (terms t) inner) rest = number_behind t.show (record { name = name; change = change; kind = terms t }) t rest
with_its_number _ name node rest = rest

-- what reads the members of an object as nodes, behind so many nodes of the walk
abbrev pub Reader : Type 0
Reader = ℕ → Members → Result (Walked Nodes) RequestFault

-- the members of an object, in the byte order of their names, each as a node; a fault has the node's name around it
abbrev pub members_read : (node : ℕ → Text → Data → Result (Walked Node) RequestFault) → Reader
members_read node n no_members = Ok (record { read = no_nodes; nodes = n })
members_read node n (member name d ms) = do
  first ← with_fault (inside name) (node n name d)
  rest ← members_read node first.nodes ms
  Ok (record { read = with_node name first.read (with_its_number (asks_number d) name first.read rest.read); nodes = rest.nodes })

-- the name is taken by what each bucket has
abbrev pub is_reserved : Text → Bool
is_reserved name = same_text name (codes "count") || same_text name (codes "val")

-- the nodes nested in a facet
abbrev pub inner_read : Reader → ℕ → Option Data → Result (Walked Nodes) RequestFault
inner_read deeper n None = Ok (record { read = no_nodes; nodes = n })
inner_read deeper n (Some d) = do
  inner ← ok_or (as_object d) (outside not_an_object)
  deeper n inner

-- a step of the node itself
abbrev pub own : {A : Type 0} → Result A QFault → Result A RequestFault
own r = with_fault outside r

-- a facet, read
abbrev pub facet_read : DomainChange → Kind → Walked Nodes → Walked Node
facet_read change kind inner = record { read = of_facet change kind inner.read; nodes = inner.nodes }

-- the parameters of each type in their order; a terms facet's sort comes last, behind the statistics that it may name
abbrev pub terms_read : Schema → (outermost unmoved : Bool) → (Bool → Reader) → ℕ → Members → Result (Walked Node) RequestFault
terms_read s outermost unmoved deeper n ms = do
  parts ← own (terms_parts s ms)
  _ ← own (optional (codes "numBuckets") truth_in false ms)
  change ← own (change_in s unmoved ms)
  inner ← inner_read (deeper (unmoved && stays change)) n (get_member (codes "facet") ms)
  sort ← own (sort_in inner.read ms)
  _ ← own (unless (allows_exact outermost parts.exact sort) bad_parameter)
  Ok (facet_read change (terms (record parts { sort = sort })) inner)

abbrev pub range_read : Schema → (unmoved : Bool) → (Bool → Reader) → ℕ → Members → Result (Walked Node) RequestFault
range_read s unmoved deeper n ms = do
  kind ← own (range_part s ms)
  change ← own (change_in s unmoved ms)
  inner ← inner_read (deeper (unmoved && stays change)) n (get_member (codes "facet") ms)
  Ok (facet_read change kind inner)

abbrev pub query_read : Schema → (unmoved : Bool) → (Bool → Reader) → ℕ → Members → Result (Walked Node) RequestFault
query_read s unmoved deeper n ms = do
  q ← own (query_part s ms)
  change ← own (change_in s unmoved ms)
  inner ← inner_read (deeper (unmoved && stays change)) n (get_member (codes "facet") ms)
  Ok (facet_read change q inner)

-- a `unique` of a field, or else a statistic
abbrev pub measure_read : Schema → ℕ → Text → (unique : Option Text) → Result (Walked Node) RequestFault
measure_read s n t (Some name) = do
  field ← own (ok_or (field_named s name) unknown_field)
  Ok (record { read = of_facet unchanged (terms (number_terms field)) no_nodes; nodes = n })
measure_read s n t None = do
  st ← own (statistic_of s t)
  Ok (record { read = of_statistic st; nodes = n })

abbrev pub statistic_read : Schema → ℕ → Text → Result (Walked Node) RequestFault
statistic_read s n t = measure_read s n t (unique_called t)

abbrev pub func_read : Schema → ℕ → Members → Result (Walked Node) RequestFault
func_read s n ms = do
  t ← own (required (codes "func") text_in ms)
  statistic_read s n t

-- the types, and the names of their parameters
pub data FacetType : Type 0 where
  terms_type : FacetType
  range_type : FacetType
  query_type : FacetType
  func_type : FacetType

abbrev pub type_named : Text → Option FacetType
type_named t =
    if same_text t (codes "terms") then Some terms_type
    else (if same_text t (codes "range") then Some range_type
    else (if same_text t (codes "query") then Some query_type
    else (if same_text t (codes "func") then Some func_type else None)))

abbrev pub parameters : FacetType → List Text
parameters terms_type =
    codes "type" ∷ codes "field" ∷ codes "offset" ∷ codes "limit" ∷ codes "mincount" ∷ codes "missing" ∷ codes "prefix" ∷ codes "refine" ∷ codes "overrequest" ∷ codes "overrefine" ∷ codes "method" ∷ codes "numBuckets" ∷ codes "domain" ∷ codes "facet" ∷ codes "sort" ∷ []
parameters range_type =
    codes "type" ∷ codes "field" ∷ codes "start" ∷ codes "end" ∷ codes "gap" ∷ codes "hardend" ∷ codes "other" ∷ codes "include" ∷ codes "domain" ∷ codes "facet" ∷ []
parameters query_type = codes "type" ∷ codes "q" ∷ codes "domain" ∷ codes "facet" ∷ []
parameters func_type = codes "type" ∷ codes "func" ∷ []

abbrev pub typed_read : FacetType → Schema → (outermost unmoved : Bool) → (Bool → Reader) → ℕ → Members → Result (Walked Node) RequestFault
typed_read terms_type s outermost unmoved deeper n ms = terms_read s outermost unmoved deeper n ms
typed_read range_type s outermost unmoved deeper n ms = range_read s unmoved deeper n ms
typed_read query_type s outermost unmoved deeper n ms = query_read s unmoved deeper n ms
typed_read func_type s outermost unmoved deeper n ms = func_read s n ms

-- the type that a command names
abbrev pub type_of : Members → Result FacetType QFault
type_of ms = required (codes "type") (λ d. ok_or (option_and_then type_named (as_str d)) unknown_type) ms

-- a command: a text is a statistic, an object names its type
abbrev pub command_read : Schema → (outermost unmoved : Bool) → (Bool → Reader) → ℕ → Data → Result (Walked Node) RequestFault
command_read s outermost unmoved deeper n (string t) = statistic_read s n t
command_read s outermost unmoved deeper n d = do
  ms ← own (ok_or (as_object d) bad_command)
  kind ← own (type_of ms)
  _ ← own (check_names (parameters kind) ms)
  typed_read kind s outermost unmoved deeper n ms

-- a node behind n nodes of the walk: at most 64 are read, siblings and nested ones together
abbrev pub node_read : Schema → (outermost unmoved : Bool) → (Bool → Reader) → ℕ → Text → Data → Result (Walked Node) RequestFault
node_read s outermost unmoved deeper n name d = do
  _ ← own (unless (nat_lt n 64) too_large)
  _ ← own (unless (not (is_reserved name)) reserved_name)
  command_read s outermost unmoved deeper (n + 1) d

-- nodes with so many depths left, outermost or nested, under facets without a block step or under one; with none left each node is too deep
abbrev pub nodes_within : ℕ → Schema → (outermost unmoved : Bool) → Reader
nodes_within zero s outermost unmoved n ms = members_read (λ m name d. own (Err too_large)) n ms
nodes_within (suc left) s outermost unmoved n ms = members_read (node_read s outermost unmoved (nodes_within left s false)) n ms

-- ---- the request

abbrev pub filter_fault : FilterFault → QFault
filter_fault shape = bad_parameter
filter_fault (of_query e) = query_fault e

abbrev pub filter_read : Schema → Data → Result Filter QFault
filter_read s d = with_fault filter_fault (filter_of s d)

-- one filter, or an array of them
abbrev pub filters_in : Schema → Data → Result (List Filter) QFault
filters_in s (array ds) = each_item (filter_read s) ds
filters_in s d = do
  f ← filter_read s d
  Ok (f ∷ [])

-- the whole number 0: no documents are asked for
abbrev pub zero_in : Data → Result (Unit {0}) QFault
zero_in d = unless (unwrap_or (option_map (λ n. n == 0) (natural_in d)) false) bad_parameter

-- every document is matched where no query is named
abbrev pub request_members : Schema → Members → Result Request RequestFault
request_members s ms = do
  _ ← own (check_names (codes "query" ∷ codes "filter" ∷ codes "limit" ∷ codes "facet" ∷ []) ms)
  q ← own (optional (codes "query") (text_query s) all ms)
  fs ← own (optional (codes "filter") (filters_in s) [] ms)
  _ ← own (optional (codes "limit") zero_in tt ms)
  nodes ← inner_read (nodes_within 8 s true true) 0 (get_member (codes "facet") ms)
  Ok (record { query = q; filters = fs; nodes = nodes.read })

-- the request, or its first fault
unfoldable pub request_of : Schema → Data → Result Request RequestFault
request_of s d = do
  ms ← own (ok_or (as_object d) not_an_object)
  request_members s ms
