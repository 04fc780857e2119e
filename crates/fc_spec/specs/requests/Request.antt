-- Requests. Guide: JSON Request API; JSON Facet API.
use Rattle.std.specs.Prelude.{ℕ, ℤ, Option, List, [], ◌∷◌, Bool}
use Rattle.fc_spec.specs.documents.Val.{Text}
use Rattle.fc_spec.specs.queries.Query.{Query}

-- a filter and its tags. Guide: Faceting, "Tagging and Excluding Filters"
pub record Filter : Type 0 where
  pub tags : List Text
  pub query : Query

-- nothing; to the parents that match, from themselves or their children; to the children, from the parents that match
pub data BlockStep : Type 0 where
  stay : BlockStep
  parents : Query → BlockStep
  children : Query → BlockStep

-- how a facet changes its domain. Guide: JSON Faceting Domain Changes
pub record DomainChange : Type 0 where
  pub exclude : List Text
  pub block : BlockStep
  pub filters : List Query

-- what buckets are sorted by; a statistic by its place among those nested directly in the facet
pub data SortKey : Type 0 where
  by_count : SortKey
  by_index : SortKey
  by_statistic : ℕ → SortKey

-- and in which direction
pub record Sort : Type 0 where
  pub by : SortKey
  pub descending : Bool

-- what is printed of a terms facet: its buckets; the number of them alone; the number of them beside the buckets of the facet before it
pub data Show : Type 0 where
  its_buckets : Show
  its_number : Show
  number_beside : Show

-- a terms facet. Guide: JSON Facet API, "Terms Facet". No limit: all; then both over-numbers are 0. Refine has three ways: not, by what was offered, and exactly; what is refined exactly is refined. No shard and no coordinator looks at what it shows
pub record Terms : Type 0 where
  pub field : ℕ
  pub offset : ℕ
  pub limit : Option ℕ
  pub sort : Sort
  pub mincount : ℕ
  pub missing : Bool
  pub prefix : Option Text
  pub refine : Bool
  pub exact : Bool
  pub overrequest : ℕ
  pub overrefine : ℕ
  pub show : Show

-- a range facet over integers: end is at least start, gap at least 1. Guide: JSON Facet API, "Range Facet"
pub record Range : Type 0 where
  pub field : ℕ
  pub start : ℤ
  pub end : ℤ
  pub gap : ℤ
  pub hardend : Bool
  pub before : Bool
  pub after : Bool
  pub between : Bool
  pub lower : Bool
  pub upper : Bool
  pub edge : Bool
  pub outer : Bool

-- a range facet over dates: the canonical texts of the low ends of its gaps, ascending, and then the last high end; the start alone where there is no gap. Guide: JSON Facet API, "Range Facet"
pub record DateRange : Type 0 where
  pub field : ℕ
  pub edges : List Text
  pub before : Bool
  pub after : Bool
  pub between : Bool
  pub lower : Bool
  pub upper : Bool
  pub edge : Bool
  pub outer : Bool

-- the kinds of statistic. Guide: JSON Facet API, "Stat Facet Functions"
pub data StatKind : Type 0 where
  sum : StatKind
  min : StatKind
  max : StatKind
  countvals : StatKind
  missing : StatKind

-- a statistic of a field
pub record Stat : Type 0 where
  pub of : StatKind
  pub field : ℕ

-- the kinds of facet that have buckets
pub data Kind : Type 0 where
  terms : Terms → Kind
  range : Range → Kind
  query : Query → Kind
  date_range : DateRange → Kind

-- a facet: its name, what it does to its domain, its kind
pub record Facet : Type 0 where
  pub name : Text
  pub change : DomainChange
  pub kind : Kind

-- the nodes of a bucket, in the byte order of their names: a statistic and those after it; a facet, the nodes nested in it, and those after it
pub data Nodes : Type 0 where
  no_nodes : Nodes
  statistic : Text → Stat → Nodes → Nodes
  facet : Facet → Nodes → Nodes → Nodes

-- the root domain's query and filters, and the outermost nodes
pub record Request : Type 0 where
  pub query : Query
  pub filters : List Filter
  pub nodes : Nodes

-- the statistics among these nodes, in order
abbrev pub stats_of : Nodes → List Stat
stats_of no_nodes = []
stats_of (statistic name s rest) = s ∷ stats_of rest
stats_of (facet f inner rest) = stats_of rest
