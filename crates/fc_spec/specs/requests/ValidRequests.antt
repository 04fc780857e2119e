-- Requests that are valid for a schema.
use Rattle.std.specs.Prelude.{◌≡◌, ◌<◌, ◌≤◌, ◌≤ℤ◌, ◌<ℤ◌, ℕ, suc, pos, max, List, [], ◌∷◌, length, Bool, true, false, not, ◌&&◌, IsTrue, None, IfSome, All}
use Rattle.std.specs.List.Sorted.{IsStrictlySortedBy}
use Rattle.fc_spec.specs.documents.Val.{Text, text_cmp}
use Rattle.fc_spec.specs.documents.Schema.{Schema, holds_texts, holds_dates}
use Rattle.fc_spec.specs.documents.IntegerTexts.{is_long}
use Rattle.fc_spec.specs.dates.DateTexts.{IsCanonical}
use Rattle.fc_spec.specs.queries.ValidQueries.{IsValidQuery}
use Rattle.fc_spec.specs.queries.FilterReading.{is_tag}
use Rattle.fc_spec.specs.requests.Request.{Filter, BlockStep, stay, parents, children, DomainChange, Show, number_beside, SortKey, by_count, by_index, by_statistic, Terms, Range, DateRange, Stat, Kind, terms, range, query, date_range, Facet, Nodes, no_nodes, statistic, facet, Request, stats_of}
use Rattle.fc_spec.specs.requests.Spread.{show_of, IsSpread}
use Rattle.fc_spec.specs.requests.Gaps.{gap_count, last_end}
use Rattle.fc_spec.specs.requests.StatisticReading.{takes_texts, has_type}
use Rattle.fc_spec.specs.requests.Shape.{stays, outermost_exact}
use Rattle.fc_spec.specs.requests.Least.{count_first}

abbrev pub AreTags : List Text → Type 0
AreTags tags = All (λ t. IsTrue (is_tag t)) tags

-- its tags are tags, and its query is valid
pub record IsValidFilter (s : Schema) (f : Filter) : Type 0 where
  pub tags : AreTags f.tags
  pub query : IsValidQuery s f.query

abbrev pub IsValidStep : Schema → BlockStep → Type 0
IsValidStep s stay = Unit {0}
IsValidStep s (parents q) = IsValidQuery s q
IsValidStep s (children q) = IsValidQuery s q

-- it excludes no tags where a facet around has a block step
pub record IsValidChange (s : Schema) (unmoved : Bool) (c : DomainChange) : Type 0 where
  pub tags : AreTags c.exclude
  pub around : unmoved ≡ false → c.exclude ≡ []
  pub step : IsValidStep s c.block
  pub filters : All (IsValidQuery s) c.filters

-- a statistic that is there
abbrev pub NamesStatistic : Nodes → SortKey → Type 0
NamesStatistic inner by_count = Unit {0}
NamesStatistic inner by_index = Unit {0}
NamesStatistic inner (by_statistic n) = n < length (stats_of inner)

-- the number is at most a million
abbrev pub IsFew : ℕ → Type 0
IsFew n = n ≤ 1_000_000

-- its field is there, of texts where there is a prefix; its numbers are within their limits, and both over-numbers 0 without a limit; its sort names what is there; what is refined exactly is refined, and sorted by count
pub record IsValidTerms (s : Schema) (inner : Nodes) (t : Terms) : Type 0 where
  pub field : t.field < length s.fields
  pub offset : IsFew t.offset
  pub limit : IfSome t.limit IsFew
  pub sort : NamesStatistic inner t.sort.by
  pub mincount : 1 ≤ t.mincount
  pub few : IsFew t.mincount
  pub prefix : IfSome t.prefix (λ p. IsTrue (has_type s holds_texts t.field))
  pub overrequest : IsFew t.overrequest
  pub overrefine : IsFew t.overrefine
  pub unlimited : t.limit ≡ None → (t.overrequest ≡ 0) × (t.overrefine ≡ 0)
  pub exact : t.exact ≡ true → (t.refine ≡ true) × (t.sort ≡ count_first)

-- its field is there, of integers; its numbers fit 64 bits, the last high end too; at most 10,000 gaps
pub record IsValidRange (s : Schema) (g : Range) : Type 0 where
  pub field : g.field < length s.fields
  pub of_integers : IsTrue (has_type s (λ k. not (holds_texts k)) g.field)
  pub start : IsTrue (is_long g.start)
  pub end : IsTrue (is_long g.end)
  pub gap : IsTrue (is_long g.gap)
  pub ordered : g.start ≤ℤ g.end
  pub forward : pos 0 <ℤ g.gap
  pub last : IsTrue (is_long (last_end g))
  pub few : gap_count g ≤ 10_000

-- its field is there, of dates; its edges are canonical texts, ascending, of at most 10,000 gaps
pub record IsValidDateRange (s : Schema) (g : DateRange) : Type 0 where
  pub field : g.field < length s.fields
  pub of_dates : IsTrue (has_type s holds_dates g.field)
  pub edges : All IsCanonical g.edges
  pub ascending : IsStrictlySortedBy text_cmp g.edges
  pub some : 1 ≤ length g.edges
  pub few : length g.edges ≤ 10_001

abbrev pub IsValidKind : Schema → Nodes → Kind → Type 0
IsValidKind s inner (terms t) = IsValidTerms s inner t
IsValidKind s inner (range g) = IsValidRange s g
IsValidKind s inner (query q) = IsValidQuery s q
IsValidKind s inner (date_range g) = IsValidDateRange s g

-- its field is there, of integers where the statistic asks for them
pub record IsValidStatistic (s : Schema) (st : Stat) : Type 0 where
  pub field : st.field < length s.fields
  pub of_integers : takes_texts st.of ≡ false → IsTrue (has_type s (λ k. not (holds_texts k)) st.field)

-- with the name of a facet before them, unless what it shows stands beside the facet before it, whose name it has
abbrev pub with_name : Show → Text → List Text → List Text
with_name number_beside name names = names
with_name _ name names = name ∷ names

-- the names of nodes, in their order
abbrev pub node_names : Nodes → List Text
node_names no_nodes = []
node_names (statistic name st rest) = name ∷ node_names rest
node_names (facet f inner rest) = with_name (show_of f.kind) f.name (node_names rest)

-- a facet is valid but for the nodes nested in it
pub record IsValidFacet (s : Schema) (unmoved : Bool) (f : Facet) (inner : Nodes) : Type 0 where
  pub change : IsValidChange s unmoved f.change
  pub kind : IsValidKind s inner f.kind

-- each node is valid by itself, and by whether a facet around it has a block step
abbrev pub AreValidNodes : Schema → (unmoved : Bool) → Nodes → Type 0
AreValidNodes s unmoved no_nodes = Unit {0}
AreValidNodes s unmoved (statistic name st rest) = IsValidStatistic s st × AreValidNodes s unmoved rest
AreValidNodes s unmoved (facet f inner rest) = IsValidFacet s unmoved f inner × AreValidNodes s (unmoved && stays f.change) inner × AreValidNodes s unmoved rest

-- inside each facet the names differ and stand in the order of their bytes
abbrev pub AreOrderedInside : Nodes → Type 0
AreOrderedInside no_nodes = Unit {0}
AreOrderedInside (statistic name st rest) = AreOrderedInside rest
AreOrderedInside (facet f inner rest) = IsStrictlySortedBy text_cmp (node_names inner) × AreOrderedInside inner × AreOrderedInside rest

-- and so they do here
abbrev pub AreOrderedNodes : Nodes → Type 0
AreOrderedNodes nodes = IsStrictlySortedBy text_cmp (node_names nodes) × AreOrderedInside nodes

-- how many nodes stand around each other at most
abbrev pub node_depth : Nodes → ℕ
node_depth no_nodes = 0
node_depth (statistic name st rest) = max 1 (node_depth rest)
node_depth (facet f inner rest) = max (suc (node_depth inner)) (node_depth rest)

-- its query, filters and nodes are valid, only outermost facets are refined exactly, nodes nest at most eight deep, their names differ and ascend, and what shows a number stands where that is asked for
pub record IsValidRequest (s : Schema) (r : Request) : Type 0 where
  pub query : IsValidQuery s r.query
  pub filters : All (IsValidFilter s) r.filters
  pub nodes : AreValidNodes s true r.nodes
  pub exact : IsTrue (outermost_exact r.nodes)
  pub depth : node_depth r.nodes ≤ 8
  pub names : AreOrderedNodes r.nodes
  pub spread : IsSpread r

-- the same but for names, which may repeat, and for what shows numbers: shards and the coordinator can answer it
pub record IsSearchable (s : Schema) (r : Request) : Type 0 where
  pub query : IsValidQuery s r.query
  pub filters : All (IsValidFilter s) r.filters
  pub nodes : AreValidNodes s true r.nodes
  pub exact : IsTrue (outermost_exact r.nodes)
  pub depth : node_depth r.nodes ≤ 8
