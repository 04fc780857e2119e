-- How the number of a field's values, and of a terms facet's buckets, is asked for: by terms facets of their own. Guide: JSON Facet API, "Stat Facet Functions" (`unique`), "Terms Facet" (`numBuckets`).
use Rattle.std.specs.Prelude.{◌≡◌, ℕ, [], false, Option, None, Some}
use Rattle.fc_spec.specs.documents.Val.{Text}
use Rattle.fc_spec.specs.requests.Request.{stay, DomainChange, by_index, Sort, Show, its_buckets, its_number, number_beside, Terms, Kind, terms, Facet, Nodes, no_nodes, statistic, facet, Request}

-- a domain that stays as it is
abbrev pub unchanged : DomainChange
unchanged = record { exclude = []; block = stay; filters = [] }

-- by value, ascending
abbrev pub by_value : Sort
by_value = record { by = by_index; descending = false }

-- every value of the field
abbrev pub number_terms : ℕ → Terms
number_terms field = record {
  field = field;
  offset = 0;
  limit = None;
  sort = by_value;
  mincount = 1;
  missing = false;
  prefix = None;
  refine = false;
  exact = false;
  overrequest = 0;
  overrefine = 0;
  show = its_number;
}

-- every value that begins with the facet's prefix and has its mincount
abbrev pub beside_terms : Terms → Terms
beside_terms t = record (number_terms t.field) { mincount = t.mincount; prefix = t.prefix; show = number_beside }

-- the facet of a `unique` of the field, and that which stands behind a terms facet with `numBuckets`
abbrev pub number_facet : Text → ℕ → Facet
number_facet name field = record { name = name; change = unchanged; kind = terms (number_terms field) }

abbrev pub beside_facet : Facet → Terms → Facet
beside_facet f t = record { name = f.name; change = f.change; kind = terms (beside_terms t) }

-- what is printed of a facet
abbrev pub show_of : Kind → Show
show_of (terms t) = t.show
show_of _ = its_buckets

-- what is printed of the facet that the nodes begin with
abbrev pub show_first : Nodes → Show
show_first (facet f inner rest) = show_of f.kind
show_first _ = its_buckets

-- a facet that shows a number is one of these two, with no nested nodes; the second stands directly behind its own facet, which shows its buckets
abbrev pub IsShown : Option Facet → Facet → Nodes → Show → Type 0
IsShown before f inner its_buckets = Unit {0}
IsShown before f inner its_number = (field : ℕ) × (f ≡ number_facet f.name field) × (inner ≡ no_nodes)
IsShown before f inner number_beside =
    (host : Facet) × (t : Terms) × (before ≡ Some host) × (host.kind ≡ terms t) × (t.show ≡ its_buckets) × (f ≡ beside_facet host t) × (inner ≡ no_nodes)

-- so do all facets that show numbers, at any depth; `before` is the facet directly before the nodes, where there is one
abbrev pub AreShownAfter : Option Facet → Nodes → Type 0
AreShownAfter before no_nodes = Unit {0}
AreShownAfter before (statistic name s rest) = AreShownAfter None rest
AreShownAfter before (facet f inner rest) = IsShown before f inner (show_of f.kind) × AreShownAfter None inner × AreShownAfter (Some f) rest

-- of a request
abbrev pub IsSpread : Request → Type 0
IsSpread r = AreShownAfter None r.nodes
