-- Words for small worlds and requests.
use Rattle.std.specs.Prelude.{◌≡◌, ℕ, ℤ, List, [], ◌∷◌, Bool, false, true, Some, None, codes, ⊤}
use Prim.Native.String.{String}
use Rattle.std.specs.Fmt.{digits}
use Rattle.serde_json.proofs.OnLiterals.{serde_json_on_literals}
use Rattle.fc_spec.specs.documents.Val.{Text, Val, text, long}
use Rattle.fc_spec.specs.documents.Document.{Document, Block}
use Rattle.fc_spec.specs.queries.Query.{Query, all, is}
use Rattle.fc_spec.specs.documents.World.{World}
use Rattle.fc_spec.specs.requests.Request.{Filter, stay, DomainChange, Sort, by_count, by_index, by_statistic, its_buckets, Terms, Range, StatKind, Stat, Kind, Facet, Nodes, Request}
use Rattle.fc_spec.specs.replies.Exact.{exact}
use Rattle.fc_spec.specs.replies.Distributed.{distributed}
use Rattle.fc_spec.specs.replies.Json.{facets_text}

-- what an answer unfolds to compute the text of a literal
unfoldable pub written : ⊤
unfolding digits serde_json_on_literals
written = tt

-- the distributed and the exact reply both have this text
abbrev pub BothSay : Request → World → Text → Type 0
BothSay r W t = (facets_text (distributed r W) ≡ t) × (facets_text (exact r W) ≡ t)

-- the values of a field that has one text, or one integer
abbrev pub said : String → List Val
said s = text (codes s) ∷ []

abbrev pub numbered : ℤ → List Val
numbered n = long n ∷ []

-- a block of one document
abbrev pub alone : Document → Block
alone d = record { children = []; parent = d }

-- such a block, of an id and one text
abbrev pub labelled : String → String → Block
labelled id label = alone (said id ∷ said label ∷ [])

-- the field has the text
abbrev pub says : ℕ → String → Query
says field s = is field (text (codes s))

abbrev pub count_desc : Sort
count_desc = record { by = by_count; descending = true }

abbrev pub index_asc : Sort
index_asc = record { by = by_index; descending = false }

-- by the first of the nested statistics
abbrev pub by_first : (descending : Bool) → Sort
by_first descending = record { by = by_statistic 0; descending = descending }

-- a terms facet that says nothing but its field: ten buckets by count
abbrev pub terms_on : ℕ → Terms
terms_on field = record {
  field = field;
  offset = 0;
  limit = Some 10;
  sort = count_desc;
  mincount = 1;
  missing = false;
  prefix = None;
  refine = false;
  exact = false;
  overrequest = 5;
  overrefine = 5;
  show = its_buckets;
}

-- one with a limit below ten, and one without a limit
abbrev pub limited_on : ℕ → ℕ → Terms
limited_on field limit = record (terms_on field) { limit = Some limit; overrequest = 4; overrefine = 4 }

abbrev pub unlimited_on : ℕ → Terms
unlimited_on field = record (terms_on field) { limit = None; overrequest = 0; overrefine = 0 }

-- a range facet that says nothing but its field, start, end and gap: each bucket holds its low end
abbrev pub range_on : ℕ → (start end gap : ℤ) → Range
range_on field start end gap = record {
  field = field;
  start = start;
  end = end;
  gap = gap;
  hardend = false;
  before = false;
  after = false;
  between = false;
  lower = true;
  upper = false;
  edge = false;
  outer = false;
}

abbrev pub stat : StatKind → ℕ → Stat
stat of field = record { of = of; field = field }

-- a domain that stays as it is
abbrev pub no_change : DomainChange
no_change = record { exclude = []; block = stay; filters = [] }

-- a facet over the domain around it, and one over a changed domain
abbrev pub named : String → Kind → Facet
named name kind = record { name = codes name; change = no_change; kind = kind }

abbrev pub changed : String → DomainChange → Kind → Facet
changed name change kind = record { name = codes name; change = change; kind = kind }

abbrev pub untagged : Query → Filter
untagged q = record { tags = []; query = q }

abbrev pub tagged : String → Query → Filter
tagged tag q = record { tags = codes tag ∷ []; query = q }

-- a request of every document
abbrev pub asking : Nodes → Request
asking nodes = record { query = all; filters = []; nodes = nodes }
