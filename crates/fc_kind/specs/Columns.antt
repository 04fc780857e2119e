-- Facets that fit the columns of a segment, each of which holds texts or integers.
use Rattle.std.specs.Prelude.{◌≡◌, ℕ, List, [], ◌∷◌, slice_index_or, Bool, true, false, Option, None, Some}
use Rattle.fc_spec.specs.documents.Val.{Text}
use Rattle.fc_spec.specs.requests.Request.{Kind, terms, range, query, date_range, Stat}
use Rattle.fc_facet.specs.RangeGaps.{HasFewGaps, HasFewEdges}
use Rattle.fc_domain.specs.FieldsFit.{FitsFields, HasField}

-- a prefix is of texts
abbrev pub IsPrefixOf : List Bool → ℕ → Option Text → Type 0
IsPrefixOf texts field None = Unit {0}
IsPrefixOf texts field (Some prefix) = slice_index_or texts field false ≡ true

-- its fields are there: of a range facet one of integers, of one over dates and of a terms facet with a prefix one of texts; and the gaps of a range facet can be counted
abbrev pub FitsColumns : List Bool → Kind → Type 0
FitsColumns texts (terms t) = HasField texts t.field × IsPrefixOf texts t.field t.prefix
FitsColumns texts (range g) = HasField texts g.field × (slice_index_or texts g.field false ≡ false) × HasFewGaps g
FitsColumns texts (query q) = FitsFields texts q
FitsColumns texts (date_range g) = HasField texts g.field × (slice_index_or texts g.field false ≡ true) × HasFewEdges g

-- the fields of the statistics are there
abbrev pub HaveFields : List Bool → List Stat → Type 0
HaveFields texts [] = Unit {0}
HaveFields texts (s ∷ ss) = HasField texts s.field × HaveFields texts ss
