-- The names of kinds of facet.
use Rattle.std.specs.Prelude.{◌≡◌, ◌⊎◌, List, [], ◌∷◌, Option, None, Some}
use Rattle.fc_facet.specs.declared.kind.Kind.{Kind}
use Rattle.fc_facet.specs.declared.kind.Kind.TheVariants as kind
use Rattle.fc_kind.specs.declared.name.KindName.{KindName}
use Rattle.fc_kind.specs.declared.name.KindName.TheVariants.{Terms, Range, Query, DateRange}

-- that of a kind; a statistic has none
abbrev pub name_of : Kind → Option KindName
name_of (kind.Terms t) = Some Terms
name_of (kind.Range g) = Some Range
name_of (kind.Query q) = Some Query
name_of (kind.DateRange g) = Some DateRange
name_of (kind.Stat s) = None

-- one of the names is this one
abbrev pub Has : KindName → List KindName → Type 0
Has wanted [] = ⊥
Has wanted (name ∷ names) = (name ≡ wanted) ⊎ Has wanted names

-- each name is there
pub record Covers (names : List KindName) : Type 0 where
  pub terms : Has Terms names
  pub range : Has Range names
  pub query : Has Query names
  pub date_range : Has DateRange names
