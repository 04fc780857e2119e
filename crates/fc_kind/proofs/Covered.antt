-- Lists that cover the names.
use Rattle.std.proofs.Common.{List}
use Rattle.fc_kind.specs.declared.name.KindName.{KindName}
use Rattle.fc_kind.specs.declared.name.KindName.TheVariants.{Terms, Range, Query, DateRange}
use Rattle.fc_kind.specs.Names.{Covers, Has}

-- a list that covers has each name
pub has_each : (name : KindName) (names : List KindName) → Covers names → Has name names
has_each Terms names c = c.terms
has_each Range names c = c.range
has_each Query names c = c.query
has_each DateRange names c = c.date_range
