-- What stands first of the facets of a reply.
use Rattle.std.specs.Prelude.{List, Bool, Option, None, Some, if◌then◌else◌}
use Rattle.fc_spec.specs.requests.Request.{Terms}
use Rattle.fc_spec.specs.requests.Buckets.{Key}
use Rattle.fc_spec.specs.replies.Reply.{Bucket, Facets, one, Row, no_parts}
use Rattle.fc_spec.specs.replies.Restored.{row_from}

-- a facet before others, where it is there
abbrev pub facet_over : Option (Facets → Facets) → Facets → Facets
facet_over None more = more
facet_over (Some put) more = put more

-- the bucket of the first facet, where that is one bucket
abbrev pub first_bucket : Facets → Option Bucket
first_bucket (one name b more) = Some b
first_bucket _ = None

-- the row of these keys where each key before them had its bucket; else nothing more
abbrev pub row_if : (whole : Bool) → Terms → List Key → Facets → Row
row_if whole t ks F = if whole then row_from t ks F else no_parts
