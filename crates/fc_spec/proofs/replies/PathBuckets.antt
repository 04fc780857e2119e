-- Buckets and domains of the distributed reply: places at the end of a path.
use Rattle.std.proofs.Common.{List}
use Rattle.fc_spec.specs.documents.World.{Place}
use Rattle.fc_spec.specs.requests.Request.{Kind, Facet}
use Rattle.fc_spec.specs.requests.Buckets.{Key, bucket_places}
use Rattle.fc_spec.specs.requests.Paths.{Path, into}
use Rattle.fc_spec.specs.replies.Reading.{PathBucket, PathDomain}

-- places as the bucket of a path
abbrev pub at_path : Path → List Place → PathBucket
at_path path X = record { path = path; places = X }

-- as the domain of a facet in it
abbrev pub in_path : Path → Facet → List Place → PathDomain
in_path path f Y = record { path = path; facet = f; places = Y }

-- the bucket of a key in a domain
abbrev pub in_key : PathDomain → Kind → Key → PathBucket
in_key Y kind key = at_path (into Y.path Y.facet key) (bucket_places kind key Y.places)
