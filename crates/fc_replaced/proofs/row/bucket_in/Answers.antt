use Rattle.std.proofs.Common.{sym}
use Rattle.fc_replaced.proofs.Facets.{one_bucket}
use Rattle.fc_replaced.proofs.row.bucket_in.Goals as goal

pub returns-in-One : goal.returns-in-One
returns-in-One c = λ more. sym (one_bucket c.args.facet c.in-One.bucket more c.in-One.is)
