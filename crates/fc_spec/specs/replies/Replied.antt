-- What a search prints: the reply with top buckets, folded.
use Rattle.fc_spec.specs.documents.World.{World}
use Rattle.fc_spec.specs.requests.Request.{Request}
use Rattle.fc_spec.specs.replies.Reply.{Bucket}
use Rattle.fc_spec.specs.replies.WithTops.{with_tops}
use Rattle.fc_spec.specs.replies.Folded.{folded}

abbrev pub replied : Request → World → Bucket
replied r W = folded r (with_tops r W)
