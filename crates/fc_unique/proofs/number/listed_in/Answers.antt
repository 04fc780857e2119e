use Rattle.std.proofs.Common.{◌∙◌}
use Rattle.fc_reply.specs.declared.reply.ReplyBuckets.{out-ReplyBuckets}
use Rattle.fc_unique.proofs.Rows.{listed_is}
use Rattle.fc_unique.proofs.number.listed_in.Goals as goal

pub returns-clause-count : goal.returns-clause-count
returns-clause-count c =
    let bs = c.args.buckets.now in
    c.len.ensures ∙ (out-ReplyBuckets bs).list.ok.0 ∙ listed_is bs
