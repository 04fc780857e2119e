use Rattle.std.proofs.Common.{◌∙◌, ap, sym}
use Rattle.fc_reply.specs.ReplyView.{reply_view}
use Rattle.fc_request.specs.NodeView.{nodes_view}
use Rattle.fc_request.specs.RequestView.{request_view}
use Rattle.fc_unique.specs.Asking.{asks_numbers}
use Rattle.fc_unique.proofs.Unasked.{unasked_bucket}
use Rattle.fc_unique.proofs.folding.fold.Goals as goal

pub returns-then-not-asks_numbers : goal.returns-then-not-asks_numbers
returns-then-not-asks_numbers c =
    sym (unasked_bucket (request_view c.args.request.now).nodes (ap (λ ns. asks_numbers (nodes_view ns)) (sym c.deref.ensures.value) ∙ sym c.asks_numbers.ensures ∙ c.if-not-asks_numbers.true) (reply_view c.args.reply))
