use Rattle.std.proofs.Common.{[], ◌∷◌, ◌++◌, ap, ◌∙◌}
use Rattle.serde_json.specs.Written.{compact_text}
use Rattle.fc_spec.specs.replies.Json.{bucket_data}
use Rattle.fc_reply.specs.ReplyView.{reply_view}
use Rattle.fc_reply.proofs.ReplyTokens.{line_data, printed}
use Rattle.fc_reply.proofs.line.reply_line.Goals as goal

pub returns : goal.returns
returns c =
    let facets = bucket_data (reply_view c.args.reply.now) in
    c.in_ok-push.ensures.items
    ∙ ap (λ s. s ++ 10 ∷ []) (c.into_inner-line.ensures.items
    ∙ printed c.new-out.result c.write_reply.new.out (line_data facets c.args.generations.now c.text.result.now) (c.new-out.ensures.before ∙ c.new.ensures.items) c.new-out.ensures.tokens c.in_ok-write_reply.ensures
    ∙ ap (λ s. compact_text (line_data facets c.args.generations.now s)) c.text.ensures)
