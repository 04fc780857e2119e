use Rattle.std.proofs.Common.{◌∙◌, ap, option_map, sym}
use Rattle.fc_spec.specs.replies.Restored.{with_val}
use Rattle.fc_base.specs.View.{val_view}
use Rattle.fc_reply.proofs.ReplyViews.{view_of_bucket, view_of_made_bucket}
use Rattle.fc_replaced.proofs.row.with_val.Goals as goal

pub returns : goal.returns
returns c = view_of_made_bucket _ ∙ ap (with_val (option_map val_view c.args.val)) (sym (view_of_bucket c.args.bucket))
