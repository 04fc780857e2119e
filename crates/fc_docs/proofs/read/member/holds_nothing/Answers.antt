use Rattle.std.proofs.Common.{nat_eq, ap, ◌∙◌}
use Rattle.serde_json.proofs.Views.{view-Array}
use Rattle.fc_docs.proofs.Items.{holds_no_item}
use Rattle.fc_docs.proofs.read.member.holds_nothing.Goals as goal

pub returns-in-Array : goal.returns-in-Array
returns-in-Array c = rw (c.in-Array.is, view-Array) (c.is_empty.ensures ∙ ap (λ n. nat_eq n 0) c.in-Array.items.ok.0 ∙ holds_no_item c.in-Array.items.items)
