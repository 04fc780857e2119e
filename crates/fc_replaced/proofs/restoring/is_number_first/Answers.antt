use Rattle.std.proofs.Common.{◌∙◌, ap, drop, sym}
use Rattle.fc_spec.specs.replies.Restored.{is_number_of}
use Rattle.fc_reply.specs.ReplyView.{facets_view}
use Rattle.fc_replaced.proofs.Facets.{front_is, none_first}
use Rattle.fc_replaced.proofs.restoring.is_number_first.Goals as goal

pub returns-in-Some : goal.returns-in-Some
returns-in-Some c =
    let fs = c.args.left.now.items in
    let item = c.in-Some.ensures.item in
    c.is_number.ensures (facets_view (drop 1 fs)) ∙ sym (ap (is_number_of c.args.name.now) (front_is fs c.in-Some.facet.now item.3.0 item.1))

pub returns-in-None : goal.returns-in-None
returns-in-None c = sym (ap (is_number_of c.args.name.now) (none_first c.args.left.now.items c.in-None.ensures.item.3))
