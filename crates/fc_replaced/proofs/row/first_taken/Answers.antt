use Rattle.std.proofs.Common.{◌∙◌, ap, sym}
use Rattle.fc_reply.specs.ReplyView.{facets_view}
use Rattle.fc_replaced.specs.Fronts.{first_bucket}
use Rattle.fc_replaced.proofs.Facets.{none_left, rest_taken}
use Rattle.fc_replaced.proofs.row.first_taken.Goals as goal

pub returns-in-Some : goal.returns-in-Some
returns-in-Some c =
    let old = c.args.left.now.items in
    let new = c.pop_front.new.self.items in
    record {
      bucket = c.bucket_in.ensures (facets_view new) ∙ ap (λ fs. first_bucket (facets_view fs)) (sym c.in-Some.ensures.items);
      left = rest_taken old new c.in-Some.ensures.rest;
    }

pub returns-in-None : goal.returns-in-None
returns-in-None c =
    let old = c.args.left.now.items in
    let new = c.pop_front.new.self.items in
    record {
      bucket = sym (ap first_bucket (none_left old new (c.in-None.ensures.items, c.in-None.ensures.rest)));
      left = rest_taken old new c.in-None.ensures.rest;
    }
