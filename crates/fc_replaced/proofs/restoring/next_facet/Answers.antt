use Rattle.fc_replaced.proofs.Facets.{first_taken, rest_taken}
use Rattle.fc_replaced.proofs.restoring.next_facet.Goals as goal

pub returns : goal.returns
returns c =
    let old = c.args.left.now.items in
    let new = c.pop_front.new.self.items in
    record {
      facet = λ more. first_taken c.pop_front.result old new more (c.pop_front.ensures.items, c.pop_front.ensures.rest);
      left = rest_taken old new c.pop_front.ensures.rest;
    }
