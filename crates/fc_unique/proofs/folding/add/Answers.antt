use Rattle.std.proofs.Common.{◌∙◌, ap, map, option_map, sym}
use Rattle.fc_reply.specs.ReplyView.{facet_over, facet_view, facets_over}
use Rattle.fc_reply.proofs.ReplyViews.{facets_over-pushed}
use Rattle.fc_unique.proofs.folding.add.Goals as goal

pub returns-in_ok-push-in-Some : goal.returns-in_ok-push-in-Some
returns-in_ok-push-in-Some c = λ more.
    let done = c.args.made.now.items in
    facets_over-pushed done c.push.new.self.items c.in-Some.facet more c.in_ok-push-in-Some.ensures.items
    ∙ ap (λ o. facets_over (map facet_view done) (facet_over (option_map facet_view o) more)) (sym c.in-Some.is)
