use Rattle.std.proofs.Common.{map, sym, ◌∙◌, ap, subst}
use Rattle.std.specs.Arc.{arc_value}
use Rattle.fc_spec.specs.laws.NumberedPaths.{AreNumberedFacetsOf, HasNumberedTopsOf}
use Rattle.fc_spec.specs.laws.RefinedPaths.{IsBucketOf, val_in}
use Rattle.fc_spec.specs.replies.Folded.{folded}
use Rattle.fc_spec.specs.requests.Paths.{at_root}
use Rattle.fc_request.specs.RequestView.{request_view}
use Rattle.fc_round.specs.Askable.{world_of}
use Rattle.fc_search.proofs.Spread.{spread_request}
use Rattle.fc_search.proofs.searching.search.Goals as goal

pub returns-clause-reply : goal.returns-clause-reply
returns-clause-reply g c = c.in_ok-printed.ensures ∙ ap (folded (request_view c.args.request.now)) c.in_ok-reply.ensures.reply

pub returns-clause-root : goal.returns-clause-root
returns-clause-root g c =
    let r = request_view c.args.request.now in
    let W = world_of (map arc_value c.args.generations.now) in
    let spread = spread_request r c.args.generations.now c.requires.valid c.requires.some in
    ap val_in (c.in_ok-printed.ensures ∙ ap (folded r) c.in_ok-reply.ensures.reply) ∙ (c.reply_laws.ensures.paths r W spread).0

pub returns-clause-numbers : goal.returns-clause-numbers
returns-clause-numbers g c =
    let r = request_view c.args.request.now in
    let W = world_of (map arc_value c.args.generations.now) in
    let spread = spread_request r c.args.generations.now c.requires.valid c.requires.some in
    c.in_ok-printed.ensures ∙ ap (folded r) c.in_ok-reply.ensures.reply ∙ c.reply_laws.ensures.numbers r W spread

pub returns-clause-refined : goal.returns-clause-refined
returns-clause-refined g c =
    let r = request_view c.args.request.now in
    let W = world_of (map arc_value c.args.generations.now) in
    let spread = spread_request r c.args.generations.now c.requires.valid c.requires.some in
    subst (IsBucketOf r W at_root (AreNumberedFacetsOf r W r.nodes at_root)) (sym (c.in_ok-printed.ensures ∙ ap (folded r) c.in_ok-reply.ensures.reply)) (c.reply_laws.ensures.paths r W spread).1

pub returns-clause-tops : goal.returns-clause-tops
returns-clause-tops g c =
    let r = request_view c.args.request.now in
    let W = world_of (map arc_value c.args.generations.now) in
    let spread = spread_request r c.args.generations.now c.requires.valid c.requires.some in
    subst (HasNumberedTopsOf r W) (sym (c.in_ok-printed.ensures ∙ ap (folded r) c.in_ok-reply.ensures.reply)) (c.reply_laws.ensures.tops r W spread)

pub returns-clause-single_index : goal.returns-clause-single_index
returns-clause-single_index g c none =
    let r = request_view c.args.request.now in
    c.in_ok-printed.ensures ∙ ap (folded r) c.in_ok-reply.ensures.reply ∙ c.reply_laws.ensures.single r (world_of (map arc_value c.args.generations.now)) none
