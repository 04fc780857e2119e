use Rattle.std.proofs.Common.{map, sym, ◌∙◌}
use Rattle.std.specs.Arc.{arc_value}
use Rattle.fc_spec.specs.requests.Shape.{no_exact}
use Rattle.fc_request.specs.RequestView.{request_view}
use Rattle.fc_round.specs.Askable.{world_of}
use Rattle.fc_round.proofs.OwnLimits.{all_searchable}
use Rattle.fc_search.proofs.Replaced.{not_false, plain_sent}
use Rattle.fc_search.proofs.searching.reply_of.Goals as goal

pub distributed_reply-requires-clause-askable : goal.distributed_reply-requires-clause-askable
distributed_reply-requires-clause-askable g c κs within = record { root = c.requires.root; valid = all_searchable c.args.request.now (map arc_value c.args.generations.now) c.requires.valid; limits = c.requires.limits }

pub returns-clause-reply : goal.returns-clause-reply
returns-clause-reply g c =
    let r = request_view c.args.request.now in
    let W = world_of (map arc_value c.args.generations.now) in
    c.in_ok-reply-2.ensures.distributed ∙ sym (c.reply_laws.ensures.offers r W (not_false (no_exact r.nodes) (sym c.has_exact.ensures ∙ c.if-has_exact.false)))

pub returns-clause-trace : goal.returns-clause-trace
returns-clause-trace g c =
    let r = request_view c.args.request.now in
    let W = world_of (map arc_value c.args.generations.now) in
    plain_sent r W (g.P.Probe.lengths c.args.probe.now) (g.P.Probe.lengths c.distributed_reply.new.probe) (not_false (no_exact r.nodes) (sym c.has_exact.ensures ∙ c.if-has_exact.false)) c.in_ok-reply-2.ensures.trace
