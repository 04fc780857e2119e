use Rattle.std.proofs.Common.{length, map, sym, ◌∙◌, ap}
use Rattle.std.specs.Prelude.{option_map}
use Rattle.std.specs.Arc.{arc_value}
use Rattle.fc_spec.specs.messages.Lengths.{put_all}
use Rattle.fc_spec.specs.messages.WholeTrace.{behind_rounds}
use Rattle.fc_request.specs.RequestView.{request_view}
use Rattle.fc_reply.specs.ReplyView.{reply_view}
use Rattle.fc_coord.specs.CoordView.{state_view}
use Rattle.fc_round.specs.Askable.{world_of}
use Rattle.fc_round.proofs.OwnLimits.{length-world}
use Rattle.fc_search.proofs.Begun.{hearing_at_start}
use Rattle.fc_search.proofs.Heard.{traced_hears, traced_more, traced_none}
use Rattle.fc_search.proofs.Replied.{begins_well, replied, traced}
use Rattle.fc_search.proofs.coordinating.distributed_reply.Goals as goal

pub begin-requires-clause-countable : goal.begin-requires-clause-countable
begin-requires-clause-countable g c = (begins_well c.merging_laws.ensures c.args.request.now c.args.generations.now c.requires.askable c.requires.some).0

pub begin-requires-clause-depth : goal.begin-requires-clause-depth
begin-requires-clause-depth g c = (begins_well c.merging_laws.ensures c.args.request.now c.args.generations.now c.requires.askable c.requires.some).1

pub loop-alloc-init : goal.loop-alloc-init
loop-alloc-init g c =
    let r = request_view c.args.request.now in
    let W = world_of (map arc_value c.args.generations.now) in
    traced_none r W c.args.behind (state_view c.in_ok-coord.coord) (g.P.Probe.lengths c.args.probe.now)
    (hearing_at_start r W (length c.args.generations.now) (state_view c.in_ok-coord.coord) (sym (length-world c.args.generations.now)) c.requires.some c.in_ok-coord.ensures.state c.in_ok-coord.ensures.kept)

pub run_round-requires-clause-hearing : goal.run_round-requires-clause-hearing
run_round-requires-clause-hearing g c κs within =
    traced_hears (request_view c.args.request.now) (world_of (map arc_value c.args.generations.now)) c.args.behind (state_view c.loop-alloc.coord) (g.P.Probe.lengths c.args.probe.now) (g.P.Probe.lengths c.loop-alloc.probe) c.loop-alloc.invariant

pub loop-alloc-preserved : goal.loop-alloc-preserved
loop-alloc-preserved g c =
    traced_more (request_view c.args.request.now) (world_of (map arc_value c.args.generations.now)) c.args.behind (state_view c.loop-alloc.coord) (state_view c.run_round.new.coord)
    (g.P.Probe.lengths c.args.probe.now) (g.P.Probe.lengths c.loop-alloc.probe) (g.P.Probe.lengths c.run_round.new.probe) c.loop-alloc.invariant c.in_ok-run_round.ensures.told

pub returns-clause-distributed : goal.returns-clause-distributed
returns-clause-distributed g c =
    let r = request_view c.args.request.now in
    let W = world_of (map arc_value c.args.generations.now) in
    let s = state_view c.loop-alloc.coord in
    let ready = sym c.ready.ensures ∙ c.loop-alloc-test.false in
    replied c.merging_laws.ensures r W s (reply_view c.in_ok-reply.reply) (traced_hears r W c.args.behind s (g.P.Probe.lengths c.args.probe.now) (g.P.Probe.lengths c.loop-alloc.probe) c.loop-alloc.invariant) ready c.in_ok-reply.ensures

pub returns-clause-trace : goal.returns-clause-trace
returns-clause-trace g c =
    let r = request_view c.args.request.now in
    let W = world_of (map arc_value c.args.generations.now) in
    let ready = sym c.ready.ensures ∙ c.loop-alloc-test.false in
    let all = c.loop-alloc.invariant in
    all.put ∙ ap (λ es. option_map (put_all (map (behind_rounds c.args.behind) es)) (g.P.Probe.lengths c.args.probe.now)) (traced r W (state_view c.loop-alloc.coord) all.entries all.heard ready)
