use Rattle.std.proofs.Common.{length, map, sym, ◌∙◌, ap}
use Rattle.std.specs.Prelude.{option_map}
use Rattle.std.specs.Arc.{arc_value}
use Rattle.fc_spec.specs.messages.Lengths.{put_all}
use Rattle.fc_request.specs.RequestView.{request_view}
use Rattle.fc_exact.specs.CoreView.{state_view}
use Rattle.fc_round.specs.Askable.{world_of}
use Rattle.fc_round.proofs.OwnLimits.{length-world}
use Rattle.fc_tops.proofs.Ended.{found_in, found_tops, heard_at_start, traced}
use Rattle.fc_tops.proofs.Heard.{traced_hears, traced_more, traced_none}
use Rattle.fc_tops.proofs.finding.find_tops.Goals as goal

pub loop-alloc-init : goal.loop-alloc-init
loop-alloc-init g c =
    let x = request_view c.args.request.now in
    let W = world_of (map arc_value c.args.generations.now) in
    traced_none x W (state_view c.in_ok-core.core) (g.P.Probe.lengths c.args.probe.now)
    (heard_at_start c.finding_laws.ensures x W (length c.args.generations.now) (state_view c.in_ok-core.core) (sym (length-world c.args.generations.now)) c.requires.some c.in_ok-core.ensures)

pub run_round-requires-clause-hearing : goal.run_round-requires-clause-hearing
run_round-requires-clause-hearing g c κs within =
    traced_hears (request_view c.args.request.now) (world_of (map arc_value c.args.generations.now)) (state_view c.loop-alloc.core) (g.P.Probe.lengths c.args.probe.now) (g.P.Probe.lengths c.loop-alloc.probe) c.loop-alloc.invariant

pub loop-alloc-preserved : goal.loop-alloc-preserved
loop-alloc-preserved g c =
    traced_more (request_view c.args.request.now) (world_of (map arc_value c.args.generations.now)) (state_view c.loop-alloc.core) (state_view c.run_round.new.core)
    (g.P.Probe.lengths c.args.probe.now) (g.P.Probe.lengths c.loop-alloc.probe) (g.P.Probe.lengths c.run_round.new.probe) c.loop-alloc.invariant c.in_ok-run_round.ensures.told

pub returns-clause-tops : goal.returns-clause-tops
returns-clause-tops g c =
    let x = request_view c.args.request.now in
    let W = world_of (map arc_value c.args.generations.now) in
    let s = state_view c.loop-alloc.core in
    let ready = sym c.ready.ensures ∙ c.loop-alloc-test.false in
    c.in_ok-tops.ensures ∙ found_tops c.finding_laws.ensures x W s c.requires.nodes (traced_hears x W s (g.P.Probe.lengths c.args.probe.now) (g.P.Probe.lengths c.loop-alloc.probe) c.loop-alloc.invariant) ready

pub returns-clause-rounds : goal.returns-clause-rounds
returns-clause-rounds g c =
    let x = request_view c.args.request.now in
    let W = world_of (map arc_value c.args.generations.now) in
    let s = state_view c.loop-alloc.core in
    let ready = sym c.ready.ensures ∙ c.loop-alloc-test.false in
    c.round-rounds.ensures ∙ found_in x W s (traced_hears x W s (g.P.Probe.lengths c.args.probe.now) (g.P.Probe.lengths c.loop-alloc.probe) c.loop-alloc.invariant) ready

pub returns-clause-trace : goal.returns-clause-trace
returns-clause-trace g c =
    let x = request_view c.args.request.now in
    let W = world_of (map arc_value c.args.generations.now) in
    let ready = sym c.ready.ensures ∙ c.loop-alloc-test.false in
    let all = c.loop-alloc.invariant in
    all.put ∙ ap (λ es. option_map (put_all es) (g.P.Probe.lengths c.args.probe.now)) (traced x W (state_view c.loop-alloc.core) all.entries all.heard ready)
