use Rattle.std.proofs.Common.{◌+◌, map, sym, ◌∙◌, ap, subst, arith}
use Rattle.std.specs.Arc.{arc_value}
use Rattle.std.proofs.lemmas.List.{nil_from_length}
use Rattle.fc_spec.specs.messages.Nesting.{Spells}
use Rattle.fc_request.specs.RequestView.{request_view}
use Rattle.fc_partial.specs.BucketView.{message_view}
use Rattle.fc_coord.specs.CoordView.{state_view}
use Rattle.fc_round.specs.Askable.{world_of}
use Rattle.fc_round.specs.Spelled.{SpellSome}
use Rattle.fc_search.proofs.Replied.{few_depths}
use Rattle.fc_search.proofs.ResponsesHeard.{AreLeft, all_left, first_awaited, first_spelled, first_within, over_fewer, over_hears, over_told, rest_left}
use Rattle.fc_search.proofs.round.run_round.Goals as goal

pub loop-response-init : goal.loop-response-init
loop-response-init g c =
    let r = request_view c.args.request.now in
    let W = world_of (map arc_value c.args.generations.now) in
    let s = state_view c.args.coord.now in
    all_left r W c.args.behind s (g.P.Probe.lengths c.args.probe.now) c.into_iter-response-iterator.result.rest.items c.requires.not_ready
    (rw c.into_iter-response-iterator.ensures.into_iter_gives.0 c.in_ok-responses.ensures)

pub message_of-requires : goal.message_of-requires
message_of-requires g c =
    let r = request_view c.args.request.now in
    let W = world_of (map arc_value c.args.generations.now) in
    let n = c.args.behind in
    let start = state_view c.args.coord.now in
    let s = state_view c.loop-response.coord in
    let old = g.P.Probe.lengths c.args.probe.now in
    let now = g.P.Probe.lengths c.loop-response.probe in
    let one = c.in-Some.response in
    let rest = c.next.new.self.rest.items in
    let left = subst (AreLeft r W n start s old now) c.in-Some.ensures.steps.0 c.loop-response.invariant in
    subst SpellSome (sym c.deref.ensures.value) (first_spelled c.telling_laws.ensures r W c.requires.askable.limits n start s old now one rest c.requires.hearing left)

pub message-requires-clause-first : goal.message-requires-clause-first
message-requires-clause-first g c =
    let r = request_view c.args.request.now in
    let W = world_of (map arc_value c.args.generations.now) in
    let n = c.args.behind in
    let start = state_view c.args.coord.now in
    let s = state_view c.loop-response.coord in
    let old = g.P.Probe.lengths c.args.probe.now in
    let now = g.P.Probe.lengths c.loop-response.probe in
    let one = c.in-Some.response in
    let rest = c.next.new.self.rest.items in
    let left = subst (AreLeft r W n start s old now) c.in-Some.ensures.steps.0 c.loop-response.invariant in
    let few = few_depths c.telling_laws.ensures.depths c.args.request.now c.args.generations.now c.requires.askable c.requires.some in
    let low = (first_within c.telling_laws.ensures r W c.requires.askable.limits n start s old now one rest c.requires.hearing left c.requires.behind few).0 in
    omega (arith, low, c.round.ensures)

pub overflow_add-behind : goal.overflow_add-behind
overflow_add-behind g c =
    let r = request_view c.args.request.now in
    let W = world_of (map arc_value c.args.generations.now) in
    let n = c.args.behind in
    let start = state_view c.args.coord.now in
    let s = state_view c.loop-response.coord in
    let old = g.P.Probe.lengths c.args.probe.now in
    let now = g.P.Probe.lengths c.loop-response.probe in
    let one = c.in-Some.response in
    let rest = c.next.new.self.rest.items in
    let left = subst (AreLeft r W n start s old now) c.in-Some.ensures.steps.0 c.loop-response.invariant in
    let few = few_depths c.telling_laws.ensures.depths c.args.request.now c.args.generations.now c.requires.askable c.requires.some in
    let high = (first_within c.telling_laws.ensures r W c.requires.askable.limits n start s old now one rest c.requires.hearing left c.requires.behind few).1 in
    omega (arith, high, c.round.ensures)

pub message-requires-clause-few : goal.message-requires-clause-few
message-requires-clause-few g c =
    let r = request_view c.args.request.now in
    let W = world_of (map arc_value c.args.generations.now) in
    let n = c.args.behind in
    let start = state_view c.args.coord.now in
    let s = state_view c.loop-response.coord in
    let old = g.P.Probe.lengths c.args.probe.now in
    let now = g.P.Probe.lengths c.loop-response.probe in
    let one = c.in-Some.response in
    let rest = c.next.new.self.rest.items in
    let left = subst (AreLeft r W n start s old now) c.in-Some.ensures.steps.0 c.loop-response.invariant in
    let few = few_depths c.telling_laws.ensures.depths c.args.request.now c.args.generations.now c.requires.askable c.requires.some in
    let high = (first_within c.telling_laws.ensures r W c.requires.askable.limits n start s old now one rest c.requires.hearing left c.requires.behind few).1 in
    omega (arith, high, c.round.ensures)

pub message-requires-clause-shards : goal.message-requires-clause-shards
message-requires-clause-shards g c =
    let r = request_view c.args.request.now in
    let W = world_of (map arc_value c.args.generations.now) in
    let n = c.args.behind in
    let start = state_view c.args.coord.now in
    let s = state_view c.loop-response.coord in
    let old = g.P.Probe.lengths c.args.probe.now in
    let now = g.P.Probe.lengths c.loop-response.probe in
    let one = c.in-Some.response in
    let rest = c.next.new.self.rest.items in
    let left = subst (AreLeft r W n start s old now) c.in-Some.ensures.steps.0 c.loop-response.invariant in
    let few = few_depths c.telling_laws.ensures.depths c.args.request.now c.args.generations.now c.requires.askable c.requires.some in
    (first_within c.telling_laws.ensures r W c.requires.askable.limits n start s old now one rest c.requires.hearing left c.requires.behind few).2

pub take-requires-clause-not_spent : goal.take-requires-clause-not_spent
take-requires-clause-not_spent g c =
    let r = request_view c.args.request.now in
    let W = world_of (map arc_value c.args.generations.now) in
    let n = c.args.behind in
    let start = state_view c.args.coord.now in
    let s = state_view c.loop-response.coord in
    let old = g.P.Probe.lengths c.args.probe.now in
    let now = g.P.Probe.lengths c.loop-response.probe in
    let one = c.in-Some.response in
    let rest = c.next.new.self.rest.items in
    let left = subst (AreLeft r W n start s old now) c.in-Some.ensures.steps.0 c.loop-response.invariant in
    let spelled = subst (λ bytes. Spells bytes (message_view c.in_ok-message.message)) c.deref.ensures.value c.in_ok-message.ensures in
    (first_awaited c.telling_laws.ensures r W c.requires.askable.limits n start s old now one rest c.requires.hearing left (message_view c.in_ok-message.message) spelled).0

pub take-requires-clause-awaited : goal.take-requires-clause-awaited
take-requires-clause-awaited g c =
    let r = request_view c.args.request.now in
    let W = world_of (map arc_value c.args.generations.now) in
    let n = c.args.behind in
    let start = state_view c.args.coord.now in
    let s = state_view c.loop-response.coord in
    let old = g.P.Probe.lengths c.args.probe.now in
    let now = g.P.Probe.lengths c.loop-response.probe in
    let one = c.in-Some.response in
    let rest = c.next.new.self.rest.items in
    let left = subst (AreLeft r W n start s old now) c.in-Some.ensures.steps.0 c.loop-response.invariant in
    let spelled = subst (λ bytes. Spells bytes (message_view c.in_ok-message.message)) c.deref.ensures.value c.in_ok-message.ensures in
    (first_awaited c.telling_laws.ensures r W c.requires.askable.limits n start s old now one rest c.requires.hearing left (message_view c.in_ok-message.message) spelled).1

pub take-requires-clause-fits : goal.take-requires-clause-fits
take-requires-clause-fits g c =
    let r = request_view c.args.request.now in
    let W = world_of (map arc_value c.args.generations.now) in
    let n = c.args.behind in
    let start = state_view c.args.coord.now in
    let s = state_view c.loop-response.coord in
    let old = g.P.Probe.lengths c.args.probe.now in
    let now = g.P.Probe.lengths c.loop-response.probe in
    let one = c.in-Some.response in
    let rest = c.next.new.self.rest.items in
    let left = subst (AreLeft r W n start s old now) c.in-Some.ensures.steps.0 c.loop-response.invariant in
    let spelled = subst (λ bytes. Spells bytes (message_view c.in_ok-message.message)) c.deref.ensures.value c.in_ok-message.ensures in
    (first_awaited c.telling_laws.ensures r W c.requires.askable.limits n start s old now one rest c.requires.hearing left (message_view c.in_ok-message.message) spelled).2

pub loop-response-preserved : goal.loop-response-preserved
loop-response-preserved g c =
    let r = request_view c.args.request.now in
    let W = world_of (map arc_value c.args.generations.now) in
    let n = c.args.behind in
    let start = state_view c.args.coord.now in
    let s = state_view c.loop-response.coord in
    let old = g.P.Probe.lengths c.args.probe.now in
    let now = g.P.Probe.lengths c.loop-response.probe in
    let one = c.in-Some.response in
    let rest = c.next.new.self.rest.items in
    let left = subst (AreLeft r W n start s old now) c.in-Some.ensures.steps.0 c.loop-response.invariant in
    let spelled = subst (λ bytes. Spells bytes (message_view c.in_ok-message.message)) c.deref.ensures.value c.in_ok-message.ensures in
    rest_left c.telling_laws.ensures r W c.requires.askable.limits n start s old now one rest c.requires.hearing left (state_view c.take.new.self) (g.P.Probe.lengths c.message.new.self) _ c.len.result (message_view c.in_ok-message.message) spelled
    (ap (λ k. n + k) c.round.ensures) (c.len.ensures ∙ one.bytes.ok.0) c.message.ensures c.in_ok-take.ensures.kept c.in_ok-take.ensures.state

pub returns-clause-hearing : goal.returns-clause-hearing
returns-clause-hearing g c =
    let r = request_view c.args.request.now in
    let W = world_of (map arc_value c.args.generations.now) in
    let n = c.args.behind in
    let start = state_view c.args.coord.now in
    let s = state_view c.loop-response.coord in
    let old = g.P.Probe.lengths c.args.probe.now in
    let now = g.P.Probe.lengths c.loop-response.probe in
    let responses = c.loop-response.response-iterator.rest in
    let none = nil_from_length responses.items (sym responses.ok.0 ∙ c.in-None.ensures.steps.0) in
    let left = subst (AreLeft r W n start s old now) none c.loop-response.invariant in
    over_hears r W n start s old now c.requires.hearing left

pub returns-clause-told : goal.returns-clause-told
returns-clause-told g c =
    let r = request_view c.args.request.now in
    let W = world_of (map arc_value c.args.generations.now) in
    let n = c.args.behind in
    let start = state_view c.args.coord.now in
    let s = state_view c.loop-response.coord in
    let old = g.P.Probe.lengths c.args.probe.now in
    let now = g.P.Probe.lengths c.loop-response.probe in
    let responses = c.loop-response.response-iterator.rest in
    let none = nil_from_length responses.items (sym responses.ok.0 ∙ c.in-None.ensures.steps.0) in
    let left = subst (AreLeft r W n start s old now) none c.loop-response.invariant in
    over_told r W n start s old now c.requires.hearing left

pub returns-clause-fewer : goal.returns-clause-fewer
returns-clause-fewer g c =
    let r = request_view c.args.request.now in
    let W = world_of (map arc_value c.args.generations.now) in
    let n = c.args.behind in
    let start = state_view c.args.coord.now in
    let s = state_view c.loop-response.coord in
    let old = g.P.Probe.lengths c.args.probe.now in
    let now = g.P.Probe.lengths c.loop-response.probe in
    let responses = c.loop-response.response-iterator.rest in
    let none = nil_from_length responses.items (sym responses.ok.0 ∙ c.in-None.ensures.steps.0) in
    let left = subst (AreLeft r W n start s old now) none c.loop-response.invariant in
    over_fewer r W n start s old now c.requires.hearing left
