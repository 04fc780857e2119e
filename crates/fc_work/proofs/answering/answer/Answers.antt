use Rattle.std.proofs.Common.{◌≡◌, map, sym, ◌∙◌, ap, subst}
use Rattle.std.specs.Arc.{arc_value}
use Rattle.fc_spec.specs.messages.WholeTrace.{whole_trace}
use Rattle.fc_spec.specs.replies.Replied.{replied}
use Rattle.fc_spec.specs.requests.ValidRequests.{IsValidRequest}
use Rattle.fc_spec.specs.scripts.Lines.{reply_line as line_of_reply}
use Rattle.fc_spec.specs.scripts.PinnedWorlds.{AreBetween, world_at}
use Rattle.fc_spec.specs.scripts.WorldLimits.{IsWithinLimits}
use Rattle.fc_request.specs.RequestView.{request_view}
use Rattle.fc_hooks.specs.ProbeTable.{lengths_in}
use Rattle.fc_round.specs.Askable.{world_of}
use Rattle.fc_search.specs.Schemas.{AreSame}
use Rattle.fc_work.specs.Pinned.{charters_of, having, least_of, most_of, numbers_in, starts_of}
use Rattle.fc_work.proofs.Listed.{listed_trace}
use Rattle.fc_work.proofs.Pins.{all_pinned, pinned_after, pinned_between, pinned_from_start, pinned_schemas, pinned_world, same_schemas}
use Rattle.fc_work.proofs.answering.answer.Goals as goal

pub search-requires-clause-valid : goal.search-requires-clause-valid
search-requires-clause-valid g c κs within =
    let rs = c.args.readers.now in
    let gs = map arc_value c.in_ok-generations.generations.items in
    let ss = c.pin_all.new.readers in
    rw c.deref-2.ensures.value
    (pinned_schemas (λ s. IsValidRequest s (request_view c.args.request.now)) rs gs ss (all_pinned rs gs ss c.in_ok-generations.ensures.pinned) c.requires.valid)

pub search-requires-clause-schema : goal.search-requires-clause-schema
search-requires-clause-schema g c κs within =
    let rs = c.args.readers.now in
    let gs = map arc_value c.in_ok-generations.generations.items in
    let ss = c.pin_all.new.readers in
    rw c.deref-2.ensures.value
    (subst AreSame (sym (same_schemas rs gs ss (all_pinned rs gs ss c.in_ok-generations.ensures.pinned))) c.requires.schema)

pub search-requires-clause-limits : goal.search-requires-clause-limits
search-requires-clause-limits g c κs within =
    let rs = c.args.readers.now in
    let gs = map arc_value c.in_ok-generations.generations.items in
    let ss = c.pin_all.new.readers in
    rw c.deref-2.ensures.value
    (subst IsWithinLimits (sym (pinned_world rs gs ss (all_pinned rs gs ss c.in_ok-generations.ensures.pinned)))
    (c.first_batches_are_within.ensures (charters_of rs) (numbers_in gs) c.requires.limits))

pub returns-clause-line : goal.returns-clause-line
returns-clause-line g c =
    let rs = c.args.readers.now in
    let gs = map arc_value c.in_ok-generations.generations.items in
    let ss = c.pin_all.new.readers in
    let all = all_pinned rs gs ss c.in_ok-generations.ensures.pinned in
    let numbers : c.in_ok-numbers.numbers.items ≡ numbers_in gs = c.in_ok-numbers.ensures ∙ ap (λ hs. numbers_in (map arc_value hs)) c.deref.ensures.value in
    let world : world_of (map arc_value c.deref-2.result.now) ≡ world_at (charters_of rs) c.in_ok-numbers.numbers.items =
    ap (λ hs. world_of (map arc_value hs)) c.deref-2.ensures.value ∙ pinned_world rs gs ss all ∙ ap (world_at (charters_of rs)) (sym numbers) in
    c.in_ok-line.ensures
    ∙ (λ i. line_of_reply ((c.in_ok-reply.ensures.reply ∙ ap (replied (request_view c.args.request.now)) world) i) (c.deref-3.ensures.value i) c.args.session.now)

pub returns-clause-sent : goal.returns-clause-sent
returns-clause-sent g c =
    let r = request_view c.args.request.now in
    let rs = c.args.readers.now in
    let gs = map arc_value c.in_ok-generations.generations.items in
    let ss = c.pin_all.new.readers in
    let numbers : c.in_ok-numbers.numbers.items ≡ numbers_in gs = c.in_ok-numbers.ensures ∙ ap (λ hs. numbers_in (map arc_value hs)) c.deref.ensures.value in
    let world : world_of (map arc_value c.deref-2.result.now) ≡ world_at (charters_of rs) c.in_ok-numbers.numbers.items =
    ap (λ hs. world_of (map arc_value hs)) c.deref-2.ensures.value ∙ pinned_world rs gs ss (all_pinned rs gs ss c.in_ok-generations.ensures.pinned) ∙ ap (world_at (charters_of rs)) (sym numbers) in
    c.in_ok-sent.ensures
    ∙ listed_trace c.whole_traces_are_maps.ensures.listed r (world_of (map arc_value c.deref-2.result.now)) rs (lengths_in c.new-probe.result) (lengths_in c.search.new.probe) c.requires.some c.requires.valid
    (subst IsWithinLimits (sym world) (c.first_batches_are_within.ensures (charters_of rs) c.in_ok-numbers.numbers.items c.requires.limits))
    c.new-probe.ensures c.in_ok-reply.ensures.trace
    ∙ ap (whole_trace r) world

pub returns-clause-between : goal.returns-clause-between
returns-clause-between g c =
    let rs = c.args.readers.now in
    let gs = map arc_value c.in_ok-generations.generations.items in
    let ss = c.pin_all.new.readers in
    let numbers : c.in_ok-numbers.numbers.items ≡ numbers_in gs = c.in_ok-numbers.ensures ∙ ap (λ hs. numbers_in (map arc_value hs)) c.deref.ensures.value in
    subst (AreBetween (least_of rs) (most_of rs)) (sym numbers) (pinned_between rs gs ss (all_pinned rs gs ss c.in_ok-generations.ensures.pinned))

pub returns-clause-started : goal.returns-clause-started
returns-clause-started g c =
    let rs = c.args.readers.now in
    let gs = map arc_value c.in_ok-generations.generations.items in
    let ss = c.pin_all.new.readers in
    let numbers : c.in_ok-numbers.numbers.items ≡ numbers_in gs = c.in_ok-numbers.ensures ∙ ap (λ hs. numbers_in (map arc_value hs)) c.deref.ensures.value in
    subst (AreBetween (starts_of rs) (most_of rs)) (sym numbers) (pinned_from_start rs gs ss (all_pinned rs gs ss c.in_ok-generations.ensures.pinned))

pub returns-clause-pinned : goal.returns-clause-pinned
returns-clause-pinned g c =
    let rs = c.args.readers.now in
    let gs = map arc_value c.in_ok-generations.generations.items in
    let ss = c.pin_all.new.readers in
    let numbers : c.in_ok-numbers.numbers.items ≡ numbers_in gs = c.in_ok-numbers.ensures ∙ ap (λ hs. numbers_in (map arc_value hs)) c.deref.ensures.value in
    pinned_after rs gs ss (all_pinned rs gs ss c.in_ok-generations.ensures.pinned) ∙ ap (having rs) (sym numbers)
