use Rattle.std.proofs.Common.{◌≡◌, ◌++◌, length, map, sym, ap, ◌∙◌}
use Rattle.fc_spec.specs.scripts.SearchLines.{sent_for, text_of}
use Rattle.fc_work.specs.Ends.{ends_of, nothing, with_ends}
use Rattle.fc_work.specs.Opened.{start_in}
use Rattle.fc_work.specs.Phased.{readers_in}
use Rattle.fc_work.specs.Woven.{woven_by}
use Rattle.fc_work.proofs.Phases.{asks_can, orders_below, phase_ended, phase_woven, readers_ready, within_lines}
use Rattle.fc_work.proofs.phase.run_searches.Goals as goal

pub work-worked-requires-clause-ready : goal.work-worked-requires-clause-ready
work-worked-requires-clause-ready g c κs within = readers_ready c.args.openings.items c.requires.some c.requires.schema c.requires.limits

pub work-worked-requires-clause-sessions : goal.work-worked-requires-clause-sessions
work-worked-requires-clause-sessions g c κs within =
    orders_below (length c.args.names.now) (readers_in c.args.openings.items) c.args.searches.items c.deref-2.result.now (c.deref-2.ensures.value ∙ c.in_ok-order.ensures.order) c.requires.searches

pub work-worked-requires-clause-ask : goal.work-worked-requires-clause-ask
work-worked-requires-clause-ask g c κs within =
    asks_can (length c.args.names.now) (readers_in c.args.openings.items) c.args.searches.items c.in_ok-order.field-0.asked.items c.in_ok-order.ensures.asked c.requires.searches

pub finish-requires : goal.finish-requires
finish-requires g c calm =
    let os = c.args.openings.items in
    let n = length c.args.names.now in
    let ws = c.work-worked.new.workers.items in
    let begun : ends_of c.in_ok-ended.ended ≡ nothing (map start_in os) n =
    c.in_ok-ended.ensures.none ∙ ap (λ gs. nothing gs n) (c.in_ok-starts_of.ensures ∙ ap (map start_in) c.deref.ensures.value) in
    within_lines c.take_all.new.self ws (map start_in os) n c.deref-3.result.now ((c.take_all.ensures.taken calm).2 ∙ ap (with_ends ws) begun)
    (orders_below n (readers_in os) c.args.searches.items c.deref-3.result.now (c.deref-3.ensures.value ∙ c.in_ok-order.ensures.order) c.requires.searches)

pub returns-clause-generations : goal.returns-clause-generations
returns-clause-generations g c =
    let os = c.args.openings.items in
    let n = length c.args.names.now in
    let ws = c.work-worked.new.workers.items in
    let begun : ends_of c.in_ok-ended.ended ≡ nothing (map start_in os) n =
    c.in_ok-ended.ensures.none ∙ ap (λ gs. nothing gs n) (c.in_ok-starts_of.ensures ∙ ap (map start_in) c.deref.ensures.value) in
    let taken = c.take_all.ensures.taken c.in_ok-end.ensures.calm in
    c.in_ok-end.ensures.generations
    ∙ phase_ended os c.args.names.now c.args.searches.items c.deref-2.result.now c.in_ok-order.field-0.asked.items ws (ends_of c.in_ok-ended.ended) (ends_of c.take_all.new.self) begun taken.2 c.in_ok-worked.ensures taken.1
    c.requires.numbered

pub returns-clause-text : goal.returns-clause-text
returns-clause-text g c phase =
    let os = c.args.openings.items in
    let n = length c.args.names.now in
    let ws = c.work-worked.new.workers.items in
    let begun : ends_of c.in_ok-ended.ended ≡ nothing (map start_in os) n =
    c.in_ok-ended.ensures.none ∙ ap (λ gs. nothing gs n) (c.in_ok-starts_of.ensures ∙ ap (map start_in) c.deref.ensures.value) in
    let taken = c.take_all.ensures.taken c.in_ok-end.ensures.calm in (
      woven_by (ends_of c.take_all.new.self).lines c.deref-2.result.now,
      c.in_ok-end.ensures.text ∙ ap (λ order. c.args.text.now.items ++ text_of (woven_by (ends_of c.take_all.new.self).lines order)) (c.deref-3.ensures.value ∙ sym c.deref-2.ensures.value),
      c.in_ok-end.ensures.sent ∙ ap (λ order. sent_for (woven_by (ends_of c.take_all.new.self).lines order)) (c.deref-3.ensures.value ∙ sym c.deref-2.ensures.value),
      phase_woven c.phases_write_outputs.ensures.sessions os c.args.names.now c.args.searches.items c.deref-2.result.now c.in_ok-order.field-0.asked.items ws (ends_of c.in_ok-ended.ended) (ends_of c.take_all.new.self) phase begun taken.2
          (c.deref-2.ensures.value ∙ c.in_ok-order.ensures.order) c.in_ok-order.ensures.asked c.in_ok-worked.ensures taken.1 c.requires.different c.requires.searches,
    )
