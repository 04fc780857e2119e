use Rattle.std.proofs.Common.{◌<◌, length, map, sym, subst}
use Rattle.std.specs.Arc.{arc_value}
use Rattle.std.proofs.lemmas.List.{length-map}
use Rattle.fc_spec.specs.messages.Message.{first}
use Rattle.fc_levels.specs.Jobs.{units_each}
use Rattle.fc_units.specs.Stepping.{StandsAtTop}
use Rattle.fc_units.proofs.LeastFollowing.{root_unit_done}
use Rattle.fc_units.proofs.leasts.root_unit.Goals as goal

pub top_segment-requires-clause-stands : goal.top_segment-requires-clause-stands
top_segment-requires-clause-stands g c =
    (c.requires.stands.0, subst (λ rs. StandsAtTop c.requires.stands.0 (map arc_value c.args.segments.now) c.args.request.now first 0 rs c.args.job) (sym c.new-roots.ensures.items) c.requires.stands.1)

pub returns-clause-gone : goal.returns-clause-gone
returns-clause-gone g c =
    let gs = map arc_value c.args.segments.now in
    root_unit_done gs c.args.request.now (length c.args.segments.now) c.top_segment.new.roots.items c.args.job c.top_segment.new.job (length-map c.args.segments.now arc_value)
    (subst (λ m. c.args.job.at < units_each m) (sym (length-map c.args.segments.now arc_value)) c.requires.within)
    (λ s st. c.in_ok-top_segment.ensures.stepped s (subst (λ rs. StandsAtTop s gs c.args.request.now first 0 rs c.args.job) (sym c.new-roots.ensures.items) st)) c.root_followed.result c.root_followed.ensures
