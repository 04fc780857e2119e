use Rattle.std.proofs.Common.{◌<◌, length, map, sym, ◌∙◌, subst}
use Rattle.std.specs.Arc.{arc_value}
use Rattle.std.proofs.lemmas.List.{length-map}
use Rattle.fc_levels.specs.Jobs.{units_each}
use Rattle.fc_units.specs.Stepping.{IsOneFurther}
use Rattle.fc_units.proofs.LeastFollowing.{list_unit_done}
use Rattle.fc_units.proofs.leasts.list_unit.Goals as goal

pub list_segment-requires : goal.list_segment-requires
list_segment-requires g c = record {
  covers = c.requires.covers;
  stands = (c.requires.stands.0, c.requires.stands.1, c.requires.stands.2.job);
  base = c.deref.ensures.value ∙ c.requires.stands.2.so_far.base_is;
  bases = c.requires.bases;
}

pub list_followed-requires : goal.list_followed-requires
list_followed-requires g c = (
  c.requires.stands.0,
  map arc_value c.args.segments.now,
  c.args.request.now,
  c.requires.stands.1,
  c.in_ok-list_segment.ensures.stepped c.requires.stands.0 c.requires.stands.1 c.requires.stands.2.job,
)

pub returns-clause-gone : goal.returns-clause-gone
returns-clause-gone g c =
    let gs = map arc_value c.args.segments.now in
    let count = length-map c.args.segments.now arc_value in
    list_unit_done gs c.args.request.now (length c.args.segments.now) c.args.least.now c.args.lists c.list_segment.new.job count
    (subst (λ m. c.args.lists.job.at < units_each m) (sym count) c.requires.within) c.in_ok-list_segment.ensures.node c.in_ok-list_segment.ensures.stepped
    (subst (λ m. IsOneFurther m c.args.lists.job.at c.list_segment.new.job.at) (sym count) c.in_ok-list_segment.ensures.further) c.list_followed.result c.list_followed.ensures
