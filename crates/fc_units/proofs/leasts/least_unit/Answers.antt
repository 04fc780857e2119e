use Rattle.std.proofs.Common.{◌<◌, length, map, subst}
use Rattle.std.specs.Arc.{arc_value}
use Rattle.fc_levels.specs.Jobs.{units_each}
use Rattle.fc_units.specs.Leasts.{least_done}
use Rattle.fc_units.proofs.LeastFollowing.{built_lists, built_root, stands_lists, stands_root}
use Rattle.fc_units.proofs.leasts.least_unit.Goals as goal

pub root_unit-requires : goal.root_unit-requires
root_unit-requires g c = record {
  covers = c.requires.covers;
  stands = (c.requires.built.0, stands_root c.requires.built.0 (map arc_value c.args.segments.now) c.args.request.now c.args.least.now c.args.building c.in-Root.job c.in-Root.is c.requires.built.1);
  within = subst (λ b. least_done b < units_each (length c.args.segments.now)) c.in-Root.is c.requires.within;
  bases = c.requires.bases;
}

pub returns-in-Root-clause-gone : goal.returns-in-Root-clause-gone
returns-in-Root-clause-gone g c = built_root (map arc_value c.args.segments.now) c.args.request.now c.args.least.now c.args.building c.in-Root.job c.in-Root.is c.root_unit.result c.root_unit.ensures.gone

pub list_unit-requires : goal.list_unit-requires
list_unit-requires g c = record {
  covers = c.requires.covers;
  stands = (
    c.requires.built.0,
    c.requires.built.1.can,
    stands_lists c.requires.built.0 (map arc_value c.args.segments.now) c.args.request.now c.args.least.now c.args.building c.in-Facets.lists c.in-Facets.is c.requires.built.1,
  );
  within = subst (λ b. least_done b < units_each (length c.args.segments.now)) c.in-Facets.is c.requires.within;
  bases = c.requires.bases;
}

pub returns-in-Facets-clause-gone : goal.returns-in-Facets-clause-gone
returns-in-Facets-clause-gone g c = built_lists (map arc_value c.args.segments.now) c.args.request.now c.args.least.now c.args.building c.in-Facets.lists c.in-Facets.is c.list_unit.result c.list_unit.ensures.gone
