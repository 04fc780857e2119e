use Rattle.std.proofs.Common.{◌<◌, length, map, subst}
use Rattle.std.specs.Arc.{arc_value}
use Rattle.fc_refine.specs.AskView.{ask_view}
use Rattle.fc_levels.specs.Jobs.{units_each}
use Rattle.fc_units.specs.Built.{done_in}
use Rattle.fc_units.proofs.Following.{built_facet, built_top, facet_number, stands_facet, stands_top, top_number}
use Rattle.fc_units.proofs.going.unit_done.Goals as goal

pub top_unit-requires : goal.top_unit-requires
top_unit-requires g c = record {
  covers = c.requires.covers;
  number = top_number c.requires.built.0 (map arc_value c.args.segments.now) c.args.request.now (ask_view c.args.ask.now) c.args.building c.requires.built.1 c.in-Top.job c.in-Top.is;
  names = c.requires.names;
  stands = (c.requires.built.0, stands_top c.requires.built.0 (map arc_value c.args.segments.now) c.args.request.now (ask_view c.args.ask.now) c.args.building c.requires.built.1 c.in-Top.job c.in-Top.is);
  within = subst (λ j. done_in j < units_each (length c.args.segments.now)) c.in-Top.is c.requires.within;
  bases = c.requires.bases;
}

pub returns-in-Top-clause-gone : goal.returns-in-Top-clause-gone
returns-in-Top-clause-gone g c = built_top (map arc_value c.args.segments.now) c.args.request.now (ask_view c.args.ask.now) c.args.building c.in-Top.job c.in-Top.is c.top_unit.result c.top_unit.ensures.gone

pub facet_unit_done-requires : goal.facet_unit_done-requires
facet_unit_done-requires g c = record {
  covers = c.requires.covers;
  number = facet_number c.requires.built.0 (map arc_value c.args.segments.now) c.args.request.now (ask_view c.args.ask.now) c.args.building c.requires.built.1 c.in-Facet.job c.in-Facet.is;
  names = c.requires.names;
  stands = (c.requires.built.0, stands_facet c.requires.built.0 (map arc_value c.args.segments.now) c.args.request.now (ask_view c.args.ask.now) c.args.building c.requires.built.1 c.in-Facet.job c.in-Facet.is);
  within = subst (λ j. done_in j < units_each (length c.args.segments.now)) c.in-Facet.is c.requires.within;
  bases = c.requires.bases;
}

pub returns-clause-gone : goal.returns-clause-gone
returns-clause-gone g c = built_facet (map arc_value c.args.segments.now) c.args.request.now (ask_view c.args.ask.now) c.args.building c.in-Facet.job c.in-Facet.is c.facet_unit_done.result c.facet_unit_done.ensures.gone
