use Rattle.std.proofs.Common.{◌+◌, ◌<◌, ◌≤◌, ◌≡◌, length, map, refl, sym, ◌∙◌, subst, arith}
use Rattle.std.specs.Arc.{arc_value}
use Rattle.std.proofs.lemmas.List.{length-map}
use Rattle.fc_request.specs.FacetNode.{kind_of, kind_view}
use Rattle.fc_jobs.specs.Pieces.{pieces_in}
use Rattle.fc_units.specs.declared.leasts.ListJob.{ListJob}
use Rattle.fc_units.specs.Stepping.{IsOneFurther}
use Rattle.fc_units.proofs.Begun.{root_kind}
use Rattle.fc_units.proofs.LeastSteps.{list_add_up, list_bound, list_docs, list_long, list_node, list_root, list_stepped, root_kind_is}
use Rattle.fc_units.proofs.Segments.{base_here, limits_here, no_further, one_further, piece_at, within_list}
use Rattle.fc_units.proofs.leasts.list_segment.Goals as goal

pub returns-in_default-clause-stepped : goal.returns-in_default-clause-stepped
returns-in_default-clause-stepped g c = λ s can is. is

pub returns-in_default-clause-further : goal.returns-in_default-clause-further
returns-in_default-clause-further g c = no_further (length c.args.segments.now) c.args.job.now.at (omega (arith, c.in_default.ensures, length-map c.args.segments.now arc_value))

pub bounds-base-at : goal.bounds-base-at
bounds-base-at g c = list_bound c.requires.stands.0 _ _ _ _ _ c.in-Some.ensures c.requires.stands.1 c.requires.stands.2 c.args.base.now c.requires.base

pub facet_unit-requires-clause-covers : goal.facet_unit-requires-clause-covers
facet_unit-requires-clause-covers g c = c.requires.covers

pub facet_unit-requires-clause-base : goal.facet_unit-requires-clause-base
facet_unit-requires-clause-base g c = base_here c.requires.stands.0 _ _ _ _ _ c.in-Some.ensures c.requires.stands.1

pub facet_unit-requires-clause-limits : goal.facet_unit-requires-clause-limits
facet_unit-requires-clause-limits g c = limits_here c.requires.stands.0 _ _ _ _ _ c.in-Some.ensures c.requires.stands.1

pub facet_unit-requires-clause-around : goal.facet_unit-requires-clause-around
facet_unit-requires-clause-around g c =
    let can = c.requires.stands.1 in
    list_root c.requires.stands.0 _ _ _ _ _ c.in-Some.ensures can c.requires.stands.2 c.asked_node-root.result.now (c.asked_node-root.ensures.valid c.requires.stands.0 can.root can.valid)

pub facet_unit-requires-clause-key : goal.facet_unit-requires-clause-key
facet_unit-requires-clause-key g c = c.asked_node-root.ensures.key c.requires.stands.1.root

pub facet_unit-requires-clause-length : goal.facet_unit-requires-clause-length
facet_unit-requires-clause-length g c = list_long c.requires.stands.0 _ _ _ _ _ c.in-Some.ensures c.requires.stands.1 c.requires.stands.2 c.args.base.now c.requires.base _ c.index-base-at.is

pub facet_unit-requires-clause-node : goal.facet_unit-requires-clause-node
facet_unit-requires-clause-node g c = list_node c.requires.stands.0 _ _ _ _ _ c.in-Some.ensures c.requires.stands.1 c.requires.stands.2

pub facet_unit-requires-clause-kept : goal.facet_unit-requires-clause-kept
facet_unit-requires-clause-kept g c = (pieces_in (map arc_value c.args.segments.now), piece_at (map arc_value c.args.segments.now) c.args.job.now.at c.in-Some.segment.now _ c.in-Some.ensures, c.requires.bases)

pub facet_unit-requires-clause-stats : goal.facet_unit-requires-clause-stats
facet_unit-requires-clause-stats g c = c.requires.stands.2.counted.tally.stats

pub facet_unit-requires-clause-add_up : goal.facet_unit-requires-clause-add_up
facet_unit-requires-clause-add_up g c =
    let can = c.requires.stands.1 in
    let kind = root_kind_is c.args.request.now.root c.asked_node-root.result.now c.asked_node-root.ensures.facet (root_kind c.args.request.now.root can.root) in
    list_add_up c.requires.stands.0 _ _ _ _ _ c.in-Some.ensures can c.requires.stands.2 _
    (list_docs c.requires.stands.0 _ _ _ _ _ c.in-Some.ensures can c.requires.stands.2 c.args.base.now c.requires.base (kind_view (kind_of c.asked_node-root.result.now)) _ kind c.index-base-at.is)

pub returns-in_err-facet_unit-clause-bases : goal.returns-in_err-facet_unit-clause-bases
returns-in_err-facet_unit-clause-bases g c = c.facet_unit.ensures.kept _ (piece_at (map arc_value c.args.segments.now) c.args.job.now.at c.in-Some.segment.now _ c.in-Some.ensures) c.requires.bases

pub returns-clause-bases : goal.returns-clause-bases
returns-clause-bases g c = c.facet_unit.ensures.kept _ (piece_at (map arc_value c.args.segments.now) c.args.job.now.at c.in-Some.segment.now _ c.in-Some.ensures) c.requires.bases

pub returns-clause-stepped : goal.returns-clause-stepped
returns-clause-stepped g c =
    let after : ListJob = record c.args.job.now { at = c.args.job.now.at + 1; tally = c.facet_unit.new.tally } in
    λ s can is.
    let kind = root_kind_is c.args.request.now.root c.asked_node-root.result.now c.asked_node-root.ensures.facet (root_kind c.args.request.now.root can.root) in
    list_stepped s _ _ _ _ _ c.in-Some.ensures can is after _
    (c.in_ok-facet_unit.ensures.set ∙ list_docs s _ _ _ _ _ c.in-Some.ensures can is c.args.base.now c.requires.base (kind_view (kind_of c.asked_node-root.result.now)) _ kind c.index-base-at.is) refl refl c.in_ok-facet_unit.ensures.collected

pub returns-clause-further : goal.returns-clause-further
returns-clause-further g c =
    let within : c.args.job.now.at < length (map arc_value c.args.segments.now) = within_list c.args.job.now.at c.in-Some.segment.now (map arc_value c.args.segments.now) _ c.in-Some.ensures in
    one_further (length c.args.segments.now) c.args.job.now.at (omega (arith, within, length-map c.args.segments.now arc_value))
