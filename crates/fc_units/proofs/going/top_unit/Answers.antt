use Rattle.std.proofs.Common.{rules, ◌≡◌, ◌<◌, length, map, sym, subst}
use Rattle.std.specs.Arc.{arc_value}
use Rattle.std.proofs.lemmas.List.{length-map}
use Rattle.fc_refine.specs.AskView.{ask_view}
use Rattle.fc_units.specs.Asked.{asked_count}
use Rattle.fc_units.proofs.Following.{stands_numbered, step_facet, top_unit_done}
use Rattle.fc_units.proofs.going.top_unit.Goals as goal

pub top_segment-requires : goal.top_segment-requires
top_segment-requires g c =
    let number : c.len-number.result ≡ length c.args.buckets.items = search (rules, c.len-number.ensures) in
    record {
      covers = c.requires.covers;
      number = subst (λ i. i < asked_count (ask_view c.args.ask.now)) (sym number) c.requires.number;
      names = c.requires.names;
      stands = stands_numbered (map arc_value c.args.segments.now) c.args.request.now (ask_view c.args.ask.now) c.len-number.result (length c.args.buckets.items) c.args.roots.items c.args.job number c.requires.stands;
      bases = c.requires.bases;
    }

pub top_followed-requires : goal.top_followed-requires
top_followed-requires g c =
    let number : c.len-number.result ≡ length c.args.buckets.items = search (rules, c.len-number.ensures) in
    record {
      names = c.requires.names;
      facet = step_facet (map arc_value c.args.segments.now) c.args.request.now (ask_view c.args.ask.now) c.len-number.result (length c.args.buckets.items) c.args.roots.items c.top_segment.new.roots.items c.args.job c.top_segment.new.job number c.requires.stands c.in_ok-top_segment.ensures.stepped;
    }

pub returns-clause-gone : goal.returns-clause-gone
returns-clause-gone g c =
    let number : c.len-number.result ≡ length c.args.buckets.items = search (rules, c.len-number.ensures) in
    top_unit_done (map arc_value c.args.segments.now) c.args.request.now (ask_view c.args.ask.now) c.len-number.result (length c.args.segments.now) c.args.roots.items c.top_segment.new.roots.items c.args.buckets.items c.args.job c.top_segment.new.job number
    (length-map c.args.segments.now arc_value) c.requires.within c.in_ok-top_segment.ensures.stepped c.top_followed.result c.top_followed.ensures
