use Rattle.std.proofs.Common.{rules, ◌≡◌, ◌<◌, length, map, sym, subst}
use Rattle.std.specs.Arc.{arc_value}
use Rattle.std.proofs.lemmas.List.{length-map}
use Rattle.fc_spec.specs.documents.Schema.{Schema}
use Rattle.fc_refine.specs.AskView.{ask_view}
use Rattle.fc_units.specs.Asked.{asked_count}
use Rattle.fc_units.specs.Stepping.{IsFacetStep, StandsAtFacet}
use Rattle.fc_units.proofs.Following.{facet_steps, facet_unit_done, stands_in, stepped_facet}
use Rattle.fc_units.proofs.going.facet_unit_done.Goals as goal

pub facet_segment-requires : goal.facet_segment-requires
facet_segment-requires g c =
    let number : c.len-number.result ≡ length c.args.buckets.items = search (rules, c.len-number.ensures) in
    let ask = ask_view c.args.ask.now in
    record {
      covers = c.requires.covers;
      number = subst (λ i. i < asked_count ask) (sym number) c.requires.number;
      names = c.requires.names;
      stands = subst (λ i. (s : Schema) × StandsAtFacet s (map arc_value c.args.segments.now) c.args.request.now ask i c.deref.result.now c.args.job) (sym number)
          (stands_in (map arc_value c.args.segments.now) c.args.request.now ask (length c.args.buckets.items) c.args.levels.items c.deref.result.now c.args.job c.deref.ensures.value c.requires.stands);
      bases = c.requires.bases;
    }

pub facet_followed-requires : goal.facet_followed-requires
facet_followed-requires g c =
    let number : c.len-number.result ≡ length c.args.buckets.items = search (rules, c.len-number.ensures) in
    let ask = ask_view c.args.ask.now in
    record {
      names = c.requires.names;
      stands = stepped_facet (map arc_value c.args.segments.now) c.args.request.now ask (length c.args.buckets.items) c.args.levels.items c.deref.result.now c.args.job c.facet_segment.new.job c.deref.ensures.value c.requires.stands
          (subst (λ i. (s : Schema) → StandsAtFacet s (map arc_value c.args.segments.now) c.args.request.now ask i c.deref.result.now c.args.job
          → IsFacetStep s (map arc_value c.args.segments.now) c.args.request.now ask i c.deref.result.now c.args.job c.facet_segment.new.job) number c.in_ok-facet_segment.ensures.stepped);
    }

pub returns-clause-gone : goal.returns-clause-gone
returns-clause-gone g c =
    let number : c.len-number.result ≡ length c.args.buckets.items = search (rules, c.len-number.ensures) in
    let ask = ask_view c.args.ask.now in
    facet_unit_done (map arc_value c.args.segments.now) c.args.request.now ask (length c.args.segments.now) c.args.roots.items c.args.buckets.items c.args.levels.items c.args.job c.facet_segment.new.job
    (length-map c.args.segments.now arc_value) c.requires.within
    (facet_steps (map arc_value c.args.segments.now) c.args.request.now ask (length c.args.buckets.items) c.args.levels.items c.deref.result.now c.args.job c.facet_segment.new.job c.deref.ensures.value
    (subst (λ i. (s : Schema) → StandsAtFacet s (map arc_value c.args.segments.now) c.args.request.now ask i c.deref.result.now c.args.job
    → IsFacetStep s (map arc_value c.args.segments.now) c.args.request.now ask i c.deref.result.now c.args.job c.facet_segment.new.job) number c.in_ok-facet_segment.ensures.stepped)) c.facet_followed.result c.facet_followed.ensures
