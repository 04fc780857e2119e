use Rattle.std.proofs.Common.{◌≡◌, ◌∙◌, Option, Some, map, sym, ap, subst, is_some, option_map}
use Rattle.std.specs.BTreeMap.{is_at}
use Rattle.std.specs.Map.{lookup}
use Rattle.std.specs.Option.{IfSome}
use Rattle.std.proofs.lemmas.Map.Views.{IfSome-lookup_from_All}
use Rattle.fc_spec.specs.requests.Statistics as statistics
use Rattle.fc_base.specs.StatisticView.{stat_view}
use Rattle.fc_partial.specs.StatsView.{stats_view}
use Rattle.fc_partial.specs.Adding.{HasShape}
use Rattle.fc_partial.specs.TallyParts.{seen_at}
use Rattle.fc_partial.proofs.PartEntries.{seen_in, lookup-seen_in, put_there, put_shaped}
use Rattle.fc_partial.proofs.entries.combine_at.Goals as goal

pub combine-requires-clause-shaped : goal.combine-requires-clause-shaped
combine-requires-clause-shaped g c =
    let ss = map stat_view c.args.statistics.now in
    let there : lookup (is_at (g.K.Ord.cmp c.args.key.now)) (seen_at c.args.entries.now) ≡ Some (stats_view c.in-Some.there.now) =
    lookup-seen_in g.K.Ord.cmp c.args.entries.now.entries c.args.key.now ∙ ap (option_map stats_view) (sym c.in-Some.ensures.value) in
    subst (λ (o : Option statistics.Stats). IfSome o (HasShape ss)) there (IfSome-lookup_from_All (HasShape ss) (is_at (g.K.Ord.cmp c.args.key.now)) (seen_at c.args.entries.now) c.requires.part.shaped)

pub combine-requires-clause-fits : goal.combine-requires-clause-fits
combine-requires-clause-fits g c =
    c.requires.fits _ (lookup-seen_in g.K.Ord.cmp c.args.entries.now.entries c.args.key.now ∙ ap (option_map stats_view) (sym c.in-Some.ensures.value))

pub returns-in-Some-clause-there : goal.returns-in-Some-clause-there
returns-in-Some-clause-there g c =
    sym (ap is_some (lookup-seen_in g.K.Ord.cmp c.args.entries.now.entries c.args.key.now ∙ ap (option_map stats_view) (sym c.in-Some.ensures.value)))

pub returns-in-Some-clause-added : goal.returns-in-Some-clause-added
returns-in-Some-clause-added g c =
    let w = c.combine.new.self in
    ap seen_in (c.get_mut.follows.holds w).0
    ∙ put_there g.K.Ord.cmp g.met.K.Ord.total (map stat_view c.args.statistics.now) c.args.entries.now.entries c.args.key.now c.in-Some.there.now w (stats_view c.args.stats.now) c.get_mut.ensures.ordered (sym c.in-Some.ensures.value) c.combine.ensures.combined

pub returns-in-Some-clause-part : goal.returns-in-Some-clause-part
returns-in-Some-clause-part g c =
    let w = c.combine.new.self in
    record {
      ordered = (c.get_mut.follows.holds w).4;
      shaped = rw (returns-in-Some-clause-added g c) (put_shaped g.K.Ord.cmp (map stat_view c.args.statistics.now) (seen_at c.args.entries.now) c.args.key.now (stats_view c.args.stats.now) c.requires.part.shaped c.requires.shaped);
    }

pub returns-in-None-clause-there : goal.returns-in-None-clause-there
returns-in-None-clause-there g c =
    sym (ap is_some (lookup-seen_in g.K.Ord.cmp c.args.entries.now.entries c.args.key.now ∙ ap (option_map stats_view) (sym c.in-None.ensures.value)))
