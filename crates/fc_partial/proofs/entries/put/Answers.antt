use Rattle.std.proofs.Common.{◌∙◌, map, ap}
use Rattle.fc_base.specs.StatisticView.{stat_view}
use Rattle.fc_partial.specs.StatsView.{stats_view}
use Rattle.fc_partial.specs.TallyParts.{seen_at}
use Rattle.fc_partial.proofs.PartEntries.{seen_in, put_new, put_shaped}
use Rattle.fc_partial.proofs.entries.put.Goals as goal

pub returns-clause-added : goal.returns-clause-added
returns-clause-added g c =
    ap seen_in c.in_ok-insert.ensures.entries
    ∙ put_new g.K.Ord.cmp (map stat_view c.args.statistics.now) c.args.entries.now.entries c.args.key c.in_ok-copy.copy (stats_view c.args.stats.now) c.in_ok-copy.ensures c.requires.absent

pub returns-clause-part : goal.returns-clause-part
returns-clause-part g c =
    let ss = map stat_view c.args.statistics.now in
    record {
      ordered = c.in_ok-insert.ensures.ordered;
      shaped = rw (returns-clause-added g c) (put_shaped g.K.Ord.cmp ss (seen_at c.args.entries.now) c.args.key (stats_view c.args.stats.now) c.requires.part.shaped c.requires.shaped);
    }
