use Rattle.std.proofs.Common.{◌∙◌, map, sym, ap}
use Rattle.fc_base.specs.StatisticView.{stat_view}
use Rattle.fc_partial.specs.View.{key_view}
use Rattle.fc_partial.specs.StatsView.{stats_view}
use Rattle.fc_partial.specs.Tallied.{Tallied}
use Rattle.fc_partial.specs.Tallying.{entry_at}
use Rattle.fc_partial.specs.TallyParts.{IsBeyond}
use Rattle.fc_partial.specs.declared.key.Key.{Key}
use Rattle.fc_partial.proofs.TallyEntries.{adds_when, at_other, beyond_from, with_other, still_beyond}
use Rattle.fc_partial.proofs.tally.Tally.add.Goals as goal

pub add_val-requires-clause-fits : goal.add_val-requires-clause-fits
add_val-requires-clause-fits c x found = c.requires.fits x (ap (λ (k : Key). entry_at c.args.self.now.entries (key_view k)) c.in-Value.is ∙ found)

pub add_at-requires-clause-fits : goal.add_at-requires-clause-fits
add_at-requires-clause-fits c x found =
    let k = c.args.key in
    c.requires.fits x (ap (λ (y : Tallied). entry_at y.entries (key_view k)) (sym c.self.view_is) ∙ at_other c.self.inside c.self.invariant k (beyond_from k c.in_default.not-Value) ∙ found)

pub add_at-requires-clause-part : goal.add_at-requires-clause-part
add_at-requires-clause-part c = rw c.deref.ensures.value c.self.invariant.others

pub invariant_of-self : goal.invariant_of-self
invariant_of-self c =
    let k = c.args.key in
    let ss = map stat_view c.self.inside.stats.items in
    let b : IsBeyond (key_view k) = beyond_from k c.in_default.not-Value in
    record {
      longs = c.self.invariant.longs;
      texts = c.self.invariant.texts;
      others = rw c.deref.ensures.value at c.in_ok-add_at-in_default.ensures.part;
      beyond = still_beyond ss c.self.inside.others c.add_at.new.entries k (stats_view c.args.stats.now) b (rw c.deref.ensures.value at c.in_ok-add_at-in_default.ensures.added) c.self.invariant.beyond;
    }

pub returns-in_ok-add_val-in-Value-clause-keys : goal.returns-in_ok-add_val-in-Value-clause-keys
returns-in_ok-add_val-in-Value-clause-keys c =
    adds_when c.args.self.now _ (key_view c.args.key) (stats_view c.args.stats.now) (rw c.in-Value.is c.in_ok-add_val-in-Value.ensures.ok)

pub returns-in_ok-add_at-in_default-clause-ok : goal.returns-in_ok-add_at-in_default-clause-ok
returns-in_ok-add_at-in_default-clause-ok c =
    let k = c.args.key in
    let b : IsBeyond (key_view k) = beyond_from k c.in_default.not-Value in
    rw (← c.self.view_is) (with_other c.self.inside c.self.invariant (stats_view c.args.stats.now) c.add_at.new.entries k b (rw c.deref.ensures.value at c.in_ok-add_at-in_default.ensures.added))

pub returns-in_ok-add_at-in_default-clause-keys : goal.returns-in_ok-add_at-in_default-clause-keys
returns-in_ok-add_at-in_default-clause-keys c = adds_when c.args.self.now _ (key_view c.args.key) (stats_view c.args.stats.now) (returns-in_ok-add_at-in_default-clause-ok c)
