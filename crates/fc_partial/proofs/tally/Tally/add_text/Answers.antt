use Rattle.std.proofs.Common.{◌∙◌, sym, ap}
use Rattle.fc_partial.specs.StatsView.{stats_view}
use Rattle.fc_partial.specs.Tallied.{Tallied}
use Rattle.fc_partial.specs.Tallying.{entry_at}
use Rattle.fc_partial.specs.TallyParts.{text_key}
use Rattle.fc_partial.proofs.TallyEntries.{adds_when, at_text, with_text}
use Rattle.fc_partial.proofs.tally.Tally.add_text.Goals as goal

pub combine_at-requires-clause-fits : goal.combine_at-requires-clause-fits
combine_at-requires-clause-fits c x found =
    let t = c.args.text.now in
    c.requires.fits x (ap (λ (y : Tallied). entry_at y.entries (text_key t)) (sym c.self.view_is) ∙ at_text c.self.inside c.self.invariant t ∙ found)

pub returns-then-combine_at-clause-ok : goal.returns-then-combine_at-clause-ok
returns-then-combine_at-clause-ok c =
    rw (← c.self.view_is) (with_text c.self.inside c.self.invariant (stats_view c.args.stats.now) c.combine_at.new.entries c.args.text.now (rw c.deref.ensures.value at c.if-combine_at.ensures.added))

pub returns-then-combine_at-clause-keys : goal.returns-then-combine_at-clause-keys
returns-then-combine_at-clause-keys c = adds_when c.args.self.now _ (text_key c.args.text.now) (stats_view c.args.stats.now) (returns-then-combine_at-clause-ok c)

pub returns-clause-ok : goal.returns-clause-ok
returns-clause-ok c =
    rw (← c.self.view_is, ← c.in_ok-name.ensures) (with_text c.self.inside c.self.invariant (stats_view c.args.stats.now) c.put.new.entries c.in_ok-name.name
    (rw (c.deref-2.ensures.value, c.if-combine_at.ensures.same) at c.in_ok-put.ensures.added))

pub returns-clause-keys : goal.returns-clause-keys
returns-clause-keys c = adds_when c.args.self.now _ (text_key c.args.text.now) (stats_view c.args.stats.now) (returns-clause-ok c)
