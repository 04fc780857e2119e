use Rattle.std.proofs.Common.{◌∙◌, w64, sym, ap, rules}
use Rattle.std.proofs.lemmas.Int.{to_z-of_z}
use Rattle.fc_spec.specs.requests.Buckets.{value}
use Rattle.fc_base.specs.View.{val_view}
use Rattle.fc_base.specs.declared.value.Val.{Val}
use Rattle.fc_partial.specs.StatsView.{stats_view}
use Rattle.fc_partial.specs.Tallied.{Tallied}
use Rattle.fc_partial.specs.Tallying.{entry_at}
use Rattle.fc_partial.specs.TallyParts.{long_key, text_key}
use Rattle.fc_partial.proofs.TallyEntries.{at_text, with_text}
use Rattle.fc_partial.proofs.tally.Tally.add_val.Goals as goal

pub add_long-requires-clause-fits : goal.add_long-requires-clause-fits
add_long-requires-clause-fits c x found =
    let es = c.args.self.now.entries in
    c.requires.fits x (ap (λ (v : Val). entry_at es (value (val_view v))) c.in-Long.is ∙ ap (λ n. entry_at es (long_key n)) (sym (to_z-of_z w64 c.in-Long.number (search rules))) ∙ found)

pub add_at-requires-clause-fits : goal.add_at-requires-clause-fits
add_at-requires-clause-fits c x found =
    let es = c.args.self.now.entries in
    let t = c.in-Text.text in
    c.requires.fits x (ap (λ (v : Val). entry_at es (value (val_view v))) c.in-Text.is ∙ ap (λ (y : Tallied). entry_at y.entries (text_key t)) (sym c.self.view_is) ∙ at_text c.self.inside c.self.invariant t ∙ found)

pub returns-in_ok-add_at-in-Text-clause-ok : goal.returns-in_ok-add_at-in-Text-clause-ok
returns-in_ok-add_at-in-Text-clause-ok c =
    rw (← c.self.view_is, c.in-Text.is) (with_text c.self.inside c.self.invariant (stats_view c.args.stats.now) c.add_at.new.entries c.in-Text.text (rw c.deref.ensures.value at c.in_ok-add_at-in-Text.ensures.added))
