use Rattle.std.proofs.Common.{◌∙◌, option_map, int_cmp, refl, sym, ap}
use Rattle.fc_spec.specs.documents.Val.{text_cmp}
use Rattle.fc_partial.specs.StatsView.{stats_view}
use Rattle.fc_partial.proofs.PartEntries.{lookup-seen_in}
use Rattle.fc_partial.proofs.TallyEntries.{at_long, at_text, is_tally, seen_copied}
use Rattle.fc_partial.proofs.tally.Tally.get_val.Goals as goal

pub returns-in-Long-clause-found : goal.returns-in-Long-clause-found
returns-in-Long-clause-found c =
    let n = c.in-Long.number in
    rw (← c.self.view_is, c.in-Long.is) (seen_copied c.get.result ∙ ap (option_map stats_view) c.get.ensures.value
    ∙ sym (at_long c.self.inside c.self.invariant n n refl ∙ lookup-seen_in int_cmp c.self.inside.longs.entries n))

pub returns-in-Long-clause-tally : goal.returns-in-Long-clause-tally
returns-in-Long-clause-tally c = rw (← c.self.view_is) (is_tally c.self.inside c.self.invariant)

pub returns-in-Text-clause-found : goal.returns-in-Text-clause-found
returns-in-Text-clause-found c =
    let t = c.in-Text.text in
    rw (← c.self.view_is, c.in-Text.is) (seen_copied c.get-in-Text.result ∙ ap (option_map stats_view) c.get-in-Text.ensures.value
    ∙ sym (at_text c.self.inside c.self.invariant t ∙ lookup-seen_in text_cmp c.self.inside.texts.entries t))

pub returns-in-Text-clause-tally : goal.returns-in-Text-clause-tally
returns-in-Text-clause-tally c = rw (← c.self.view_is) (is_tally c.self.inside c.self.invariant)
