use Rattle.std.proofs.Common.{◌∙◌, option_map, sym, ap}
use Rattle.fc_partial.specs.StatsView.{stats_view}
use Rattle.fc_partial.specs.KeyLaws.{code_cmp}
use Rattle.fc_partial.proofs.PartEntries.{lookup-seen_in}
use Rattle.fc_partial.proofs.TallyEntries.{at_other, beyond_from, is_tally, seen_copied}
use Rattle.fc_partial.proofs.tally.Tally.get.Goals as goal

pub returns-in_default-clause-found : goal.returns-in_default-clause-found
returns-in_default-clause-found c =
    let k = c.args.key.now in
    rw (← c.self.view_is) (seen_copied c.get.result ∙ ap (option_map stats_view) c.get.ensures.value
    ∙ sym (at_other c.self.inside c.self.invariant k (beyond_from k c.in_default.not-Value) ∙ lookup-seen_in code_cmp c.self.inside.others.entries k))

pub returns-in_default-clause-tally : goal.returns-in_default-clause-tally
returns-in_default-clause-tally c = rw (← c.self.view_is) (is_tally c.self.inside c.self.invariant)
