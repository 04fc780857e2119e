use Rattle.std.proofs.Common.{rules, ◌≡◌}
use Rattle.std.specs.Arc.{arc_value}
use Rattle.fc_store.specs.Rule.{content}
use Rattle.fc_store.proofs.NextGeneration.{started}
use Rattle.fc_store.proofs.writer.ShardWriter.open.Goals as goal

pub bind-writer-requires-clause-charted : goal.bind-writer-requires-clause-charted
bind-writer-requires-clause-charted g c =
    let shown = c.in_ok-writer.writer.desk.shown.value in
    let charter : shown.charter ≡ c.args.charter = search rules in
    let start : arc_value shown.generation ≡ c.args.charter.start = search rules in
    started (content shown) c.args.charter charter start c.start.ensures.begun
