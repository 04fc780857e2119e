use Rattle.std.proofs.Common.{◌∙◌, ap, sym}
use Rattle.fc_told.specs.Parts.{forks_view}
use Rattle.fc_told.specs.declared.tree.ToldBucket.{out-roll-ToldBucket}
use Rattle.fc_told.proofs.Adds.{numbers_put, forks_are}
use Rattle.fc_told.proofs.adding.add_teller.Goals as goal

pub returns : goal.returns
returns c =
    let b = c.args.told.now in
    numbers_put b _ c.args.shard c.args.teller _
    (simp out-roll-ToldBucket (simp out-roll-ToldBucket at c.in_ok-insert.ensures.entries))
    (simp out-roll-ToldBucket c.saturating_add-told.ensures)
    (ap (λ r. r.sizes.items) (out-roll-ToldBucket _) ∙ ap (λ r. r.sizes.items) (out-roll-ToldBucket _) ∙ c.in_ok-add_sizes.ensures
    ∙ simp (out-roll-ToldBucket, c.deref.ensures.value))
    (ap (λ r. forks_view r.nodes.items) (out-roll-ToldBucket _) ∙ ap (λ r. forks_view r.nodes.items) (out-roll-ToldBucket _) ∙ ap (λ r. forks_view r.nodes.items) (out-roll-ToldBucket _) ∙ sym (forks_are b))
