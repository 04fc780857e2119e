use Rattle.std.proofs.Common.{ap, sym, ◌∙◌}
use Rattle.std.proofs.lemmas.Bool.{eqb-true}
use Rattle.fc_jobs.specs.FilterLists.{queries_in}
use Rattle.fc_jobs.proofs.BasesFound.{same_tags}
use Rattle.fc_jobs.proofs.bases.KeptBase.is_of.Goals as goal
use Rattle.fc_jobs.proofs.bases.KeptBase.is_of.Goals.{else-self-at, then-self-at}

pub returns-then-eq : goal.returns-then-eq
returns-then-eq c same =
    elim c.if-self-at.branch [
      | then-self-at w ↦ (
        w.if-self-at.true,
        sym w.as_slice.ensures.value ∙ same_tags w.as_slice.result.now c.args.tags.now w.eq.result w.eq.ensures (sym w.value-is ∙ c.if-eq.true),
        ap queries_in (sym c.deref.ensures.value) ∙ c.are_same.ensures same,
      )
      | else-self-at w ↦ absurd (w.if-self-at.false (eqb-true c.args.self.now.at c.args.at (sym w.value-is ∙ c.if-eq.true)))
    ]
