use Rattle.std.proofs.Common.{not, sym, ap, subst, ◌∙◌}
use Rattle.std.specs.List.{filter}
use Rattle.fc_spec.specs.documents.Live.{left_set}
use Rattle.fc_spec.specs.documents.Operations.{is_named}
use Rattle.fc_store.specs.Charters.{IsBatchOf}
use Rattle.fc_store.specs.Named.{ops_of}
use Rattle.fc_store.proofs.generation.left_by_batch.Goals as goal

pub left_by-requires : goal.left_by-requires
left_by-requires c =
    subst (IsBatchOf c.args.earlier.now.schema) (sym (ap ops_of c.deref.ensures.value ∙ c.in_ok-ops.ensures)) c.requires

pub returns-clause-blocks : goal.returns-clause-blocks
returns-clause-blocks c =
    let all = ap ops_of c.deref.ensures.value ∙ c.in_ok-ops.ensures in
    c.in_ok-made.ensures.blocks ∙ ap (λ ops. filter (λ b. not (is_named ops b)) c.args.earlier.now.blocks) all

pub returns-clause-left : goal.returns-clause-left
returns-clause-left c = c.in_ok-made.ensures.left ∙ ap left_set (ap ops_of c.deref.ensures.value ∙ c.in_ok-ops.ensures)
