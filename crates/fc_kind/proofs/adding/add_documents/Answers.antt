use Rattle.std.proofs.Common.{◌∙◌, sym, ap, subst}
use Rattle.fc_spec.specs.documents.Sets.{places_on}
use Rattle.fc_spec.specs.requests.Statistics.{stats_over}
use Rattle.fc_partial.specs.Adding.{AddUp, HasShape}
use Rattle.fc_partial.proofs.NeutralCells.{shape_over}
use Rattle.fc_kind.proofs.adding.add_documents.Goals as goal

pub add-requires-clause-shaped : goal.add-requires-clause-shaped
add-requires-clause-shaped c =
    let X = places_on 0 c.args.segment.now.blocks c.args.docs.now in
    let e = c.in_ok-over.ensures ∙ ap (λ ss. stats_over ss X) (sym c.requires.stats) in
    subst (HasShape c.args.into.now.stats) (sym e) (shape_over c.args.into.now.stats X)

pub add-requires-clause-fits : goal.add-requires-clause-fits
add-requires-clause-fits c x there =
    let X = places_on 0 c.args.segment.now.blocks c.args.docs.now in
    let e = c.in_ok-over.ensures ∙ ap (λ ss. stats_over ss X) (sym c.requires.stats) in
    subst (AddUp x) (sym e) (c.requires.add_up x there)
