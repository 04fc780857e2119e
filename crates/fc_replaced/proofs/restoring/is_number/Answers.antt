use Rattle.std.proofs.Common.{◌∙◌, sym}
use Rattle.fc_replaced.proofs.Facets.{is_number}
use Rattle.fc_replaced.proofs.restoring.is_number.Goals as goal

pub returns-in-Number : goal.returns-in-Number
returns-in-Number c = λ more. c.is_same.ensures ∙ sym (is_number c.args.facet.now c.in-Number.field-0 c.args.name.now more c.in-Number.is)
