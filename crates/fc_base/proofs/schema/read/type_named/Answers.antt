use Rattle.std.proofs.Common.{refl}
use Rattle.fc_spec.proofs.words.Texts.{differs}
use Rattle.fc_base.proofs.schema.read.type_named.Goals as goal

pub returns-in_default : goal.returns-in_default
returns-in_default c =
    rw (differs _ _ c.in_default.not-string, differs _ _ c.in_default.not-strings, differs _ _ c.in_default.not-plong, differs _ _ c.in_default.not-plongs, differs _ _ c.in_default.not-pdate, differs _ _ c.in_default.not-pdates) refl
