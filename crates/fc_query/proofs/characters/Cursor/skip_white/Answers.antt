use Rattle.std.proofs.Common.{◌∙◌, sym}
use Rattle.fc_spec.specs.queries.QueryCharacters.{behind, is_blank}
use Rattle.std.proofs.Common.{◌≡◌, ap, true}
use Rattle.fc_query.specs.View.{character_view}
use Rattle.fc_query.proofs.Fronts.{left_goes_on}
use Rattle.fc_query.proofs.characters.Cursor.skip_white.Goals as goal

pub loop-first-preserved : goal.loop-first-preserved
loop-first-preserved c =
    let first = character_view c.in-Some.first in
    let blank : is_blank first ≡ true = sym c.is_blank.ensures ∙ c.if-not-is_blank.false in
    ap (behind is_blank) c.advance.ensures ∙ left_goes_on is_blank first c.loop-first.self (sym c.in-Some.ensures) blank ∙ c.loop-first.invariant
