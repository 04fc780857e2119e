use Rattle.std.proofs.Common.{◌∙◌, ap, length}
use Rattle.fc_query.proofs.FirstCharacters.{bare_first, escaped_first, backslash_before_u, backslash_at_end}
use Rattle.fc_query.proofs.characters.first_of.Goals as goal
use Rattle.fc_query.proofs.characters.first_of.Goals.{in_default-via-in-Some+else-second-ne-NEVER_ESCAPED, in_default-via-in_default}

pub returns-then-first-ne92 : goal.returns-then-first-ne92
returns-then-first-ne92 c = bare_first _ _ _ c.utf8.text (cc c.in_ok-first.ensures.steps.0) c.if-first-ne92.true

pub returns-in-Some : goal.returns-in-Some
returns-in-Some c = escaped_first _ c.as_str-behind.result.now _ _ _ c.utf8.text c.if-first-ne92.false (cc c.in_ok-first.ensures.steps.0) (cc c.in-Some.ensures.steps.0) c.if-second-ne-NEVER_ESCAPED.true

pub returns-in_default : goal.returns-in_default
returns-in_default c = elim c.in_default.branch [
  | in_default-via-in-Some+else-second-ne-NEVER_ESCAPED w ↦ backslash_before_u _ c.as_str-behind.result.now c.next-2.new.self.rest.now _ w.in-Some.second c.utf8.text c.if-first-ne92.false (cc c.in_ok-first.ensures.steps.0) (cc w.in-Some.ensures.steps.0) w.if-second-ne-NEVER_ESCAPED.false
  | in_default-via-in_default w ↦ backslash_at_end _ c.as_str-behind.result.now _ c.utf8.text (cc c.in_ok-first.ensures.steps.0) (ap length c.as_str-behind.ensures ∙ w.in_default.ensures.steps.0.0)
]
