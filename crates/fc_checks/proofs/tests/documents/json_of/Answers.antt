use Rattle.std.proofs.Common.{None, cond, ◌∙◌, ap}
use Rattle.std.proofs.lemmas.Str.{is_utf8-from_IsUtf8}
use Rattle.serde_json.specs.Read.{read}
use Rattle.serde_json.specs.View.{view}
use Rattle.fc_checks.proofs.tests.documents.json_of.Goals as goal

pub returns : goal.returns
returns c =
    let text = c.as_bytes.result.now in
    let is = c.in_ok-from_slice.ensures.ok in
    c.texts_are_json.ensures text (view c.in_ok-from_slice.field-0) (ap (λ b. cond b (read text) None) (is_utf8-from_IsUtf8 text is.0) ∙ is.1)
