-- The lines of refused scripts.
use Rattle.std.specs.Prelude.{◌≡◌, refl, codes}
use Rattle.fc_spec.specs.documents.DocFault.{no_id}
use Rattle.fc_spec.specs.scripts.ScriptFault.{not_json, no_schema, bad_schema, bad_document, field_total, long_line}
use Rattle.fc_spec.specs.scripts.Lines.{fault_line}
use Rattle.fc_rows.proofs.Words.{written}

pub sum_too_wide : fault_line (record { line = 4; fault = field_total }) ≡ codes "{\"error\":\"field-total\",\"line\":4,\"number\":8}\n"
unfolding written
sum_too_wide = refl

pub cut_line : fault_line (record { line = 6; fault = not_json }) ≡ codes "{\"error\":\"not-json\",\"line\":6,\"number\":1}\n"
unfolding written
cut_line = refl

pub line_too_long : fault_line (record { line = 2; fault = long_line }) ≡ codes "{\"error\":\"long-line\",\"line\":2,\"number\":11}\n"
unfolding written
line_too_long = refl

-- of a script without a line
pub nothing_at_all : fault_line (record { line = 0; fault = no_schema }) ≡ codes "{\"error\":\"no-schema\",\"line\":0,\"number\":2}\n"
unfolding written
nothing_at_all = refl

pub schema_refused : fault_line (record { line = 1; fault = bad_schema }) ≡ codes "{\"error\":\"bad-schema\",\"line\":1,\"number\":4}\n"
unfolding written
schema_refused = refl

-- only a document's fault has a detail, and its key comes first in the order of bytes
pub document_refused : fault_line (record { line = 3; fault = bad_document no_id }) ≡ codes "{\"detail\":\"no-id\",\"error\":\"bad-document\",\"line\":3,\"number\":6}\n"
unfolding written
document_refused = refl
