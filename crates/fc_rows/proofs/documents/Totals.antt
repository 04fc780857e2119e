-- The documents of blocks, and their values.
use Rattle.std.specs.Prelude.{◌≡◌, List, pos, [], ◌∷◌, refl}
use Prim.Native.String.{String}
use Rattle.fc_spec.specs.documents.Val.{long}
use Rattle.fc_spec.specs.documents.Document.{Document, Block}
use Rattle.fc_spec.specs.documents.Totals.{documents_in, document_total, value_total}
use Rattle.fc_rows.proofs.Words.{said, alone}

-- fields: id, n; the child has three values, the others one each
abbrev child : Document
child = said "c" ∷ (long (pos 1) ∷ long (pos 9) ∷ []) ∷ []

abbrev without_numbers : String → Document
without_numbers id = said id ∷ [] ∷ []

abbrev blocks : List Block
blocks = record { children = child ∷ without_numbers "d" ∷ []; parent = without_numbers "p" } ∷ alone (without_numbers "q") ∷ []

-- the children in their order, then their parent
pub in_order : documents_in blocks ≡ child ∷ without_numbers "d" ∷ without_numbers "p" ∷ without_numbers "q" ∷ []
in_order = refl

pub four_documents : document_total blocks ≡ 4
four_documents = refl

pub six_values : value_total blocks ≡ 6
six_values = refl
