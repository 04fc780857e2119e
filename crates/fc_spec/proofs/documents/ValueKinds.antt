-- Values of one kind.
use Rattle.std.specs.Prelude.{◌≡◌, true, false, not, List, [], ◌∷◌, All, map, IsTrue}
use Rattle.std.proofs.Common.{refl, sym, ap}
use Rattle.std.proofs.lemmas.Bool.{and_parts, not-true}
use Rattle.std.proofs.lemmas.List.Elements.{All-head, All-tail}
use Rattle.fc_spec.specs.documents.Columns.{is_text, IsText, IsLong, texts_in, longs_in}
use Rattle.fc_spec.specs.documents.IntegerTexts.{is_long}
use Rattle.fc_spec.specs.documents.Schema.{FieldType, holds_texts}
use Rattle.fc_spec.specs.documents.Val.{Val, text, long}
use Rattle.fc_spec.specs.documents.BlockReading.{is_term}
use Rattle.fc_spec.specs.documents.ValidBlocks.{is_of_type, is_value_of}

-- values of one kind are those among them
pub texts_whole : (vs : List Val) → All IsText vs → map text (texts_in vs) ≡ vs
texts_whole [] all = refl
texts_whole (text t ∷ vs) all = ap (λ l. text t ∷ l) (texts_whole vs (All-tail IsText (text t) vs all))
texts_whole (long z ∷ vs) all = let h : false ≡ true = All-head IsText (long z) vs all in cc

pub longs_whole : (vs : List Val) → All IsLong vs → map long (longs_in vs) ≡ vs
longs_whole [] all = refl
longs_whole (text t ∷ vs) all = let h : true ≡ false = All-head IsLong (text t) vs all in cc
longs_whole (long z ∷ vs) all = ap (λ l. long z ∷ l) (longs_whole vs (All-tail IsLong (long z) vs all))

-- a value of a type is of its kind
pub kind_of_type : (kind : FieldType) (v : Val) → is_of_type kind v ≡ true → is_text v ≡ holds_texts kind
kind_of_type kind (text t) is = sym is
kind_of_type kind (long z) is = sym (not-true (holds_texts kind) (and_parts (not (holds_texts kind)) (is_long z) is).0)

pub kind_of_value : (kind : FieldType) (v : Val) → IsTrue (is_value_of kind v) → is_text v ≡ holds_texts kind
kind_of_value kind (text t) is = kind_of_type kind (text t) (and_parts (is_of_type kind (text t)) (is_term t) is).0
kind_of_value kind (long z) is = kind_of_type kind (long z) is
