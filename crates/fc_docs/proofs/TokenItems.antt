-- The values that one token gives.
use Rattle.std.proofs.Common.{◌≡◌, ℕ, ◌≤◌, ◌⊎◌, inl, inr, ℤ, List, length, IsTrue, true, false, Option, Some, None, option_map, option_and_then, refl, ap, le-leb}
use Rattle.json.specs.Token.{Token}
use Rattle.serde_json.specs.Data as tree
use Rattle.serde_json.specs.Data.{Num}
use Rattle.serde_json.specs.Find.{as_i64}
use Rattle.serde_json.specs.Read.{number_of}
use Rattle.fc_spec.specs.documents.Val.{Text, text, long}
use Rattle.fc_spec.specs.documents.Schema.{FieldType, string, strings, plong, plongs, pdate, pdates, holds_texts, holds_dates}
use Rattle.fc_spec.specs.documents.IntegerTexts.{decimal_text, is_long, long_of}
use Rattle.fc_spec.specs.documents.BlockReading.{is_term}
use Rattle.fc_spec.specs.dates.DateTexts.{canonical_of}
use Rattle.fc_base.specs.View.{field_type_view}
use Rattle.fc_base.specs.declared.field.FieldType as code
use Rattle.fc_base.specs.declared.field.FieldType.TheVariants as kind_of
use Rattle.fc_docs.specs.Direct.{GivesItem}

pub holds_texts_where : (k : code.FieldType) → (k ≡ kind_of.Str) ⊎ (k ≡ kind_of.Strs) → holds_texts (field_type_view k) ≡ true
holds_texts_where k (inl e) = ap (λ x. holds_texts (field_type_view x)) e
holds_texts_where k (inr e) = ap (λ x. holds_texts (field_type_view x)) e

pub holds_no_dates_where : (k : code.FieldType) → (k ≡ kind_of.Str) ⊎ (k ≡ kind_of.Strs) → holds_dates (field_type_view k) ≡ false
holds_no_dates_where k (inl e) = ap (λ x. holds_dates (field_type_view x)) e
holds_no_dates_where k (inr e) = ap (λ x. holds_dates (field_type_view x)) e

pub holds_dates_where : (k : code.FieldType) → (k ≡ kind_of.Date) ⊎ (k ≡ kind_of.Dates) → holds_dates (field_type_view k) ≡ true
holds_dates_where k (inl e) = ap (λ x. holds_dates (field_type_view x)) e
holds_dates_where k (inr e) = ap (λ x. holds_dates (field_type_view x)) e

pub holds_longs_where : (k : code.FieldType) → (k ≡ kind_of.Long) ⊎ (k ≡ kind_of.Longs) → holds_texts (field_type_view k) ≡ false
holds_longs_where k (inl e) = ap (λ x. holds_texts (field_type_view x)) e
holds_longs_where k (inr e) = ap (λ x. holds_texts (field_type_view x)) e

short : (t : Text) → length t ≤ 32766 → is_term t ≡ true
short t few = le-leb _ _ few

-- ---- a text

pub text_as_text : (kind : FieldType) → holds_texts kind ≡ true → holds_dates kind ≡ false → (t : Text) → length t ≤ 32766 → GivesItem kind (Token.string t) (text t)
text_as_text string held other t few = let is = short t few in record { said = tree.string t; is = refl; value = rw is refl; valid = rw is refl }
text_as_text strings held other t few = let is = short t few in record { said = tree.string t; is = refl; value = rw is refl; valid = rw is refl }
text_as_text plong held other t few = absurd (cc)
text_as_text plongs held other t few = absurd (cc)
text_as_text pdate held other t few = absurd (cc)
text_as_text pdates held other t few = absurd (cc)

pub text_as_long : (kind : FieldType) → holds_texts kind ≡ false → (t : Text) (z : ℤ) → length t ≤ 32766 → long_of t ≡ Some z → IsTrue (is_long z) → GivesItem kind (Token.string t) (long z)
text_as_long plong held t z few spelled valid = let is = short t few in record { said = tree.string t; is = refl; value = rw (spelled, is) refl; valid = valid }
text_as_long plongs held t z few spelled valid = let is = short t few in record { said = tree.string t; is = refl; value = rw (spelled, is) refl; valid = valid }
text_as_long string held t z few spelled valid = absurd (cc)
text_as_long strings held t z few spelled valid = absurd (cc)
text_as_long pdate held t z few spelled valid = absurd (cc)
text_as_long pdates held t z few spelled valid = absurd (cc)

pub text_as_date : (kind : FieldType) → holds_dates kind ≡ true → (t d : Text) → canonical_of t ≡ Some d → length d ≤ 32766 → GivesItem kind (Token.string t) (text d)
text_as_date pdate held t d said few = let is = short d few in record { said = tree.string t; is = refl; value = rw said refl; valid = rw is refl }
text_as_date pdates held t d said few = let is = short d few in record { said = tree.string t; is = refl; value = rw said refl; valid = rw is refl }
text_as_date string held t d said few = absurd (cc)
text_as_date strings held t d said few = absurd (cc)
text_as_date plong held t d said few = absurd (cc)
text_as_date plongs held t d said few = absurd (cc)

-- ---- a number

some_number : (o : Option Num) (z : ℤ) → option_and_then as_i64 o ≡ Some z → (n : Num) × (o ≡ Some n) × (as_i64 n ≡ Some z)
some_number None z e = absurd (cc)
some_number (Some n) z e = (n, refl, e)

pub number_as_text : (kind : FieldType) → holds_texts kind ≡ true → holds_dates kind ≡ false → (s : List ℕ) (z : ℤ) → option_and_then as_i64 (number_of s) ≡ Some z → length (decimal_text z) ≤ 32766
    → GivesItem kind (Token.number s) (text (decimal_text z))
number_as_text string held other s z e few =
    let n = some_number (number_of s) z e in
    record { said = tree.number n.0; is = ap (option_map tree.number) n.1; value = rw n.2 refl; valid = rw (short (decimal_text z) few) refl }
number_as_text strings held other s z e few =
    let n = some_number (number_of s) z e in
    record { said = tree.number n.0; is = ap (option_map tree.number) n.1; value = rw n.2 refl; valid = rw (short (decimal_text z) few) refl }
number_as_text plong held other s z e few = absurd (cc)
number_as_text plongs held other s z e few = absurd (cc)
number_as_text pdate held other s z e few = absurd (cc)
number_as_text pdates held other s z e few = absurd (cc)

pub number_as_long : (kind : FieldType) → holds_texts kind ≡ false → (s : List ℕ) (z : ℤ) → option_and_then as_i64 (number_of s) ≡ Some z → IsTrue (is_long z) → GivesItem kind (Token.number s) (long z)
number_as_long plong held s z e valid = let n = some_number (number_of s) z e in record { said = tree.number n.0; is = ap (option_map tree.number) n.1; value = rw n.2 refl; valid = valid }
number_as_long plongs held s z e valid = let n = some_number (number_of s) z e in record { said = tree.number n.0; is = ap (option_map tree.number) n.1; value = rw n.2 refl; valid = valid }
number_as_long string held s z e valid = absurd (cc)
number_as_long strings held s z e valid = absurd (cc)
number_as_long pdate held s z e valid = absurd (cc)
number_as_long pdates held s z e valid = absurd (cc)
