-- The documents of one block more: what is counted then.
use Rattle.std.proofs.Common.{◌≡◌, ℕ, ◌+◌, List, [], ◌∷◌, ◌++◌, length, get_or, true, false, Some, None, is_some, Ok, Err, refl, sym, ◌∙◌, ap}
use Rattle.std.specs.Prelude.{nat_le}
use Rattle.std.specs.List.{list_all, range_with_len}
use Rattle.fc_spec.specs.documents.Document.{Document, Block}
use Rattle.fc_spec.specs.documents.Schema.{Schema}
use Rattle.fc_spec.specs.scripts.ScriptFault.{field_total, too_many_documents}
use Rattle.fc_spec.specs.scripts.ScriptReading.{check_documents}
use Rattle.fc_spec.specs.scripts.ScriptTotals.{Limits, absolute_total, total_limit, sums_fit, are_few}
use Rattle.fc_spec.specs.documents.Totals.{documents_of, documents_in}
use Rattle.fc_script.specs.Left.{limits_after, limits_with}
use Rattle.fc_script.proofs.LimitsLeft.{few-append}
use Rattle.fc_spec.proofs.documents.BlockTotals.{documents_in-push}
use Rattle.fc_script.proofs.SumsOfBlocks.{total-append}

-- ---- sums

pub sums_with : (sums : List ℕ) (blocks : List Block) (b : Block) (field : ℕ) → get_or sums field 0 ≡ absolute_total (documents_in blocks) field → get_or sums field 0 + absolute_total (documents_of b) field ≡ absolute_total (documents_in (blocks ++ b ∷ [])) field
sums_with sums blocks b field is =
    ap (λ n. n + absolute_total (documents_of b) field) is ∙ sym (total-append (documents_in blocks) (documents_of b) field) ∙ ap (λ ds. absolute_total ds field) (sym (documents_in-push blocks b))

pub fits_are : (s : Schema) (sums : List ℕ) (blocks : List Block) (b : Block) → length sums ≡ length s.fields → ((field : ℕ) → get_or sums field 0 ≡ absolute_total (documents_in blocks) field)
    → list_all (λ field. nat_le (get_or sums field 0 + absolute_total (documents_of b) field) total_limit) (range_with_len 0 (length sums)) ≡ sums_fit s (documents_in (blocks ++ b ∷ []))
fits_are s sums blocks b count are =
    let total : (field : ℕ) → get_or sums field 0 + absolute_total (documents_of b) field ≡ absolute_total (documents_in (blocks ++ b ∷ [])) field = λ field. sums_with sums blocks b field (are field) in
    λ i. list_all (λ field. nat_le (total field i) total_limit) (range_with_len 0 (count i))

-- ---- the answers

pub too_much : (limits : Limits) (s : Schema) (ds : List Document) → sums_fit s ds ≡ false → check_documents limits s ds ≡ Err field_total
too_much limits s ds fits = rw fits refl

few_are : (limits left : Limits) (blocks : List Block) (b : Block) → limits ≡ limits_with left blocks → are_few limits (documents_in (blocks ++ b ∷ [])) ≡ is_some (limits_after left b)
few_are limits left blocks b is = ap (λ ls. are_few ls (documents_in (blocks ++ b ∷ []))) is ∙ few-append left blocks b

pub too_many : (limits left : Limits) (s : Schema) (blocks : List Block) (b : Block) → limits ≡ limits_with left blocks → sums_fit s (documents_in (blocks ++ b ∷ [])) ≡ true → limits_after left b ≡ None
    → check_documents limits s (documents_in (blocks ++ b ∷ [])) ≡ Err too_many_documents
too_many limits left s blocks b is fits none = rw (fits, few_are limits left blocks b is, none) refl

pub all_fits : (limits left after : Limits) (s : Schema) (blocks : List Block) (b : Block) → limits ≡ limits_with left blocks → sums_fit s (documents_in (blocks ++ b ∷ [])) ≡ true → limits_after left b ≡ Some after
    → check_documents limits s (documents_in (blocks ++ b ∷ [])) ≡ Ok tt
all_fits limits left after s blocks b is fits some = rw (fits, few_are limits left blocks b is, some) refl
