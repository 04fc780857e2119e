-- A block behind those before it: what it leaves of the limits on documents and values.
use Rattle.std.proofs.Common.{◌≡◌, ℕ, ◌+◌, ◌-◌, ◌≤◌, List, [], ◌∷◌, ◌++◌, length, Bool, true, false, cond, ◌&&◌, nat_le, Some, None, is_some, sym, refl, ◌∙◌, ap, arith}
use Rattle.std.specs.List.{sum_by}
use Rattle.std.proofs.lemmas.List.Sums.{sum_by-append}
use Rattle.std.proofs.lemmas.Bool.{leb-true}
use Rattle.std.proofs.lemmas.Bool.Decides.{nat_tests}
use Rattle.fc_spec.specs.documents.Document.{Block}
use Rattle.fc_spec.specs.documents.Totals.{documents_in, documents_of, document_total, value_count, value_total}
use Rattle.fc_spec.specs.scripts.ScriptTotals.{Limits, are_few}
use Rattle.fc_script.specs.Left.{limits_after, limits_with}
use Rattle.fc_spec.proofs.documents.BlockTotals.{documents_in-push, document_total-push}

value_total-push : (blocks : List Block) (b : Block) → value_total (blocks ++ b ∷ []) ≡ value_total blocks + value_count (documents_of b)
value_total-push blocks b = ap value_count (documents_in-push blocks b) ∙ sum_by-append (λ d. sum_by (λ vs. length vs) d) (documents_in blocks) (documents_of b)

fits : (total left n : ℕ) → nat_le (total + n) (left + total) ≡ nat_le n left
fits total left n = grind (arith, nat_tests)

is_some-cond : {X : Type 0} (test : Bool) (x : X) → is_some (cond test (Some x) None) ≡ test
is_some-cond true x = refl
is_some-cond false x = refl

-- whether one more block is within the limits
pub few-append : (left : Limits) (blocks : List Block) (b : Block) → are_few (limits_with left blocks) (documents_in (blocks ++ b ∷ [])) ≡ is_some (limits_after left b)
few-append left blocks b =
    ap (λ n. nat_le n (left.documents + document_total blocks) && nat_le (value_total (blocks ++ b ∷ [])) (left.values + value_total blocks)) (document_total-push blocks b)
    ∙ ap (λ n. nat_le (document_total blocks + length (documents_of b)) (left.documents + document_total blocks) && nat_le n (left.values + value_total blocks)) (value_total-push blocks b)
    ∙ ap (λ t. t && nat_le (value_total blocks + value_count (documents_of b)) (left.values + value_total blocks)) (fits (document_total blocks) left.documents (length (documents_of b)))
    ∙ ap (λ t. nat_le (length (documents_of b)) left.documents && t) (fits (value_total blocks) left.values (value_count (documents_of b)))
    ∙ sym (is_some-cond _ _)

abbrev limits : (documents values : ℕ) → Limits
limits documents values = record { documents = documents; values = values }

taken : (documents values : Bool) (left after : Limits) (n m : ℕ) → nat_le n left.documents ≡ documents → nat_le m left.values ≡ values
    → cond (documents && values) (Some (limits (left.documents - n) (left.values - m))) None ≡ Some after → (after.documents + n ≡ left.documents) × (after.values + m ≡ left.values)
taken true true left after n m enough_documents enough_values is =
    let same : limits (left.documents - n) (left.values - m) ≡ after = cc in
    let documents : left.documents - n ≡ after.documents = ap (λ (k : Limits). k.documents) same in
    let values : left.values - m ≡ after.values = ap (λ (k : Limits). k.values) same in
    let some_documents : n ≤ left.documents = leb-true n left.documents enough_documents in
    let some_values : m ≤ left.values = leb-true m left.values enough_values in
    (omega arith, omega arith)
taken true false left after n m enough_documents enough_values is = cc
taken false values left after n m enough_documents enough_values is = cc

same_limits : (a b c d : ℕ) → a ≡ b → c ≡ d → limits a c ≡ limits b d
same_limits a b c d first second = ap (λ n. limits n c) first ∙ ap (λ n. limits b n) second

-- what a block takes is what is left less
pub limits_with-append : (left after : Limits) (blocks : List Block) (b : Block) → limits_after left b ≡ Some after → limits_with after (blocks ++ b ∷ []) ≡ limits_with left blocks
limits_with-append left after blocks b is =
    let parts = taken _ _ left after (length (documents_of b)) (value_count (documents_of b)) refl refl is in
    let documents = document_total-push blocks b in
    let values = value_total-push blocks b in
    same_limits (after.documents + document_total (blocks ++ b ∷ [])) (left.documents + document_total blocks) (after.values + value_total (blocks ++ b ∷ [])) (left.values + value_total blocks)
    (omega arith) (omega arith)
