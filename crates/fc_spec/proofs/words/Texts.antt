-- Texts that differ, and those of the same bytes.
use Rattle.std.proofs.Common.{◌≡◌, true, false, sym, ◌∙◌}
use Rattle.std.proofs.lemmas.Bool.{false_from_ne_true}
use Rattle.std.proofs.lemmas.Slice.Eq.{bytes_eq-Decides}
use Rattle.std.proofs.lemmas.Map.Text.{is_eq-slice_cmp}
use Rattle.std.specs.Cmp.{IsEquivalence, eq_by_cmp_equiv}
use Rattle.std.specs.Cmp.Lexicographic.{nat_list_cmp_total}
use Rattle.std.specs.Str.{bytes_eq}
use Rattle.fc_spec.specs.documents.Val.{Text, same_text}

pub same_text_equiv : IsEquivalence same_text
same_text_equiv = eq_by_cmp_equiv nat_list_cmp_total

pub same_itself : (t : Text) → same_text t t ≡ true
same_itself t = same_text_equiv.refl t

pub differs : (a b : Text) → (a ≡ b → ⊥) → same_text a b ≡ false
differs a b other = is_eq-slice_cmp a b ∙ false_from_ne_true (bytes_eq a b) (λ same. other ((bytes_eq-Decides a b).0 same))

pub equal : (a b : Text) → same_text a b ≡ true → a ≡ b
equal a b same = (bytes_eq-Decides a b).0 (sym (is_eq-slice_cmp a b) ∙ same)
