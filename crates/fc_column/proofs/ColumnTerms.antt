-- The terms of a column.
use Rattle.std.proofs.Common.{◌≡◌, false, List, [], ◌∷◌, map, refl, sym, ap, ◌∙◌}
use Rattle.std.specs.List.{list_any, flat_map}
use Rattle.std.specs.List.Sorted.{IsStrictlySortedBy}
use Rattle.fc_spec.specs.documents.Val.{Text, Val, text, long, text_cmp, val_cmp, has_val, distinct}
use Rattle.fc_spec.specs.documents.Columns.{IsAscending, texts_in}
use Rattle.fc_spec.proofs.documents.Ascending.{has_val-distinct, same_ascending, distinct_ascends}
use Rattle.fc_spec.proofs.words.SortedLists.{sorted_from_ascending, sorted-map}
use Rattle.fc_column.specs.Terms.{terms_of, has_text}
use Rattle.fc_column.proofs.TermLists.{has_val-texts, has_text-flat}

ascending_values : (terms : List Text) → IsAscending text_cmp terms → IsStrictlySortedBy val_cmp (map text terms)
ascending_values terms ascending = sorted-map text val_cmp terms (sorted_from_ascending text_cmp terms ascending)

no_long : (z : _) (terms : List Text) → has_val (long z) (map text terms) ≡ false
no_long z [] = refl
no_long z (t ∷ terms) = no_long z terms

texts_in-texts : (terms : List Text) → texts_in (map text terms) ≡ terms
texts_in-texts [] = refl
texts_in-texts (t ∷ terms) = ap (λ l. t ∷ l) (texts_in-texts terms)

-- a value is among all texts of a column where it is a term
value_among : (terms : List Text) (column : List (List Text)) → ((t : Text) → has_text t terms ≡ list_any (has_text t) column)
    → (v : Val) → has_val v (map text (flat_map (λ texts. texts) column)) ≡ has_val v (map text terms)
value_among terms column same (text t) =
    has_val-texts t (flat_map (λ texts. texts) column) ∙ has_text-flat t column ∙ sym (same t) ∙ sym (has_val-texts t terms)
value_among terms column same (long z) = no_long z (flat_map (λ texts. texts) column) ∙ sym (no_long z terms)

pub terms_are : (terms : List Text) (column : List (List Text)) → IsAscending text_cmp terms → ((t : Text) → has_text t terms ≡ list_any (has_text t) column)
    → terms_of column ≡ terms
terms_are terms column ascending same =
    let all = map text (flat_map (λ texts. texts) column) in
    ap texts_in (same_ascending (distinct all) (map text terms) (distinct_ascends all) (ascending_values terms ascending)
    (λ v. has_val-distinct v all ∙ value_among terms column same v))
    ∙ texts_in-texts terms
