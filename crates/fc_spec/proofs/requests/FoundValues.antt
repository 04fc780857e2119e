-- The values that a terms facet finds in a set of places are those with a place there.
use Rattle.std.proofs.Common.{◌≡◌, suc, arith, List, [], ◌∷◌, length, Bool, true, false, cond, not, ◌&&◌, ◌||◌, refl, sym, ◌∙◌, ap, subst}
use Rattle.std.specs.List.{filter, list_any}
use Rattle.std.specs.List.Sorted.{IsStrictlySortedBy}
use Rattle.std.proofs.lemmas.Bool.{and_parts, and_from, ne_eqb}
use Rattle.std.proofs.lemmas.List.Kept.{IsStrictlySortedBy-filter}
use Rattle.fc_spec.specs.documents.Val.{Val, val_cmp, has_val, same_val, distinct}
use Rattle.fc_spec.specs.documents.Document.{values_of}
use Rattle.fc_spec.specs.words.Lists.{is_empty}
use Rattle.fc_spec.specs.documents.World.{Place}
use Rattle.fc_spec.specs.requests.Request.{Terms, terms}
use Rattle.fc_spec.specs.requests.Buckets.{value, in_bucket, has_prefix}
use Rattle.fc_spec.specs.requests.Statistics.{pair_values}
use Rattle.fc_spec.specs.replies.Values.{value_places, values_in}
use Rattle.fc_spec.proofs.documents.ValOrder.{same_val_exact}
use Rattle.fc_spec.proofs.words.Members.{passing_member, any_by_member, same_tests, list_any-flat_map, list_any-filter}
use Rattle.fc_spec.proofs.documents.Ascending.{has_val-distinct, distinct_ascends}

-- whether the document is in the bucket of the value
abbrev pub holds_value : Terms → Val → Place → Bool
holds_value t v p = in_bucket (terms t) (value v) p.document

-- some member passes exactly where the filter is not empty
pub not-is_empty-filter : {X : Type 0} (q : X → Bool) (xs : List X) → not (is_empty (filter q xs)) ≡ list_any q xs
not-is_empty-filter q [] = refl
not-is_empty-filter q (x ∷ xs) = go (q x) (not-is_empty-filter q xs)
  where
    go : (b : Bool) → not (is_empty (filter q xs)) ≡ list_any q xs → not (is_empty (cond b (x ∷ filter q xs) (filter q xs))) ≡ (b || list_any q xs)
    go true ih = ap not (ne_eqb (suc (length (filter q xs))) 0 (λ e. omega arith))
    go false ih = ih

-- a value is found where it is among the field's values and a place holds it
pub has_val-values_in : (t : Terms) (v : Val) (Y : List Place) → has_val v (values_in t Y) ≡ list_any (holds_value t v) Y
has_val-values_in t v Y = list_any-filter (same_val v) found (distinct (pair_values t.field Y)) ∙ same_tests _ _ forth back
  where
    found : Val → Bool
    found w = not (is_empty (value_places t w Y))

    found_is : (w : Val) → found w ≡ list_any (holds_value t w) Y
    found_is w = not-is_empty-filter (holds_value t w) Y

    forth : list_any (λ w. found w && same_val v w) (distinct (pair_values t.field Y)) ≡ true → list_any (holds_value t v) Y ≡ true
    forth h =
        let r = passing_member (λ w. found w && same_val v w) (distinct (pair_values t.field Y)) h in
        let parts = and_parts (found r.0) (same_val v r.0) r.2 in
        subst (λ w. list_any (holds_value t w) Y ≡ true) (sym (same_val_exact v r.0 parts.1)) (sym (found_is r.0) ∙ parts.0)

    among : list_any (holds_value t v) Y ≡ true → has_val v (distinct (pair_values t.field Y)) ≡ true
    among h =
        let r = passing_member (holds_value t v) Y h in
        has_val-distinct v (pair_values t.field Y) ∙ list_any-flat_map (same_val v) (λ p. values_of p.document t.field) Y
        ∙ any_by_member (λ p. has_val v (values_of p.document t.field)) Y r.0 r.1 (and_parts (has_val v (values_of r.0.document t.field)) (has_prefix t.prefix v) r.2).0

    back : list_any (holds_value t v) Y ≡ true → list_any (λ w. found w && same_val v w) (distinct (pair_values t.field Y)) ≡ true
    back h =
        let r = passing_member (same_val v) (distinct (pair_values t.field Y)) (among h) in
        any_by_member (λ w. found w && same_val v w) (distinct (pair_values t.field Y)) r.0 r.1
        (and_from (found r.0) (same_val v r.0) (subst (λ w. found w ≡ true) (same_val_exact v r.0 r.2) (found_is v ∙ h)) r.2)

-- they ascend
pub ascending-values_in : (t : Terms) (Y : List Place) → IsStrictlySortedBy val_cmp (values_in t Y)
ascending-values_in t Y = IsStrictlySortedBy-filter val_cmp (λ v. not (is_empty (value_places t v Y))) (distinct (pair_values t.field Y)) (distinct_ascends (pair_values t.field Y))
