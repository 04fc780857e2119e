-- What was given to the fields is kept as a document.
use Rattle.std.proofs.Common.{◌≡◌, ◌≢◌, ℕ, ◌<◌, ◌≤◌, List, [], ◌∷◌, All, length, get_or, map, eqb, Bool, cond, true, false, arith, refl, sym, ◌∙◌, ap}
use Rattle.std.specs.List.{AllByRecursion, range_with_len}
use Rattle.std.specs.List.Retain.{IsFiltered, DiffersFromLast}
use Rattle.std.specs.List.Sorted.{IsPermutation, IsSorted}
use Rattle.std.proofs.lemmas.Bool.{eqb-true}
use Rattle.std.proofs.lemmas.List.Elements.{recursion_from_All}
use Rattle.fc_base.specs.declared.value.Val as code
use Rattle.fc_spec.specs.documents.Val.{Val, distinct}
use Rattle.fc_spec.specs.documents.Document.{values_of}
use Rattle.fc_docs.specs.Direct.{Given, given_to, given_view, document_given}
use Rattle.fc_docs.specs.Fields.{EndBelow, document_of, values_at}
use Rattle.fc_docs.specs.Kept.{ArePartsOf, parts}
use Rattle.fc_docs.specs.Runs.{AreGiven}
use Rattle.fc_docs.proofs.FieldLists.{values_of-document_of}
use Rattle.fc_docs.proofs.GivenPairs.{given_to_each}
use Rattle.fc_docs.proofs.OneMore.{Count}
use Rattle.fc_docs.proofs.PairOrder.{Pair, pair_cmp, same_pair}

none_given : (fields n : ℕ) (ps : Given) → fields ≤ n → AllByRecursion (λ (p : ℕ × Val). p.0 < fields) ps → given_to n ps ≡ []
none_given fields n [] past within = refl
none_given fields n (p ∷ ps) past within = go (eqb n p.0) refl (none_given fields n ps past within.1)
  where
    go : (b : Bool) → eqb n p.0 ≡ b → given_to n ps ≡ [] → cond b (p.1 ∷ given_to n ps) (given_to n ps) ≡ []
    go true here later = absurd (omega (arith, eqb-true n p.0 here, within.0))
    go false here later = later

same_map : (f g : ℕ → List Val) → ((n : ℕ) → f n ≡ g n) → (ns : List ℕ) → map f ns ≡ map g ns
same_map f g same [] = refl
same_map f g same (n ∷ ns) = rw (same n) (ap (λ vss. g n ∷ vss) (same_map f g same ns))

-- of all that were given, the different ones of each field are kept
pub record AreDistinct (fields : ℕ) (all kept : Given) (cs : List Count) (vs : List code.Val) : Type 0 where
  pub within : All (λ (p : ℕ × Val). p.0 < fields) all
  pub values : (n : ℕ) → given_to n kept ≡ distinct (given_to n all)
  pub given : AreGiven kept cs vs

pub are_distinct : (fields : ℕ) (xs ys zs : List Pair) (cs : List Count) (vs : List code.Val) → All (λ (p : ℕ × Val). p.0 < fields) (given_view xs)
    → IsPermutation xs ys → IsSorted pair_cmp ys → IsFiltered (DiffersFromLast same_pair) [] ys zs → AreGiven (given_view zs) cs vs → AreDistinct fields (given_view xs) (given_view zs) cs vs
are_distinct fields xs ys zs cs vs within moved sorted kept given =
    record { within = within; values = given_to_each xs ys zs (record { moved = moved; sorted = sorted; kept = kept }); given = given }

values_are : (fields : ℕ) (all kept : Given) (cs : List Count) (vs : List code.Val) → AreDistinct fields all kept cs vs → (n : ℕ) → values_at (parts cs vs) n ≡ distinct (given_to n all)
values_are fields all kept cs vs h n = h.given.values n ∙ h.values n

end_below : (fields : ℕ) (all kept : Given) (cs : List Count) (vs : List code.Val) → AreDistinct fields all kept cs vs → EndBelow fields (parts cs vs)
end_below fields all kept cs vs h n past =
    values_are fields all kept cs vs h n ∙ ap distinct (none_given fields n all past (recursion_from_All (λ (p : ℕ × Val). p.0 < fields) all h.within))

pub are_parts : (fields : ℕ) (all kept : Given) (cs : List Count) (vs : List code.Val) → AreDistinct fields all kept cs vs → ArePartsOf fields cs vs
are_parts fields all kept cs vs h = record {
  are_values = record { ascending = h.given.ascending; ends = end_below fields all kept cs vs h };
  some = h.given.some;
  whole = h.given.whole;
}

pub is_document : (fields : ℕ) (all kept : Given) (cs : List Count) (vs : List code.Val) → AreDistinct fields all kept cs vs → document_of fields (parts cs vs) ≡ document_given fields all
is_document fields all kept cs vs h =
    same_map (values_at (parts cs vs)) (λ n. distinct (given_to n all)) (values_are fields all kept cs vs h) (range_with_len 0 fields)

-- the first pair is of the field `id`
pub first_given : (zs : List Pair) (first : Pair) → length zs ≢ 0 → first ≡ get_or zs 0 first → first.0.0 ≡ 0 → 0 < length (given_to 0 (given_view zs))
first_given [] first some at id = absurd (some refl)
first_given (z ∷ zs) first some at id =
    let here : z.0.0 ≡ 0 = ap (λ (p : Pair). p.0.0) (sym at) ∙ id in
    rw here (omega arith)

pub has_id : (fields : ℕ) (all kept : Given) (cs : List Count) (vs : List code.Val) → AreDistinct fields all kept cs vs → 0 < length (given_to 0 kept)
    → 0 < length (values_of (document_of fields (parts cs vs)) 0)
has_id fields all kept cs vs h some =
    rw (values_of-document_of fields (parts cs vs) 0 (end_below fields all kept cs vs h), h.given.values 0) some
