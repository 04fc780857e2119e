-- Where the first of the pairs is of another field than `id`, no value was given to it.
use Rattle.std.proofs.Common.{◌≡◌, ◌≢◌, ℕ, ◌<◌, List, [], ◌∷◌, length, get_or, arith, refl, sym, ◌∙◌, ap, inl, inr}
use Rattle.std.proofs.lemmas.Bool.{cases_lt}
use Rattle.std.proofs.lemmas.List.{get_or_past}
use Rattle.std.proofs.lemmas.List.FromFn.{length-map-range_with_len, get_or-map-range_with_len}
use Rattle.fc_spec.specs.documents.Val.{distinct}
use Rattle.fc_spec.specs.documents.Document.{values_of}
use Rattle.fc_docs.specs.Direct.{Given, given_to, given_view, document_given}
use Rattle.fc_docs.specs.Runs.{Rise}
use Rattle.fc_docs.proofs.Entries.{other}
use Rattle.fc_docs.proofs.GivenPairs.{given_to_each, rise}
use Rattle.fc_docs.proofs.PairOrder.{Pair, AreSortedPairs}

none_behind : (least : ℕ) (ps : Given) → 0 < least → Rise least ps → given_to 0 ps ≡ []
none_behind least [] past rise = refl
none_behind least (p ∷ ps) past rise = rw (other 0 p.0 (omega (arith, rise.0))) (none_behind p.0 ps (omega (arith, rise.0)) rise.1)

first_of_another : (zs : List Pair) (first : Pair) → Rise 0 (given_view zs) → first ≡ get_or zs 0 first → first.0.0 ≢ 0 → given_to 0 (given_view zs) ≡ []
first_of_another [] first rise at another = refl
first_of_another (z ∷ zs) first rise at another =
    let field : first.0.0 ≡ z.0.0 = ap (λ (p : Pair). p.0.0) at in
    rw (other 0 z.0.0 (λ is. another (field ∙ sym is))) (none_behind z.0.0 (given_view zs) (omega arith) rise.1)

none_kept : (fields : ℕ) (xs ys zs : List Pair) → AreSortedPairs xs ys zs → given_to 0 (given_view zs) ≡ [] → length (values_of (document_given fields (given_view xs)) 0) ≡ 0
none_kept fields xs ys zs sorted none = ap length (elim (cases_lt 0 fields) [
  | inl some ↦ get_or-map-range_with_len (λ n. distinct (given_to n (given_view xs))) 0 fields 0 0 [] some (omega arith) ∙ sym (given_to_each xs ys zs sorted 0) ∙ none
  | inr past ↦ get_or_past (document_given fields (given_view xs)) 0 [] (rw length-map-range_with_len past)
])

pub none_at_all : (fields : ℕ) (xs ys zs : List Pair) → AreSortedPairs xs ys zs → zs ≡ [] → length (values_of (document_given fields (given_view xs)) 0) ≡ 0
none_at_all fields xs ys zs sorted none = none_kept fields xs ys zs sorted (ap (λ ws. given_to 0 (given_view ws)) none)

pub none_of_id : (fields : ℕ) (xs ys zs : List Pair) (first : Pair) → AreSortedPairs xs ys zs → first ≡ get_or zs 0 first → first.0.0 ≢ 0 → length (values_of (document_given fields (given_view xs)) 0) ≡ 0
none_of_id fields xs ys zs first sorted at another = none_kept fields xs ys zs sorted (first_of_another zs first (rise xs ys zs sorted) at another)
