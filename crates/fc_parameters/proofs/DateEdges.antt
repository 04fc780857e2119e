-- The edges of a range over dates, one behind another.
use Rattle.std.proofs.Common.{◌≡◌, ℕ, zero, suc, List, [], ◌∷◌, ◌++◌, Bool, true, false, if◌then◌else◌, Option, Some, None, Result, Ok, Err, drop, refl, ap, ◌∙◌, append_assoc}
use Rattle.fc_spec.specs.documents.Val.{Text}
use Rattle.fc_spec.specs.dates.GapTexts.{Gap}
use Rattle.fc_spec.specs.dates.Adding.{added}
use Rattle.fc_spec.specs.requests.RequestFault.{QFault, bad_parameter}
use Rattle.fc_spec.specs.requests.DateRangeReading.{edges_behind, edges_from, edges_of}
use Rattle.fc_spec.specs.requests.DateGaps.{is_before}
use Rattle.fc_spec.specs.words.Walks.{◌>>=◌}
use Rattle.fc_parameters.specs.declared.dates.Edge.{Edge}
use Rattle.fc_parameters.specs.declared.dates.Edge.TheVariants.{Inner, Last}
use Rattle.fc_parameters.specs.DateEdges.{goes_on}

-- edges, and those that follow from the last of them, which is told again
abbrev pub continued : List Text → Result (List Text) QFault → Result (List Text) QFault
continued done rest = rest >>= λ more. Ok (done ++ drop 1 more)

-- behind a low end
behind_one : (low : Text) (r : Result (List Text) QFault) → (r >>= λ rest. Ok (low ∷ rest)) ≡ continued (low ∷ []) (r >>= λ rest. Ok (low ∷ rest))
behind_one low (Ok rest) = refl
behind_one low (Err e) = refl

pub from_first : (left : ℕ) (gap : Gap) (end : Text) (hardend : Bool) (low : Text) → edges_from left gap end hardend low ≡ continued (low ∷ []) (edges_from left gap end hardend low)
from_first zero gap end hardend low = refl
from_first (suc left) gap end hardend low = behind_one low (edges_behind (edges_from left gap end hardend) end hardend (added low gap))

-- what follows from the edge behind the last one
followed : (done : List Text) (low : Text) (r : Result (List Text) QFault) → continued done (r >>= λ rest. Ok (low ∷ rest)) ≡ (r >>= λ rest. Ok (done ++ rest))
followed done low (Ok rest) = refl
followed done low (Err e) = refl

told_again : (done : List Text) (next : Text) (r : Result (List Text) QFault) → ((r >>= λ rest. Ok (next ∷ rest)) >>= λ rest. Ok (done ++ rest)) ≡ continued (done ++ next ∷ []) (r >>= λ rest. Ok (next ∷ rest))
told_again done next (Ok rest) = rw append_assoc refl
told_again done next (Err e) = refl

more_edges : (left : ℕ) (gap : Gap) (end : Text) (hardend : Bool) (done : List Text) (next : Text) → (edges_from left gap end hardend next >>= λ rest. Ok (done ++ rest)) ≡ continued (done ++ next ∷ []) (edges_from left gap end hardend next)
more_edges zero gap end hardend done next = refl
more_edges (suc left) gap end hardend done next = told_again done next (edges_behind (edges_from left gap end hardend) end hardend (added next gap))

abbrev pub EdgeIs : Gap → Text → Bool → Text → Option Edge → Type 0
EdgeIs gap end hardend low edge = (go_on : Text → Result (List Text) QFault) → edges_behind go_on end hardend (added low gap) ≡ goes_on go_on edge

pub inner_edge : (left : ℕ) (gap : Gap) (end : Text) (hardend : Bool) (done : List Text) (low : Text) (edge : _) → EdgeIs gap end hardend low (Some (Inner edge)) → continued done (edges_from (suc left) gap end hardend low) ≡ continued (done ++ edge.bytes ∷ []) (edges_from left gap end hardend edge.bytes)
inner_edge left gap end hardend done low edge is =
    followed done low (edges_behind (edges_from left gap end hardend) end hardend (added low gap))
    ∙ ap (λ r. r >>= λ rest. Ok (done ++ rest)) (is (edges_from left gap end hardend))
    ∙ more_edges left gap end hardend done edge.bytes

pub last_edge : (left : ℕ) (gap : Gap) (end : Text) (hardend : Bool) (done : List Text) (low : Text) (edge : _) → EdgeIs gap end hardend low (Some (Last edge)) → continued done (edges_from (suc left) gap end hardend low) ≡ Ok (done ++ edge.bytes ∷ [])
last_edge left gap end hardend done low edge is =
    followed done low (edges_behind (edges_from left gap end hardend) end hardend (added low gap))
    ∙ ap (λ r. r >>= λ rest. Ok (done ++ rest)) (is (edges_from left gap end hardend))

pub no_edge : (left : ℕ) (gap : Gap) (end : Text) (hardend : Bool) (done : List Text) (low : Text) → EdgeIs gap end hardend low None → continued done (edges_from (suc left) gap end hardend low) ≡ Err bad_parameter
no_edge left gap end hardend done low is =
    followed done low (edges_behind (edges_from left gap end hardend) end hardend (added low gap))
    ∙ ap (λ r. r >>= λ rest. Ok (done ++ rest)) (is (edges_from left gap end hardend))

-- ---- from the start

pub walked : (gap : Gap) (start end : Text) (hardend : Bool) → is_before start end ≡ true → edges_of gap start end hardend ≡ edges_from 10_000 gap end hardend start
unfolding edges_of
walked gap start end hardend h = ap (λ b. if b then edges_from 10_000 gap end hardend start else Ok (start ∷ [])) h

pub alone : (gap : Gap) (start end : Text) (hardend : Bool) → is_before start end ≡ false → edges_of gap start end hardend ≡ Ok (start ∷ [])
unfolding edges_of
alone gap start end hardend h = ap (λ b. if b then edges_from 10_000 gap end hardend start else Ok (start ∷ [])) h
