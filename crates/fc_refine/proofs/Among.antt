-- Some of a list.
use Rattle.std.proofs.Common.{ℕ, List, [], ◌++◌, take, drop, subst, sym, length}
use Rattle.std.specs.Prelude.{All, IsPermutation}
use Rattle.std.proofs.lemmas.List.{take-append-drop, append-nil, append_assoc}
use Rattle.std.proofs.lemmas.List.Elements.{All-take}
use Rattle.std.proofs.lemmas.List.Sorted.{All-permutation, IsPermutation-refl, IsPermutation-trans, IsPermutation-append_left, IsPermutation-append_comm}
use Rattle.std.proofs.Math.Seq.{take-append_seam}
use Rattle.fc_refine.specs.Entries.{AreAmong}

-- what holds of each member of a list holds of each of some of them
pub All-among : {T : Type 0} (P : T → Type 0) (some all : List T) → AreAmong some all → All P all → All P some
All-among P some all among h =
    let both = All-permutation P all (some ++ among.0) among.1 h in
    subst (All P) (take-append_seam some among.0) (All-take P (length some) (some ++ among.0) both)

pub all_among : {T : Type 0} (all : List T) → AreAmong all all
all_among all = ([], subst (IsPermutation all) (sym (append-nil all)) (IsPermutation-refl all))

pub front_among : {T : Type 0} (n : ℕ) (all ordered : List T) → IsPermutation all ordered → AreAmong (take n ordered) all
front_among n all ordered h = (drop n ordered, subst (IsPermutation all) (sym (take-append-drop n ordered)) h)

pub permuted_among : {T : Type 0} (some again all : List T) → AreAmong some all → IsPermutation some again → AreAmong again all
permuted_among some again all among h =
    (among.0, IsPermutation-trans all (some ++ among.0) (again ++ among.0) among.1 (IsPermutation-append_left among.0 some again h))

-- some of some
pub among_again : {T : Type 0} (few some all : List T) → AreAmong few some → AreAmong some all → AreAmong few all
among_again few some all h k = (
  h.0 ++ k.0,
  IsPermutation-trans all (some ++ k.0) (few ++ (h.0 ++ k.0)) k.1
      (subst (IsPermutation (some ++ k.0)) (append_assoc few h.0 k.0) (IsPermutation-append_left k.0 some (few ++ h.0) h.1)),
)

pub rest_among : {T : Type 0} (n : ℕ) (all ordered : List T) → IsPermutation all ordered → AreAmong (drop n ordered) all
rest_among n all ordered h = (
  take n ordered,
  IsPermutation-trans all ordered (drop n ordered ++ take n ordered) h
      (subst (λ l. IsPermutation l (drop n ordered ++ take n ordered)) (take-append-drop n ordered) (IsPermutation-append_comm (take n ordered) (drop n ordered))),
)
