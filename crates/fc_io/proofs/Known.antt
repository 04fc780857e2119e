-- What several reads take together, and several writes append.
use Rattle.std.proofs.Common.{◌≡◌, ℕ, ◌+◌, ◌-◌, List, ◌++◌, length, take, drop, Option, Result, Ok, Err, OnErr, sym, ap, ◌∙◌, subst, append_assoc, length-append, length-drop}
use Rattle.std.proofs.Math.Seq.{take-length}
use Rattle.std.proofs.lemmas.List.{take-append-drop}
use Rattle.std.proofs.KnownBytes.{Consumes-trans, Appends-trans}
use Rattle.std.specs.Io.KnownBytes.{Consumes, Appends}
use Rattle.fc_io.specs.AllRead.{TakesSome}
use Rattle.fc_io.specs.WriteEnd.{AppendsUpTo}

-- two reads take the bytes of both
pub TakesSome-two : (a b c : Option (List ℕ)) (xs ys : List ℕ) (P : ℕ → Type 0) → Consumes a b xs → Consumes b c ys → P (length xs + length ys) → TakesSome a c P
TakesSome-two a b c xs ys P first second holds =
    (xs ++ ys, Consumes-trans a b c xs ys first second, subst P (sym (length-append xs ys)) holds)

pub OnErr-always : {T E : Type 0} (r : Result T E) (P : Type 0) → P → OnErr r P
OnErr-always (Ok x) P holds = tt
OnErr-always (Err e) P holds = holds

-- the rest behind n bytes, as a slice has it
pub rest_behind : (rest : List ℕ) (n : ℕ) → take (length rest - n) (drop n rest) ≡ drop n rest
rest_behind rest n = ap (λ k. take k (drop n rest)) (sym (length-drop n rest)) ∙ take-length (drop n rest)

-- a write appends the front of the rest
pub AppendsUpTo-more : (a b c : Option (List ℕ)) (bs rest : List ℕ) (n : ℕ) → AppendsUpTo a b bs rest → Appends b c (take n rest)
    → AppendsUpTo a c bs (take (length rest - n) (drop n rest))
AppendsUpTo-more a b c bs rest n before more =
    let front = before.0 in (
      front ++ take n rest,
      Appends-trans a b c front (take n rest) before.1 more,
      append_assoc front (take n rest) (take (length rest - n) (drop n rest))
          ∙ ap (λ l. front ++ (take n rest ++ l)) (rest_behind rest n)
          ∙ ap (λ l. front ++ l) (take-append-drop n rest) ∙ before.2,
    )
