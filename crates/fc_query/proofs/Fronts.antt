-- The front of a row whose characters pass a test, and what is left behind it.
use Rattle.std.proofs.Common.{◌≡◌, ◌∙◌, ap, refl, sym, ℕ, suc, List, [], ◌∷◌, ◌++◌, take, drop, Bool, false, true, None, Some, ◌&&◌, arith, append_assoc}
use Rattle.std.proofs.Math.Bool.{and_assoc}
use Rattle.std.specs.Prelude.{slice_get}
use Rattle.std.specs.Char.{encode_utf8}
use Rattle.std.specs.List.{list_all, prefix_len, take_while}
use Rattle.fc_spec.specs.queries.QueryCharacters.{Character, behind, code, is_bare, text_of}

pub first_and_rest : (c : Character) (cs : List Character) → slice_get cs 0 ≡ Some c → cs ≡ c ∷ drop 1 cs
first_and_rest c [] h = absurd cc
first_and_rest c (d ∷ cs) h = cc

pub none_first : (cs : List Character) → slice_get cs 0 ≡ None → cs ≡ []
none_first [] h = refl
none_first (c ∷ cs) h = cc

len_goes_on : (p : Character → Bool) (c : Character) (cs : List Character) → p c ≡ true → prefix_len p (c ∷ cs) ≡ suc (prefix_len p cs)
len_goes_on p c cs h = rw h (omega arith)

len_ends : (p : Character → Bool) (c : Character) (cs : List Character) → p c ≡ false → prefix_len p (c ∷ cs) ≡ 0
len_ends p c cs h = rw h refl

pub front_goes_on : (p : Character → Bool) (c : Character) (cs : List Character) → slice_get cs 0 ≡ Some c → p c ≡ true → take_while p cs ≡ c ∷ take_while p (drop 1 cs)
front_goes_on p c cs e h = ap (take_while p) (first_and_rest c cs e) ∙ ap (λ n. take n (c ∷ drop 1 cs)) (len_goes_on p c (drop 1 cs) h)

pub left_goes_on : (p : Character → Bool) (c : Character) (cs : List Character) → slice_get cs 0 ≡ Some c → p c ≡ true → behind p (drop 1 cs) ≡ behind p cs
left_goes_on p c cs e h = sym (ap (behind p) (first_and_rest c cs e) ∙ ap (λ n. drop n (c ∷ drop 1 cs)) (len_goes_on p c (drop 1 cs) h))

pub text_goes_on : (p : Character → Bool) (c : Character) (cs : List Character) (text : List ℕ) → slice_get cs 0 ≡ Some c → p c ≡ true
    → (text ++ encode_utf8 (code c)) ++ text_of (take_while p (drop 1 cs)) ≡ text ++ text_of (take_while p cs)
text_goes_on p c cs text e h = append_assoc text (encode_utf8 (code c)) (text_of (take_while p (drop 1 cs))) ∙ ap (λ ds. text ++ text_of ds) (sym (front_goes_on p c cs e h))

pub plain_goes_on : (p : Character → Bool) (c : Character) (cs : List Character) (plain : Bool) → slice_get cs 0 ≡ Some c → p c ≡ true
    → ((plain && is_bare c) && list_all is_bare (take_while p (drop 1 cs))) ≡ (plain && list_all is_bare (take_while p cs))
plain_goes_on p c cs plain e h = and_assoc plain (is_bare c) (list_all is_bare (take_while p (drop 1 cs))) ∙ ap (λ ds. plain && list_all is_bare ds) (sym (front_goes_on p c cs e h))

pub front_ends : (p : Character → Bool) (c : Character) (cs : List Character) → slice_get cs 0 ≡ Some c → p c ≡ false → take_while p cs ≡ []
front_ends p c cs e h = ap (take_while p) (first_and_rest c cs e) ∙ ap (λ n. take n (c ∷ drop 1 cs)) (len_ends p c (drop 1 cs) h)

pub left_ends : (p : Character → Bool) (c : Character) (cs : List Character) → slice_get cs 0 ≡ Some c → p c ≡ false → behind p cs ≡ cs
left_ends p c cs e h = ap (behind p) (first_and_rest c cs e) ∙ ap (λ n. drop n (c ∷ drop 1 cs)) (len_ends p c (drop 1 cs) h) ∙ sym (first_and_rest c cs e)

-- the same without a first character
pub no_front : (p : Character → Bool) (cs : List Character) → slice_get cs 0 ≡ None → take_while p cs ≡ []
no_front p cs h = ap (take_while p) (none_first cs h)

pub none_left : (p : Character → Bool) (cs : List Character) → slice_get cs 0 ≡ None → behind p cs ≡ cs
none_left p cs h = ap (behind p) (none_first cs h) ∙ sym (none_first cs h)
