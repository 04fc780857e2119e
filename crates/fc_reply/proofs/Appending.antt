-- Tokens behind tokens.
use Rattle.std.proofs.Common.{◌≡◌, ℕ, ◌+◌, ◌<◌, ◌≤◌, List, [], ◌∷◌, ◌++◌, length, drop, get_or, sym, ap, ◌∙◌, append_assoc}
use Rattle.std.proofs.lemmas.List.{drop_more, drop_all}
use Rattle.json.specs.Token.{Token}
use Rattle.json.specs.Written.{Written}
use Rattle.fc_reply.specs.Tokens.{WritesTokens}

pub appends_more : (a b c : Written) (xs ys : List Token) → WritesTokens a b xs → WritesTokens b c ys → WritesTokens a c (xs ++ ys)
appends_more a b c xs ys h g = (g.0 ∙ h.0, g.1 ∙ ap (λ ts. ts ++ ys) h.1 ∙ append_assoc a.tokens xs ys)

-- what is left to write, after these tokens of it
pub left_after : (a b : Written) (ts rest all left : List Token) → WritesTokens a b ts → left ≡ ts ++ rest → a.tokens ++ left ≡ all → b.tokens ++ rest ≡ all
left_after a b ts rest all left h is e = ap (λ s. s ++ rest) h.1 ∙ append_assoc a.tokens ts rest ∙ ap (λ s. a.tokens ++ s) (sym is) ∙ e

-- the same in a loop over a list
pub item_written : {X : Type 0} (F : List X → List Token) (a b : Written) (xs : List X) (i : ℕ) (x : X) (ts all : List Token) → i < length xs → x ≡ get_or xs i x
    → F (x ∷ drop (i + 1) xs) ≡ ts ++ F (drop (i + 1) xs) → WritesTokens a b ts → a.tokens ++ F (drop i xs) ≡ all → b.tokens ++ F (drop (i + 1) xs) ≡ all
item_written F a b xs i x ts all within is first h e =
    let here : drop i xs ≡ x ∷ drop (i + 1) xs = drop_more xs i x within ∙ ap (λ y. y ∷ drop (i + 1) xs) (sym is) in
    left_after a b ts (F (drop (i + 1) xs)) all (F (drop i xs)) h (ap F here ∙ first) e

-- at its end the list is written
pub list_written : {X : Type 0} (F : List X → List Token) (a b c : Written) (xs : List X) (i : ℕ) → length xs ≤ i
    → (b.before ≡ a.before) → b.tokens ++ F (drop i xs) ≡ a.tokens ++ F xs → WritesTokens b c (F []) → WritesTokens a c (F xs)
list_written F a b c xs i past before e h = (h.0 ∙ before, h.1 ∙ ap (λ ys. b.tokens ++ F ys) (sym (drop_all i xs past)) ∙ e)
