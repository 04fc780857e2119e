-- Texts that are appended one after another, and documents' lines.
use Rattle.std.proofs.Common.{◌≡◌, ℕ, ◌+◌, [], refl, ◌∷◌, ◌++◌, sym, ◌∙◌, ap, arith, append_assoc, append-nil, map-id}
use Rattle.std.specs.List.{flat_map, range_with_len}
use Rattle.std.proofs.lemmas.List.{flat_map_more}
use Rattle.std.proofs.lemmas.List.FromFn.{map-range_with_len_more}
use Rattle.fc_spec.specs.documents.Val.{Text}
use Rattle.fc_spec.specs.words.Lists.{joined, numbers_below}

-- seven texts that are appended in turn are their list, joined
pub seven_joined : (old after-a after-b after-c after-d after-e after-f after-g a b c d e f g : Text)
    → after-a ≡ old ++ a → after-b ≡ after-a ++ b → after-c ≡ after-b ++ c → after-d ≡ after-c ++ d
    → after-e ≡ after-d ++ e → after-f ≡ after-e ++ f → after-g ≡ after-f ++ g
    → after-g ≡ old ++ joined (a ∷ b ∷ c ∷ d ∷ e ∷ f ∷ g ∷ [])
seven_joined old after-a after-b after-c after-d after-e after-f after-g a b c d e f g is-a is-b is-c is-d is-e is-f is-g = rw (is-g, is-f, is-e, is-d, is-c, is-b, is-a) (simp (append_assoc, append-nil))

numbers_more : (n : ℕ) → numbers_below (n + 1) ≡ numbers_below n ++ n ∷ []
numbers_more n =
    sym (map-id (range_with_len 0 (n + 1)))
    ∙ map-range_with_len_more (λ i. i) 0 n n (omega arith)
    ∙ ap (λ xs. xs ++ n ∷ []) (map-id (range_with_len 0 n))

-- the lines of one number more
pub lines_more : (f : ℕ → Text) (start before after : Text) (n : ℕ) → before ≡ start ++ flat_map f (numbers_below n) → after ≡ before ++ f n
    → after ≡ start ++ flat_map f (numbers_below (n + 1))
lines_more f start before after n is more =
    more ∙ ap (λ t. t ++ f n) is ∙ flat_map_more f start (numbers_below n) n
    ∙ ap (λ xs. start ++ flat_map f xs) (sym (numbers_more n))

-- what is appended after the lines of all numbers
pub lines_ended : (f : ℕ → Text) (start before after-a after-b after-c a b c : Text) (n m : ℕ) → n ≡ m
    → before ≡ start ++ flat_map f (numbers_below n) → after-a ≡ before ++ a → after-b ≡ after-a ++ b → after-c ≡ after-b ++ c
    → after-c ≡ start ++ flat_map f (numbers_below m) ++ a ++ b ++ c
lines_ended f start before after-a after-b after-c a b c n m same is is-a is-b is-c = rw (is-c, is-b, is-a, is, same) refl
