-- Which sessions search, and what those that don't have.
use Rattle.std.proofs.Common.{◌≡◌, ℕ, zero, suc, ◌+◌, ◌<◌, ◌≤◌, ◌⊎◌, inl, inr, List, [], ◌∷◌, ◌==◌, ◌||◌, Bool, true, false, cond, length, refl, sym, ◌∙◌, ◌++◌, ap, zero-add, append-nil, arith}
use Rattle.std.specs.Prelude.{All, Result}
use Rattle.std.specs.List.{filter, list_any, range_with_len}
use Rattle.std.proofs.lemmas.Bool.{cases_lt, eq-eqb}
use Rattle.std.proofs.lemmas.List.Elements.{All-filter, filter-append, All-from_get_or, All-head}
use Rattle.std.proofs.lemmas.List.FromFn.{get_or-range_with_len, length-range_with_len}
use Rattle.fc_spec.specs.words.Lists.{numbers_below}
use Rattle.fc_request.specs.declared.fault.RequestFault.{RequestFault}
use Rattle.fc_request.specs.declared.request.Request.{Request}
use Rattle.fc_work.specs.Sharing.{asking_of}
use Rattle.fc_work.specs.Working.{asked_of}

-- one of them is this number
abbrev pub HasNumber : ℕ → List ℕ → Type 0
HasNumber c [] = ⊥
HasNumber c (n ∷ ns) = (n ≡ c) ⊎ HasNumber c ns

has_range : (a n c : ℕ) → a ≤ c → c < a + n → HasNumber c (range_with_len a n)
has_range a zero c above below = absurd (omega (arith, above, below))
has_range a (suc n) c above below =
    elim (cases_lt a c) as (λ w. HasNumber c (range_with_len a (suc n))) [
      | inl less ↦ inr (has_range (a + 1) n c (omega (arith, less)) (omega (arith, below)))
      | inr most ↦ inl (omega (arith, above, most))
    ]

has_filter : (p : ℕ → Bool) (c : ℕ) (ns : List ℕ) → p c ≡ true → HasNumber c ns → HasNumber c (filter p ns)
has_filter p c [] passes has = has
has_filter p c (n ∷ ns) passes has = go (p n) refl has (λ more. has_filter p c ns passes more)
  where
    go : (b : Bool) → p n ≡ b → ((n ≡ c) ⊎ HasNumber c ns) → (HasNumber c ns → HasNumber c (filter p ns)) → HasNumber c (cond b (n ∷ filter p ns) (filter p ns))
    go true e (inl same) later = inl same
    go true e (inr more) later = inr (later more)
    go false e (inl same) later = absurd (let here : p n ≡ true = ap p same ∙ passes in cc)
    go false e (inr more) later = later more

pub is_asking : (order : List ℕ) (n c : ℕ) → c < n → list_any (λ s. s == c) order ≡ true → HasNumber c (asking_of order n)
is_asking order n c below any = has_filter (λ c. list_any (λ s. s == c) order) c (numbers_below n) any (has_range 0 n c (omega arith) (omega (arith, below)))

-- a session with no search has asked nothing
pub asks_nothing : (c : ℕ) (order : List ℕ) (asked : List (Result Request RequestFault)) → list_any (λ s. s == c) order ≡ false → asked_of c order asked ≡ []
asks_nothing c [] asked none = refl
asks_nothing c (s ∷ order) [] none = refl
asks_nothing c (s ∷ order) (a ∷ asked) none = go (s == c) none (λ rest. asks_nothing c order asked rest)
  where
    go : (b : Bool) → (b || list_any (λ s. s == c) order) ≡ false → (list_any (λ s. s == c) order ≡ false → asked_of c order asked ≡ []) → cond b (a ∷ asked_of c order asked) (asked_of c order asked) ≡ []
    go true none later = absurd (cc)
    go false none later = later none

has_some : (c : ℕ) (ns : List ℕ) → HasNumber c ns → 1 ≤ length ns
has_some c [] has = absurd has
has_some c (n ∷ ns) has = omega arith

-- where there is a search, a session has it
pub some_ask : (order : List ℕ) (n : ℕ) → 1 ≤ length order → All (λ c. c < n) order → 1 ≤ length (asking_of order n)
some_ask [] n some below = absurd (omega arith)
some_ask (c ∷ order) n some below = has_some c (asking_of (c ∷ order) n) (is_asking (c ∷ order) n c (All-head (λ c. c < n) c order below) first)
  where
    first : (c == c || list_any (λ s. s == c) order) ≡ true
    first = rw (eq-eqb c c refl) refl

few_filter : (p : ℕ → Bool) (ns : List ℕ) → length (filter p ns) ≤ length ns
few_filter p [] = omega arith
few_filter p (n ∷ ns) = go (p n) (few_filter p ns)
  where
    go : (b : Bool) → length (filter p ns) ≤ length ns → length (cond b (n ∷ filter p ns) (filter p ns)) ≤ length (n ∷ ns)
    go true rest = omega (arith, rest)
    go false rest = omega (arith, rest)

pub few_ask : (order : List ℕ) (n : ℕ) → length (asking_of order n) ≤ n
few_ask order n = let most = few_filter (λ c. list_any (λ s. s == c) order) (numbers_below n) in let long = length-range_with_len 0 n in omega (arith, most, long)

pub asking_below : (order : List ℕ) (n : ℕ) → All (λ c. c < n) (asking_of order n)
asking_below order n = All-filter (λ c. list_any (λ s. s == c) order) (λ c. c < n) (numbers_below n) (All-from_get_or (λ c. c < n) (numbers_below n) 0 (λ k below.
    let long = length-range_with_len 0 n in
    let within : k < n = omega (arith, below, long) in
    let is = get_or-range_with_len 0 n k 0 within in
    omega (arith, within, is)))

range_more : (a n : ℕ) → range_with_len a (n + 1) ≡ range_with_len a n ++ (a + n) ∷ []
range_more a zero = let same : a ≡ a + 0 = omega arith in ap (λ k. k ∷ []) same
range_more a (suc n) =
    let one : suc n + 1 ≡ suc (n + 1) = omega arith in
    let last : (a + 1) + n ≡ a + suc n = omega arith in
    ap (range_with_len a) one ∙ ap (λ rest. a ∷ rest) (range_more (a + 1) n ∙ ap (λ k. range_with_len (a + 1) n ++ k ∷ []) last)

one_filter : (p : ℕ → Bool) (n : ℕ) → filter p (n ∷ []) ≡ cond (p n) (n ∷ []) []
one_filter p n = refl

-- one session more
pub asking_more : (order : List ℕ) (n : ℕ) → asking_of order (n + 1) ≡ asking_of order n ++ cond (list_any (λ s. s == n) order) (n ∷ []) []
asking_more order n =
    ap (filter (λ c. list_any (λ s. s == c) order)) (range_more 0 n ∙ ap (λ k. range_with_len 0 n ++ k ∷ []) (zero-add n))
    ∙ filter-append (λ c. list_any (λ s. s == c) order) (range_with_len 0 n) (n ∷ [])

pub asking_with : (order numbers after : List ℕ) (n : ℕ) (b : Bool) → b ≡ list_any (λ s. s == n) order → b ≡ true → numbers ≡ asking_of order n → after ≡ numbers ++ n ∷ [] → after ≡ asking_of order (n + 1)
asking_with order numbers after n b any is so_far more =
    more ∙ ap (λ ns. ns ++ n ∷ []) so_far ∙ ap (λ t. asking_of order n ++ cond t (n ∷ []) []) (sym is ∙ any) ∙ sym (asking_more order n)

pub asking_without : (order numbers : List ℕ) (n : ℕ) (b : Bool) → b ≡ list_any (λ s. s == n) order → b ≡ false → numbers ≡ asking_of order n → numbers ≡ asking_of order (n + 1)
asking_without order numbers n b any is so_far =
    so_far ∙ sym (append-nil (asking_of order n)) ∙ ap (λ t. asking_of order n ++ cond t (n ∷ []) []) (sym is ∙ any) ∙ sym (asking_more order n)
