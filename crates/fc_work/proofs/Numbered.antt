-- Sessions by their names and by their numbers.
use Rattle.std.proofs.Common.{◌≡◌, ℕ, zero, suc, ◌<◌, ◌⊎◌, inl, inr, List, [], ◌∷◌, ◌==◌, Bool, true, false, length, map, set, get_or, refl, ap, subst, arith}
use Rattle.std.specs.Prelude.{All, AllPairs, Result, if◌then◌else◌}
use Rattle.std.proofs.lemmas.Bool.{cases_lt, eqb-false, eqb-true}
use Rattle.std.proofs.lemmas.List.Elements.{All-head, All-tail}
use Rattle.fc_spec.specs.documents.Val.{Text, same_text}
use Rattle.fc_spec.specs.scripts.SearchLines.{asked_by, SearchLine}
use Rattle.fc_spec.proofs.words.Texts.{differs, equal, same_itself}
use Rattle.fc_request.specs.declared.fault.RequestFault.{RequestFault}
use Rattle.fc_request.specs.declared.request.Request.{Request}
use Rattle.fc_lines.specs.LineView.{asked_view}
use Rattle.fc_script.specs.PartsView.{search_view}
use Rattle.fc_script.specs.declared.script.Search.{Search}
use Rattle.fc_work.specs.Working.{asked_of}
use Rattle.fc_work.specs.Woven.{lines_at}

-- each name differs from those behind it
abbrev pub AreApart : List Text → Type 0
AreApart names = AllPairs (λ a b. same_text a b ≡ false) names

pub apart_later : (n : Text) (names : List Text) → AreApart (n ∷ names) → AreApart names
apart_later n names apart i j d less below = apart (suc i) (suc j) d (omega arith) (omega (arith, below))

pub apart_first : (n : Text) (names : List Text) (i : ℕ) (d : Text) → AreApart (n ∷ names) → i < length names → same_text n (get_or names i d) ≡ false
apart_first n names i d apart below = apart 0 (suc i) d (omega arith) (omega (arith, below))

other_way : (a b : Text) → same_text a b ≡ false → same_text b a ≡ false
other_way a b e = differs b a (λ same. let here : same_text a b ≡ true = subst (λ c. same_text c b ≡ true) same (same_itself b) in (cc))

-- the names at two numbers are one exactly where the numbers are
pub same_number : (names : List Text) (i j : ℕ) → AreApart names → i < length names → j < length names → same_text (get_or names i []) (get_or names j []) ≡ (i == j)
same_number names i j apart first second = go (i == j) refl
  where
    go : (b : Bool) → (i == j) ≡ b → same_text (get_or names i []) (get_or names j []) ≡ b
    go true e = subst (λ k. same_text (get_or names i []) (get_or names k []) ≡ true) (eqb-true i j e) (same_itself (get_or names i []))
    go false e = order (nat_order i j (eqb-false i j e))
      where
        nat_order : (a b : ℕ) → (a ≡ b → ⊥) → (a < b) ⊎ (b < a)
        nat_order a b other = elim (cases_lt a b) [ inl less ↦ inl less | inr most ↦ inr (omega (arith, most, other)) ]

        order : (i < j) ⊎ (j < i) → same_text (get_or names i []) (get_or names j []) ≡ false
        order (inl less) = apart i j [] less second
        order (inr more) = other_way (get_or names j []) (get_or names i []) (apart j i [] more first)

-- ---- lines by names

-- the lines of the session of a name
abbrev pub lines_of : List Text → List (List SearchLine) → Text → List SearchLine
lines_of [] lines c = []
lines_of (n ∷ names) [] c = []
lines_of (n ∷ names) (l ∷ lines) c = if same_text n c then l else lines_of names lines c

pub lines_of-at : (names : List Text) (lines : List (List SearchLine)) (i : ℕ) → AreApart names → length lines ≡ length names → i < length names → lines_of names lines (get_or names i []) ≡ lines_at lines i
lines_of-at [] lines i apart same below = absurd (omega arith)
lines_of-at (n ∷ names) [] i apart same below = absurd (omega (arith, same))
lines_of-at (n ∷ names) (l ∷ lines) zero apart same below = rw (same_itself n) refl
lines_of-at (n ∷ names) (l ∷ lines) (suc i) apart same below =
    rw (apart_first n names i [] apart (omega (arith, below))) (lines_of-at names lines i (apart_later n names apart) (omega (arith, same)) (omega (arith, below)))

-- with other lines at a number
pub lines_of-set : (names : List Text) (lines : List (List SearchLine)) (i : ℕ) (x : List SearchLine) (c : Text) → AreApart names → length lines ≡ length names → i < length names
    → lines_of names (set lines i x) c ≡ (if same_text (get_or names i []) c then x else lines_of names lines c)
lines_of-set [] lines i x c apart same below = absurd (omega arith)
lines_of-set (n ∷ names) [] i x c apart same below = absurd (omega (arith, same))
lines_of-set (n ∷ names) (l ∷ lines) zero x c apart same below = go (same_text n c) refl
  where
    go : (b : Bool) → same_text n c ≡ b → (if same_text n c then x else lines_of names lines c) ≡ (if same_text n c then x else (if same_text n c then l else lines_of names lines c))
    go true e = rw e refl
    go false e = rw e refl
lines_of-set (n ∷ names) (l ∷ lines) (suc i) x c apart same below =
    go (same_text n c) refl (lines_of-set names lines i x c (apart_later n names apart) (omega (arith, same)) (omega (arith, below)))
  where
    other : same_text n c ≡ true → same_text (get_or names i []) c ≡ false
    other e = other_way c (get_or names i []) (subst (λ t. same_text t (get_or names i []) ≡ false) (equal n c e) (apart_first n names i [] apart (omega (arith, below))))

    go : (b : Bool) → same_text n c ≡ b → lines_of names (set lines i x) c ≡ (if same_text (get_or names i []) c then x else lines_of names lines c)
        → (if same_text n c then l else lines_of names (set lines i x) c) ≡ (if same_text (get_or names i []) c then x else (if same_text n c then l else lines_of names lines c))
    go true e rest = rw (e, other e) refl
    go false e rest = rw e rest

-- a name is that of a number, or none is
pub find_name : (names : List Text) (c : Text) → ((i : ℕ) × (i < length names) × (get_or names i [] ≡ c)) ⊎ ((i : ℕ) → i < length names → same_text (get_or names i []) c ≡ false)
find_name [] c = inr (λ i below. absurd (omega arith))
find_name (n ∷ names) c = go (same_text n c) refl (find_name names c)
  where
    go : (b : Bool) → same_text n c ≡ b → ((i : ℕ) × (i < length names) × (get_or names i [] ≡ c)) ⊎ ((i : ℕ) → i < length names → same_text (get_or names i []) c ≡ false)
        → ((i : ℕ) × (i < length (n ∷ names)) × (get_or (n ∷ names) i [] ≡ c)) ⊎ ((i : ℕ) → i < length (n ∷ names) → same_text (get_or (n ∷ names) i []) c ≡ false)
    go true e rest = inl (0, omega arith, equal n c e)
    go false e (inl (i, below, is)) = inl (suc i, omega (arith, below), is)
    go false e (inr none) = inr at
      where
        at : (i : ℕ) → i < length (n ∷ names) → same_text (get_or (n ∷ names) i []) c ≡ false
        at zero below = e
        at (suc i) below = none i (omega (arith, below))

pub lines_of-none : (names : List Text) (lines : List (List SearchLine)) (c : Text) → ((i : ℕ) → i < length names → same_text (get_or names i []) c ≡ false) → lines_of names lines c ≡ []
lines_of-none [] lines c none = refl
lines_of-none (n ∷ names) [] c none = refl
lines_of-none (n ∷ names) (l ∷ lines) c none = rw (none 0 (omega arith)) (lines_of-none names lines c (λ i below. none (suc i) (omega (arith, below))))

-- ---- what is asked

-- whose searches are, and what they ask
abbrev pub orders : List Search → List ℕ
orders qs = map (λ q. q.session) qs

abbrev pub asks : List Search → List (Result Request RequestFault)
asks qs = map (λ q. q.request) qs

abbrev pub IsBelow : ℕ → Search → Type 0
IsBelow n q = q.session < n

pub asked_at : (names : List Text) (p i : ℕ) (qs : List Search) → AreApart names → i < length names → All (IsBelow (length names)) qs
    → asked_by (get_or names i []) (map (search_view names p) qs) ≡ map asked_view (asked_of i (orders qs) (asks qs))
asked_at names p i [] apart below all = refl
asked_at names p i (q ∷ qs) apart below all =
    go (q.session == i) refl (same_number names q.session i apart (All-head (IsBelow (length names)) q qs all) below) (asked_at names p i qs apart below (All-tail (IsBelow (length names)) q qs all))
  where
    go : (b : Bool) → (q.session == i) ≡ b → same_text (get_or names q.session []) (get_or names i []) ≡ (q.session == i)
        → asked_by (get_or names i []) (map (search_view names p) qs) ≡ map asked_view (asked_of i (orders qs) (asks qs))
        → asked_by (get_or names i []) (map (search_view names p) (q ∷ qs)) ≡ map asked_view (asked_of i (orders (q ∷ qs)) (asks (q ∷ qs)))
    go true e same rest = rw (same, e) (ap (λ more. asked_view q.request ∷ more) rest)
    go false e same rest = rw (same, e) rest

pub asked_none : (names : List Text) (p : ℕ) (c : Text) (qs : List Search) → All (IsBelow (length names)) qs → ((i : ℕ) → i < length names → same_text (get_or names i []) c ≡ false)
    → asked_by c (map (search_view names p) qs) ≡ []
asked_none names p c [] all none = refl
asked_none names p c (q ∷ qs) all none =
    rw (none q.session (All-head (IsBelow (length names)) q qs all)) (asked_none names p c qs (All-tail (IsBelow (length names)) q qs all) none)
