-- Values combined one after another, each written where the first stood.
use Rattle.std.proofs.Common.{◌≡◌, ◌<◌, ℕ, zero, suc, List, [], ◌∷◌, true, ◌+ℤ◌, FitsSigned, w64, length, get_or, set, refl, sym, ap, subst, arith}
use Rattle.std.specs.Cmp.{second_so}
use Rattle.fc_spec.specs.requests.Request.{Stat}
use Rattle.fc_spec.specs.requests.Statistics.{StatValue, amount, combined_value}
use Rattle.fc_spec.specs.requests.Combining.{combined_values}
use Rattle.fc_spec.specs.messages.MessageShape.{value_fits, values_fit}
use Rattle.fc_partial.specs.Numbers.{NumbersAddUp}

-- the first i stay, and those behind them are combined
abbrev pub combined_from : ℕ → List Stat → List StatValue → List StatValue → List StatValue
combined_from zero ss as' bs = combined_values ss as' bs
combined_from (suc i) [] as' bs = as'
combined_from (suc i) (s ∷ ss) [] bs = []
combined_from (suc i) (s ∷ ss) (a ∷ as') [] = a ∷ as'
combined_from (suc i) (s ∷ ss) (a ∷ as') (b ∷ bs) = a ∷ combined_from i ss as' bs

-- the numbers of those behind the first i add up
abbrev pub NumbersFrom : ℕ → List StatValue → List StatValue → Type 0
NumbersFrom zero as' bs = NumbersAddUp as' bs
NumbersFrom (suc i) [] bs = Unit {0}
NumbersFrom (suc i) (a ∷ as') [] = Unit {0}
NumbersFrom (suc i) (a ∷ as') (b ∷ bs) = NumbersFrom i as' bs

-- the next is combined and written
pub combined_more : (i : ℕ) (ss : List Stat) (as' bs : List StatValue) (s : Stat) (a b : StatValue)
    → i < length ss → i < length as' → i < length bs → s ≡ get_or ss i s → a ≡ get_or as' i a → b ≡ get_or bs i b
    → combined_from (suc i) ss (set as' i (combined_value s.of a b)) bs ≡ combined_from i ss as' bs
combined_more i [] as' bs s a b ls la lb p q r = absurd (omega arith)
combined_more i (s' ∷ ss) [] bs s a b ls la lb p q r = absurd (omega arith)
combined_more i (s' ∷ ss) (a' ∷ as') [] s a b ls la lb p q r = absurd (omega arith)
combined_more zero (s' ∷ ss) (a' ∷ as') (b' ∷ bs) s a b ls la lb p q r = λ j. combined_value (p j).of (q j) (r j) ∷ combined_values ss as' bs
combined_more (suc i) (s' ∷ ss) (a' ∷ as') (b' ∷ bs) s a b ls la lb p q r =
    ap (λ l. a' ∷ l) (combined_more i ss as' bs s a b (omega arith) (omega arith) (omega arith) p q r)

pub numbers_more : (i : ℕ) (as' bs : List StatValue) (v : StatValue) → NumbersFrom i as' bs → NumbersFrom (suc i) (set as' i v) bs
numbers_more zero [] bs v h = tt
numbers_more zero (a ∷ as') [] v h = tt
numbers_more zero (a ∷ as') (b ∷ bs) v h = h.1
numbers_more (suc i) [] bs v h = tt
numbers_more (suc i) (a ∷ as') [] v h = tt
numbers_more (suc i) (a ∷ as') (b ∷ bs) v h = numbers_more i as' bs v h

-- the numbers at i add up
pub numbers_at : (i : ℕ) (as' bs : List StatValue) (a b : StatValue)
    → i < length as' → i < length bs → a ≡ get_or as' i a → b ≡ get_or bs i b → NumbersFrom i as' bs → FitsSigned w64 (amount a +ℤ amount b)
numbers_at i [] bs a b la lb q r h = absurd (omega arith)
numbers_at i (a' ∷ as') [] a b la lb q r h = absurd (omega arith)
numbers_at zero (a' ∷ as') (b' ∷ bs) a b la lb q r h = subst (λ x. FitsSigned w64 (amount x +ℤ amount b)) (sym q) (subst (λ x. FitsSigned w64 (amount a' +ℤ amount x)) (sym r) h.0)
numbers_at (suc i) (a' ∷ as') (b' ∷ bs) a b la lb q r h = numbers_at i as' bs a b (omega arith) (omega arith) q r h

-- there are as many values as statistics
pub length_from_shape : (ss : List Stat) (vs : List StatValue) → values_fit ss vs ≡ true → length vs ≡ length ss
length_from_shape [] [] h = refl
length_from_shape [] (v ∷ vs) h = cc
length_from_shape (s ∷ ss) [] h = cc
length_from_shape (s ∷ ss) (v ∷ vs) h = ap suc (length_from_shape ss vs (second_so (value_fits s v) (values_fit ss vs) h))

-- all are combined
pub combined_all : (i : ℕ) (ss : List Stat) (as' bs : List StatValue) → i ≡ length ss → length as' ≡ length ss → length bs ≡ length ss → combined_from i ss as' bs ≡ as'
combined_all zero [] [] bs e p q = refl
combined_all (suc i) [] as' bs e p q = refl
combined_all zero [] (a ∷ as') bs e p q = absurd (omega arith)
combined_all zero (s ∷ ss) as' bs e p q = absurd (omega arith)
combined_all (suc i) (s ∷ ss) [] bs e p q = refl
combined_all (suc i) (s ∷ ss) (a ∷ as') [] e p q = refl
combined_all (suc i) (s ∷ ss) (a ∷ as') (b ∷ bs) e p q = ap (λ l. a ∷ l) (combined_all i ss as' bs (omega arith) (omega arith) (omega arith))
