-- Statistics of what lists a value, combined one after another.
use Rattle.std.proofs.Common.{◌≡◌, ℕ, List, [], ◌∷◌, map, Bool, true, false, ◌&&◌, ◌<◌, length, get_or, arith, refl, sym, ap, ◌∙◌, subst, zero-add, add_comm, Some}
use Rattle.std.specs.Prelude.{All}
use Rattle.std.specs.Cmp.{second_so}
use Rattle.std.proofs.Math.IntN.{+ℤ_idl}
use Rattle.std.proofs.lemmas.List.{get_or-map, length-map}
use Rattle.std.proofs.lemmas.List.Elements.{All-head, All-tail}
use Rattle.fc_spec.specs.requests.Combining.{combined, combined_values}
use Rattle.fc_spec.specs.requests.Request.{StatKind, sum, min, max, countvals, missing, Stat}
use Rattle.fc_spec.specs.requests.Statistics.{StatValue, number, extreme, Stats, value_over, stats_over, statistic_in, combined_value}
use Rattle.fc_spec.specs.messages.MessageShape.{value_fits, values_fit}
use Rattle.fc_spec.proofs.requests.Statistics.{combined_value_comm}
use Rattle.fc_partial.specs.Adding.{HasShape}
use Rattle.fc_partial.proofs.CombinedShape.{with_more_shape}
use Rattle.fc_refine.specs.Listings.{Listing, all_of}

first_so : (a b : Bool) → (a && b) ≡ true → a ≡ true
first_so true b h = refl
first_so false b h = absurd (cc h)

-- nothing, and a value of its kind
nothing_and : (k : StatKind) (field : ℕ) (v : StatValue) → value_fits (record { of = k; field = field }) v ≡ true → combined_value k (statistic_in k field []) v ≡ v
nothing_and sum field (number n) h = ap number (+ℤ_idl n)
nothing_and countvals field (number n) h = ap number (+ℤ_idl n)
nothing_and missing field (number n) h = ap number (+ℤ_idl n)
nothing_and min field (extreme o) h = refl
nothing_and max field (extreme o) h = refl
nothing_and sum field (extreme o) h = absurd (cc h)
nothing_and countvals field (extreme o) h = absurd (cc h)
nothing_and missing field (extreme o) h = absurd (cc h)
nothing_and min field (number n) h = absurd (cc h)
nothing_and max field (number n) h = absurd (cc h)

nothings_and : (ss : List Stat) (vs : List StatValue) → values_fit ss vs ≡ true → combined_values ss (map (λ s. value_over s []) ss) vs ≡ vs
nothings_and [] [] h = refl
nothings_and [] (v ∷ vs) h = absurd (cc h)
nothings_and (s ∷ ss) [] h = absurd (cc h)
nothings_and (s ∷ ss) (v ∷ vs) h = rw (nothing_and s.of s.field v (first_so (value_fits s v) (values_fit ss vs) h), nothings_and ss vs (second_so (value_fits s v) (values_fit ss vs) h)) refl

-- the statistics of no document add nothing
pub neutral_left : (ss : List Stat) (s : Stats) → HasShape ss s → combined ss (stats_over ss []) s ≡ s
neutral_left ss s h = rw (zero-add s.count, nothings_and ss s.values h) refl

combined_values_comm : (ss : List Stat) (as' bs : List StatValue) → combined_values ss as' bs ≡ combined_values ss bs as'
combined_values_comm [] as' bs = refl
combined_values_comm (s ∷ ss) [] [] = refl
combined_values_comm (s ∷ ss) [] (b ∷ bs) = refl
combined_values_comm (s ∷ ss) (a ∷ as') [] = refl
combined_values_comm (s ∷ ss) (a ∷ as') (b ∷ bs) = rw (combined_value_comm s.of a b, combined_values_comm ss as' bs) refl

combined_comm : (ss : List Stat) (a b : Stats) → combined ss a b ≡ combined ss b a
combined_comm ss a b = rw (add_comm a.count b.count, combined_values_comm ss a.values b.values) refl

pub neutral_right : (ss : List Stat) (s : Stats) → HasShape ss s → combined ss s (stats_over ss []) ≡ s
neutral_right ss s h = combined_comm ss s (stats_over ss []) ∙ neutral_left ss s h

neutral_values_fit : (ss : List Stat) → values_fit ss (map (λ s. value_over s []) ss) ≡ true
neutral_values_fit [] = refl
neutral_values_fit (s ∷ ss) = rw (one s.of s.field, neutral_values_fit ss) refl
  where
    one : (k : StatKind) (field : ℕ) → value_fits (record { of = k; field = field }) (statistic_in k field []) ≡ true
    one sum field = refl
    one min field = refl
    one max field = refl
    one countvals field = refl
    one missing field = refl

pub neutral_shape : (ss : List Stat) → HasShape ss (stats_over ss [])
neutral_shape ss = neutral_values_fit ss

pub combined_shape : (ss : List Stat) (a b : Stats) → HasShape ss a → HasShape ss b → HasShape ss (combined ss a b)
combined_shape ss a b h k = with_more_shape ss (Some a) b h k

-- all together has the shape that each has
pub all_of_shape : (ss : List Stat) (ls : List Listing) → All (λ l. HasShape ss l.1) ls → HasShape ss (all_of ss ls)
all_of_shape ss [] h = neutral_shape ss
all_of_shape ss (l ∷ ls) h =
    let P : Listing → Type 0 = λ x. HasShape ss x.1 in
    combined_shape ss l.1 (all_of ss ls) (All-head P l ls h) (all_of_shape ss ls (All-tail P l ls h))

-- the member at an index has it
pub shaped_at : {T : Type 0} (see : T → Listing) (ss : List Stat) (xs : List T) (i : ℕ) (x : T) → i < length xs → x ≡ get_or xs i x → All (λ l. HasShape ss l.1) (map see xs) → HasShape ss (see x).1
shaped_at see ss xs i x within is h =
    let here = get_or-map see xs i x (see x) within in
    subst (λ (l : Listing). HasShape ss l.1) (here ∙ ap see (sym is)) (h i (see x) (omega (arith, within, length-map xs see)))
