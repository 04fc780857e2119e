-- Values that are put to their places, one after another.
use Rattle.std.proofs.Common.{◌≡◌, ◌<◌, ◌+◌, ℕ, zero, suc, List, [], ◌∷◌, ◌++◌, map, take, drop, length, get_or, set, refl, sym, ap, ap₂, ◌∙◌, arith, Bool, add-one, pos}
use Rattle.fc_spec.specs.requests.Statistics.{Stats, StatValue, number}
use Rattle.fc_spec.specs.requests.Request.{Stat}
use Rattle.fc_kind.specs.Columns.{HaveFields}

module _ {X Y : Type 0} (put there : X → Y) (d : X) (e : Y) where
  -- the next place has what was there before
  pub not_yet : (xs : List X) (at : ℕ) → at < length xs → get_or (map put (take at xs) ++ map there (drop at xs)) at e ≡ there (get_or xs at d)
  not_yet [] at within = absurd (omega arith)
  not_yet (x ∷ xs) zero within = refl
  not_yet (x ∷ xs) (suc at) within = not_yet xs at (omega arith)

  -- and then has its own
  pub one_more : (xs : List X) (at : ℕ) → at < length xs
      → set (map put (take at xs) ++ map there (drop at xs)) at (put (get_or xs at d)) ≡ map put (take (suc at) xs) ++ map there (drop (suc at) xs)
  one_more [] at within = absurd (omega arith)
  one_more (x ∷ xs) zero within = refl
  one_more (x ∷ xs) (suc at) within = ap (λ l. put x ∷ l) (one_more xs at (omega arith))

-- the fields of the statistics behind a place are there
pub fields_left : {X : Type 0} (texts : List Bool) (see : X → Stat) (xs : List X) (at : ℕ) → at < length xs
    → HaveFields texts (map see (drop at xs)) → HaveFields texts (map see (drop (suc at) xs))
fields_left texts see [] at within there = absurd (omega arith)
fields_left texts see (x ∷ xs) zero within there = there.1
fields_left texts see (x ∷ xs) (suc at) within there = fields_left texts see xs at (omega arith) there

abbrev pub stats_of : ℕ → List StatValue → Stats
stats_of count values = record { count = count; values = values }

-- a statistic that is put to its place
pub put_one : {X : Type 0} (put there : X → StatValue) (d : X) (xs : List X) (at place count all : ℕ) (before : List StatValue) (made : Stats)
    → at < length xs → place ≡ at
    → stats_of count before ≡ stats_of all (map put (take at xs) ++ map there (drop at xs))
    → made ≡ stats_of count (set before place (put (get_or xs at d)))
    → made ≡ stats_of all (map put (take (at + 1) xs) ++ map there (drop (at + 1) xs))
put_one put there d xs at place count all before made within same so_far told =
    told
    ∙ ap₂ stats_of (ap (λ (s : Stats). s.count) so_far)
    (ap (λ p. set before p (put (get_or xs at d))) same
    ∙ ap (λ l. set l at (put (get_or xs at d))) (ap (λ (s : Stats). s.values) so_far)
    ∙ one_more put there d (number (pos 0)) xs at within
    ∙ ap (λ n. map put (take n xs) ++ map there (drop n xs)) (sym (add-one at)))
