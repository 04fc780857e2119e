-- Totals over shards, and the count of a rank among totals in their order.
use Rattle.std.proofs.Common.{◌≡◌, ℕ, zero, suc, ◌+◌, ◌-◌, ◌*◌, ◌^◌, ◌<◌, ◌≤◌, List, [], ◌∷◌, map, length, take, drop, get_or, Some, ◌==◌, refl, sym, ◌∙◌, ap, subst, arith, append-nil, drop-cons}
use Rattle.std.specs.Prelude.{sum}
use Rattle.std.specs.List.{filter, range_with_len}
use Rattle.std.specs.List.Sorted.{IsStrictlySortedBy}
use Rattle.std.specs.Map.{keys_of}
use Rattle.std.proofs.lemmas.List.{drop_all}
use Rattle.std.proofs.lemmas.Nat.{div_below}
use Rattle.std.proofs.lemmas.List.Sums.{sum_by-append}
use Rattle.fc_spec.specs.documents.Val.{val_cmp}
use Rattle.fc_spec.specs.laws.SortingLaw.{IsSortOf}
use Rattle.fc_spec.specs.requests.Least.{count_first, count_or_one, count_at, least_count, share}
use Rattle.fc_spec.specs.requests.Ranks.{Entry, rank}
use Rattle.fc_spec.proofs.requests.SortedEntries.{page_is_cut}
use Rattle.fc_exact.specs.ToldFacets.{ToldValue, total_entry}
use Rattle.fc_exact.proofs.Shards.{one_more}

-- one shard more
pub sum_more : (f : ℕ → ℕ) (n : ℕ) → sum (map f (range_with_len 0 (n + 1))) ≡ sum (map f (range_with_len 0 n)) + f n
sum_more f n =
    ap sum (sym (one_more f n 0)) ∙ sum_by-append (λ k. k) (map f (range_with_len 0 n)) (f (0 + n) ∷ [])
    ∙ (let e : 0 + n ≡ n = omega arith in let s : sum (f (0 + n) ∷ []) ≡ f n = ap (λ k. sum (f k ∷ [])) e ∙ (let z : sum (f n ∷ []) ≡ f n = omega arith in z) in ap (λ k. sum (map f (range_with_len 0 n)) + k) s)

pub share_fits : (n m : ℕ) → 1 ≤ m → n ≤ m * (2 ^ 64 - 1) → share n m < 2 ^ 64
share_fits n m some bound = div_below (n + (m - 1)) m (2 ^ 64) (omega arith) (omega arith)

-- the count of a rank, where all are in their order
at_rank : (V L : List Entry) (k : ℕ) → IsSortOf count_first V L → count_at V k ≡ count_or_one (take 1 (drop k L))
at_rank V L k sorted = ap count_or_one (sym (append-nil (filter (λ e. rank count_first V e == k) V)) ∙ page_is_cut count_first k (Some 1) V L sorted)

-- the share of it, where there is one
pub least_there : (m b : ℕ) (V L : List Entry) (e : Entry) → IsSortOf count_first V L → (b ≡ 0 → ⊥) → b - 1 < length L → e ≡ get_or L (b - 1) e → share e.stats.count m ≡ least_count m b V
least_there m zero V L e sorted some less is = absurd (some refl)
least_there m (suc k) V L e sorted some less is =
    let before : suc k - 1 ≡ k = omega arith in
    sym (ap (λ n. share n m) (at_rank V L k sorted ∙ ap (λ l. count_or_one (take 1 l)) (drop-cons L k e (omega arith)) ∙ ap (λ (x : Entry). x.stats.count) (sym (is ∙ ap (λ j. get_or L j e) before))))

pub least_past : (m b : ℕ) (V L : List Entry) → IsSortOf count_first V L → (b ≡ 0 → ⊥) → length L ≤ b - 1 → share 1 m ≡ least_count m b V
least_past m zero V L sorted some past = absurd (some refl)
least_past m (suc k) V L sorted some past = sym (ap (λ n. share n m) (at_rank V L k sorted ∙ ap (λ l. count_or_one (take 1 l)) (drop_all k L (omega arith))))

-- ---- values of totals

vals_are : (H : List ℕ) (ts : List ToldValue) → keys_of ts ≡ map (λ (e : Entry). e.val) (map (total_entry H) ts)
vals_are H [] = refl
vals_are H (t ∷ ts) = ap (λ vs. t.0 ∷ vs) (vals_are H ts)

pub entries_ascend : (H : List ℕ) (ts : List ToldValue) → IsStrictlySortedBy val_cmp (keys_of ts) → IsStrictlySortedBy val_cmp (map (λ (e : Entry). e.val) (map (total_entry H) ts))
entries_ascend H ts sorted = subst (IsStrictlySortedBy val_cmp) (vals_are H ts) sorted
