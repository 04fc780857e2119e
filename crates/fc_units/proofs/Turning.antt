-- Units that are done and left, by jobs that have ended.
use Rattle.std.proofs.Common.{◌≡◌, ℕ, suc, ◌+◌, ◌-◌, ◌*◌, ◌/◌, ◌<◌, ◌≤◌, List, [], ◌∷◌, ◌++◌, length, sum, take, sym, ◌∙◌, ap, subst, arith, length-append, add-zero, add_assoc, inl, inr, ◌⊎◌}
use Rattle.std.proofs.Math.Seq.{take-append_seam, take-length}
use Rattle.std.proofs.lemmas.List.Sums.{sum_by-append, sum_by-cons}
use Rattle.std.proofs.lemmas.Nat.{div-mul-add}
use Rattle.fc_spec.specs.messages.Message.{Partials}
use Rattle.fc_levels.specs.Jobs.{job_count, known, left_after, opened, openings, top_buckets, units, units_each}

mul_comm : (a b : ℕ) → a * b ≡ b * a
mul_comm a b = grind arith

mul_more : (M e : ℕ) → M * suc e ≡ M * e + M
mul_more M e = grind arith

mul_up : (M e j : ℕ) → e ≤ j → M * e ≤ M * j
mul_up M e j h = grind arith

mul_apart : (M a b : ℕ) → M * (a + b) ≡ M * a + M * b
mul_apart M a b = grind arith

pub each_some : (m : ℕ) → 0 < units_each m
each_some m = omega arith

-- so many jobs are known of a list, beside s others: the sum of the openings, and always more than have ended
pub record AreKnown (s : ℕ) (xs : List ℕ) : Type 0 where
  pub all : s + sum xs ≡ length xs
  pub ahead : (n : ℕ) → n < length xs → n < s + sum (take n xs)

module _ (M : ℕ) (some : 0 < M) (s : ℕ) (E R : List ℕ) (o : ℕ) (law : AreKnown s (E ++ o ∷ R)) where
  O : List ℕ
  O = E ++ o ∷ R

  front : take (length E) (E ++ o ∷ R) ≡ E
  front = take-append_seam E (o ∷ R)

  count : length (E ++ o ∷ R) ≡ length E + suc (length R)
  count = length-append E (o ∷ R)

  -- how many jobs have ended
  pub ended_count : (k : ℕ) → k < M → (M * length E + k) / M ≡ length E
  ended_count k h = ap (λ n. (n + k) / M) (mul_comm M (length E)) ∙ div-mul-add (length E) M k h

  -- more are known than have ended
  pub known_ahead : length E < s + sum E
  known_ahead = subst (λ l. length E < s + sum l) front (law.ahead (length E) (omega (arith, count)))

  -- within a job some units are left
  pub below_all : (k : ℕ) → k < M → M * length E + k < M * length (E ++ o ∷ R)
  below_all k h = omega (arith, count, mul_up M (suc (length E)) (length (E ++ o ∷ R)) (omega (arith, count)), mul_more M (length E))

  pub some_left : (k : ℕ) → k < M → 0 < M * (s + sum E) - (M * length E + k)
  some_left k h = omega (arith, mul_up M (suc (length E)) (s + sum E) known_ahead, mul_more M (length E))

sum_push : (E : List ℕ) (k : ℕ) → sum (E ++ k ∷ []) ≡ sum E + k
sum_push E k = sum_by-append (λ n. n) E (k ∷ []) ∙ ap (λ n. sum E + n) (sum_by-cons (λ n. n) k [] ∙ add-zero k)

-- ---- the state of a future that is not over: its jobs E have ended, and k units of the next one are done
pub record Stands (segments : ℕ) (m : Partials) (E : List ℕ) (k done : ℕ) : Type 0 where
  pub within : k < units_each segments
  pub done_is : done ≡ units_each segments * length E + k
  pub next : (o : ℕ) × (R : List ℕ) × (openings m ≡ E ++ o ∷ R)

-- what the state shows
pub record Shows (segments : ℕ) (m : Partials) (E : List ℕ) (done : ℕ) : Type 0 where
  pub below : done < units segments m
  pub left_is : left_after segments m done ≡ units_each segments * (top_buckets m + opened m + sum E) - done
  pub some : 0 < left_after segments m done

pub shown : (segments : ℕ) (m : Partials) (E : List ℕ) (k done : ℕ) → AreKnown (top_buckets m + opened m) (openings m) → length (openings m) ≡ job_count m → Stands segments m E k done → Shows segments m E done
shown segments m E k done law counted st = record {
  below = subst (λ d. d < units segments m) (sym st.done_is) (subst (λ j. units_each segments * length E + k < units_each segments * j) jobs below);
  left_is = left;
  some = subst (λ n. 0 < n) (sym left) (subst (λ d. 0 < units_each segments * (top_buckets m + opened m + sum E) - d) (sym st.done_is) some);
}
  where
    apart : AreKnown (top_buckets m + opened m) (E ++ st.next.0 ∷ st.next.1)
    apart = subst (AreKnown (top_buckets m + opened m)) st.next.2 law

    jobs : length (E ++ st.next.0 ∷ st.next.1) ≡ job_count m
    jobs = ap length (sym st.next.2) ∙ counted

    below : units_each segments * length E + k < units_each segments * length (E ++ st.next.0 ∷ st.next.1)
    below = below_all (units_each segments) (each_some segments) (top_buckets m + opened m) E st.next.1 st.next.0 apart k st.within

    some : 0 < units_each segments * (top_buckets m + opened m + sum E) - (units_each segments * length E + k)
    some = some_left (units_each segments) (each_some segments) (top_buckets m + opened m) E st.next.1 st.next.0 apart k st.within

    ended : done / units_each segments ≡ length E
    ended = ap (λ d. d / units_each segments) st.done_is ∙ ended_count (units_each segments) (each_some segments) (top_buckets m + opened m) E st.next.1 st.next.0 apart k st.within

    left : left_after segments m done ≡ units_each segments * (top_buckets m + opened m + sum E) - done
    left = ap (λ n. units_each segments * (top_buckets m + opened m + sum (take n (openings m))) - done) ended
        ∙ ap (λ l. units_each segments * (top_buckets m + opened m + sum l) - done) (ap (take (length E)) st.next.2 ∙ take-append_seam E (st.next.0 ∷ st.next.1))

-- the last unit
pub ends : (segments : ℕ) (m : Partials) (E : List ℕ) (k done : ℕ) → AreKnown (top_buckets m + opened m) (openings m) → length (openings m) ≡ job_count m → done ≡ units_each segments * length E + k → k + 1 ≡ units_each segments → openings m ≡ E ++ 0 ∷ []
    → (done + 1 ≡ units segments m) × (left_after segments m (done + 1) ≡ 0)
ends segments m E k done law count d last all = (whole, none)
  where
    jobs : length E + 1 ≡ job_count m
    jobs = omega (arith, length-append E (0 ∷ []), ap length all, count)

    whole : done + 1 ≡ units segments m
    whole = omega (arith, d, last, mul_more (units_each segments) (length E), ap (λ n. units_each segments * n) jobs)

    quotient : (done + 1) / units_each segments ≡ job_count m
    quotient = ap (λ d. d / units_each segments) (whole ∙ mul_comm (units_each segments) (job_count m) ∙ sym (add-zero (job_count m * units_each segments))) ∙ div-mul-add (job_count m) (units_each segments) 0 (each_some segments)

    known_all : known m (job_count m) ≡ job_count m
    known_all = ap (λ n. top_buckets m + opened m + sum (take n (openings m))) (sym count) ∙ ap (λ l. top_buckets m + opened m + sum l) (take-length (openings m)) ∙ law.all ∙ count

    none : left_after segments m (done + 1) ≡ 0
    none = ap (λ n. units_each segments * known m n - (done + 1)) quotient ∙ ap (λ n. units_each segments * n - (done + 1)) known_all ∙ omega (arith, whole)

-- one unit less is left, and those of the jobs that are known now
pub left_less : (segments : ℕ) (m : Partials) (E F : List ℕ) (done left opened_now : ℕ) → Shows segments m E done → Shows segments m F (done + 1) → left ≡ left_after segments m done → (F ≡ E) × (opened_now ≡ 0) ⊎ (F ≡ E ++ opened_now ∷ [])
    → left - 1 + opened_now * units_each segments ≡ left_after segments m (done + 1)
left_less segments m E F done left k s t e h = elim h [
  | inl same ↦ omega (arith, e, s.left_is, s.some, t.left_is, ap (λ l. units_each segments * (top_buckets m + opened m + sum l)) same.0, ap (λ n. n * units_each segments) same.1)
  | inr more ↦ omega (
    arith,
    e,
    s.left_is,
    s.some,
    t.left_is,
    ap (λ l. units_each segments * (top_buckets m + opened m + sum l)) more,
    ap (λ n. units_each segments * (top_buckets m + opened m + n)) (sum_push E k),
    ap (λ n. units_each segments * n) (add_assoc (top_buckets m + opened m) (sum E) k),
    mul_apart (units_each segments) (top_buckets m + opened m + sum E) k,
    mul_comm (units_each segments) k,
  )
]
