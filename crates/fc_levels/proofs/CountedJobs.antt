-- Jobs are known before they begin, and in the end all of them are.
use Rattle.std.proofs.Common.{◌≡◌, ℕ, zero, suc, ◌+◌, ◌<◌, ◌≤◌, List, [], ◌∷◌, ◌++◌, length, take, sum, refl, sym, ap, ◌∙◌, subst, arith, length-append, inl, inr, ◌⊎◌, ◌-◌}
use Rattle.std.proofs.lemmas.List.{take-append-le, take_all}
use Rattle.std.proofs.lemmas.List.Sums.{sum_by-append, sum_by-cons}
use Rattle.std.proofs.lemmas.Bool.{cases_lt}
use Rattle.std.proofs.Math.Seq.{take-append-add}
use Rattle.fc_spec.specs.messages.Message.{Partials, no_partials, partial, Rows, no_rows, row}
use Rattle.fc_levels.specs.Jobs.{top_buckets, nested_lists, lists_in, job_count, row_count, opened, opened_inside, opened_in_rows, openings, known, JobsAreCounted}

sum-append : (xs ys : List ℕ) → sum (xs ++ ys) ≡ sum xs + sum ys
sum-append xs ys = sum_by-append (λ x. x) xs ys

sum-cons : (x : ℕ) (xs : List ℕ) → sum (x ∷ xs) ≡ x + sum xs
sum-cons x xs = sum_by-cons (λ x. x) x xs

-- beside s jobs that are known, each job behind makes known as many as the list says: all are known in the end, and one more than have ended before
record Tells (s : ℕ) (xs : List ℕ) : Type 0 where
  total : s + sum xs ≡ length xs
  below : (n : ℕ) → n < length xs → n < s + sum (take n xs)

tells_none : Tells 0 []
tells_none = record { total = refl; below = λ n h. absurd (omega arith) }

module _ (s t : ℕ) (xs ys : List ℕ) (a : Tells s xs) (b : Tells t ys) where
  below_first : (n : ℕ) → n < length xs → n < s + t + sum (take n (xs ++ ys))
  below_first n h =
      let le : n ≤ length xs = omega arith in
      let here : take n (xs ++ ys) ≡ take n xs = take-append-le n xs ys le in
      let more : n < s + sum (take n xs) = a.below n h in
      rw here (omega arith)

  below_second : (j : ℕ) → j < length ys → length xs + j < s + t + sum (take (length xs + j) (xs ++ ys))
  below_second j h =
      let here : sum (take (length xs + j) (xs ++ ys)) ≡ sum xs + sum (take j ys) = ap sum (take-append-add xs ys j) ∙ sum-append xs (take j ys) in
      let more : j < t + sum (take j ys) = b.below j h in
      let all : s + sum xs ≡ length xs = a.total in
      omega arith

  below_both : (n : ℕ) → n < length (xs ++ ys) → (n < length xs) ⊎ (length xs ≤ n) → n < s + t + sum (take n (xs ++ ys))
  below_both n h (inl less) = below_first n less
  below_both n h (inr more) =
      let len : length (xs ++ ys) ≡ length xs + length ys = length-append xs ys in
      let at : n ≡ length xs + (n - length xs) = omega arith in
      let j : n - length xs < length ys = omega arith in
      subst (λ k. k < s + t + sum (take k (xs ++ ys))) (sym at) (below_second (n - length xs) j)

  tells_both : Tells (s + t) (xs ++ ys)
  tells_both = record {
    total =
        let sums : sum (xs ++ ys) ≡ sum xs + sum ys = sum-append xs ys in
        let len : length (xs ++ ys) ≡ length xs + length ys = length-append xs ys in
        let first : s + sum xs ≡ length xs = a.total in
        let second : t + sum ys ≡ length ys = b.total in
        omega arith;
    below = λ n h. below_both n h (cases_lt n (length xs));
  }

-- a job that makes t known before the others, of which s were known
tells_one : (s t : ℕ) (xs : List ℕ) → Tells (s + t) xs → Tells (suc s) (t ∷ xs)
tells_one s t xs a = record { total = let sums : sum (t ∷ xs) ≡ t + sum xs = sum-cons t xs in let all : s + t + sum xs ≡ length xs = a.total in omega arith; below = go }
  where
    go : (n : ℕ) → n < length (t ∷ xs) → n < suc s + sum (take n (t ∷ xs))
    go zero h = omega arith
    go (suc n) h =
        let sums : sum (t ∷ take n xs) ≡ t + sum (take n xs) = sum-cons t (take n xs) in
        let within : n < length xs = omega arith in
        let more : n < s + t + sum (take n xs) = a.below n within in
        omega arith

tells_by : (s t : ℕ) (xs : List ℕ) → s ≡ t → Tells s xs → Tells t xs
tells_by s t xs e a = subst (λ n. Tells n xs) e a

mutual
  tells_inside : (ps : Partials) → Tells (opened ps) (opened_inside ps)
  tells_inside no_partials = tells_none
  tells_inside (partial k stats rows rest) = tells_both (row_count rows) (opened rest) (opened_in_rows rows) (opened_inside rest) (tells_rows rows) (tells_inside rest)

  tells_rows : (rows : Rows) → Tells (row_count rows) (opened_in_rows rows)
  tells_rows no_rows = tells_none
  tells_rows (row ps rest) =
      tells_by (suc 0 + row_count rest) (suc (row_count rest)) ((opened ps ∷ opened_inside ps) ++ opened_in_rows rest) (omega arith)
      (tells_both (suc 0) (row_count rest) (opened ps ∷ opened_inside ps) (opened_in_rows rest) (tells_one 0 (opened ps) (opened_inside ps) (tells_by (opened ps) (0 + opened ps) (opened_inside ps) (omega arith) (tells_inside ps))) (tells_rows rest))

tells_tops : (m : Partials) → Tells (top_buckets m + opened m) (openings m)
tells_tops no_partials = tells_none
tells_tops (partial k stats rows rest) =
    tells_by (suc (row_count rows) + (top_buckets rest + opened rest)) (suc (top_buckets rest) + (row_count rows + opened rest)) ((0 ∷ opened_in_rows rows) ++ openings rest) (omega arith)
    (tells_both (suc (row_count rows)) (top_buckets rest + opened rest) (0 ∷ opened_in_rows rows) (openings rest)
    (tells_one (row_count rows) 0 (opened_in_rows rows) (tells_by (row_count rows) (row_count rows + 0) (opened_in_rows rows) (omega arith) (tells_rows rows))) (tells_tops rest))

mutual
  length_inside : (ps : Partials) → length (opened_inside ps) ≡ nested_lists ps
  length_inside no_partials = refl
  length_inside (partial k stats rows rest) = length-append (opened_in_rows rows) (opened_inside rest) ∙ ap (λ n. n + length (opened_inside rest)) (length_rows rows) ∙ ap (λ n. lists_in rows + n) (length_inside rest)

  length_rows : (rows : Rows) → length (opened_in_rows rows) ≡ lists_in rows
  length_rows no_rows = refl
  length_rows (row ps rest) = ap suc (length-append (opened_inside ps) (opened_in_rows rest) ∙ ap (λ n. n + length (opened_in_rows rest)) (length_inside ps) ∙ ap (λ n. nested_lists ps + n) (length_rows rest))

length_openings : (m : Partials) → length (openings m) ≡ job_count m
length_openings no_partials = refl
length_openings (partial k stats rows rest) =
    let both : length (opened_in_rows rows ++ openings rest) ≡ length (opened_in_rows rows) + length (openings rest) = length-append (opened_in_rows rows) (openings rest) in
    let here : length (opened_in_rows rows) ≡ lists_in rows = length_rows rows in
    let there : length (openings rest) ≡ top_buckets rest + nested_lists rest = length_openings rest in
    omega arith

pub jobs_are_counted : JobsAreCounted
jobs_are_counted m = record { all = len; in_the_end = last; before = λ n h. first n (subst (λ k. n < k) (sym len) h) }
  where
    len : length (openings m) ≡ job_count m
    len = length_openings m

    last : known m (job_count m) ≡ job_count m
    last =
        ap (known m) (sym len) ∙ ap (λ xs. top_buckets m + opened m + sum xs) (take_all (length (openings m)) (openings m) (omega arith))
        ∙ (tells_tops m).total ∙ len

    first : (n : ℕ) → n < length (openings m) → n < known m n
    first n h = (tells_tops m).below n h
