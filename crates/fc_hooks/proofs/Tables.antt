-- A table of lengths into which an entry is put.
use Rattle.std.proofs.Common.{◌≡◌, ℕ, zero, suc, ◌+◌, ◌*◌, ◌<◌, ◌≤◌, ltb, List, [], ◌∷◌, count_by, is_some, map, length, Bool, true, false, cond, ◌&&◌, ◌==◌, get_or, unwrap_or, Option, None, Some, refl, sym, ◌∙◌, ap, inl, inr, arith}
use Rattle.std.specs.Prelude.{slice_get, slice_set, option_and_then, replicate}
use Rattle.std.proofs.lemmas.List.FromFn.{sum_by-map-range_with_len_more}
use Rattle.std.proofs.lemmas.Option.{unwrap_or-slice_get}
use Rattle.std.proofs.lemmas.Bool.{cases_eq, cases_lt, eq-eqb, ne_eqb, le-ltb, lt-ltb}
use Rattle.fc_spec.specs.words.Lists.{numbers_below}
use Rattle.fc_spec.specs.messages.Trace.{Sent}
use Rattle.fc_spec.specs.messages.Lengths.{no_lengths, put}
use Rattle.fc_hooks.specs.ProbeTable.{lengths_of}

got_same : {X : Type 0} (xs : List X) (n : ℕ) (v : X) → n < length xs → slice_get (slice_set xs n v) n ≡ Some v
got_same [] n v there = absurd (omega (arith, there))
got_same (x ∷ xs) zero v there = refl
got_same (x ∷ xs) (suc n) v there = got_same xs n v (omega (arith, there))

got_other : {X : Type 0} (xs : List X) (n k : ℕ) (v : X) → (n ≡ k → ⊥) → slice_get (slice_set xs n v) k ≡ slice_get xs k
got_other [] n k v other = refl
got_other (x ∷ xs) zero zero v other = absurd (other refl)
got_other (x ∷ xs) zero (suc k) v other = refl
got_other (x ∷ xs) (suc n) zero v other = refl
got_other (x ∷ xs) (suc n) (suc k) v other = got_other xs n k v (λ same. other (ap suc same))

-- the length at a place
abbrev at_place : List (Option ℕ) → ℕ → Option ℕ
at_place T k = option_and_then (λ length. length) (slice_get T k)

no_test : (b : Bool) → (b && false) ≡ false
no_test true = refl
no_test false = refl

pub put_in_table : (T : List (Option ℕ)) (n s len : ℕ) → s < 64 → 64 * n + s < length T → lengths_of (slice_set T (64 * n + s) (Some len)) ≡ put (record { round = suc n; shard = s; length = len }) (lengths_of T)
put_in_table T n s len few there = λ j round shard. at round shard j
  where
    e : Sent
    e = record { round = suc n; shard = s; length = len }

    new : List (Option ℕ)
    new = slice_set T (64 * n + s) (Some len)

    -- beyond the shards
    beyond : (k shard : ℕ) → 64 ≤ shard → lengths_of new (suc k) shard ≡ put e (lengths_of T) (suc k) shard
    beyond k shard far =
        ap (λ b. cond b (at_place new (64 * k + shard)) None) (le-ltb shard 64 far)
        ∙ sym (ap (λ b. cond ((suc n == suc k) && b) (Some len) (lengths_of T (suc k) shard)) (ne_eqb s shard (λ same. omega arith)) ∙ ap (λ b. cond b (Some len) (lengths_of T (suc k) shard)) (no_test (suc n == suc k)) ∙ ap (λ b. cond b (at_place T (64 * k + shard)) None) (le-ltb shard 64 far))

    -- the same place
    here : (k shard : ℕ) → shard < 64 → n ≡ k → s ≡ shard → at_place new (64 * k + shard) ≡ put e (lengths_of T) (suc k) shard
    here k shard near same own =
        ap (λ i. at_place new i) (let place : 64 * k + shard ≡ 64 * n + s = omega (arith, same, own) in place) ∙ ap (option_and_then (λ length. length)) (got_same T (64 * n + s) (Some len) there)
        ∙ sym (λ i. cond (eq-eqb (suc n) (suc k) (ap suc same) i && eq-eqb s shard own i) (Some len) (lengths_of T (suc k) shard))

    -- another
    elsewhere : (k shard : ℕ) → shard < 64 → (64 * n + s ≡ 64 * k + shard → ⊥) → at_place new (64 * k + shard) ≡ put e (lengths_of T) (suc k) shard
    elsewhere k shard near other =
        ap (option_and_then (λ length. length)) (got_other T (64 * n + s) (64 * k + shard) (Some len) other)
        ∙ sym (apart ∙ ap (λ b. cond b (at_place T (64 * k + shard)) None) (lt-ltb shard 64 near))
      where
        apart : put e (lengths_of T) (suc k) shard ≡ lengths_of T (suc k) shard
        apart =
            elim (cases_eq n k) [
              | inl same ↦ ap (λ b. cond ((suc n == suc k) && b) (Some len) (lengths_of T (suc k) shard)) (ne_eqb s shard (λ own. other (omega (arith, same, own)))) ∙ ap (λ b. cond b (Some len) (lengths_of T (suc k) shard)) (no_test (suc n == suc k))
              | inr more ↦ ap (λ b. cond (b && (s == shard)) (Some len) (lengths_of T (suc k) shard)) (ne_eqb (suc n) (suc k) (λ same. more (omega arith)))
            ]

    within : (k shard : ℕ) → shard < 64 → at_place new (64 * k + shard) ≡ put e (lengths_of T) (suc k) shard
    within k shard near =
        elim (cases_eq (64 * n + s) (64 * k + shard)) [
          | inl same ↦ here k shard near (omega (arith, same, few, near)) (omega (arith, same, few, near))
          | inr other ↦ elsewhere k shard near other
        ]

    at : (round shard : ℕ) → lengths_of new round shard ≡ put e (lengths_of T) round shard
    at zero shard = sym (ap (λ b. cond (b && (s == shard)) (Some len) None) (ne_eqb (suc n) 0 (λ same. omega arith)))
    at (suc k) shard =
        elim (cases_lt shard 64) [
          | inl near ↦ ap (λ b. cond b (at_place new (64 * k + shard)) None) (lt-ltb shard 64 near) ∙ within k shard near
          | inr far ↦ beyond k shard far
        ]

-- ---- what is read of a table

pub got_in_table : (T : List (Option ℕ)) (n s : ℕ) → s < 64 → get_or T (64 * n + s) None ≡ lengths_of T (suc n) s
got_in_table T n s near = sym (unwrap_or-slice_get T (64 * n + s) None) ∙ go (slice_get T (64 * n + s)) ∙ sym (ap (λ b. cond b (at_place T (64 * n + s)) None) (lt-ltb s 64 near))
  where
    go : (o : Option (Option ℕ)) → unwrap_or o None ≡ option_and_then (λ length. length) o
    go None = refl
    go (Some x) = refl

-- ---- an empty table

abbrev pub no_length : Option ℕ
no_length = None

none_got : (n k : ℕ) → option_and_then (λ length. length) (slice_get (replicate n no_length) k) ≡ no_length
none_got zero k = refl
none_got (suc n) zero = refl
none_got (suc n) (suc k) = none_got n k

pub nothing_in_table : (size : ℕ) → lengths_of (replicate size no_length) ≡ no_lengths
nothing_in_table size = λ j round shard. at round shard j
  where
    at : (round shard : ℕ) → lengths_of (replicate size no_length) round shard ≡ None
    at zero shard = refl
    at (suc n) shard = ap (λ o. cond (ltb shard 64) o None) (none_got size (64 * n + shard)) ∙ either (ltb shard 64)
      where
        either : (b : Bool) → cond b no_length None ≡ None
        either true = refl
        either false = refl

-- ---- how many

pub count_more : (f : ℕ → Option ℕ) (n count : ℕ) (b : Bool) → count ≡ count_by is_some (map f (numbers_below n)) → is_some (f n) ≡ b → count + cond b 1 0 ≡ count_by is_some (map f (numbers_below (n + 1)))
count_more f n count b so_far is = (λ j. so_far j + cond (sym is j) 1 0) ∙ sym (sum_by-map-range_with_len_more (λ o. cond (is_some o) 1 0) f 0 n n (omega arith))

pub count_at_end : (f : ℕ → Option ℕ) (n count end : ℕ) → count ≡ count_by is_some (map f (numbers_below n)) → n ≡ end → count ≡ count_by is_some (map f (numbers_below end))
count_at_end f n count end is same = is ∙ ap (λ k. count_by is_some (map f (numbers_below k))) same
