-- Lists of something for each shard.
use Rattle.std.proofs.Common.{◌≡◌, ℕ, zero, suc, ◌+◌, ◌<◌, List, [], ◌∷◌, ◌++◌, append_assoc, append-nil, map, length, Bool, true, false, cond, ◌==◌, refl, sym, ◌∙◌, ap, arith}
use Rattle.std.specs.List.{range_with_len, filter}
use Rattle.std.proofs.lemmas.Bool.{eq-eqb, ne_eqb}
use Rattle.fc_spec.specs.messages.Message.{Want}
use Rattle.fc_spec.specs.messages.Lacks.{Lack}
use Rattle.fc_spec.specs.messages.Rounds.{wants_of}
use Rattle.fc_coord.specs.Wants.{with_want}

-- for one shard more
pub one_more : {X : Type 0} (f : ℕ → X) (n from : ℕ) → map f (range_with_len from n) ++ f (from + n) ∷ [] ≡ map f (range_with_len from (n + 1))
one_more f n from = go n from ∙ ap (λ k. map f (range_with_len from k)) (let e : suc n ≡ n + 1 = omega arith in e)
  where
    go : (k a : ℕ) → map f (range_with_len a k) ++ f (a + k) ∷ [] ≡ map f (range_with_len a (suc k))
    go zero a = ap (λ b. f b ∷ []) (omega arith)
    go (suc k) a = ap (λ ys. f a ∷ ys) (ap (λ b. map f (range_with_len (a + 1) k) ++ f b ∷ []) (let e : a + suc k ≡ (a + 1) + k = omega arith in e) ∙ go k (a + 1))

-- the wants of each shard from some on, and behind them what else it lacks
abbrev pub joined : ℕ → List (List Want) → List Lack → List (List Want)
joined from [] all = []
joined from (ws ∷ rest) all = (ws ++ wants_of from all) ∷ joined (from + 1) rest all

passed : (i : ℕ) (ws : List Want) (l : Lack) (all : List Lack) (b : Bool) → (l.shard == i) ≡ b → wants_of i (l ∷ all) ≡ cond b (l.want ∷ wants_of i all) (wants_of i all)
passed i ws l all true e = ap (λ b. map (λ (k : Lack). k.want) (cond b (l ∷ filter (λ k. k.shard == i) all) (filter (λ k. k.shard == i) all))) e
passed i ws l all false e = ap (λ b. map (λ (k : Lack). k.want) (cond b (l ∷ filter (λ k. k.shard == i) all) (filter (λ k. k.shard == i) all))) e

others_joined : (from : ℕ) (rest : List (List Want)) (l : Lack) (all : List Lack) → l.shard < from → joined from rest (l ∷ all) ≡ joined from rest all
others_joined from [] l all less = refl
others_joined from (ws ∷ rest) l all less = λ j. (ws ++ passed from ws l all false (ne_eqb l.shard from (λ e. omega arith)) j) ∷ others_joined (from + 1) rest l all (let z : l.shard < from + 1 = omega arith in z) j

pub joined_step : (from i : ℕ) (wants : List (List Want)) (l : Lack) (all : List Lack) → l.shard ≡ from + i → joined from wants (l ∷ all) ≡ joined from (with_want i l.want wants) all
joined_step from i [] l all e = refl
joined_step from zero (ws ∷ rest) l all e = λ j.
    (ap (λ ys. ws ++ ys) (passed from ws l all true (eq-eqb l.shard from (omega arith))) ∙ sym (append_assoc ws (l.want ∷ []) (wants_of from all))) j
    ∷ others_joined (from + 1) rest l all (let z : l.shard < from + 1 = omega arith in z) j
joined_step from (suc i) (ws ∷ rest) l all e = λ j. (ws ++ passed from ws l all false (ne_eqb l.shard from (λ h. omega arith)) j) ∷ joined_step (from + 1) i rest l all (let z : l.shard ≡ (from + 1) + i = omega arith in z) j

pub joined_nothing : (from : ℕ) (wants : List (List Want)) → joined from wants [] ≡ wants
joined_nothing from [] = refl
joined_nothing from (ws ∷ rest) = λ j. append-nil ws j ∷ joined_nothing (from + 1) rest j

pub joined_all : (from n : ℕ) (all : List Lack) → joined from (map (λ i. wants_of i []) (range_with_len from n)) all ≡ map (λ i. wants_of i all) (range_with_len from n)
joined_all from zero all = refl
joined_all from (suc n) all = ap (λ ys. wants_of from all ∷ ys) (joined_all (from + 1) n all)

pub length-with_want : (i : ℕ) (w : Want) (wants : List (List Want)) → length (with_want i w wants) ≡ length wants
length-with_want i w [] = refl
length-with_want zero w (ws ∷ rest) = refl
length-with_want (suc i) w (ws ∷ rest) = ap suc (length-with_want i w rest)

pub each_then : {X Y Z : Type 0} (f : X → Y) (g : Y → Z) (xs : List X) → map g (map f xs) ≡ map (λ x. g (f x)) xs
each_then f g [] = refl
each_then f g (x ∷ xs) = ap (λ ys. g (f x) ∷ ys) (each_then f g xs)
