-- The generations of all shards once all workers have ended.
use Rattle.std.proofs.Common.{◌≡◌, ℕ, suc, ◌+◌, ◌-◌, ◌<◌, List, [], ◌∷◌, ◌++◌, ◌==◌, Bool, true, false, cond, not, length, map, set, get_or, take, refl, sym, ◌∙◌, ap, append_assoc, arith}
use Rattle.std.specs.List.{filter}
use Rattle.std.proofs.lemmas.Bool.{eqb-true}
use Rattle.std.proofs.lemmas.List.{length-append}
use Rattle.fc_spec.specs.documents.Operations.{after_ops}
use Rattle.fc_spec.specs.words.Lists.{joined}
use Rattle.fc_store.specs.Charters.{last_number}
use Rattle.fc_store.specs.Generated.{Generated}
use Rattle.fc_work.specs.Opened.{AreNumbered, commits_some, place_for, start_in}
use Rattle.fc_work.specs.Phased.{whole_in}
use Rattle.fc_work.specs.declared.stores.Opening.{Opening}
use Rattle.fc_work.proofs.Works.{put_all, whole_at}

set_there : {X : Type 0} (pre : List X) (x : X) (xs : List X) (y : X) → set (pre ++ x ∷ xs) (length pre) y ≡ pre ++ y ∷ xs
set_there [] x xs y = refl
set_there (p ∷ pre) x xs y = ap (λ rest. p ∷ rest) (set_there pre x xs y)

none_left : (b : Bool) → not b ≡ false → b ≡ true
none_left true e = refl
none_left false e = sym e

-- with nothing to commit the store has begun with all of its charter
whole_already : (o : Opening) → commits_some o ≡ false → start_in o ≡ whole_in o
whole_already o e =
    let none : last_number o.charter - o.charter.start.number ≡ 0 = eqb-true (last_number o.charter - o.charter.start.number) 0 (none_left (last_number o.charter - o.charter.start.number == 0) e) in
    let all : o.charter.start.number ≡ last_number o.charter = omega (arith, none) in
    λ i. record {
      schema = (start_in o).schema;
      number = all i;
      blocks = sym (ap (λ n. after_ops o.charter.start.blocks (joined (take n o.charter.later))) none) i;
    }

-- numbered from a number on
abbrev AreFrom : ℕ → List Opening → Type 0
AreFrom n os = (k : ℕ) (d : Opening) → k < length os → (get_or os k d).shard ≡ n + k

wholes_from : (pre : List Generated) (os : List Opening) → AreFrom (length pre) os
    → put_all (map whole_at (map place_for (filter commits_some os))) (pre ++ map start_in os) ≡ pre ++ map whole_in os
wholes_from pre [] from = refl
wholes_from pre (o ∷ os) from =
    go (commits_some o) refl
    (ap (put_all (map whole_at (map place_for (filter commits_some os)))) (sym (append_assoc pre (whole_in o ∷ []) (map start_in os)))
    ∙ wholes_from (pre ++ whole_in o ∷ []) os
    (λ k d below. let is = from (suc k) d (omega (arith, below)) in let long = length-append pre (whole_in o ∷ []) in omega (arith, is, long))
    ∙ append_assoc pre (whole_in o ∷ []) (map whole_in os))
  where
    here : o.shard ≡ length pre
    here = let is = from 0 o (omega arith) in omega (arith, is)

    go : (b : Bool) → commits_some o ≡ b
        → put_all (map whole_at (map place_for (filter commits_some os))) (pre ++ whole_in o ∷ map start_in os) ≡ pre ++ whole_in o ∷ map whole_in os
        → put_all (map whole_at (map place_for (cond b (o ∷ filter commits_some os) (filter commits_some os)))) (pre ++ start_in o ∷ map start_in os) ≡ pre ++ whole_in o ∷ map whole_in os
    go true e ahead =
        ap (put_all (map whole_at (map place_for (filter commits_some os))))
        (ap (λ k. set (pre ++ start_in o ∷ map start_in os) k (whole_in o)) here ∙ set_there pre (start_in o) (map start_in os) (whole_in o))
        ∙ ahead
    go false e ahead =
        ap (λ g. put_all (map whole_at (map place_for (filter commits_some os))) (pre ++ g ∷ map start_in os)) (whole_already o e)
        ∙ ahead

pub all_whole : (os : List Opening) → AreNumbered os → put_all (map whole_at (map place_for (filter commits_some os))) (map start_in os) ≡ map whole_in os
all_whole os numbered = wholes_from [] os (λ k d below. let is = numbered k d below in omega (arith, is))
