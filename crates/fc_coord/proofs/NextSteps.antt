-- What was found to lack is what lacks next.
use Rattle.std.proofs.Common.{◌≡◌, ℕ, zero, suc, ◌+◌, ◌-◌, ◌<◌, List, Bool, true, false, cond, refl, sym, ◌∙◌, ap, arith}
use Rattle.fc_spec.specs.words.Lists.{is_empty}
use Rattle.fc_spec.specs.requests.Request.{Request}
use Rattle.fc_spec.specs.messages.Held.{Told}
use Rattle.fc_spec.specs.messages.Lacks.{Lack, lacks, terms_depth}
use Rattle.fc_spec.specs.messages.Rounds.{next_lacks}
use Rattle.fc_spec.specs.words.Lists.{numbers_below}
use Rattle.fc_spec.proofs.messages.PrintedKnown.{nothing_is_empty}
use Rattle.fc_lacks.specs.Lacking.{LackingIsUntold}
use Rattle.fc_told.specs.Trees.{Tree}
use Rattle.fc_told.specs.Telling.{Tells}
use Rattle.fc_coord.specs.TreeReading.{lacking_in, IsFound}
use Rattle.fc_coord.proofs.ReadTrees.{lacking_read}

-- the tree tells what lacks
pub lacks_read : (r : Request) (n : ℕ) (T : Tree) (A : List Told) (e : ℕ) → LackingIsUntold → Tells T A → lacking_in r n T e ≡ lacks r n A e
lacks_read r n T A e untold tells = lacking_read T A tells e r.nodes 0 (numbers_below n) ∙ untold r n A e

module _ (r : Request) (n : ℕ) (A : List Told) where
  stops : (k e : ℕ) → is_empty (lacks r n A e) ≡ false → next_lacks r n A (suc k) e ≡ lacks r n A e
  stops k e some = ap (λ b. cond b (next_lacks r n A k (suc e)) (lacks r n A e)) some

  -- depths at which nothing lacks are passed over
  passes : (j k e : ℕ) → ((d : ℕ) → d < e + j → is_empty (lacks r n A d) ≡ true) → next_lacks r n A (j + k) e ≡ next_lacks r n A k (e + j)
  passes zero k e none = ap (λ i. next_lacks r n A i e) (let same : 0 + k ≡ k = omega arith in same) ∙ ap (next_lacks r n A k) (let same : e ≡ e + 0 = omega arith in same)
  passes (suc j) k e none =
      ap (λ i. next_lacks r n A i e) (let same : suc j + k ≡ suc (j + k) = omega arith in same) ∙ ap (λ b. cond b (next_lacks r n A (j + k) (suc e)) (lacks r n A e)) (none e (omega arith)) ∙ passes j k (suc e) (λ d less. none d (omega arith))
      ∙ ap (next_lacks r n A k) (let same : suc e + j ≡ e + suc j = omega arith in same)

  pub found_is_next : (depths depth : ℕ) (all : List Lack) → IsFound (lacks r n A) depths depth all → all ≡ next_lacks r n A depths 0
  found_is_next depths depth all found = go (is_empty all) refl
    where
      go : (b : Bool) → is_empty all ≡ b → all ≡ next_lacks r n A depths 0
      go true none =
          let at : depth ≡ depths = found.nowhere none in
          nothing_is_empty all none
          ∙ sym (ap (λ k. next_lacks r n A k 0) (let same : depths ≡ depth + 0 = omega arith in same) ∙ passes depth 0 0 (λ d less. found.below d (omega arith)))
      go false some =
          let here = found.here some in
          let k = depths - depth - 1 in
          let less = here.0 in
          let full : is_empty (lacks r n A depth) ≡ false = ap is_empty (sym here.1) ∙ some in
          here.1
          ∙ sym (ap (λ d. next_lacks r n A d 0) (let same : depths ≡ depth + suc k = omega arith in same) ∙ passes depth (suc k) 0 (λ d low. found.below d (omega arith)) ∙ ap (next_lacks r n A (suc k)) (let same : 0 + depth ≡ depth = omega arith in same) ∙ stops k depth full)

-- what is found in the tree is found in each list that it tells of
pub found_in : (r : Request) (n : ℕ) (T : Tree) (A : List Told) (depth : ℕ) (all : List Lack) → LackingIsUntold → Tells T A → IsFound (lacking_in r n T) (terms_depth r.nodes) depth all → IsFound (lacks r n A) (terms_depth r.nodes) depth all
found_in r n T A depth all untold tells found = record {
  below = λ e less. ap is_empty (sym (lacks_read r n T A e untold tells)) ∙ found.below e less;
  here = λ some. let h = found.here some in (h.0, h.1 ∙ lacks_read r n T A depth untold tells);
  nowhere = found.nowhere;
}
