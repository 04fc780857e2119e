-- Each step keeps the rule.
use Rattle.std.proofs.Common.{◌≡◌, ℕ, ◌≢◌, List, [], ◌∷◌, ◌++◌, set, refl, sym, subst, ⊎_elim, le_refl, arith}
use Rattle.std.proofs.lemmas.Bool.{false≢true}
use mathlib.Core.Option.{some}
use lib.ListN.{get_elem?}
use Rattle.left_right.specs.Register.{Admits, TurnsAt, Forks, Merges}
use Rattle.atomic_table.proofs.Lists.{at_set, at_snoc}
use Rattle.fc_store.specs.Generated.{Generated}
use Rattle.fc_store.specs.declared.rule.Shown.{Shown}
use Rattle.fc_store.specs.declared.rule.Known.{Known}
use Rattle.fc_store.specs.Rule.{Content, content, IsTrueOf, AllTrueOf, Keeps, KeepsAt, nothing, known, pins, binds, publishes, takes_over, Follows}

-- ---- what ends know

nothing_true : (x : Content) → IsTrueOf x nothing
nothing_true x bound = absurd (false≢true bound)

known_true : (x : Content) → IsTrueOf x (known x)
known_true x bound = (refl, refl, le_refl x.1.number)

-- an end that knew something true now knows the published number
newest_true : (x : Content) (v : Known) → IsTrueOf x v → IsTrueOf x (record v { at = x.1.number })
newest_true x v fine bound = let t = fine bound in (t.0, t.1, le_refl x.1.number)

set_true : (x : Content) (views : List Known) (seat : ℕ) (w : Known) → AllTrueOf x views → IsTrueOf x w → AllTrueOf x (set views seat w)
set_true x views seat w all fine j u there =
    ⊎_elim (λ (t : (j ≡ seat) × (w ≡ u)). subst (λ (z : Known). IsTrueOf x z) t.1 fine) (λ (t : (j ≢ seat) × (get_elem? views j ≡ some u)). all j u t.1) (at_set views seat j w u there)

snoc_true : (x : Content) (views : List Known) (w : Known) → AllTrueOf x views → IsTrueOf x w → AllTrueOf x (views ++ w ∷ [])
snoc_true x views w all fine j u there = ⊎_elim (all j u) (λ (t : w ≡ u). subst (λ (z : Known). IsTrueOf x z) t fine) (at_snoc views w u j there)

-- what is true stays so when the next generation is published
later_true : (x : Content) (g : Generated) (v : Known) → Follows x g → IsTrueOf x v → IsTrueOf (x.0, g) v
later_true x g v follows fine bound = let t = fine bound in let up = follows.next in (rw follows.schema t.0, t.1, omega arith)

-- ---- steps of readers

pub admits : Admits Keeps nothing
admits s views keeps = (keeps.0, snoc_true (content s) views nothing keeps.1 (nothing_true (content s)))

pub pins_kept : (seat : ℕ) (v : Known) (s : Shown) → TurnsAt Keeps seat v s s pins
pins_kept seat v s views keeps at =
    let x = content s in
    let fine = keeps.1 seat v at in
    let w : Known = record v { at = x.1.number } in
    (w, (keeps.0, set_true x views seat w keeps.1 (newest_true x v fine)), (fine, keeps.0, refl))

-- ---- steps of the writer

pub binds_kept : (seat : ℕ) (v : Known) (s t : Shown) → content t ≡ content s → TurnsAt Keeps seat v s t binds
binds_kept seat v s t same views keeps at =
    let x = content s in
    (known x, subst (λ (z : Content). KeepsAt z (set views seat (known x))) (sym same) (keeps.0, set_true x views seat (known x) keeps.1 (known_true x)), refl)

pub publishes_kept : (seat : ℕ) (v : Known) (s t : Shown) (g : Generated) → Follows (content s) g → content t ≡ ((content s).0, g) → TurnsAt Keeps seat v s t publishes
publishes_kept seat v s t g follows now views keeps at =
    let x = content s in
    let y : Content = (x.0, g) in
    let all : AllTrueOf y views = λ j u there. later_true x g u follows (keeps.1 j u there) in
    let w : Known = record v { at = g.number } in (
      record v { at = (content t).1.number },
      subst (λ (z : Content). KeepsAt z (set views seat (record v { at = z.1.number }))) (sym now) (follows.charted, set_true y views seat w all (newest_true y v (all seat v at))),
      refl,
    )

pub forks : (seat : ℕ) (v : Known) → Forks Keeps seat v v v
forks seat v s views keeps at =
    let x = content s in
    let fine = keeps.1 seat v at in
    (keeps.0, snoc_true x (set views seat v) v (set_true x views seat v keeps.1 fine) fine)

pub takes_over_kept : (seat : ℕ) (v : Known) (other : ℕ) (w : Known) → Merges Keeps seat v other w (takes_over v w) nothing
takes_over_kept seat v other w s views keeps at apart there =
    let x = content s in
    let fine : IsTrueOf x w =
    ⊎_elim (λ (t : (other ≡ seat) × (w ≡ w)). absurd (apart t.0)) (λ (t : (other ≢ seat) × (get_elem? views other ≡ some w)). keeps.1 other w t.1) (at_set views seat other w w there) in
    (keeps.0, set_true x (set views seat w) other nothing (set_true x views seat w keeps.1 fine) (nothing_true x))
