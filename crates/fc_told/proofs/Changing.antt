-- A tree of which the bucket where a way leads is changed: what stands there and behind, and what stands elsewhere.
use Rattle.std.proofs.Common.{◌≡◌, ℕ, [], ◌∷◌, ◌++◌, Bool, true, false, cond, ◌&&◌, ◌==◌, None, Some, refl, sym, ◌∙◌, ap, subst}
use Rattle.std.proofs.lemmas.Bool.{false≢true, eqb-true, eq-eqb, and_parts}
use Rattle.fc_spec.specs.messages.KeyOrder.{same_key}
use Rattle.fc_spec.specs.messages.Message.{Step, Way}
use Rattle.fc_spec.specs.messages.Held.{behind}
use Rattle.fc_spec.proofs.messages.Keys.{same_key_exact, same_key_itself}
use Rattle.fc_spec.proofs.messages.Ways.{none_not_some, behind_is}
use Rattle.fc_told.specs.Trees.{Tree, tree, Branches, tellers_in, count_in, sizes_in, forks_in, branches_at, find_branch, child, at, is_listed_by, values_listed}
use Rattle.fc_told.specs.Adding.{changed_branch, changed_fork, changed_at}
use Rattle.fc_told.proofs.Branches.{Ascend, find_changed, find_changed_other, ascend_changed}
use Rattle.fc_told.proofs.Forks.{fork_changed, fork_changed_other}
use Rattle.fc_told.proofs.ListedAt.{listing_kept}
use Rattle.fc_told.proofs.Putting.{AllAscend}

pub at-append : (w rest : Way) (T : Tree) → at (w ++ rest) T ≡ at rest (at w T)
at-append [] rest T = refl
at-append (s ∷ w) rest T = at-append w rest (child s T)

abbrev same_step : Step → Step → Bool
same_step s u = (s.node == u.node) && same_key s.key u.key

same_step_exact : (s u : Step) → same_step s u ≡ true → s ≡ u
same_step_exact s u h =
    let both = and_parts (s.node == u.node) (same_key s.key u.key) h in
    let nodes = eqb-true s.node u.node both.0 in
    let keys = same_key_exact s.key u.key both.1 in
    λ i. record { node = nodes i; key = keys i }

-- ---- a step further in

child_changed : (s : Step) (w : Way) (f : Tree → Tree) (T : Tree) → Ascend (branches_at s.node (forks_in T)) → child s (changed_at (s ∷ w) f T) ≡ changed_at w f (child s T)
child_changed s w f (tree ts c zs fs) a =
    ap (find_branch s.key) (fork_changed s.node (changed_branch s.key (changed_at w f)) fs) ∙ find_changed s.key (changed_at w f) (branches_at s.node fs) a

child_changed_other : (u s : Step) (w : Way) (f : Tree → Tree) (T : Tree) → same_step s u ≡ false → child u (changed_at (s ∷ w) f T) ≡ child u T
child_changed_other u s w f (tree ts c zs fs) other = go (u.node == s.node) (same_key u.key s.key) refl refl
  where
    go : (b k : Bool) → (u.node == s.node) ≡ b → same_key u.key s.key ≡ k → find_branch u.key (branches_at u.node (changed_fork s.node (changed_branch s.key (changed_at w f)) fs)) ≡ find_branch u.key (branches_at u.node fs)
    go false k e d = ap (find_branch u.key) (fork_changed_other u.node s.node (changed_branch s.key (changed_at w f)) fs (λ h. false≢true (sym e ∙ eq-eqb u.node s.node h)))
    go true false e d =
        let same = eqb-true u.node s.node e in
        ap (λ n. find_branch u.key (branches_at n (changed_fork s.node (changed_branch s.key (changed_at w f)) fs))) same ∙ ap (find_branch u.key) (fork_changed s.node (changed_branch s.key (changed_at w f)) fs)
        ∙ find_changed_other u.key s.key (changed_at w f) (branches_at s.node fs) d ∙ ap (λ n. find_branch u.key (branches_at n fs)) (sym same)
    go true true e d =
        let nodes = sym (eqb-true u.node s.node e) in
        let keys = sym (same_key_exact u.key s.key d) in
        absurd (false≢true (sym other ∙ (λ i. eq-eqb s.node u.node nodes i && (ap (same_key s.key) (sym keys) ∙ same_key_itself s.key) i)))

-- ---- there

at_changed : (w rest : Way) (f : Tree → Tree) (T : Tree) → AllAscend T → at (w ++ rest) (changed_at w f T) ≡ at rest (f (at w T))
at_changed [] rest f T a = refl
at_changed (s ∷ w) rest f T a = ap (at (w ++ rest)) (child_changed s w f T (a s.node [])) ∙ at_changed w rest f (child s T) (λ n way. a n (s ∷ way))

pub there : (w way rest : Way) (f : Tree → Tree) (T : Tree) → AllAscend T → behind w way ≡ Some rest → at way (changed_at w f T) ≡ at rest (f (at w T))
there w way rest f T a h = ap (λ x. at x (changed_at w f T)) (behind_is w way rest h) ∙ at_changed w rest f T a

pub at_behind : (w way rest : Way) (T : Tree) → behind w way ≡ Some rest → at way T ≡ at rest (at w T)
at_behind w way rest T h = ap (λ x. at x T) (behind_is w way rest h) ∙ at-append w rest T

-- ---- elsewhere

-- the bucket is as it was, up to what is nested deeper
pub record Alike (T U : Tree) : Type 0 where
  pub tellers : tellers_in U ≡ tellers_in T
  pub count : count_in U ≡ count_in T
  pub sizes : sizes_in U ≡ sizes_in T
  pub values : (j n : ℕ) → values_listed j (branches_at n (forks_in U)) ≡ values_listed j (branches_at n (forks_in T))
  pub ascends : (n : ℕ) → Ascend (branches_at n (forks_in U))

pub alike_same : (T U : Tree) → ((n : ℕ) → Ascend (branches_at n (forks_in T))) → U ≡ T → Alike T U
alike_same T U a e = subst (Alike T) (sym e) (record { tellers = refl; count = refl; sizes = refl; values = λ j n. refl; ascends = a })

-- who listed the bucket there listed it before
abbrev pub ListsKept : (Tree → Tree) → Tree → Type 0
ListsKept f U = (j : ℕ) → is_listed_by j (f U) ≡ is_listed_by j U

lists_kept : (w : Way) (f : Tree → Tree) (T : Tree) → ListsKept f (at w T) → ListsKept (changed_at w f) T
lists_kept [] f T k = k
lists_kept (s ∷ w) f (tree ts c zs fs) k = λ j. refl

alike_around : (s : Step) (w : Way) (f : Tree → Tree) (T : Tree) → AllAscend T → ListsKept f (at (s ∷ w) T) → Alike T (changed_at (s ∷ w) f T)
alike_around s w f (tree ts c zs fs) a k = record {
  tellers = refl;
  count = refl;
  sizes = refl;
  values = λ j n. at_node (λ bs. values_listed j bs ≡ values_listed j (branches_at n fs)) n refl
      (λ e. ap (λ m. values_listed j (changed_branch s.key (changed_at w f) (branches_at m fs))) e ∙ listing_kept j s.key (changed_at w f) (branches_at s.node fs) (a s.node []) (kept j) ∙ ap (λ m. values_listed j (branches_at m fs)) (sym e));
  ascends = λ n. at_node Ascend n (a n []) (λ e. ascend_changed s.key (changed_at w f) (branches_at n fs) (a n []));
}
  where
    kept : ListsKept (changed_at w f) (find_branch s.key (branches_at s.node fs))
    kept = lists_kept w f (find_branch s.key (branches_at s.node fs)) k

    at_node : (P : Branches → Type 0) (n : ℕ) → P (branches_at n fs) → (n ≡ s.node → P (changed_branch s.key (changed_at w f) (branches_at n fs))) → P (branches_at n (changed_fork s.node (changed_branch s.key (changed_at w f)) fs))
    at_node P n old new = go (n == s.node) refl
      where
        go : (b : Bool) → (n == s.node) ≡ b → P (branches_at n (changed_fork s.node (changed_branch s.key (changed_at w f)) fs))
        go true e =
            let same = eqb-true n s.node e in
            subst P (ap (λ m. changed_branch s.key (changed_at w f) (branches_at m fs)) same ∙ sym (fork_changed s.node (changed_branch s.key (changed_at w f)) fs) ∙ ap (λ m. branches_at m (changed_fork s.node (changed_branch s.key (changed_at w f)) fs)) (sym same)) (new same)
        go false e = subst P (sym (fork_changed_other n s.node (changed_branch s.key (changed_at w f)) fs (λ h. false≢true (sym e ∙ eq-eqb n s.node h)))) old

pub elsewhere : (w way : Way) (f : Tree → Tree) (T : Tree) → AllAscend T → ListsKept f (at w T) → behind w way ≡ None → Alike (at way T) (at way (changed_at w f T))
elsewhere [] way f T a k h = absurd (none_not_some way (sym h))
elsewhere (s ∷ w) [] f T a k h = alike_around s w f T a k
elsewhere (s ∷ w) (u ∷ way) f T a k h = go (same_step s u) refl h (elsewhere w way f (child s T) (λ n x. a n (s ∷ x)) k)
  where
    go : (b : Bool) → same_step s u ≡ b → cond b (behind w way) None ≡ None → (behind w way ≡ None → Alike (at way (child s T)) (at way (changed_at w f (child s T)))) → Alike (at way (child u T)) (at way (child u (changed_at (s ∷ w) f T)))
    go true e none ih =
        let same = same_step_exact s u e in
        subst (λ x. Alike (at way (child x T)) (at way (child x (changed_at (s ∷ w) f T)))) same (subst (λ U. Alike (at way (child s T)) (at way U)) (sym (child_changed s w f T (a s.node []))) (ih none))
    go false e none ih = alike_same (at way (child u T)) (at way (child u (changed_at (s ∷ w) f T))) (λ n. a n (u ∷ way)) (ap (at way) (child_changed_other u s w f T e))
