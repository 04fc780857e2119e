-- A phase with no commit ends with the commits that it begins with.
use Rattle.std.proofs.Common.{◌≡◌, ℕ, zero, suc, ◌+◌, List, [], ◌∷◌, Bool, true, false, cond, not, ◌&&◌, ◌==◌, nat_le, count_by, Some, None, refl, sym, ◌∙◌, arith}
use Rattle.std.specs.Prelude.{if◌then◌else◌}
use Rattle.std.specs.List.{filter_map, enumerate_from, list_all, list_any, AllByRecursion}
use Rattle.std.proofs.lemmas.Bool.{and_parts, and_right, or_parts, not-true, leb-true, leb-false, le-leb, lt-leb, eqb-false}
use Rattle.fc_spec.specs.scripts.Script.{Line, add, delete, commit, sync, asks, Script, commits_shard, phase_of, commits_up_to, commits_before}
use Rattle.fc_spec.specs.scripts.Phases.{Search, search_at, searches}
use Rattle.fc_spec.specs.laws.ScriptLaws.{is_commit, is_search, phases_where, are_apart}
use Rattle.fc_spec.proofs.words.Counting.{count_by-cons, count_by-none}

-- the phases of numbered lines that pass a test
abbrev phases_in : {A : Type 0} → (ℕ → ℕ) → (Line A → Bool) → List (ℕ × Line A) → List ℕ
phases_in phase test ns = filter_map (λ n. if test n.1 then Some (phase n.0) else None) ns

-- another test of phases that agrees with being up to p, but at p
abbrev AgreesBut : ℕ → (ℕ → Bool) → Type 0
AgreesBut p early = (a : ℕ) → (a == p) ≡ false → nat_le a p ≡ early a

-- with no commit in phase p, as many commits pass it
no_commit : {A : Type 0} (phase : ℕ → ℕ) (s p : ℕ) (early : ℕ → Bool) (ns : List (ℕ × Line A)) → AgreesBut p early → list_any (λ q. q == p) (phases_in phase is_commit ns) ≡ false
    → count_by (λ n. commits_shard s n.1 && nat_le (phase n.0) p) ns ≡ count_by (λ n. commits_shard s n.1 && early (phase n.0)) ns
no_commit phase s p early [] agree none = refl
no_commit {A} phase s p early ((i, commit c) ∷ ns) agree none =
    let parts = or_parts (phase i == p) (list_any (λ q. q == p) (phases_in phase is_commit ns)) none in
    count_by-cons (λ n. commits_shard s n.1 && nat_le (phase n.0) p) (i, commit c) ns
    ∙ (λ j. cond (commits_shard {A = A} s (commit c) && agree (phase i) parts.0 j) 1 0 + no_commit phase s p early ns agree parts.1 j)
    ∙ sym (count_by-cons (λ n. commits_shard s n.1 && early (phase n.0)) (i, commit c) ns)
no_commit phase s p early ((i, add shard block) ∷ ns) agree none = no_commit phase s p early ns agree none
no_commit phase s p early ((i, delete shard id) ∷ ns) agree none = no_commit phase s p early ns agree none
no_commit phase s p early ((i, sync) ∷ ns) agree none = no_commit phase s p early ns agree none
no_commit phase s p early ((i, asks session a) ∷ ns) agree none = no_commit phase s p early ns agree none

up_to_before : (p a : ℕ) → (a == suc p) ≡ false → nat_le a (suc p) ≡ nat_le a p
up_to_before p a other = go (nat_le a p) refl
  where
    go : (b : Bool) → nat_le a p ≡ b → nat_le a (suc p) ≡ b
    go true e = le-leb a (suc p) (let le = leb-true a p e in omega arith)
    go false e = lt-leb a (suc p) (let more = leb-false a p e in let ne = eqb-false a (suc p) other in omega arith)

up_to_none : (a : ℕ) → (a == 0) ≡ false → nat_le a 0 ≡ false
up_to_none a other = lt-leb a 0 (let ne = eqb-false a 0 other in omega arith)

-- the phase has no commit
abbrev has_none : {A : Type 0} → List (Line A) → ℕ → Bool
has_none lines p = not (list_any (λ q. q == p) (phases_where is_commit lines))

pub quiet_phase : {A : Type 0} (lines : List (Line A)) (s p : ℕ) → has_none lines p ≡ true → commits_up_to lines s p ≡ commits_before lines s p
quiet_phase lines s zero none =
    no_commit (phase_of lines) s 0 (λ a. false) (enumerate_from 0 lines) up_to_none (not-true _ none)
    ∙ count_by-none (λ n. commits_shard s n.1 && false) (enumerate_from 0 lines) (λ k d below. and_right _ false refl)
quiet_phase lines s (suc p) none = no_commit (phase_of lines) s (suc p) (λ a. nat_le a p) (enumerate_from 0 lines) (up_to_before p) (not-true _ none)

-- ---- the phases of searches

each_search : {A : Type 0} (phase : ℕ → ℕ) (test : ℕ → Bool) (ns : List (ℕ × Line A)) → list_all test (phases_in phase is_search ns) ≡ true
    → AllByRecursion (λ q. test q.phase ≡ true) (filter_map (λ n. search_at (phase n.0) n.1) ns)
each_search phase test [] all = tt
each_search phase test ((i, asks session a) ∷ ns) all = let parts = and_parts (test (phase i)) (list_all test (phases_in phase is_search ns)) all in (parts.0, each_search phase test ns parts.1)
each_search phase test ((i, add shard block) ∷ ns) all = each_search phase test ns all
each_search phase test ((i, delete shard id) ∷ ns) all = each_search phase test ns all
each_search phase test ((i, commit c) ∷ ns) all = each_search phase test ns all
each_search phase test ((i, sync) ∷ ns) all = each_search phase test ns all

-- the search is of a phase with no commit
abbrev pub IsQuiet : {A : Type 0} → List (Line A) → Search A → Type 0
IsQuiet lines q = has_none lines q.phase ≡ true

pub quiet_searches : {A : Type 0} (S : Script A) → are_apart S ≡ true → AllByRecursion (IsQuiet S.lines) (searches S.lines)
quiet_searches S apart = each_search (phase_of S.lines) (has_none S.lines) (enumerate_from 0 S.lines) apart
