-- What is kept behind a message.
use Rattle.std.proofs.Common.{◌≡◌, ℕ, zero, suc, ◌<◌, ◌≤◌, List, [], ◌∷◌, ◌++◌, length, Bool, true, false, cond, Some, is_some, is_none, IsTrue, refl, sym, ◌∙◌, ap, subst, arith}
use Rattle.std.proofs.Math.Logic.{∥∥₁_elim, ∥∥₁_map}
use Rattle.std.proofs.Props.{props}
use Rattle.std.specs.Coded.{le_prop, Unit-prop}
use Rattle.std.specs.List.{list_any, AllByRecursion-prop}
use Rattle.std.proofs.lemmas.Bool.{false≢true, ne_eqb}
use Rattle.fc_spec.specs.words.Lists.{is_empty, numbers_below}
use Rattle.fc_spec.specs.requests.Request.{Nodes, Request}
use Rattle.fc_spec.specs.messages.Message.{Partials, way_of, Ask, first, more}
use Rattle.fc_spec.specs.laws.LacksLaws.{names_keys}
use Rattle.fc_spec.specs.messages.Held.{Told, held}
use Rattle.fc_spec.specs.messages.Merged.{over_held}
use Rattle.fc_spec.specs.messages.Lacks.{Lack, wanted, lacks, terms_depth}
use Rattle.fc_spec.specs.messages.Rounds.{next_lacks}
use Rattle.fc_lacks.specs.Lacking.{LackingIsUntold}
use Rattle.fc_told.specs.Trees.{Tree}
use Rattle.fc_refine.specs.Named.{NamesKeys}
use Rattle.fc_told.specs.Telling.{Tells, TellsMore, FitsExactly, SumsOfTellers, TellersFit}
use Rattle.fc_spec.proofs.words.NumbersBelow.{member_below}
use Rattle.fc_spec.proofs.words.Members.{Member, filter_member}
use Rattle.fc_spec.proofs.messages.Beyond.{wanted_among}
use Rattle.fc_spec.proofs.messages.PrintedKnown.{nothing_is_empty}
use Rattle.fc_coord.specs.State.{State, ask_at, asks_for, begun, lacks_next, goes_on, heard, told_of, is_awaited, is_fitting, taken}
use Rattle.fc_coord.specs.Keeps.{Keeps}
use Rattle.fc_coord.specs.TreeReading.{lacking_in, IsFound}
use Rattle.fc_coord.specs.View.{IsKept, IsKeptAt, KeepsAt, is_ready, is_spent}
use Rattle.fc_coord.specs.declared.standing.Standing.{Standing}
use Rattle.fc_coord.specs.declared.standing.Standing.TheVariants.{Open, Ready, Spent}
use Rattle.fc_coord.proofs.Hearing.{heard_keeps, heard_keeps_at, asks_name_keys}
use Rattle.fc_coord.proofs.Beginning.{has_begun, down, begun_at, ready_at_end}
use Rattle.fc_coord.proofs.NextSteps.{lacks_read, found_in, found_is_next}

pub ready_not_spent : (s : Standing) → is_ready s ≡ true → is_spent s ≡ false
ready_not_spent Open h = refl
ready_not_spent Ready h = refl
ready_not_spent Spent h = absurd (false≢true h)

tellers_one : (T : Tree) → IsProp (TellersFit T)
tellers_one T = hlevel props

pub kept_somehow : (s : State) (depth : ℕ) → ∥ IsKeptAt s depth ∥₁ → ∥ IsKept s ∥₁
kept_somehow s depth kept = ∥∥₁_map kept (λ k. (k.0, k.1.0))

-- over the tellers sums fit
pub tellers_fit : (s : State) → SumsOfTellers → ∥ IsKept s ∥₁ → TellersFit s.tree
tellers_fit s tellers kept = ∥∥₁_elim kept (tellers_one s.tree) (λ k. tellers s.tree k.0 k.1.tree k.1.once k.1.sums)

-- what lacks next, whatever list of what was told the tree tells of
abbrev pub IsNextOf : State → List Lack → Type 0
IsNextOf s all = (A : List Told) → Tells s.tree A → all ≡ lacks_next s A

some_length : (all : List Lack) → 0 < length all → is_empty all ≡ false
some_length all some = ne_eqb (length all) 0 (λ e. omega arith)

-- while some shard is awaited
pub waits : (s : State) (A : List Told) → list_any is_some s.asks ≡ true → s ≡ goes_on s A
waits s A some = sym (ap (λ b. cond b s (begun s (lacks_next s A))) some)

-- a round begins
pub begins_for : (s : State) (all : List Lack) → 0 < length all → begun s all ≡ record s { asks = asks_for (length s.asks) all; round = suc s.round }
begins_for s [] some = absurd (omega arith)
begins_for s (l ∷ ls) some = refl

-- ---- what is kept then

pub goes_on_keeps : (s : State) (A : List Told) → Keeps s A → Keeps (goes_on s A) A
goes_on_keeps s A k = go (list_any is_some s.asks) refl
  where
    go : (b : Bool) → list_any is_some s.asks ≡ b → Keeps (cond b s (begun s (lacks_next s A))) A
    go true e = k
    go false e = (has_begun s A k e).keeps

-- the state that follows, whatever was told
abbrev pub Follows : State → State → Type 0
Follows s new = (A : List Told) → Keeps s A → new ≡ goes_on s A

module _ (s : State) (i : ℕ) (m : Partials) (tells : TellsMore) (exact : FitsExactly) (awaited : IsTrue (is_awaited s i)) (fits : IsTrue (is_fitting s i m)) where
  pub heard_kept : ∥ IsKept s ∥₁ → ∥ IsKept (heard s i m) ∥₁
  heard_kept kept = ∥∥₁_map kept (λ k. (k.0 ++ told_of s i m, heard_keeps s k.0 i m tells exact k.1 awaited fits))

  pub heard_kept_at : (depth : ℕ) → ∥ IsKeptAt s depth ∥₁ → ∥ IsKeptAt (heard s i m) depth ∥₁
  heard_kept_at depth kept = ∥∥₁_map kept (λ k. let h = heard_keeps_at s k.0 i m tells exact k.1.0 awaited fits in (k.0 ++ told_of s i m, (h.0, h.1 ∙ k.1.1)))

  pub state_after : (new : State) → Follows (heard s i m) new → (A : List Told) → Keeps s A → new ≡ taken s A i m
  state_after new follows A k = follows (A ++ told_of s i m) (heard_keeps s A i m tells exact k awaited fits)

  pub keeps_after : (new : State) → Follows (heard s i m) new → (A : List Told) → Keeps s A → Keeps new (A ++ told_of s i m)
  keeps_after new follows A k =
      let own = heard_keeps s A i m tells exact k awaited fits in
      subst (λ x. Keeps x (A ++ told_of s i m)) (sym (follows (A ++ told_of s i m) own)) (goes_on_keeps (heard s i m) (A ++ told_of s i m) own)

-- ---- what lacks next

-- lacks at shards that are there
lacks_below : (r : Request) (n : ℕ) (A : List Told) (e : ℕ) (l : Lack) → Member l (lacks r n A e) → l.shard < n
lacks_below r n A e l m =
    let all = wanted (over_held A) e r.nodes 0 (numbers_below n) [] [] in
    member_below n l.shard (wanted_among (over_held A) r.nodes e 0 (numbers_below n) [] [] l (filter_member (λ k. is_none (held A k.shard (way_of k.want))) all l m).0)

next_below : (r : Request) (n : ℕ) (A : List Told) (depths e : ℕ) (l : Lack) → Member l (next_lacks r n A depths e) → l.shard < n
next_below r n A zero e l m = absurd m
next_below r n A (suc d) e l m = go (is_empty (lacks r n A e)) (λ k. next_below r n A d (suc e) l k) m
  where
    go : (b : Bool) → (Member l (next_lacks r n A d (suc e)) → l.shard < n) → Member l (cond b (next_lacks r n A d (suc e)) (lacks r n A e)) → l.shard < n
    go true later m = later m
    go false later m = lacks_below r n A e l m

pub lacks_there : (s : State) (all : List Lack) → ∥ IsKept s ∥₁ → IsNextOf s all → (l : Lack) → Member l all → l.shard < length s.asks
lacks_there s all kept next l m = ∥∥₁_elim kept le_prop (λ k. next_below s.request (length s.asks) k.0 (terms_depth s.request.nodes) 0 l (subst (λ ls. Member l ls) (next k.0 k.1.tree) m))

-- and its round can be counted
pub round_counts : (s : State) (all : List Lack) → ∥ IsKept s ∥₁ → list_any is_some s.asks ≡ false → IsNextOf s all → 0 < length all → s.round ≤ terms_depth s.request.nodes
round_counts s all kept none next some = ∥∥₁_elim kept le_prop (λ k. (has_begun s k.0 k.1 none).counted (ap is_empty (sym (next k.0 k.1.tree)) ∙ some_length all some))

-- at less depth than that of the round nothing lacks, once nobody is awaited
none_one : (r : Request) (n : ℕ) (T : Tree) (depth : ℕ) → IsProp ((e : ℕ) → e < depth → is_empty (lacking_in r n T e) ≡ true)
none_one r n T depth = hlevel props

pub nothing_below : (s : State) (depth : ℕ) → LackingIsUntold → ∥ IsKeptAt s depth ∥₁ → list_any is_some s.asks ≡ false → (e : ℕ) → e < depth → is_empty (lacking_in s.request (length s.asks) s.tree e) ≡ true
nothing_below s depth untold kept none =
    ∥∥₁_elim kept (none_one s.request (length s.asks) s.tree depth)
    (λ k e less. ap is_empty (lacks_read s.request (length s.asks) s.tree k.0 e untold k.1.0.tree ∙ down s k.0 k.1.0 none e (let same = k.1.1 in omega arith)))

-- what is found lacks next
pub found_next : (s : State) (depth : ℕ) (all : List Lack) → LackingIsUntold → IsFound (lacking_in s.request (length s.asks) s.tree) (terms_depth s.request.nodes) depth all → IsNextOf s all
found_next s depth all untold found A tells = found_is_next s.request (length s.asks) A (terms_depth s.request.nodes) depth all (found_in s.request (length s.asks) s.tree A depth all untold tells found)

-- ---- what is kept then, and at which depth

pub ready_kept_at : (s : State) (depth found_depth : ℕ) (all : List Lack) → LackingIsUntold → ∥ IsKeptAt s depth ∥₁ → list_any is_some s.asks ≡ false → IsFound (lacking_in s.request (length s.asks) s.tree) (terms_depth s.request.nodes) found_depth all → all ≡ []
    → ∥ IsKeptAt (record s { ready = true }) depth ∥₁
ready_kept_at s depth found_depth all untold kept none found nothing = ∥∥₁_map kept (λ k.
    let own = found_in s.request (length s.asks) s.tree k.0 found_depth all untold k.1.0.tree found in
    let at : found_depth ≡ terms_depth s.request.nodes = own.nowhere (ap is_empty nothing) in
    let over = ready_at_end s k.0 k.1.0 none (λ d less. nothing_is_empty (lacks s.request (length s.asks) k.0 d) (own.below d (omega arith))) in
    (k.0, (over.0, over.1 ∙ k.1.1)))

pub round_kept_at : (s : State) (depth found_depth : ℕ) (all : List Lack) → LackingIsUntold → ∥ IsKeptAt s depth ∥₁ → list_any is_some s.asks ≡ false → IsFound (lacking_in s.request (length s.asks) s.tree) (terms_depth s.request.nodes) found_depth all → 0 < length all
    → ∥ IsKeptAt (record s { asks = asks_for (length s.asks) all; round = suc s.round }) (suc found_depth) ∥₁
round_kept_at s depth found_depth all untold kept none found some = ∥∥₁_map kept (λ k.
    let own = found_in s.request (length s.asks) s.tree k.0 found_depth all untold k.1.0.tree found in
    let full = some_length all some in (
      k.0,
      subst (λ x. KeepsAt x k.0 (suc found_depth)) (begins_for s all some)
          (begun_at s k.0 k.1.0 none all found_depth (own.here full).1 full (λ d less. nothing_is_empty (lacks s.request (length s.asks) k.0 d) (own.below d less))),
    ))

-- ---- what is asked

names_one : (nodes : Nodes) (ask : Ask) → IsProp (NamesKeys nodes ask)
names_one nodes first = Unit-prop
names_one nodes (more wants) = AllByRecursion-prop (λ w. IsTrue (names_keys nodes (way_of w))) (λ w. hlevel props) wants

pub kept_names : (s : State) (i : ℕ) (ask : Ask) (nodes : Nodes) → ∥ IsKept s ∥₁ → ask_at s.asks i ≡ Some ask → nodes ≡ s.request.nodes → NamesKeys nodes ask
kept_names s i ask nodes kept at same = subst (λ ns. NamesKeys ns ask) (sym same) (∥∥₁_elim kept (names_one s.request.nodes ask) (λ k. asks_name_keys s k.0 i ask k.1 at))
