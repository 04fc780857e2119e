-- The counts that shards are asked for are 1 at least.
use Rattle.std.specs.Prelude.{unwrap_or, sum}
use Rattle.std.proofs.Common.{◌≡◌, ℕ, zero, suc, ◌<◌, ◌≤◌, List, [], ◌∷◌, map, length, Bool, true, false, cond, ◌&&◌, ◌==◌, Some, refl, sym, ◌∙◌, ap, subst, arith, inl, inr}
use Rattle.std.specs.List.{filter, AllByRecursion}
use Rattle.std.proofs.lemmas.Bool.{false≢true, eq-eqb, and_from}
use Rattle.std.proofs.lemmas.List.Sums.{sum_by-cons}
use Rattle.fc_spec.specs.documents.Val.{Val, same_val}
use Rattle.fc_spec.specs.words.Lists.{numbers_below}
use Rattle.fc_spec.specs.requests.Request.{Kind, terms, range, date_range, query, Nodes, no_nodes, statistic, facet}
use Rattle.fc_spec.specs.requests.Ranks.{Entry, rank}
use Rattle.fc_spec.specs.requests.Least.{count_first, count_or_one, count_at, least_count}
use Rattle.fc_spec.specs.replies.Tops.{top_bound}
use Rattle.fc_spec.specs.messages.TopRounds.{ToldCount, values_told, count_told, entry_told, entries_told, least_asked, leasts_from}
use Rattle.fc_spec.specs.laws.TopRoundsLaw.{IsTopKind, AreTopNodes, AreCounts, LeastsAreSome}
use Rattle.fc_spec.proofs.words.Members.{Member, filter_member, passing_member, each_member}
use Rattle.fc_spec.proofs.words.AlikeLists.{member_map}
use Rattle.fc_spec.proofs.words.NumbersBelow.{below_member}
use Rattle.fc_spec.proofs.documents.Ascending.{has_val-distinct}
use Rattle.fc_spec.proofs.replies.TopValues.{member_has, share_of_some}

-- a member of a sum is no more than the sum
sum_member : (f : ℕ → ℕ) (i : ℕ) (H : List ℕ) → Member i H → f i ≤ sum (map f H)
sum_member f i [] m = absurd m
sum_member f i (j ∷ H) (inl e) = let here : f i ≡ f j = ap f e in omega (arith, sum_by-cons (λ n. n) (f j) (map f H), here)
sum_member f i (j ∷ H) (inr m) = omega (arith, sum_by-cons (λ n. n) (f j) (map f H), sum_member f i H m)

-- a value that a shard tells of has a count there
count_some : (A : List ToldCount) (k : ℕ) (v : Val) (i : ℕ) (n : ℕ) (a : ToldCount) → AreCounts n A → Member a A → ((a.node == k) && (a.shard == i) && same_val v a.val) ≡ true → 1 ≤ unwrap_or (count_told A k v i) 0
count_some [] k v i n a all m h = absurd m
count_some (b ∷ rest) k v i n a all m h = go ((b.node == k) && (b.shard == i) && same_val v b.val) refl m (count_some rest k v i n a all.1)
  where
    go : (c : Bool) → ((b.node == k) && (b.shard == i) && same_val v b.val) ≡ c → Member a (b ∷ rest) → (Member a rest → ((a.node == k) && (a.shard == i) && same_val v a.val) ≡ true → 1 ≤ unwrap_or (count_told rest k v i) 0)
        → 1 ≤ unwrap_or (cond c (Some b.count) (count_told rest k v i)) 0
    go true e m ih = all.0.0
    go false e (inl same) ih = absurd (false≢true (sym e ∙ ap (λ (x : ToldCount). (x.node == k) && (x.shard == i) && same_val v x.val) (sym same) ∙ h))
    go false e (inr m) ih = ih m h

module _ (n : ℕ) (A : List ToldCount) (some : 1 ≤ n) (all : AreCounts n A) where
  abbrev H : List ℕ
  H = numbers_below n

  entry_some : (k : ℕ) (e : Entry) → Member e (entries_told A H k) → 1 ≤ e.stats.count
  entry_some k e m =
      let v = member_map (entry_told A H k) (values_told A k) e m in
      let w = passing_member (same_val v.0) (map (λ a. a.val) (filter (λ a. a.node == k) A)) (sym (has_val-distinct v.0 (map (λ a. a.val) (filter (λ a. a.node == k) A))) ∙ member_has v.0 (values_told A k) v.1) in
      let a = member_map (λ (a : ToldCount). a.val) (filter (λ a. a.node == k) A) w.0 w.1 in
      let there = filter_member (λ a. a.node == k) A a.0 a.1 in
      let own = each_member (λ a. (1 ≤ a.count) × (a.shard < n)) A a.0 all there.0 in
      let count = count_some A k v.0 (a.0).shard n a.0 all there.0
      (and_from (((a.0).node == k) && ((a.0).shard == (a.0).shard)) (same_val v.0 (a.0).val) (and_from ((a.0).node == k) ((a.0).shard == (a.0).shard) there.1 (eq-eqb (a.0).shard (a.0).shard refl)) (ap (same_val v.0) (sym a.2) ∙ w.2)) in
      let part = sum_member (λ i. unwrap_or (count_told A k v.0 i) 0) (a.0).shard H (below_member n (a.0).shard own.1) in
      subst (λ (d : Entry). 1 ≤ d.stats.count) (sym v.2) (omega (arith, count, part))

  at_some : (k j : ℕ) → 1 ≤ count_at (entries_told A H k) j
  at_some k j = go (filter (λ e. rank count_first (entries_told A H k) e == j) (entries_told A H k)) (λ e m. entry_some k e (filter_member (λ e. rank count_first (entries_told A H k) e == j) (entries_told A H k) e m).0)
    where
      go : (F : List Entry) → ((e : Entry) → Member e F → 1 ≤ e.stats.count) → 1 ≤ count_or_one F
      go [] h = omega arith
      go (e ∷ es) h = h e (inl refl)

  kind_some : (k : ℕ) (kind : Kind) → IsTopKind kind → 1 ≤ least_asked A H k kind
  kind_some k (terms t) h = go (top_bound t)
    where
      go : (b : ℕ) → 1 ≤ least_count (length H) b (entries_told A H k)
      go zero = omega arith
      go (suc j) = share_of_some (count_at (entries_told A H k) j) (length H) (at_some k j) (has_one H (below_member n 0 (omega arith)))
        where
          has_one : (is : List ℕ) → Member 0 is → 1 ≤ length is
          has_one [] m = absurd m
          has_one (i ∷ is) m = omega arith
  kind_some k (range g) h = absurd h
  kind_some k (date_range g) h = absurd h
  kind_some k (query q) h = absurd h

  nodes_some : (nodes : Nodes) (k : ℕ) → AreTopNodes nodes → AllByRecursion (λ c. 1 ≤ c) (leasts_from A H nodes k)
  nodes_some no_nodes k h = tt
  nodes_some (statistic name s rest) k h = absurd h
  nodes_some (facet f inner rest) k h = (kind_some k f.kind h.0, nodes_some rest (suc k) h.2)

pub leasts_are_some : LeastsAreSome
leasts_are_some x n A some top all = nodes_some n A some all x.nodes 0 top
