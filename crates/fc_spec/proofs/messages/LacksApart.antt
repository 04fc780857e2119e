-- What lacks of a shard stands apart: no way of it begins another.
use Rattle.std.proofs.Common.{◌≡◌, ℕ, zero, suc, ◌≤◌, List, [], ◌∷◌, ◌++◌, Bool, true, false, cond, ◌&&◌, ◌==◌, None, is_none, get_or, refl, sym, ◌∙◌, ap, subst, inl, inr, arith}
use Rattle.std.specs.List.{filter, flat_map}
use Rattle.std.proofs.lemmas.Bool.{eq-eqb, eqb-true}
use Rattle.fc_spec.specs.words.Lists.{is_empty, numbers_below}
use Rattle.fc_spec.specs.requests.Request.{Terms, Kind, terms, range, date_range, query, Facet, Nodes, no_nodes, statistic, facet, Request}
use Rattle.fc_spec.specs.requests.Buckets.{Key, value}
use Rattle.fc_spec.specs.requests.Shape.{asks_again, counts_all}
use Rattle.fc_spec.specs.replies.Reading.{Reading}
use Rattle.fc_spec.specs.replies.Chosen.{offering, chosen}
use Rattle.fc_spec.specs.replies.Distributed.{printed_keys, carried}
use Rattle.fc_spec.specs.messages.KeyOrder.{same_key}
use Rattle.fc_spec.specs.messages.Message.{Step, Way, Want, way_of}
use Rattle.fc_spec.specs.messages.Held.{Told, behind, held}
use Rattle.fc_spec.specs.messages.Merged.{over_held}
use Rattle.fc_spec.specs.messages.Lacks.{Lack, want_of, each_of, wanted_values, wanted_at, facet_wanted, wanted, lacks}
use Rattle.fc_spec.specs.messages.Rounds.{next_lacks, wants_of}
use Rattle.fc_spec.specs.laws.LacksLaws.{AreApart, StandApart, LacksStandApart, LacksDiffer, WantsStandApart}
use Rattle.fc_spec.proofs.words.Members.{Member, filter_member}
use Rattle.fc_spec.proofs.words.AlikeLists.{member_append, member_map, member_flat_map}
use Rattle.fc_spec.proofs.words.Differing.{Differ, Other, differ_filter, differ_append, differ_flat_map, differ_map, differ_range, differ_pairs}
use Rattle.fc_spec.proofs.replies.DistinctKeys.{OtherKey, OtherVal, chosen_differ, printed_differ}
use Rattle.fc_spec.proofs.messages.Keys.{same_key_exact, same_key_itself}
use Rattle.fc_spec.proofs.messages.Ways.{none_not_some}
use Rattle.fc_spec.proofs.messages.HeldFurther.{behind_itself}

-- a step to a key of a node
abbrev at_key : ℕ → Key → Step
at_key n k = record { node = n; key = k }

-- the two steps are two
abbrev OtherStep : Step → Step → Type 0
OtherStep s t = ((s.node == t.node) && same_key s.key t.key) ≡ false

-- two ways that part at a step
part_there : (way x y : Way) (s t : Step) → OtherStep s t → behind (way ++ s ∷ x) (way ++ t ∷ y) ≡ None
part_there [] x y s t d = ap (λ b. cond b (behind x y) None) d
part_there (u ∷ way) x y s t d = (λ i. cond (eq-eqb u.node u.node refl i && same_key_itself u.key i) (behind (way ++ s ∷ x) (way ++ t ∷ y)) None) ∙ part_there way x y s t d

other_back : (s t : Step) → OtherStep s t → OtherStep t s
other_back s t d = go (t.node == s.node) (same_key t.key s.key) refl refl
  where
    go : (a b : Bool) → (t.node == s.node) ≡ a → same_key t.key s.key ≡ b → (a && b) ≡ false
    go true true e f =
        let nodes = eq-eqb s.node t.node (sym (eqb-true t.node s.node e)) in
        let keys = ap (λ k. same_key s.key k) (same_key_exact t.key s.key f) ∙ same_key_itself s.key in
        sym (λ i. nodes i && keys i) ∙ d
    go true false e f = refl
    go false b e f = refl

apart_there : (way x y : Way) (s t : Step) → OtherStep s t → AreApart (way ++ s ∷ x) (way ++ t ∷ y)
apart_there way x y s t d = (part_there way x y s t d, part_there way y x t s (other_back s t d))

pair_apart : (way x y : Way) (s t : Step) (l m : Lack) → OtherStep s t → way_of l.want ≡ way ++ s ∷ x → way_of m.want ≡ way ++ t ∷ y → StandApart l m
pair_apart way x y s t l m d e f same = subst (λ v. AreApart v (way_of m.want)) (sym e) (subst (λ v. AreApart (way ++ s ∷ x) v) (sym f) (apart_there way x y s t d))

-- other keys of one node, and other nodes
other_keys_there : (n : ℕ) (k l : Key) → OtherKey k l → OtherStep (at_key n k) (at_key n l)
other_keys_there n k l other = ap (λ c. (n == n) && c) other ∙ ap (λ c. c && false) (eq-eqb n n refl)

later_node : (n : ℕ) (k : Key) (s : Step) → suc n ≤ s.node → OtherStep (at_key n k) s
later_node n k s le = go (n == s.node) refl
  where
    go : (b : Bool) → (n == s.node) ≡ b → (b && same_key k s.key) ≡ false
    go true e = absurd (let h = eqb-true n s.node e in omega arith)
    go false e = refl

each_apart : (H : List ℕ) (w : Want) → Differ Other H → Differ StandApart (each_of H w)
each_apart H w d = differ_map Other StandApart (λ i. record { shard = i; want = w }) H (λ i j m n other same. absurd (other same)) d

-- the shards that a bucket carries differ
carried_differ : {B D : Type 0} (R : Reading B D) (kind : Kind) (inner : Nodes) (H : List ℕ) (Y : D) (k : Key) → Differ Other H → Differ Other (carried R kind inner H Y k)
carried_differ R (terms t) inner H Y (value v) d = go (counts_all t inner)
  where
    go : (b : Bool) → Differ Other (cond b H (offering R t inner H Y v))
    go true = d
    go false = differ_filter Other _ H d
carried_differ R _ inner H Y _ d = d

-- all begin with the way and a step to the n-th node; or with a step to it or a later one
abbrev AreAt : Way → ℕ → List Lack → Type 0
AreAt way n ls = (l : Lack) → Member l ls → (k : Key) × (rest : Way) × (way_of l.want ≡ way ++ at_key n k ∷ rest)

abbrev AreFrom : Way → ℕ → List Lack → Type 0
AreFrom way n ls = (l : Lack) → Member l ls → (s : Step) × (rest : Way) × (n ≤ s.node) × (way_of l.want ≡ way ++ s ∷ rest)

values_apart : {B D : Type 0} (R : Reading B D) (t : Terms) (inner : Nodes) (n : ℕ) (H : List ℕ) (Y : D) (way : Way) → Differ Other H → Differ StandApart (wanted_values R t inner n H Y way) × AreAt way n (wanted_values R t inner n H Y way)
values_apart R t inner n H Y way d = (
  differ_flat_map OtherVal StandApart (λ v. each_of H (want_of way n (value v))) (chosen R t inner H Y) (chosen_differ R t inner H Y) (λ v. each_apart H (want_of way n (value v)) d)
      (λ v w l m other i j.
      let a = member_map (λ k. record { shard = k; want = want_of way n (value v) }) H l i in
      let b = member_map (λ k. record { shard = k; want = want_of way n (value w) }) H m j in
      pair_apart way [] [] (at_key n (value v)) (at_key n (value w)) l m (other_keys_there n (value v) (value w) other) (ap (λ (x : Lack). way_of x.want) a.2) (ap (λ (x : Lack). way_of x.want) b.2)),
  λ l i.
      let r = member_flat_map (λ v. each_of H (want_of way n (value v))) (chosen R t inner H Y) l i in
      let a = member_map (λ k. record { shard = k; want = want_of way n (value r.0) }) H l r.2 in
      (value r.0, [], ap (λ (x : Lack). way_of x.want) a.2),
)

one_step_more : (way rest : Way) (s : Step) → (way ++ s ∷ []) ++ rest ≡ way ++ s ∷ rest
one_step_more [] rest s = refl
one_step_more (u ∷ way) rest s = ap (λ w. u ∷ w) (one_step_more way rest s)

-- under printed buckets
under_apart : (way : Way) (n : ℕ) (f : Key → List Lack) (ks : List Key) → Differ OtherKey ks → ((k : Key) → Differ StandApart (f k) × AreFrom (way ++ at_key n k ∷ []) 0 (f k)) → Differ StandApart (flat_map f ks) × AreAt way n (flat_map f ks)
under_apart way n f ks d each = (
  differ_flat_map OtherKey StandApart f ks d (λ k. (each k).0)
      (λ k j l m other a b.
      let x = (each k).1 l a in
      let y = (each j).1 m b in
      pair_apart way (x.0 ∷ x.1) (y.0 ∷ y.1) (at_key n k) (at_key n j) l m (other_keys_there n k j other) (x.3 ∙ one_step_more way (x.0 ∷ x.1) (at_key n k)) (y.3 ∙ one_step_more way (y.0 ∷ y.1) (at_key n j))),
  λ l i. let r = member_flat_map f ks l i in let x = (each r.0).1 l r.2 in (r.0, x.0 ∷ x.1, x.3 ∙ one_step_more way (x.0 ∷ x.1) (at_key n r.0)),
)

at_apart : {B D : Type 0} (R : Reading B D) (kind : Kind) (inner : Nodes) (e n : ℕ) (H : List ℕ) (Y : D) (way : Way) (under : ℕ → List Lack) → Differ Other H → ((d : ℕ) → Differ StandApart (under d) × AreAt way n (under d))
    → Differ StandApart (wanted_at R kind inner e n H Y way under) × AreAt way n (wanted_at R kind inner e n H Y way under)
at_apart R (terms t) inner zero n H Y way under d u = go (asks_again t inner)
  where
    go : (b : Bool) → Differ StandApart (cond b (wanted_values R t inner n H Y way) []) × AreAt way n (cond b (wanted_values R t inner n H Y way) [])
    go true = values_apart R t inner n H Y way d
    go false = (tt, λ l i. absurd i)
at_apart R (terms t) inner (suc e) n H Y way under d u = u e
at_apart R (range g) inner e n H Y way under d u = u e
at_apart R (date_range g) inner e n H Y way under d u = u e
at_apart R (query q) inner e n H Y way under d u = u e

part_apart : (way : Way) (n : ℕ) (empty : Bool) (f : Facet) (all : List Lack) → Differ StandApart all × AreAt way n all → Differ StandApart (facet_wanted empty f all) × AreAt way n (facet_wanted empty f all)
part_apart way n empty f all a = go (empty && is_empty f.change.exclude)
  where
    go : (b : Bool) → Differ StandApart (cond b [] all) × AreAt way n (cond b [] all)
    go true = (tt, λ l i. absurd i)
    go false = a

-- at a node, and at later ones
both_apart : (way : Way) (n : ℕ) (xs ys : List Lack) → Differ StandApart xs × AreAt way n xs → Differ StandApart ys × AreFrom way (suc n) ys → Differ StandApart (xs ++ ys) × AreFrom way n (xs ++ ys)
both_apart way n xs ys a b = (
  differ_append StandApart xs ys a.0 b.0 (λ l m i j. let x = a.1 l i in let y = b.1 m j in pair_apart way x.1 y.1 (at_key n x.0) y.0 l m (later_node n x.0 y.0 y.2) x.2 y.3),
  λ l i. elim (member_append xs ys l i) [
    | inl j ↦ (let x = a.1 l j in (at_key n x.0, x.1, omega arith, x.2))
    | inr j ↦ (let y = b.1 l j in (y.0, y.1, (let h = y.2 in omega arith), y.3))
  ],
)

from_earlier : (way : Way) (n : ℕ) (ls : List Lack) → Differ StandApart ls × AreFrom way (suc n) ls → Differ StandApart ls × AreFrom way n ls
from_earlier way n ls a = (a.0, λ l i. let y = a.1 l i in (y.0, y.1, (let h = y.2 in omega arith), y.3))

wanted_apart : {B D : Type 0} (R : Reading B D) (nodes : Nodes) (e n : ℕ) (H : List ℕ) (X : B) (way : Way) → Differ Other H → Differ StandApart (wanted R e nodes n H X way) × AreFrom way n (wanted R e nodes n H X way)
wanted_apart R no_nodes e n H X way d = (tt, λ l i. absurd i)
wanted_apart R (statistic name s rest) e n H X way d = from_earlier way n (wanted R e rest (suc n) H X way) (wanted_apart R rest e (suc n) H X way d)
wanted_apart R (facet f inner rest) e n H X way d =
    let Y = R.domain_on n f H X in
    let inside = λ (c : ℕ) (k : Key). wanted R c inner 0 (carried R f.kind inner H Y k) (R.bucket_at f.kind Y k) (way ++ at_key n k ∷ []) in
    let under = λ (c : ℕ). flat_map (inside c) (printed_keys R f.kind inner H Y) in
    both_apart way n (facet_wanted (R.count_on H X == 0) f (wanted_at R f.kind inner e n H Y way under)) (wanted R e rest (suc n) H X way)
    (part_apart way n (R.count_on H X == 0) f (wanted_at R f.kind inner e n H Y way under) (at_apart R f.kind inner e n H Y way under d
    (λ c. under_apart way n (inside c) (printed_keys R f.kind inner H Y) (printed_differ R f.kind inner H Y)
    (λ k. wanted_apart R inner c 0 (carried R f.kind inner H Y k) (R.bucket_at f.kind Y k) (way ++ at_key n k ∷ []) (carried_differ R f.kind inner H Y k d)))))
    (wanted_apart R rest e (suc n) H X way d)

lacks_differ : (r : Request) (n : ℕ) (A : List Told) (e : ℕ) → Differ StandApart (lacks r n A e)
lacks_differ r n A e = differ_filter StandApart (λ l. is_none (held A l.shard (way_of l.want))) (wanted (over_held A) e r.nodes 0 (numbers_below n) [] []) (wanted_apart (over_held A) r.nodes e 0 (numbers_below n) [] [] (differ_range n 0)).0

next_differ : (r : Request) (n : ℕ) (A : List Told) (d e : ℕ) → Differ StandApart (next_lacks r n A d e)
next_differ r n A zero e = tt
next_differ r n A (suc d) e = go (is_empty (lacks r n A e)) (next_differ r n A d (suc e))
  where
    go : (b : Bool) → Differ StandApart (next_lacks r n A d (suc e)) → Differ StandApart (cond b (next_lacks r n A d (suc e)) (lacks r n A e))
    go true ih = ih
    go false ih = lacks_differ r n A e

pub lacks_stand_apart : LacksStandApart
lacks_stand_apart r n A e = differ_pairs StandApart (lacks r n A e) (lacks_differ r n A e)

pub lacks_differ_all : LacksDiffer
lacks_differ_all r n A e i j d before within same =
    let apart = lacks_stand_apart r n A e i j d before within (ap (λ (l : Lack). l.shard) same) in
    let one = way_of (get_or (lacks r n A e) j d).want in
    none_not_some [] (sym apart.0 ∙ ap (λ (l : Lack). behind (way_of l.want) one) same ∙ behind_itself one)

-- the wants of one shard
own_differ : (i : ℕ) (all : List Lack) → Differ StandApart all → Differ (λ v w. AreApart (way_of v) (way_of w)) (wants_of i all)
own_differ i all d =
    let own = filter (λ (l : Lack). l.shard == i) all in
    differ_map StandApart (λ v w. AreApart (way_of v) (way_of w)) (λ (l : Lack). l.want) own
    (λ l m a b apart. apart (eqb-true l.shard i (filter_member (λ (k : Lack). k.shard == i) all l a).1 ∙ sym (eqb-true m.shard i (filter_member (λ (k : Lack). k.shard == i) all m b).1)))
    (differ_filter StandApart (λ (l : Lack). l.shard == i) all d)

pub own_wants_differ : (r : Request) (n : ℕ) (A : List Told) (e i : ℕ) → Differ (λ v w. AreApart (way_of v) (way_of w)) (wants_of i (lacks r n A e))
own_wants_differ r n A e i = own_differ i (lacks r n A e) (lacks_differ r n A e)

pub wants_stand_apart : WantsStandApart
wants_stand_apart r n A d e i = differ_pairs (λ v w. AreApart (way_of v) (way_of w)) (wants_of i (next_lacks r n A d e)) (own_differ i (next_lacks r n A d e) (next_differ r n A d e))
