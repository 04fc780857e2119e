-- What lacks at a depth has one step more to terms facets.
use Rattle.std.proofs.Common.{◌≡◌, ℕ, zero, suc, ◌+◌, List, [], ◌∷◌, ◌++◌, Bool, true, false, cond, ◌==◌, Some, is_none, refl, sym, ◌∙◌, ap, subst, inl, inr, arith}
use Rattle.fc_spec.specs.words.Lists.{numbers_below}
use Rattle.fc_spec.specs.requests.Request.{Terms, Kind, terms, range, date_range, query, Facet, Nodes, no_nodes, statistic, facet, Request}
use Rattle.fc_spec.specs.requests.Buckets.{Key, value}
use Rattle.fc_spec.specs.requests.Paths.{at_root}
use Rattle.fc_spec.specs.requests.Shape.{asks_again}
use Rattle.fc_spec.specs.replies.Chosen.{chosen}
use Rattle.fc_spec.specs.replies.Distributed.{printed_keys, carried}
use Rattle.fc_spec.specs.messages.Message.{Way, way_of}
use Rattle.fc_spec.specs.messages.Target.{Target, leads_to, target_in, target_from, target_nodes, facet_at}
use Rattle.fc_spec.specs.messages.Held.{Told, held}
use Rattle.fc_spec.specs.messages.Merged.{count_held, over_held}
use Rattle.fc_spec.specs.messages.Lacks.{Lack, want_of, each_of, wanted_values, facet_wanted, wanted, lacks, own_depth}
use Rattle.fc_spec.specs.laws.LacksLaws.{step_depth, way_depth, LacksAtDepth}
use Rattle.fc_spec.proofs.words.Members.{Member, filter_member, all_from_members}
use Rattle.fc_spec.proofs.words.AlikeLists.{member_append, member_map, member_flat_map}
use Rattle.fc_spec.proofs.messages.HeldFurther.{step_to}
use Rattle.fc_spec.proofs.messages.KnownBuckets.{nodes_of}
use Rattle.fc_spec.proofs.messages.NextBuckets.{next_nodes}
use Rattle.fc_spec.proofs.messages.PrintedAgree.{node_at}
use Rattle.fc_spec.proofs.messages.Merges.{under_held, wanted_held, AreFrom, from_start, facet_first, after_facet, after_statistic}
use Rattle.fc_spec.proofs.messages.Beyond.{wanted_part}
use Rattle.fc_spec.proofs.messages.FittingBuckets.{stepped_nodes_are}

-- the steps of two ways, one behind the other, add up
pub depth-append : (x y : Way) (t : Target) → way_depth (target_nodes t) (x ++ y) ≡ way_depth (target_nodes t) x + way_depth (target_nodes (target_from t x)) y
depth-append [] y t = omega arith
depth-append (s ∷ x) y t =
    let next = target_in s.key t (facet_at s.node (target_nodes t)) in
    let ih = subst (λ ns. way_depth ns (x ++ y) ≡ way_depth ns x + way_depth (target_nodes (target_from next x)) y) (stepped_nodes_are s.key s.node t) (depth-append x y next) in
    omega arith

module _ (r : Request) (A : List Told) where
  depth_more : (way : Way) (n : ℕ) (f : Facet) (inner : Nodes) (key : Key) → facet_at n (nodes_of r way) ≡ Some (f, inner) → way_depth r.nodes (way ++ step_to n key) ≡ way_depth r.nodes way + own_depth f.kind
  depth_more way n f inner key at =
      let sum = depth-append way (step_to n key) (leads_to at_root r.nodes) in
      let own : step_depth (facet_at n (nodes_of r way)) ≡ own_depth f.kind = ap step_depth at in
      sum ∙ (let one : way_depth (nodes_of r way) (step_to n key) ≡ own_depth f.kind = (let z : way_depth (nodes_of r way) (step_to n key) ≡ step_depth (facet_at n (nodes_of r way)) = omega arith in z ∙ own) in ap (λ d. way_depth r.nodes way + d) one)

  -- as deep as it lacks
  abbrev IsDeep : Way → ℕ → Lack → Type 0
  IsDeep way e l = way_depth r.nodes (way_of l.want) ≡ way_depth r.nodes way + e + 1

  values_deep : (way : Way) (n : ℕ) (f : Facet) (t : Terms) (inner : Nodes) (H : List ℕ) (l : Lack) → facet_at n (nodes_of r way) ≡ Some (f, inner) → f.kind ≡ terms t → Member l (wanted_values (over_held A) t inner n H (node_at way n) way) → IsDeep way 0 l
  values_deep way n f t inner H l at kind m =
      let v = member_flat_map (λ v. each_of H (want_of way n (value v))) (chosen (over_held A) t inner H (node_at way n)) l m in
      let i = member_map (λ i. record { shard = i; want = want_of way n (value v.0) }) H l v.2 in
      ap (λ (x : Lack). way_depth r.nodes (way_of x.want)) i.2 ∙ depth_more way n f inner (value v.0) at ∙ ap (λ k. way_depth r.nodes way + own_depth k) kind ∙ omega arith

  -- under the buckets of a facet, where it holds in each
  abbrev DeepInside : Nodes → Type 0
  DeepInside inner = (e : ℕ) (H : List ℕ) (way : Way) (l : Lack) → AreFrom r [] way 0 0 inner → Member l (wanted (over_held A) e inner 0 H way way) → IsDeep way e l

  under_deep : (way : Way) (n : ℕ) (f : Facet) (inner : Nodes) (H : List ℕ) (d : ℕ) (l : Lack) → facet_at n (nodes_of r way) ≡ Some (f, inner) → DeepInside inner → Member l (under_held A f.kind inner n H way d)
      → way_depth r.nodes (way_of l.want) ≡ way_depth r.nodes way + own_depth f.kind + d + 1
  under_deep way n f inner H d l at inside m =
      let k = member_flat_map (λ k. wanted (over_held A) d inner 0 (carried (over_held A) f.kind inner H (node_at way n) k) (way ++ step_to n k) (way ++ step_to n k)) (printed_keys (over_held A) f.kind inner H (node_at way n)) l m in
      inside d (carried (over_held A) f.kind inner H (node_at way n) k.0) (way ++ step_to n k.0) l (from_start r [] (way ++ step_to n k.0) inner (next_nodes r way n f inner k.0 at)) k.2 ∙ ap (λ z. z + d + 1) (depth_more way n f inner k.0 at)

  at_deep : (way : Way) (n : ℕ) (f : Facet) (kind : Kind) (inner : Nodes) (H : List ℕ) (e : ℕ) (l : Lack) → f.kind ≡ kind → facet_at n (nodes_of r way) ≡ Some (f, inner) → DeepInside inner → Member l (wanted_held A kind inner n H way e) → IsDeep way e l
  at_deep way n f (terms t) inner H zero l is at inside m = go (asks_again t inner) m
    where
      go : (b : Bool) → Member l (cond b (wanted_values (over_held A) t inner n H (node_at way n) way) []) → IsDeep way 0 l
      go true there = values_deep way n f t inner H l at is there
      go false there = absurd there
  at_deep way n f (terms t) inner H (suc e) l is at inside m =
      under_deep way n f inner H e l at inside (subst (λ k. Member l (under_held A k inner n H way e)) (sym is) m) ∙ ap (λ k. way_depth r.nodes way + own_depth k + e + 1) is ∙ omega arith
  at_deep way n f (range g) inner H e l is at inside m =
      under_deep way n f inner H e l at inside (subst (λ k. Member l (under_held A k inner n H way e)) (sym is) m) ∙ ap (λ k. way_depth r.nodes way + own_depth k + e + 1) is ∙ omega arith
  at_deep way n f (date_range g) inner H e l is at inside m =
      under_deep way n f inner H e l at inside (subst (λ k. Member l (under_held A k inner n H way e)) (sym is) m) ∙ ap (λ k. way_depth r.nodes way + own_depth k + e + 1) is ∙ omega arith
  at_deep way n f (query q) inner H e l is at inside m =
      under_deep way n f inner H e l at inside (subst (λ k. Member l (under_held A k inner n H way e)) (sym is) m) ∙ ap (λ k. way_depth r.nodes way + own_depth k + e + 1) is ∙ omega arith

  wanted_deep : (nodes : Nodes) (e n m : ℕ) (H : List ℕ) (way : Way) (l : Lack) → AreFrom r [] way n m nodes → Member l (wanted (over_held A) e nodes n H way way) → IsDeep way e l
  wanted_deep no_nodes e n m H way l from there = absurd there
  wanted_deep (statistic name s rest) e n m H way l from there = wanted_deep rest e (suc n) (suc m) H way l (after_statistic r [] way n m name s rest from) there
  wanted_deep (facet f inner rest) e n m H way l from there =
      elim (member_append (facet_wanted (count_held A H way == 0) f (wanted_held A f.kind inner n H way e)) (wanted (over_held A) e rest (suc n) H way way) l there) [
        | inl a ↦ at_deep way n f f.kind inner H e l refl (facet_first r [] way n m f inner rest from) (λ d K w x fr u. wanted_deep inner d 0 0 K w x fr u) (wanted_part (count_held A H way == 0) f (wanted_held A f.kind inner n H way e) l a)
        | inr b ↦ wanted_deep rest e (suc n) m H way l (after_facet r [] way n m f inner rest from) b
      ]

pub lack_is_deep : (r : Request) (n : ℕ) (A : List Told) (e : ℕ) (l : Lack) → Member l (lacks r n A e) → way_depth r.nodes (way_of l.want) ≡ e + 1
lack_is_deep r n A e l m =
    let all = wanted (over_held A) e r.nodes 0 (numbers_below n) [] [] in
    let there = (filter_member (λ k. is_none (held A k.shard (way_of k.want))) all l m).0 in
    wanted_deep r A r.nodes e 0 0 (numbers_below n) [] l (from_start r [] [] r.nodes refl) there ∙ omega arith

pub lacks_at_depth : LacksAtDepth
lacks_at_depth r n A e = all_from_members (λ l. way_depth r.nodes (way_of l.want) ≡ e + 1) (lacks r n A e) (lack_is_deep r n A e)
