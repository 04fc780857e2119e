-- What lacks names keys of facets of the request.
use Rattle.std.proofs.Common.{◌≡◌, ℕ, zero, suc, List, [], ◌∷◌, ◌++◌, Bool, true, false, cond, ◌==◌, Option, None, Some, is_none, refl, sym, ◌∙◌, ap, subst, inl, inr}
use Rattle.std.specs.List.{AllByRecursion}
use Rattle.std.proofs.lemmas.Bool.{false≢true, and_parts, and_from}
use Rattle.fc_spec.specs.documents.Val.{Text}
use Rattle.fc_spec.specs.words.Lists.{numbers_below}
use Rattle.fc_spec.specs.requests.Request.{Terms, Kind, terms, range, date_range, query, DomainChange, Facet, Nodes, no_nodes, statistic, facet, Request}
use Rattle.fc_spec.specs.requests.Buckets.{Key, value, has_prefix, is_key_of}
use Rattle.fc_spec.specs.requests.Paths.{Path, at_root, into}
use Rattle.fc_spec.specs.requests.Shape.{asks_again}
use Rattle.fc_spec.specs.replies.Chosen.{chosen}
use Rattle.fc_spec.specs.replies.Distributed.{printed_keys, carried}
use Rattle.fc_spec.specs.messages.Message.{Way, Want, way_of}
use Rattle.fc_spec.specs.messages.Target.{leads_to, target_in, target_from, target_nodes, facet_at, nodes_in}
use Rattle.fc_spec.specs.messages.Held.{Told, held}
use Rattle.fc_spec.specs.messages.Merged.{count_held, over_held}
use Rattle.fc_spec.specs.messages.Lacks.{Lack, want_of, each_of, wanted_values, facet_wanted, wanted, lacks}
use Rattle.fc_spec.specs.laws.LacksLaws.{has_key, names_keys, is_asked_again, IsFitting, IsThere, LacksAreThere}
use Rattle.fc_spec.proofs.words.Members.{Member, every_member, filter_member, all_from_members}
use Rattle.fc_spec.proofs.words.AlikeLists.{member_append, member_map, member_flat_map}
use Rattle.fc_spec.proofs.words.NumbersBelow.{member_below}
use Rattle.fc_spec.proofs.replies.PrintedKeys.{OfferPrefixed, prefixed_chosen, every_printed_key_of}
use Rattle.fc_spec.proofs.messages.HeldFurther.{step_to}
use Rattle.fc_spec.proofs.messages.KnownBuckets.{nodes_of}
use Rattle.fc_spec.proofs.messages.NextBuckets.{next_nodes}
use Rattle.fc_spec.proofs.messages.PrintedAgree.{node_at}
use Rattle.fc_spec.proofs.messages.Merges.{under_held, wanted_held, AreFrom, from_start, facet_first, after_facet, after_statistic}
use Rattle.fc_spec.proofs.messages.Beyond.{wanted_among, wanted_part}
use Rattle.fc_spec.proofs.messages.FittingBuckets.{held_prefixed}

-- a way that names keys names keys with one more step, to a key of a facet there
pub names_one_more : (path : Path) (nodes : Nodes) (way : Way) (n : ℕ) (key : Key) → names_keys nodes way ≡ true → has_key (facet_at n (target_nodes (target_from (leads_to path nodes) way))) key ≡ true → names_keys nodes (way ++ step_to n key) ≡ true
names_one_more path nodes [] n key names has = and_from (has_key (facet_at n nodes) key) true has refl
names_one_more path nodes (step ∷ way) n key names has =
    let both = and_parts (has_key (facet_at step.node nodes) step.key) (names_keys (nodes_in (facet_at step.node nodes)) way) names in
    and_from (has_key (facet_at step.node nodes) step.key) (names_keys (nodes_in (facet_at step.node nodes)) (way ++ step_to n key)) both.0 (go (facet_at step.node nodes) refl both.0 both.1 (λ p ns. names_one_more p ns way n key))
  where
    go : (o : Option (Facet × Nodes)) → facet_at step.node nodes ≡ o → has_key o step.key ≡ true → names_keys (nodes_in o) way ≡ true
        → ((p : Path) (ns : Nodes) → names_keys ns way ≡ true → has_key (facet_at n (target_nodes (target_from (leads_to p ns) way))) key ≡ true → names_keys ns (way ++ step_to n key) ≡ true) → names_keys (nodes_in o) (way ++ step_to n key) ≡ true
    go None e own rest ih = absurd (false≢true own)
    go (Some f) e own rest ih = ih (into path f.0 step.key) f.1 rest (subst (λ o. has_key (facet_at n (target_nodes (target_from (target_in step.key (leads_to path nodes) o) way))) key ≡ true) e has)

-- what is said of a want: its way names keys, and its facet asks again for values
abbrev pub IsNamed : Request → Want → Type 0
IsNamed r w = (names_keys r.nodes (way_of w) ≡ true) × (is_asked_again (facet_at w.node (nodes_of r w.path)) w.key ≡ true)

module _ (most : Terms → Option ℕ) (r : Request) (A : List Told) (fitting : AllByRecursion (IsFitting most r) A) where
  -- the values held of a facet are its keys
  held_offers : (way : Way) (n : ℕ) (name : Text) (change : DomainChange) (kind : Kind) (inner : Nodes) → facet_at n (nodes_of r way) ≡ Some (record { name = name; change = change; kind = kind }, inner) → OfferPrefixed (over_held A) kind inner (node_at way n)
  held_offers way n name change (terms t) inner at = λ i. held_prefixed most r A way n i (record { name = name; change = change; kind = terms t }) t inner fitting at refl
  held_offers way n name change (range g) inner at = tt
  held_offers way n name change (date_range g) inner at = tt
  held_offers way n name change (query q) inner at = tt

  names_key : (way : Way) (n : ℕ) (f : Facet) (inner : Nodes) (key : Key) → names_keys r.nodes way ≡ true → facet_at n (nodes_of r way) ≡ Some (f, inner) → is_key_of f.kind key ≡ true → names_keys r.nodes (way ++ step_to n key) ≡ true
  names_key way n f inner key names at own = names_one_more at_root r.nodes way n key names (ap (λ o. has_key o key) at ∙ own)

  -- the chosen values of a terms facet that asks again
  values_named : (way : Way) (n : ℕ) (name : Text) (change : DomainChange) (t : Terms) (inner : Nodes) (H : List ℕ) (l : Lack) → names_keys r.nodes way ≡ true
      → facet_at n (nodes_of r way) ≡ Some (record { name = name; change = change; kind = terms t }, inner) → asks_again t inner ≡ true → Member l (wanted_values (over_held A) t inner n H (node_at way n) way) → IsNamed r l.want
  values_named way n name change t inner H l names at again m =
      let v = member_flat_map (λ v. each_of H (want_of way n (value v))) (chosen (over_held A) t inner H (node_at way n)) l m in
      let i = member_map (λ i. record { shard = i; want = want_of way n (value v.0) }) H l v.2 in
      let prefixed = prefixed_chosen (over_held A) t inner H (node_at way n) (held_offers way n name change (terms t) inner at) in
      let own = every_member (has_prefix t.prefix) (chosen (over_held A) t inner H (node_at way n)) v.0 prefixed v.1 in
      subst (IsNamed r) (sym (ap (λ (x : Lack). x.want) i.2))
      (names_key way n (record { name = name; change = change; kind = terms t }) inner (value v.0) names at own, ap (λ o. is_asked_again o (value v.0)) at ∙ again)

  -- under the buckets of a facet, where it holds in each
  abbrev NamedInside : Nodes → Type 0
  NamedInside inner = (e : ℕ) (H : List ℕ) (way : Way) (l : Lack) → names_keys r.nodes way ≡ true → AreFrom r [] way 0 0 inner → Member l (wanted (over_held A) e inner 0 H way way) → IsNamed r l.want

  under_named : (way : Way) (n : ℕ) (name : Text) (change : DomainChange) (kind : Kind) (inner : Nodes) (H : List ℕ) (d : ℕ) (l : Lack) → names_keys r.nodes way ≡ true
      → facet_at n (nodes_of r way) ≡ Some (record { name = name; change = change; kind = kind }, inner) → NamedInside inner → Member l (under_held A kind inner n H way d) → IsNamed r l.want
  under_named way n name change kind inner H d l names at inside m =
      let f : Facet = record { name = name; change = change; kind = kind } in
      let k = member_flat_map (λ k. wanted (over_held A) d inner 0 (carried (over_held A) kind inner H (node_at way n) k) (way ++ step_to n k) (way ++ step_to n k)) (printed_keys (over_held A) kind inner H (node_at way n)) l m in
      let own = every_member (is_key_of kind) (printed_keys (over_held A) kind inner H (node_at way n)) k.0 (every_printed_key_of (over_held A) kind inner H (node_at way n) (held_offers way n name change kind inner at)) k.1 in
      inside d (carried (over_held A) kind inner H (node_at way n) k.0) (way ++ step_to n k.0) l (names_key way n f inner k.0 names at own) (from_start r [] (way ++ step_to n k.0) inner (next_nodes r way n f inner k.0 at)) k.2

  at_named : (way : Way) (n : ℕ) (name : Text) (change : DomainChange) (kind : Kind) (inner : Nodes) (H : List ℕ) (e : ℕ) (l : Lack) → names_keys r.nodes way ≡ true
      → facet_at n (nodes_of r way) ≡ Some (record { name = name; change = change; kind = kind }, inner) → NamedInside inner → Member l (wanted_held A kind inner n H way e) → IsNamed r l.want
  at_named way n name change (terms t) inner H zero l names at inside m = go (asks_again t inner) refl m
    where
      go : (b : Bool) → asks_again t inner ≡ b → Member l (cond b (wanted_values (over_held A) t inner n H (node_at way n) way) []) → IsNamed r l.want
      go true again there = values_named way n name change t inner H l names at again there
      go false again there = absurd there
  at_named way n name change (terms t) inner H (suc e) l names at inside m = under_named way n name change (terms t) inner H e l names at inside m
  at_named way n name change (range g) inner H e l names at inside m = under_named way n name change (range g) inner H e l names at inside m
  at_named way n name change (date_range g) inner H e l names at inside m = under_named way n name change (date_range g) inner H e l names at inside m
  at_named way n name change (query q) inner H e l names at inside m = under_named way n name change (query q) inner H e l names at inside m

  pub wanted_named : (nodes : Nodes) (e n m : ℕ) (H : List ℕ) (way : Way) (l : Lack) → names_keys r.nodes way ≡ true → AreFrom r [] way n m nodes → Member l (wanted (over_held A) e nodes n H way way) → IsNamed r l.want
  wanted_named no_nodes e n m H way l names from there = absurd there
  wanted_named (statistic name s rest) e n m H way l names from there = wanted_named rest e (suc n) (suc m) H way l names (after_statistic r [] way n m name s rest from) there
  wanted_named (facet f inner rest) e n m H way l names from there =
      let here = facet_wanted (count_held A H way == 0) f (wanted_held A f.kind inner n H way e) in
      elim (member_append here (wanted (over_held A) e rest (suc n) H way way) l there) [
        | inl a ↦ at_named way n f.name f.change f.kind inner H e l names (facet_first r [] way n m f inner rest from) (λ d K w x fr to u. wanted_named inner d 0 0 K w x fr to u) (wanted_part (count_held A H way == 0) f (wanted_held A f.kind inner n H way e) l a)
        | inr b ↦ wanted_named rest e (suc n) m H way l names (after_facet r [] way n m f inner rest from) b
      ]

pub lacks_are_there : LacksAreThere
lacks_are_there most r n A e fitting =
    let all = wanted (over_held A) e r.nodes 0 (numbers_below n) [] [] in
    all_from_members (IsThere r n) (lacks r n A e) (λ l m.
    let there = (filter_member (λ k. is_none (held A k.shard (way_of k.want))) all l m).0 in
    let named = wanted_named most r A fitting r.nodes e 0 0 (numbers_below n) [] l refl (from_start r [] [] r.nodes refl) there in
    record { shard = member_below n l.shard (wanted_among (over_held A) r.nodes e 0 (numbers_below n) [] [] l there); keys = named.0; again = named.1 })
