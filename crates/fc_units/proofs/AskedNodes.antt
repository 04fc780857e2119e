-- The facets that the steps of wants name.
use Rattle.std.proofs.Common.{◌≡◌, ℕ, zero, suc, ◌+◌, ◌<◌, ◌≤◌, List, [], ◌∷◌, length, drop, drop-cons, get_or, Bool, true, false, ◌&&◌, IsTrue, Some, refl, sym, ◌∙◌, ap, subst, arith, add-one}
use Rattle.std.specs.Prelude.{Result, Ok, Err, IfOk}
use Rattle.std.specs.Arc.{arc_value}
use Rattle.std.specs.declared.alloc.Global.{Global}
use Rattle.std.specs.declared.sync.Arc.{Arc}
use Rattle.std.specs.declared.vec.Vec.{Vec}
use Rattle.std.specs.List.{AllByRecursion}
use Rattle.std.proofs.lemmas.List.{length-map}
use Rattle.std.proofs.lemmas.Option.{same_Some}
use Rattle.fc_spec.specs.documents.Schema.{Schema}
use Rattle.fc_spec.specs.laws.LacksLaws.{has_key, names_keys}
use Rattle.fc_spec.specs.messages.Message as message
use Rattle.fc_spec.specs.messages.Message.{way_of}
use Rattle.fc_spec.specs.messages.Target.{facet_at, nodes_in}
use Rattle.fc_spec.specs.requests.Buckets.{Key, is_key_of}
use Rattle.fc_spec.specs.requests.Request.{Facet, Nodes, no_nodes, statistic, facet}
use Rattle.fc_spec.specs.requests.Shape.{stays}
use Rattle.fc_spec.specs.requests.ValidRequests.{AreValidNodes, IsValidFacet}
use Rattle.fc_partial.specs.View.{key_view}
use Rattle.fc_request.specs.FacetNode.{facet_view, has_buckets, kind_of, kind_view}
use Rattle.fc_request.specs.NodeView.{inner_view, nodes_view}
use Rattle.fc_request.specs.declared.node.Node.{Node}
use Rattle.fc_refine.specs.AskView.{ask_view, step_view, want_view, wants_view, way_view}
use Rattle.fc_partial.specs.declared.key.Key as code_key
use Rattle.fc_refine.specs.declared.ask.Ask.{Ask}
use Rattle.fc_refine.specs.declared.ask.Ask.TheVariants.{More}
use Rattle.fc_refine.specs.declared.ask.Step.{Step}
use Rattle.fc_refine.specs.declared.ask.Want.{Want}
use Rattle.fc_levels.specs.Steps.{AreValid, IsValidNode}
use Rattle.fc_jobs.proofs.NodesThere.{facet_there, has_buckets_there, key_there, named_within}
use Rattle.fc_units.specs.Asked.{HasSameDomain, asked_count, key_at, node_at, path_at}

-- ---- wants by their numbers
split : (a b : Bool) → IsTrue (a && b) → IsTrue a × IsTrue b
split true true h = (refl, refl)
split true false h = absurd (cc)
split false b h = absurd (cc)

pub path_is : (ws : List Want) (i : ℕ) (w : Want) → i < length ws → w ≡ get_or ws i w → path_at (wants_view ws) i ≡ way_view (arc_value w.path).items
path_is [] i w h e = absurd (omega (arith, h))
path_is (v ∷ ws) zero w h e = ap (λ (x : Want). way_view (arc_value x.path).items) (sym e)
path_is (v ∷ ws) (suc i) w h e = path_is ws i w (omega (arith, h)) e

pub node_is_at : (ws : List Want) (i : ℕ) (w : Want) → i < length ws → w ≡ get_or ws i w → node_at (wants_view ws) i ≡ w.node
node_is_at [] i w h e = absurd (omega (arith, h))
node_is_at (v ∷ ws) zero w h e = ap (λ x. x.node) (sym e)
node_is_at (v ∷ ws) (suc i) w h e = node_is_at ws i w (omega (arith, h)) e

pub key_is : (ws : List Want) (i : ℕ) (w : Want) → i < length ws → w ≡ get_or ws i w → key_at (wants_view ws) i ≡ key_view w.key
key_is [] i w h e = absurd (omega (arith, h))
key_is (v ∷ ws) zero w h e = ap (λ x. key_view x.key) (sym e)
key_is (v ∷ ws) (suc i) w h e = key_is ws i w (omega (arith, h)) e

-- a number of an ask for buckets
pub within_more : (ask : Ask) (wants : Arc (Vec Want Global) Global) (i : ℕ) → ask ≡ More wants → i < asked_count (ask_view ask) → i < length (arc_value wants).items
within_more ask wants i is h = omega (arith, subst (λ a. i < asked_count (ask_view a)) is h, length-map (arc_value wants).items want_view)

pub copied_key : {E : Type 0} (r : Result code_key.Key E) (k : code_key.Key) (d : Key) → key_view k ≡ d → IfOk r (λ key. key ≡ k) → IfOk r (λ key. key_view key ≡ d)
copied_key (Ok key) k d e same = ap key_view same ∙ e
copied_key (Err x) k d e same = tt

-- two of them that stand behind each other
pub same_at : (ws : List Want) (i : ℕ) (a b : Want) → i + 1 < length ws → a ≡ get_or ws i a → b ≡ get_or ws (i + 1) b → way_view (arc_value a.path).items ≡ way_view (arc_value b.path).items → a.node ≡ b.node → (n : ℕ) → n ≡ suc i
    → HasSameDomain (message.more (wants_view ws)) n
same_at ws i a b h ea eb path node n e = subst (HasSameDomain (message.more (wants_view ws))) (sym e) (paths, nodes)
  where
    up : i + 1 ≡ suc i
    up = omega arith

    paths : path_at (wants_view ws) i ≡ path_at (wants_view ws) (suc i)
    paths = path_is ws i a (omega (arith, h)) ea ∙ path ∙ sym (ap (path_at (wants_view ws)) (sym up) ∙ path_is ws (i + 1) b h eb)

    nodes : node_at (wants_view ws) i ≡ node_at (wants_view ws) (suc i)
    nodes = node_is_at ws i a (omega (arith, h)) ea ∙ node ∙ sym (ap (node_at (wants_view ws)) (sym up) ∙ node_is_at ws (i + 1) b h eb)

-- what is named of all wants
pub named_at : (nodes : Nodes) (ws : List Want) (i : ℕ) (w : Want) → AllByRecursion (λ (v : message.Want). IsTrue (names_keys nodes (way_of v))) (wants_view ws) → i < length ws → w ≡ get_or ws i w → IsTrue (names_keys nodes (way_of (want_view w)))
named_at nodes [] i w all h e = absurd (omega (arith, h))
named_at nodes (v ∷ ws) zero w all h e = subst (λ x. IsTrue (names_keys nodes (way_of (want_view x)))) (sym e) all.0
named_at nodes (v ∷ ws) (suc i) w all h e = named_at nodes ws i w all.1 (omega (arith, h)) e

-- ---- steps

-- a way from a step on
pub way_from : (ss : List Step) (i : ℕ) (s : Step) → i < length ss → s ≡ get_or ss i s → way_view (drop i ss) ≡ step_view s ∷ way_view (drop (i + 1) ss)
way_from ss i s h e = rw add-one (ap way_view (drop-cons ss i s h ∙ ap (λ x. x ∷ drop (suc i) ss) (sym e)))

pub way_over : (ss : List Step) (i : ℕ) → length ss ≤ i → way_view (drop i ss) ≡ []
way_over [] zero h = refl
way_over [] (suc i) h = refl
way_over (s ∷ ss) zero h = absurd (omega (arith, h))
way_over (s ∷ ss) (suc i) h = way_over ss i (omega (arith, h))

-- what a step names among nodes
pub record Names (xs : List Node) (i : ℕ) (key : Key) : Type 0 where
  pub within : i < length xs
  pub there : (n : Node) → n ≡ get_or xs i n → (facet_at i (nodes_view xs) ≡ Some (facet_view n, inner_view n)) × IsTrue (has_buckets (kind_of n)) × IsTrue (is_key_of (kind_view (kind_of n)) key)

within_from : (xs : List Node) (i : ℕ) (key : Key) → has_key (facet_at i (nodes_view xs)) key ≡ true → i < length xs
within_from xs i key named = not_ge (λ h. named_within xs i key h named)
  where
    not_ge : (length xs ≤ i → ⊥) → i < length xs
    not_ge past = grind (arith, past)

pub names : (xs : List Node) (i : ℕ) (key : Key) → IsTrue (has_key (facet_at i (nodes_view xs)) key) → Names xs i key
names xs i key named =
    let within = within_from xs i key named in
    record {
      within = within;
      there = λ n is. let facet = has_buckets_there xs i n key within is named in (facet_there xs i n within is facet, facet, key_there xs i n key within is named);
    }

-- the first step of a way, and the rest of it in the nodes of the facet that it names
pub split_named : (nodes : Nodes) (step : message.Step) (rest : message.Way) → IsTrue (names_keys nodes (step ∷ rest)) → IsTrue (has_key (facet_at step.node nodes) step.key) × IsTrue (names_keys (nodes_in (facet_at step.node nodes)) rest)
split_named nodes step rest named = split (has_key (facet_at step.node nodes) step.key) (names_keys (nodes_in (facet_at step.node nodes)) rest) named

-- ---- validity

valid_at : (s : Schema) (unmoved : Bool) (nodes : Nodes) (i : ℕ) (f : Facet) (inner : Nodes) → AreValidNodes s unmoved nodes → facet_at i nodes ≡ Some (f, inner) → IsValidFacet s unmoved f inner × AreValidNodes s (unmoved && stays f.change) inner
valid_at s o no_nodes zero f inner valid there = absurd (cc)
valid_at s o no_nodes (suc i) f inner valid there = absurd (cc)
valid_at s o (statistic name st rest) zero f inner valid there = absurd (cc)
valid_at s o (statistic name st rest) (suc i) f inner valid there = valid_at s o rest i f inner valid.1 there
valid_at s o (facet g nodes rest) zero f inner valid there =
    let here : Facet × Nodes = (g, nodes) in
    let wanted : Facet × Nodes = (f, inner) in
    subst (λ (p : Facet × Nodes). IsValidFacet s o p.0 p.1 × AreValidNodes s (o && stays p.0.change) p.1) (same_Some here wanted there) (valid.0, valid.1)
valid_at s o (facet g nodes rest) (suc i) f inner valid there = valid_at s o rest i f inner valid.2 there

-- a facet that is named is valid, and so are the nodes nested in it
pub valid_there : (s : Schema) (xs : List Node) (i : ℕ) (key : Key) (n : Node) → Names xs i key → n ≡ get_or xs i n → AreValid s (nodes_view xs) → IsValidNode s n
valid_there s xs i key n named is valid =
    let here = named.there n is in
    let both = valid_at s valid.0 (nodes_view xs) i (facet_view n) (inner_view n) valid.1 here.0 in
    record { facet = here.1; valid = (valid.0, both.0); inner = (valid.0 && stays (facet_view n).change, both.1) }
