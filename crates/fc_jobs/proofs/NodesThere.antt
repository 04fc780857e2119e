-- The facet at a place among nodes.
use Rattle.std.proofs.Common.{◌≡◌, ℕ, zero, suc, ◌<◌, ◌≤◌, List, [], ◌∷◌, length, get_or, Bool, true, None, Some, refl, sym, ◌∙◌, ap, subst, arith}
use Rattle.std.proofs.lemmas.Bool.{false≢true}
use Rattle.std.proofs.lemmas.Option.{same_Some}
use Rattle.fc_spec.specs.laws.LacksLaws.{has_key}
use Rattle.fc_spec.specs.messages.Target.{facet_at}
use Rattle.fc_spec.specs.requests.Buckets.{Key, is_key_of}
use Rattle.fc_spec.specs.requests.Request.{Facet, Nodes, no_nodes, statistic, facet}
use Rattle.fc_spec.specs.requests.RequestReading as reading
use Rattle.fc_facet.specs.declared.kind.Kind.TheVariants as k
use Rattle.fc_domain.specs.FieldsFit.{ChangeFits}
use Rattle.fc_kind.specs.Columns.{FitsColumns}
use Rattle.fc_request.specs.FacetNode.{facet_view, has_buckets, kind_of, kind_view}
use Rattle.fc_request.specs.NodeView.{Part, inner_view, node_view, nodes_view}
use Rattle.fc_request.specs.declared.node.Node.{Node}
use Rattle.fc_request.proofs.Nodes.{before, facet_is, has_buckets_by, statistic_is}
use Rattle.fc_jobs.specs.FacetFits.{AllFit}

later : (i : ℕ) (p : Part) (rest : Nodes) → facet_at (suc i) (before p rest) ≡ facet_at i rest
later i p rest = go p.1
  where
    go : (n : reading.Node) → facet_at (suc i) (before (p.0, n) rest) ≡ facet_at i rest
    go (reading.of_statistic s) = refl
    go (reading.of_facet change kind inner) = refl

-- of a facet
pub facet_there : (xs : List Node) (i : ℕ) (n : Node) → i < length xs → n ≡ get_or xs i n → has_buckets (kind_of n) ≡ true → facet_at i (nodes_view xs) ≡ Some (facet_view n, inner_view n)
facet_there [] i n within is h = absurd (omega arith)
facet_there (x ∷ xs) zero n within is h = ap (λ y. facet_at zero (before (node_view y) (nodes_view xs))) (sym is) ∙ ap (facet_at zero) (facet_is n h (nodes_view xs))
facet_there (x ∷ xs) (suc i) n within is h = later i (node_view x) (nodes_view xs) ∙ facet_there xs i n (omega arith) is h

-- a statistic is none
statistic_there : (xs : List Node) (i : ℕ) (n : Node) → i < length xs → n ≡ get_or xs i n → (s : _) → kind_of n ≡ k.Stat s → facet_at i (nodes_view xs) ≡ None
statistic_there [] i n within is s h = absurd (omega arith)
statistic_there (x ∷ xs) zero n within is s h = ap (λ y. facet_at zero (before (node_view y) (nodes_view xs))) (sym is) ∙ ap (facet_at zero) (statistic_is n s h (nodes_view xs))
statistic_there (x ∷ xs) (suc i) n within is s h = later i (node_view x) (nodes_view xs) ∙ statistic_there xs i n (omega arith) is s h

-- past the end there is none
pub nothing_there : (xs : List Node) (i : ℕ) → length xs ≤ i → facet_at i (nodes_view xs) ≡ None
nothing_there [] zero h = refl
nothing_there [] (suc i) h = refl
nothing_there (x ∷ xs) zero h = absurd (omega arith)
nothing_there (x ∷ xs) (suc i) h = later i (node_view x) (nodes_view xs) ∙ nothing_there xs i (omega arith)

-- so where a key is named there, the node is a facet, and the key is its own
pub has_buckets_there : (xs : List Node) (i : ℕ) (n : Node) (key : Key) → i < length xs → n ≡ get_or xs i n → has_key (facet_at i (nodes_view xs)) key ≡ true → has_buckets (kind_of n) ≡ true
has_buckets_there xs i n key within is named = has_buckets_by (kind_of n) (λ s h. false≢true (sym (ap (λ o. has_key o key) (statistic_there xs i n within is s h)) ∙ named))

pub key_there : (xs : List Node) (i : ℕ) (n : Node) (key : Key) → i < length xs → n ≡ get_or xs i n → has_key (facet_at i (nodes_view xs)) key ≡ true → is_key_of (kind_view (kind_of n)) key ≡ true
key_there xs i n key within is named = sym (ap (λ o. has_key o key) (facet_there xs i n within is (has_buckets_there xs i n key within is named))) ∙ named

pub named_within : (xs : List Node) (i : ℕ) (key : Key) → length xs ≤ i → has_key (facet_at i (nodes_view xs)) key ≡ true → ⊥
named_within xs i key past named = false≢true (sym (ap (λ o. has_key o key) (nothing_there xs i past)) ∙ named)

-- what fits of all nodes, fits of one of them
pub fits_at : (texts : List Bool) (nodes : Nodes) (i : ℕ) (f : Facet) (inner : Nodes) → AllFit texts nodes → facet_at i nodes ≡ Some (f, inner) → ChangeFits texts f.change × FitsColumns texts f.kind × AllFit texts inner
fits_at texts no_nodes zero f inner fit there = absurd (cc)
fits_at texts no_nodes (suc i) f inner fit there = absurd (cc)
fits_at texts (statistic name s rest) zero f inner fit there = absurd (cc)
fits_at texts (statistic name s rest) (suc i) f inner fit there = fits_at texts rest i f inner fit there
fits_at texts (facet g nodes rest) zero f inner fit there =
    let here : Facet × Nodes = (g, nodes) in
    let wanted : Facet × Nodes = (f, inner) in
    let same : here ≡ wanted = same_Some here wanted there in
    subst (λ (p : Facet × Nodes). ChangeFits texts (p.0).change × FitsColumns texts (p.0).kind × AllFit texts p.1) same (fit.0, fit.1, fit.2)
fits_at texts (facet g nodes rest) (suc i) f inner fit there = fits_at texts rest i f inner fit.3 there
