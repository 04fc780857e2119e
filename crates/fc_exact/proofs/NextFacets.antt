-- Facets among nodes, one node after another.
use Rattle.std.proofs.Common.{◌≡◌, ℕ, suc, ◌+◌, ◌<◌, List, [], ◌∷◌, ◌++◌, map, drop, length, get_or, Bor, Vec, Option, refl, sym, ◌∙◌, ap, arith}
use Rattle.std.specs.declared.alloc.Global.{Global}
use Rattle.std.proofs.lemmas.List.{get_or-map, length-map}
use Rattle.std.proofs.lemmas.List.FromFn.{get_or-map-range_with_len, length-range_with_len}
use Rattle.fc_spec.specs.messages.TopRounds as definition
use Rattle.fc_spec.specs.requests.Request.{Kind}
use Rattle.fc_spec.specs.words.Lists.{numbers_below}
use Rattle.fc_refine.proofs.Shapes.{nodes_from}
use Rattle.fc_request.specs.NodeView.{node_view, nodes_view}
use Rattle.fc_request.specs.declared.node.Node.{Node}
use Rattle.fc_exact.specs.ToldFacets.{told_of_facet, facets_in, kind_of_node}
use Rattle.fc_exact.specs.ToldView.{lent_view, lists_view}
use Rattle.fc_exact.specs.declared.told.ToldCount.{ToldCount}
use Rattle.fc_exact.proofs.ToldLists.{with_kind, facets_in-with_node}

-- the facets among the nodes from an index on
pub next_facet : (A : List definition.ToldCount) (xs : List Node) (i : ℕ) (n : Node) (k : ℕ) (o : Option Kind) → i < length xs → n ≡ get_or xs i n → kind_of_node (node_view n).1 ≡ o
    → facets_in A (nodes_view (drop i xs)) k ≡ with_kind A k o (nodes_view (drop (i + 1) xs))
next_facet A xs i n k o within is kind =
    ap (λ ns. facets_in A ns k) (nodes_from xs i n within is) ∙ facets_in-with_node A (node_view n).0 (node_view n).1 (nodes_view (drop (i + 1) xs)) k
    ∙ ap (λ q. with_kind A k q (nodes_view (drop (i + 1) xs))) kind

-- a list for each facet
pub lists_counted : (lists : List (Vec (Bor ToldCount) Global)) (A : List definition.ToldCount) (n : ℕ) → lists_view lists ≡ map (told_of_facet A) (numbers_below n) → length lists ≡ n
lists_counted lists A n e = sym (length-map lists (λ list. lent_view list.items)) ∙ ap length e ∙ length-map (numbers_below n) (told_of_facet A) ∙ length-range_with_len 0 n

pub list_at : (lists : List (Vec (Bor ToldCount) Global)) (A : List definition.ToldCount) (n k : ℕ) (list : Vec (Bor ToldCount) Global) → lists_view lists ≡ map (told_of_facet A) (numbers_below n) → k < n → list ≡ get_or lists k list
    → lent_view list.items ≡ told_of_facet A k
list_at lists A n k list e less is =
    let counted = lists_counted lists A n e in
    ap (λ (l : Vec (Bor ToldCount) Global). lent_view l.items) is ∙ sym (get_or-map (λ (l : Vec (Bor ToldCount) Global). lent_view l.items) lists k list [] (omega arith))
    ∙ ap (λ ls. get_or ls k []) e ∙ get_or-map-range_with_len (told_of_facet A) 0 n k k [] less (omega arith)

pub length-push : {X : Type 0} (xs : List X) (x : X) → length (xs ++ x ∷ []) ≡ suc (length xs)
length-push [] x = refl
length-push (y ∷ ys) x = ap suc (length-push ys x)
