use Rattle.std.proofs.Common.{◌≡◌, ◌+◌, ◌<◌, ℕ, List, [], ◌∷◌, ◌++◌, length, get_or, map, take, sym, subst, ◌∙◌, ap}
use Rattle.std.proofs.lemmas.List.{map-append, take_more}
use Rattle.std.proofs.lemmas.List.Elements.{All-push}
use Rattle.std.specs.List.Sorted.{IsStrictlySortedBy}
use Rattle.fc_spec.specs.documents.Val.{Val, val_cmp}
use Rattle.fc_request.specs.FacetNode.{vals_view}
use Rattle.fc_coord.proofs.spot.none_listed.Goals as goal

-- one more list of no values, for one more shard
one_more : (xs : List (List Val)) (shards : List ℕ) (k : ℕ) → k < length shards → xs ≡ map (λ i. []) (take k shards) → xs ++ [] ∷ [] ≡ map (λ i. []) (take (k + 1) shards)
one_more xs shards k below so_far =
    ap (λ ys. ys ++ [] ∷ []) so_far ∙ sym (map-append (λ (i : ℕ). let none : List Val = [] in none) (take k shards) (get_or shards k 0 ∷ []))
    ∙ ap (map (λ i. [])) (sym (take_more shards k 0 below))

nothing_ascends : IsStrictlySortedBy val_cmp []
unfolding IsStrictlySortedBy
nothing_ascends = tt

pub loop-shard-preserved : goal.loop-shard-preserved
loop-shard-preserved c =
    let lists = c.loop-shard.lists.items in
    let one = c.new.result in
    let empty : vals_view one.items ≡ [] = ap vals_view c.new.ensures.items in
    let pushed = c.in_ok-push.ensures.items in
    record {
      none =
          ap (map (λ list. vals_view list.items)) pushed ∙ map-append (λ list. vals_view list.items) lists (one ∷ [])
          ∙ ap (λ ys. map (λ list. vals_view list.items) lists ++ ys ∷ []) empty
          ∙ one_more (map (λ list. vals_view list.items) lists) c.args.shards.now c.loop-shard._shard-index c.loop-shard-test.true c.loop-shard.invariant.none;
      ascend = rw pushed (All-push (λ list. IsStrictlySortedBy val_cmp (vals_view list.items)) lists one c.loop-shard.invariant.ascend (subst (IsStrictlySortedBy val_cmp) (sym empty) nothing_ascends));
    }
