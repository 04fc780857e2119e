use Rattle.std.proofs.Common.{◌≡◌, ◌∙◌, ◌+◌, ◌-◌, ◌++◌, ◌∷◌, List, suc, drop, drop-cons, add-one, ap, sym, subst, map, false, ◌==◌, ◌&&◌, rules, arith}
use Rattle.std.proofs.lemmas.Bool.{ne_eqb}
use Rattle.std.proofs.lemmas.List.{append-nil}
use Rattle.std.proofs.lemmas.List.Elements.{All-rest}
use Rattle.fc_spec.specs.requests.Request.{no_nodes}
use Rattle.fc_spec.specs.words.Lists.{is_empty}
use Rattle.fc_refine.specs.AskView.{way_view}
use Rattle.fc_refine.specs.declared.ask.Step.{Step}
use Rattle.fc_refine.specs.CountableRanges.{AreCountable}
use Rattle.fc_request.specs.declared.node.Node.{out-Node}
use Rattle.fc_request.specs.FacetNode.{facet_view, has_buckets, kind_of, kind_view}
use Rattle.fc_request.specs.NodeView.{inner_view, node_view, nodes_view}
use Rattle.fc_request.proofs.Nodes.{has_buckets_by}
use Rattle.fc_lacks.specs.Inside.{inside_key, lacking_under}
use Rattle.fc_lacks.specs.Keys.{IsCountedKey, keyed_view}
use Rattle.fc_lacks.specs.Lacking.{lacking}
use Rattle.fc_lacks.specs.LackView.{lack_view}
use Rattle.fc_reading.specs.Tree.{node_before}
use Rattle.fc_lacks.proofs.LackedValues.{next_made}
use Rattle.fc_reading.proofs.Sizes.{node_total, single_below, left_below}
use Rattle.fc_reading.proofs.Steps.{countable_first, countable_others, first_fails, second_fails}
use Rattle.fc_lacks.proofs.NoneAsks.{none_under}
use Rattle.fc_lacks.proofs.WalkedNodes.{next_node, others_under, under_keys, values_under}
use Rattle.fc_lacks.specs.Asking.{asks_at}
use Rattle.fc_lacks.proofs.walk.+lacking.Goals as goal
use Rattle.fc_lacks.proofs.walk.+lacking.Goals.{push_at_node-else-count-eq0-via-then-count-eq0+else-has_no_tag, push_at_node-else-count-eq0-via-else-count-eq0}

pub push_at_node-returns-in_ok-push_under-in-Terms-clause-lacks : goal.push_at_node-returns-in_ok-push_under-in-Terms-clause-lacks
push_at_node-returns-in_ok-push_under-in-Terms-clause-lacks g t c =
    let R = g.R.BucketReading.reading c.args.reading.now in
    let has = g.R.BucketReading.has in
    let node = c.args.node.now in
    let inner = inner_view node in
    let H = c.args.shards.now in
    let X = g.R.BucketReading.held c.args.around.now in
    let way = way_view c.args.way.now.items in
    let d = c.args.depth - 1 in
    let old = map lack_view c.args.lacks.now.items in
    let kind = kind_view (kind_of node) in
    let shown : ((c.args.count == 0) && is_empty (facet_view node).change.exclude) ≡ false = elim c.else-count-eq0.branch [
      | push_at_node-else-count-eq0-via-then-count-eq0+else-has_no_tag w ↦ second_fails (c.args.count == 0) (is_empty (facet_view node).change.exclude) (sym (ap is_empty w.deref.ensures.value) ∙ sym w.if-has_no_tag.ensures)
      | push_at_node-else-count-eq0-via-else-count-eq0 w ↦ first_fails (c.args.count == 0) (is_empty (facet_view node).change.exclude) (ne_eqb c.args.count 0 w.if-count-eq0.false)
    ] in
    let printed : ((R.count_on H X == 0) && is_empty (facet_view node).change.exclude) ≡ false = ap (λ n. (n == 0) && is_empty (facet_view node).change.exclude) (sym c.requires.count) ∙ shown in
    let deeper : c.args.depth ≡ suc d = omega arith in
    c.in_ok-push_under-in-Terms.ensures.lacks
    ∙ ap (λ n. old ++ lacking_under R has kind inner n H (R.domain_on n (facet_view node) H X) way d) c.in_ok-number.ensures
    ∙ ap (λ ls. old ++ ls) (sym (values_under R has c.args.depth c.args.number H X way node (ap has_buckets c.in-Terms.is) c.in-Terms.terms d c.in-Terms.is deeper printed))

pub push_at_node-returns-in_ok-push_under-in_default-clause-lacks : goal.push_at_node-returns-in_ok-push_under-in_default-clause-lacks
push_at_node-returns-in_ok-push_under-in_default-clause-lacks g t c =
    let R = g.R.BucketReading.reading c.args.reading.now in
    let has = g.R.BucketReading.has in
    let node = c.args.node.now in
    let inner = inner_view node in
    let H = c.args.shards.now in
    let X = g.R.BucketReading.held c.args.around.now in
    let way = way_view c.args.way.now.items in
    let old = map lack_view c.args.lacks.now.items in
    let kind = kind_view (kind_of node) in
    let shown : ((c.args.count == 0) && is_empty (facet_view node).change.exclude) ≡ false = elim c.else-count-eq0.branch [
      | push_at_node-else-count-eq0-via-then-count-eq0+else-has_no_tag w ↦ second_fails (c.args.count == 0) (is_empty (facet_view node).change.exclude) (sym (ap is_empty w.deref.ensures.value) ∙ sym w.if-has_no_tag.ensures)
      | push_at_node-else-count-eq0-via-else-count-eq0 w ↦ first_fails (c.args.count == 0) (is_empty (facet_view node).change.exclude) (ne_eqb c.args.count 0 w.if-count-eq0.false)
    ] in
    let printed : ((R.count_on H X == 0) && is_empty (facet_view node).change.exclude) ≡ false = ap (λ n. (n == 0) && is_empty (facet_view node).change.exclude) (sym c.requires.count) ∙ shown in
    c.in_ok-push_under-in_default.ensures.lacks
    ∙ ap (λ n. old ++ lacking_under R has kind inner n H (R.domain_on n (facet_view node) H X) way c.args.depth) c.in_ok-number.ensures
    ∙ ap (λ ls. old ++ ls) (sym (others_under R has c.args.depth c.args.number H X way node (has_buckets_by (kind_of node) c.in_default.not-Stat) c.in_default.not-Stat c.in_default.not-Terms printed))

pub push_in_bucket-push_at_node-requires : goal.push_in_bucket-push_at_node-requires
push_in_bucket-push_at_node-requires g t c =
    let xs = (out-Node c.args.node.now).nodes.items in
    let i = c.loop-number.number in
    let item = c.nested-item.result in
    let rest = nodes_view (drop (i + 1) xs) in
    let ys = c.deref-nested-items.result.now in
    let there : drop i ys ≡ item ∷ drop (i + 1) ys = rw add-one (drop-cons ys i item c.loop-number-test.true ∙ ap (λ x. x ∷ drop (suc i) ys) (sym c.nested-item.is)) in
    let here : drop i xs ≡ item ∷ drop (i + 1) xs = subst (λ l. drop i l ≡ item ∷ drop (i + 1) l) c.deref-nested-items.ensures.value there in
    let first : nodes_view (drop i xs) ≡ node_before (node_view item) rest = ap nodes_view here in
    λ κs within. (
      omega (arith, c.decreases, ap node_total first, single_below (node_view item) rest, left_below i xs),
      (
        search rules,
        (
          search rules,
          (
            search rules,
            (
              countable_first (node_view item) rest (subst AreCountable first c.loop-number.invariant.2),
              (c.requires.distinct, c.requires.count),
            ),
          ),
        ),
      ),
    )

pub push_in_bucket-loop-number-preserved : goal.push_in_bucket-loop-number-preserved
push_in_bucket-loop-number-preserved g t c =
    let R = g.R.BucketReading.reading c.args.reading.now in
    let has = g.R.BucketReading.has in
    let H = c.args.shards.now in
    let X = g.R.BucketReading.held c.args.bucket.now in
    let e = c.args.depth in
    let way = way_view c.args.way.now.items in
    let xs = (out-Node c.args.node.now).nodes.items in
    let i = c.loop-number.number in
    let item = c.nested-item.result in
    let p = node_view item in
    let rest = nodes_view (drop (i + 1) xs) in
    let ys = c.deref-nested-items.result.now in
    let there : drop i ys ≡ item ∷ drop (i + 1) ys = rw add-one (drop-cons ys i item c.loop-number-test.true ∙ ap (λ x. x ∷ drop (suc i) ys) (sym c.nested-item.is)) in
    let here : drop i xs ≡ item ∷ drop (i + 1) xs = subst (λ l. drop i l ≡ item ∷ drop (i + 1) l) c.deref-nested-items.ensures.value there in
    let first : nodes_view (drop i xs) ≡ node_before p rest = ap nodes_view here in
    let done = map lack_view c.loop-number.lacks.items in
    let now = map lack_view c.push_at_node.new.lacks.items in
    let made : now ≡ done ++ lacking R has e (node_before p no_nodes) i H X way = c.in_ok-push_at_node.ensures.lacks ∙ ap (λ w. done ++ lacking R has e (node_before p no_nodes) i H X (way_view w)) c.loop-number.invariant.0 in
    let whole = map lack_view c.args.lacks.now.items ++ lacking R has e (inner_view c.args.node.now) 0 H X way in
    let so_far : done ++ lacking R has e (node_before p rest) i H X way ≡ whole = ap (λ ns. done ++ lacking R has e ns i H X way) (sym first) ∙ c.loop-number.invariant.1 in (
      c.in_ok-push_at_node.ensures.way ∙ c.loop-number.invariant.0,
      ap (λ k. now ++ lacking R has e rest k H X way) (add-one i) ∙ next_node R has e i H X way done now p rest whole made so_far,
      countable_others p rest (subst AreCountable first c.loop-number.invariant.2),
    )

pub push_in_keys-loop-one-preserved : goal.push_in_keys-loop-one-preserved
push_in_keys-loop-one-preserved g t c =
    let R = g.R.BucketReading.reading c.args.reading.now in
    let see = keyed_view g.R.BucketReading.held in
    let inside = λ (w : List Step). inside_key R g.R.BucketReading.has (inner_view c.args.node.now) c.args.number (way_view w) c.args.depth in
    let one = c.in-Some.one in
    let rest = c.next.new.self.rest.items in
    let left = c.loop-one.one-iterator.rest.items in
    let first = c.in-Some.ensures.steps.0 in
    let done = map lack_view c.loop-one.lacks.items in (
      c.in_ok-push_in_key.ensures.way ∙ c.loop-one.invariant.0,
      next_made (inside c.args.way.now.items) done (map lack_view c.push_in_key.new.lacks.items) (see one) (map see rest) (map see left) _ (ap (map see) first)
          (c.in_ok-push_in_key.ensures.lacks ∙ ap (λ w. done ++ inside w (see one)) c.loop-one.invariant.0) c.loop-one.invariant.1,
      All-rest (IsCountedKey R g.R.BucketReading.held) one rest left first c.loop-one.invariant.2,
    )

pub push_under-returns-then-not-asks_at-clause-lacks : goal.push_under-returns-then-not-asks_at-clause-lacks
push_under-returns-then-not-asks_at-clause-lacks g t c =
    let R = g.R.BucketReading.reading c.args.reading.now in
    let node = c.args.node.now in
    let old = map lack_view c.args.lacks.now.items in
    let none : asks_at c.args.depth (inner_view node) ≡ false = ap (λ ns. asks_at c.args.depth (nodes_view ns)) (sym c.deref.ensures.value) ∙ sym c.asks_at.ensures ∙ c.if-not-asks_at.true in
    sym (ap (λ ls. old ++ ls) (none_under R g.R.BucketReading.has (kind_view (kind_of node)) (inner_view node) c.args.number c.args.shards.now
    (R.domain_on c.args.number (facet_view node) c.args.shards.now (g.R.BucketReading.held c.args.around.now)) (way_view c.args.way.now.items) c.args.depth none)
    ∙ append-nil old)

pub push_under-returns-clause-lacks : goal.push_under-returns-clause-lacks
push_under-returns-clause-lacks g t c =
    let R = g.R.BucketReading.reading c.args.reading.now in
    let has = g.R.BucketReading.has in
    let node = c.args.node.now in
    let kind = kind_view (kind_of node) in
    let inner = inner_view node in
    let n = c.args.number in
    let H = c.args.shards.now in
    let way = way_view c.args.way.now.items in
    let d = c.args.depth in
    let old = map lack_view c.args.lacks.now.items in
    c.in_ok-push_in_keys.ensures.lacks
    ∙ ap (λ ls. old ++ ls) (under_keys R has kind inner n H (g.R.BucketReading.over c.in_ok-domain.domain) way d (map (keyed_view g.R.BucketReading.held) c.in_ok-buckets.buckets.items) c.in_ok-buckets.ensures.keyed)
    ∙ ap (λ y. old ++ lacking_under R has kind inner n H y way d) c.in_ok-domain.ensures.over
