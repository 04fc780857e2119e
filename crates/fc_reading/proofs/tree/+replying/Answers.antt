use Rattle.std.proofs.Common.{◌≡◌, ◌∙◌, ◌+◌, ◌++◌, ◌∷◌, suc, drop, drop-cons, add-one, ap, sym, subst, map, option_map, None, cond, false, ◌==◌, ◌&&◌, rules, arith}
use Rattle.std.proofs.lemmas.Bool.{ne_eqb}
use Rattle.std.proofs.lemmas.List.Elements.{All-rest}
use Rattle.fc_base.specs.StatisticView.{stat_view}
use Rattle.fc_request.proofs.Nodes.{has_buckets_by, statistic_of}
use Rattle.fc_spec.specs.requests.Request.{stats_of}
use Rattle.std.specs.List.{enumerate_from}
use Rattle.fc_spec.specs.words.Lists.{is_empty}
use Rattle.fc_spec.specs.replies.Reply.{listed}
use Rattle.fc_spec.specs.replies.Distributed.{dist_buckets, dist_facets}
use Rattle.fc_request.specs.FacetNode.{facet_view as asked_facet, kind_of, kind_view}
use Rattle.fc_refine.specs.CountableRanges.{AreCountable}
use Rattle.fc_partial.specs.StatsView.{stats_view}
use Rattle.fc_reply.proofs.ReplyViews.{view_of_made_buckets, view_of_made_facet}
use Rattle.fc_reply.specs.ReplyView.{body_view, bucket_view, facet_over, facet_view, facets_over, row_body}
use Rattle.fc_request.specs.NodeStatistics.{statistic_of_node}
use Rattle.fc_request.specs.NodeView.{inner_view, node_view, nodes_view}
use Rattle.fc_request.specs.declared.node.Node.{out-Node}
use Rattle.fc_reading.specs.Parts.{bucket_with, IsCounted, part_view}
use Rattle.fc_reading.specs.Tree.{count_in, inside, node_before, statistics_after}
use Rattle.fc_reading.proofs.Sizes.{node_total, single_below, left_below}
use Rattle.fc_reading.proofs.Rows.{put_as_defined, row_of_parts}
use Rattle.fc_reading.proofs.Printing.{facet_prints, statistic_prints}
use Rattle.fc_reading.proofs.Steps.{countable_first, countable_others, value_first, values_others, one_more, no_more, facet_printed, nothing_printed, bucket_made, first_fails, second_fails}
use Rattle.fc_reading.proofs.tree.+replying.Goals as goal
use Rattle.fc_reading.proofs.tree.+replying.Goals.{facets-in-Some+in_ok-push, facets-in_default, facets-then-is_statistic, facets-else-is_statistic, buckets_body-else-count-eq0-via-then-count-eq0+else-has_no_tag, buckets_body-else-count-eq0-via-else-count-eq0, facet-in-Stat, facet-in_default+in_ok-body-in_default}

pub row-returns : goal.row-returns
row-returns g t c =
    let R = g.R.BucketReading.reading c.args.reading.now in
    view_of_made_buckets _
    ∙ ap (row_body None)
    (row_of_parts g.R.BucketReading.held (count_in R) (inside R (inner_view c.args.node.now)) c.args.parts (map bucket_view c.in_ok-list.list.items) (option_map bucket_view c.in_ok-missing.missing)
    (option_map bucket_view c.in_ok-before.before) (option_map bucket_view c.in_ok-between.between) (option_map bucket_view c.in_ok-after.after)
    c.in_ok-list.ensures c.in_ok-missing.ensures c.in_ok-before.ensures c.in_ok-between.ensures c.in_ok-after.ensures)

pub buckets-loop-part-preserved : goal.buckets-loop-part-preserved
buckets-loop-part-preserved g t c =
    let R = g.R.BucketReading.reading c.args.reading.now in
    let held = g.R.BucketReading.held in
    let node = inner_view c.args.node.now in
    let first = c.in-Some.ensures.steps.0 in (
      ap (λ l. map bucket_view l ++ map (λ p. bucket_with (count_in R) (inside R node) (part_view held listed p)) c.next.new.self.rest.items) c.in_ok-push.ensures.items
          ∙ bucket_made (λ p. bucket_with (count_in R) (inside R node) (part_view held listed p)) c.loop-part.list.items c.in_ok-bucket.field-0 c.in-Some.part c.next.new.self.rest.items c.loop-part.part-iterator.rest.items _
          first c.in_ok-bucket.ensures c.loop-part.invariant.0,
      All-rest (IsCounted R held (stats_of node)) c.in-Some.part c.next.new.self.rest.items c.loop-part.part-iterator.rest.items first c.loop-part.invariant.1,
    )

pub buckets_body-returns : goal.buckets_body-returns
buckets_body-returns g t c = λ more.
    let R = g.R.BucketReading.reading c.args.reading.now in
    let held = g.R.BucketReading.held in
    let node = c.args.node.now in
    let inner = inner_view node in
    let H = c.args.shards.now in
    let Y = g.R.BucketReading.over c.in_ok-domain.domain in
    let shown : ((c.args.count == 0) && is_empty (asked_facet node).change.exclude) ≡ false = elim c.else-count-eq0.branch [
      | buckets_body-else-count-eq0-via-then-count-eq0+else-has_no_tag w ↦ second_fails (c.args.count == 0) (is_empty (asked_facet node).change.exclude) (sym (ap is_empty w.deref.ensures.value) ∙ sym w.if-has_no_tag.ensures)
      | buckets_body-else-count-eq0-via-else-count-eq0 w ↦ first_fails (c.args.count == 0) (is_empty (asked_facet node).change.exclude) (ne_eqb c.args.count 0 w.if-count-eq0.false)
    ] in
    c.in_ok-body.ensures ((out-Node node).name) more
    ∙ put_as_defined R held inner H Y (count_in R) (inside R inner) ((out-Node node).name) (kind_view (kind_of node)) c.in_ok-printed.printed more c.in_ok-printed.ensures
    ∙ ap (λ Z. dist_buckets R (asked_facet node) inner (inside R inner) H Z more) c.in_ok-domain.ensures.over
    ∙ ap (λ b. cond b more (dist_buckets R (asked_facet node) inner (inside R inner) H (R.domain_on c.args.number (asked_facet node) H (g.R.BucketReading.held c.args.around.now)) more)) (sym shown)

pub facet-returns-in_ok-copy-in-Some : goal.facet-returns-in_ok-copy-in-Some
facet-returns-in_ok-copy-in-Some g t c = λ rest.
    let R = g.R.BucketReading.reading c.args.reading.now in
    let H = c.args.shards.now in
    let X = g.R.BucketReading.held c.args.around.now in
    let node = c.args.node.now in
    let name = (out-Node node).name in
    let more = dist_facets R rest (suc c.args.number) (statistics_after (node_view node) c.args.statistic) H X in
    let branch : facet_over (option_map (λ b. body_view b name) c.match-node.body) more ≡ dist_facets R (node_before (node_view node) rest) c.args.number c.args.statistic H X = elim c.match-node.branch [
      | facet-in-Stat w ↦ statistic_prints R H X node c.args.number c.args.statistic rest (option_map (λ b. body_view b name) c.match-node.body) w.in-Stat.field-0 c.args.stats.now.count w.in-Stat.is c.requires.count
          (λ more'. ap (λ o. facet_over (option_map (λ b. body_view b name) o) more') w.body-is
          ∙ w.number_body-body.ensures (R.statistic_on c.args.statistic (stat_view w.in-Stat.field-0) H X) name more' (c.requires.value (stat_view w.in-Stat.field-0) (statistic_of node w.in-Stat.field-0 w.in-Stat.is)))
      | facet-in_default+in_ok-body-in_default w ↦ facet_prints R H X node c.args.number c.args.statistic rest (option_map (λ b. body_view b name) c.match-node.body) c.args.stats.now.count (has_buckets_by (kind_of node) w.in_default.not-Stat) c.requires.count
          (λ more'. ap (λ o. facet_over (option_map (λ b. body_view b name) o) more') w.body-is ∙ w.in_ok-body-in_default.ensures more')
    ] in
    view_of_made_facet _ more
    ∙ ap (λ n. body_view c.in-Some.body n more) c.in_ok-copy-in-Some.ensures
    ∙ ap (λ o. facet_over (option_map (λ b. body_view b name) o) more) (sym c.in-Some.is)
    ∙ branch

pub facet-returns-in-None : goal.facet-returns-in-None
facet-returns-in-None g t c = λ rest.
    let R = g.R.BucketReading.reading c.args.reading.now in
    let H = c.args.shards.now in
    let X = g.R.BucketReading.held c.args.around.now in
    let node = c.args.node.now in
    let name = (out-Node node).name in
    let more = dist_facets R rest (suc c.args.number) (statistics_after (node_view node) c.args.statistic) H X in
    let branch : facet_over (option_map (λ b. body_view b name) c.match-node.body) more ≡ dist_facets R (node_before (node_view node) rest) c.args.number c.args.statistic H X = elim c.match-node.branch [
      | facet-in-Stat w ↦ statistic_prints R H X node c.args.number c.args.statistic rest (option_map (λ b. body_view b name) c.match-node.body) w.in-Stat.field-0 c.args.stats.now.count w.in-Stat.is c.requires.count
          (λ more'. ap (λ o. facet_over (option_map (λ b. body_view b name) o) more') w.body-is
          ∙ w.number_body-body.ensures (R.statistic_on c.args.statistic (stat_view w.in-Stat.field-0) H X) name more' (c.requires.value (stat_view w.in-Stat.field-0) (statistic_of node w.in-Stat.field-0 w.in-Stat.is)))
      | facet-in_default+in_ok-body-in_default w ↦ facet_prints R H X node c.args.number c.args.statistic rest (option_map (λ b. body_view b name) c.match-node.body) c.args.stats.now.count (has_buckets_by (kind_of node) w.in_default.not-Stat) c.requires.count
          (λ more'. ap (λ o. facet_over (option_map (λ b. body_view b name) o) more') w.body-is ∙ w.in_ok-body-in_default.ensures more')
    ] in
    ap (λ o. facet_over (option_map (λ b. body_view b name) o) more) (sym c.in-None.is) ∙ branch

pub facets-facet-requires : goal.facets-facet-requires
facets-facet-requires g t c =
    let R = g.R.BucketReading.reading c.args.reading.now in
    let X = g.R.BucketReading.held c.args.around.now in
    let xs = (out-Node c.args.node.now).nodes.items in
    let i = c.loop-number.number in
    let item = c.nested-item.result in
    let rest = nodes_view (drop (i + 1) xs) in
    let ys = c.deref-nested-items.result.now in
    let there : drop i ys ≡ item ∷ drop (i + 1) ys = rw add-one (drop-cons ys i item c.loop-number-test.true ∙ ap (λ x. x ∷ drop (suc i) ys) (sym c.nested-item.is)) in
    let here : drop i xs ≡ item ∷ drop (i + 1) xs = subst (λ l. drop i l ≡ item ∷ drop (i + 1) l) c.deref-nested-items.ensures.value there in
    let first : nodes_view (drop i xs) ≡ node_before (node_view item) rest = ap nodes_view here in
    λ κs h. (
      omega (arith, c.decreases, ap node_total first, single_below (node_view item) rest, left_below i xs),
      (
        search rules,
        (
          search rules,
          (
            search rules,
            (
              countable_first (node_view item) rest (subst AreCountable first c.loop-number.invariant.2),
              (
                ap (λ s. s.count) c.requires.counted,
                (
                  value_first R c.args.shards.now X (stats_view c.args.stats.now) (node_view item) rest c.loop-number.statistics
                      (c.loop-number.invariant.1 ∙ ap (λ ns. map (λ s. R.statistic_on s.0 s.1 c.args.shards.now X) (enumerate_from c.loop-number.statistics (stats_of ns))) first),
                  c.requires.distinct,
                ),
              ),
            ),
          ),
        ),
      ),
    )

pub facets-loop-number-preserved : goal.facets-loop-number-preserved
facets-loop-number-preserved g t c =
    let R = g.R.BucketReading.reading c.args.reading.now in
    let H = c.args.shards.now in
    let X = g.R.BucketReading.held c.args.around.now in
    let xs = (out-Node c.args.node.now).nodes.items in
    let i = c.loop-number.number in
    let m = c.loop-number.statistics in
    let item = c.nested-item.result in
    let p = node_view item in
    let rest = nodes_view (drop (i + 1) xs) in
    let whole = dist_facets R (inner_view c.args.node.now) 0 0 H X in
    let ys = c.deref-nested-items.result.now in
    let there : drop i ys ≡ item ∷ drop (i + 1) ys = rw add-one (drop-cons ys i item c.loop-number-test.true ∙ ap (λ x. x ∷ drop (suc i) ys) (sym c.nested-item.is)) in
    let here : drop i xs ≡ item ∷ drop (i + 1) xs = subst (λ l. drop i l ≡ item ∷ drop (i + 1) l) c.deref-nested-items.ensures.value there in
    let first : nodes_view (drop i xs) ≡ node_before p rest = ap nodes_view here in
    let count : c.if-is_statistic.statistics ≡ statistics_after p m = elim c.if-is_statistic.branch [
      | facets-then-is_statistic w ↦ w.statistics-is ∙ sym (one_more (statistic_of_node p.1) m (sym c.is_statistic.ensures ∙ w.if-is_statistic.true))
      | facets-else-is_statistic w ↦ w.statistics-is ∙ sym (no_more (statistic_of_node p.1) m (sym c.is_statistic.ensures ∙ w.if-is_statistic.false))
    ] in
    let all = dist_facets R (node_before p rest) i m H X in
    let so_far : facets_over (map facet_view c.loop-number.printed.items) all ≡ whole = ap (λ ns. facets_over (map facet_view c.loop-number.printed.items) (dist_facets R ns i m H X)) (sym first) ∙ c.loop-number.invariant.0 in
    let more = dist_facets R rest (suc i) (statistics_after p m) H X in
    let printed : facets_over (map facet_view c.match-branch-2.printed.items) more ≡ whole = elim c.match-branch-2.branch [
      | facets-in-Some+in_ok-push w ↦ facet_printed c.loop-number.printed.items c.match-branch-2.printed.items c.in_ok-facet.field-0 w.in-Some.facet more all whole w.in-Some.is (ap (λ v. v.items) w.printed-is ∙ w.in_ok-push.ensures.items) so_far (c.in_ok-facet.ensures rest)
      | facets-in_default w ↦ nothing_printed c.loop-number.printed.items c.match-branch-2.printed.items c.in_ok-facet.field-0 more all whole w.in_default.is (ap (λ v. v.items) w.printed-is) so_far (c.in_ok-facet.ensures rest)
    ] in (
      ap (λ k. facets_over (map facet_view c.match-branch-2.printed.items) (dist_facets R rest (i + 1) k H X)) count
          ∙ ap (λ k. facets_over (map facet_view c.match-branch-2.printed.items) (dist_facets R rest k (statistics_after p m) H X)) (add-one i) ∙ printed,
      subst (λ k. drop k (stats_view c.args.stats.now).values ≡ map (λ s. R.statistic_on s.0 s.1 H X) (enumerate_from k (stats_of rest))) (sym count)
          (values_others R H X (stats_view c.args.stats.now).values p rest m (c.loop-number.invariant.1 ∙ ap (λ ns. map (λ s. R.statistic_on s.0 s.1 H X) (enumerate_from m (stats_of ns))) first)),
      countable_others p rest (subst AreCountable first c.loop-number.invariant.2),
    )
