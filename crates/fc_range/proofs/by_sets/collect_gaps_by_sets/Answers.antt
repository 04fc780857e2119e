use Rattle.std.proofs.Common.{◌≡◌, ◌∙◌, ◌<◌, false, length, List, ap, subst, arith, rules}
use Rattle.std.proofs.lemmas.List.{length-replicate}
use Rattle.fc_spec.specs.documents.Sets.{places_on}
use Rattle.fc_spec.specs.messages.KeyOrder.{same_key}
use Rattle.fc_spec.specs.requests.Buckets.{gap}
use Rattle.fc_spec.specs.requests.Gaps.{gap_count}
use Rattle.fc_spec.specs.requests.Request as kind
use Rattle.fc_facet.specs.KindView.{range_view}
use Rattle.fc_kind.specs.Collecting.{CollectsAmong}
use Rattle.fc_range.proofs.BesideGaps.{still_add_up}
use Rattle.fc_range.proofs.GapsBelow.{all_collected, more_collected, none_collected, not_below}
use Rattle.fc_range.proofs.Tests.{below_is}
use Rattle.fc_range.specs.GapKeys.{is_gap_below}
use Rattle.fc_range.proofs.by_sets.collect_gaps_by_sets.Goals as goal

pub loop-number-init : goal.loop-number-init
loop-number-init c = record {
  kept = ap length c.in_ok-own.ensures ∙ length-replicate c.len.result false ∙ c.len.ensures ∙ c.requires.length;
  collected = none_collected (kind.range (range_view c.args.range.now)) c.args.into.now.stats (places_on 0 c.args.segment.now.blocks c.args.docs.now) c.args.into.now;
}

pub collect_bucket-requires-clause-add_up : goal.collect_bucket-requires-clause-add_up
collect_bucket-requires-clause-add_up c =
    let g = range_view c.args.range.now in
    let n = c.loop-number.number in
    let Y = places_on 0 c.args.segment.now.blocks c.args.docs.now in
    let there : n < gap_count g = omega (arith, c.gaps-number-end.ensures, c.loop-number-test.true) in
    still_add_up (is_gap_below n) (kind.range g) c.args.into.now.stats Y c.args.into.now c.loop-number.into (gap n) c.loop-number.invariant.collected (not_below n)
    (c.requires.add_up (gap n) (below_is n (gap_count g) there))

pub loop-number-preserved : goal.loop-number-preserved
loop-number-preserved c =
    let k = kind.range (range_view c.args.range.now) in
    let n = c.loop-number.number in
    let Y = places_on 0 c.args.segment.now.blocks c.args.docs.now in
    let old = c.args.into.now in
    let mid = c.loop-number.into in
    let new = c.collect_bucket.new.into in
    let below = c.loop-number.invariant.collected in
    let one : CollectsAmong (λ q. same_key q (gap n)) k old.stats Y mid new = subst (λ (l : List kind.Stat). CollectsAmong (λ q. same_key q (gap n)) k l Y mid new) below.stats c.in_ok-collect_bucket.ensures.collects in
    record {
      kept = c.in_ok-collect_bucket.ensures.kept ∙ c.loop-number.invariant.kept;
      collected = more_collected k old.stats Y n old mid new below one;
    }

pub returns : goal.returns
returns c =
    let g = range_view c.args.range.now in
    let Y = places_on 0 c.args.segment.now.blocks c.args.docs.now in
    let n = c.loop-number.number in
    let all : gap_count g ≡ n = search rules in
    all_collected (kind.range g) c.args.into.now.stats Y g n c.args.into.now c.loop-number.into all c.loop-number.invariant.collected
