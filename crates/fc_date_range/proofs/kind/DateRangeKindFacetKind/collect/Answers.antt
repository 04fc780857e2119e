use Rattle.std.proofs.Common.{sym, ap, subst}
use Rattle.fc_spec.specs.documents.Sets.{places_on}
use Rattle.fc_spec.specs.requests.DateGaps.{date_gap_count}
use Rattle.fc_spec.specs.requests.Request as kind
use Rattle.fc_facet.specs.KindView.{date_range_view}
use Rattle.fc_request.specs.FacetNode.{kind_view}
use Rattle.fc_kind.specs.Collecting.{BucketsAddUp, Collects}
use Rattle.fc_range.proofs.BesideGaps.{after_fits, before_fits, between_fits, buckets_collected, gaps_fit}
use Rattle.fc_date_range.proofs.BesideGaps.{own_keys}
use Rattle.fc_date_range.proofs.kind.DateRangeKindFacetKind.collect.Goals as goal

pub collect_beside-requires-clause-add_up : goal.collect_beside-requires-clause-add_up
collect_beside-requires-clause-add_up c =
    let g = date_range_view c.in-DateRange.range in
    let old = c.args.into.now in
    let Y = places_on 0 c.args.segment.now.blocks c.args.docs.now in
    let fits : BucketsAddUp (kind.date_range g) old.stats Y old.entries = subst (λ (l : kind.Kind). BucketsAddUp l old.stats Y old.entries) (ap kind_view c.in-DateRange.is) c.requires.add_up in
    before_fits (date_gap_count g) g.before g.between g.after (kind.date_range g) (own_keys g) Y old fits

pub collect_beside-requires-2-clause-add_up : goal.collect_beside-requires-2-clause-add_up
collect_beside-requires-2-clause-add_up c =
    let g = date_range_view c.in-DateRange.range in
    let old = c.args.into.now in
    let Y = places_on 0 c.args.segment.now.blocks c.args.docs.now in
    let fits : BucketsAddUp (kind.date_range g) old.stats Y old.entries = subst (λ (l : kind.Kind). BucketsAddUp l old.stats Y old.entries) (ap kind_view c.in-DateRange.is) c.requires.add_up in
    between_fits (date_gap_count g) g.before g.between g.after (kind.date_range g) (own_keys g) Y old fits c.collect_beside.new.into c.in_ok-collect_beside.ensures

pub collect_beside-requires-3-clause-add_up : goal.collect_beside-requires-3-clause-add_up
collect_beside-requires-3-clause-add_up c =
    let g = date_range_view c.in-DateRange.range in
    let old = c.args.into.now in
    let Y = places_on 0 c.args.segment.now.blocks c.args.docs.now in
    let fits : BucketsAddUp (kind.date_range g) old.stats Y old.entries = subst (λ (l : kind.Kind). BucketsAddUp l old.stats Y old.entries) (ap kind_view c.in-DateRange.is) c.requires.add_up in
    after_fits (date_gap_count g) g.before g.between g.after (kind.date_range g) (own_keys g) Y old fits c.collect_beside.new.into c.in_ok-collect_beside.ensures
    c.collect_beside-2.new.into c.in_ok-collect_beside-2.ensures

pub collect_gaps-requires-clause-add_up : goal.collect_gaps-requires-clause-add_up
collect_gaps-requires-clause-add_up c =
    let g = date_range_view c.in-DateRange.range in
    let old = c.args.into.now in
    let Y = places_on 0 c.args.segment.now.blocks c.args.docs.now in
    let fits : BucketsAddUp (kind.date_range g) old.stats Y old.entries = subst (λ (l : kind.Kind). BucketsAddUp l old.stats Y old.entries) (ap kind_view c.in-DateRange.is) c.requires.add_up in
    gaps_fit (date_gap_count g) g.before g.between g.after (kind.date_range g) (own_keys g) Y old fits c.collect_beside.new.into c.in_ok-collect_beside.ensures
    c.collect_beside-2.new.into c.in_ok-collect_beside-2.ensures c.collect_beside-3.new.into c.in_ok-collect_beside-3.ensures

pub returns : goal.returns
returns c =
    let g = date_range_view c.in-DateRange.range in
    let old = c.args.into.now in
    let new = c.collect_gaps.new.into in
    let Y = places_on 0 c.args.segment.now.blocks c.args.docs.now in
    let fits : BucketsAddUp (kind.date_range g) old.stats Y old.entries = subst (λ (l : kind.Kind). BucketsAddUp l old.stats Y old.entries) (ap kind_view c.in-DateRange.is) c.requires.add_up in
    subst (λ (l : kind.Kind). Collects l old.stats Y old new) (sym (ap kind_view c.in-DateRange.is))
    (buckets_collected (date_gap_count g) g.before g.between g.after (kind.date_range g) (own_keys g) Y old fits c.collect_beside.new.into c.in_ok-collect_beside.ensures
    c.collect_beside-2.new.into c.in_ok-collect_beside-2.ensures c.collect_beside-3.new.into c.in_ok-collect_beside-3.ensures new c.in_ok-collect_gaps.ensures)
