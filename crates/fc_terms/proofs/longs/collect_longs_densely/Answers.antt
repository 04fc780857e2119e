use Rattle.std.proofs.Common.{◌≡◌, ◌+◌, ◌≤ℤ◌, All, true, map, refl, sym, ap, subst, to_z, of_z, w64, rules}
use Rattle.fc_base.specs.StatisticView.{stat_view}
use Rattle.fc_spec.specs.documents.Sets.{places_on}
use Rattle.fc_spec.specs.requests.Request as definition
use Rattle.fc_lane.specs.Between.{is_between}
use Rattle.fc_docset.specs.Positions.{positions}
use Rattle.fc_facet.specs.KindView.{terms_view}
use Rattle.fc_kind.specs.Collecting.{BucketsAddUp}
use Rattle.fc_count.specs.Counted.{AreCounted}
use Rattle.fc_count.proofs.CountedBuckets.{buckets_add_up, counted_collects}
use Rattle.fc_terms.specs.LongSpan.{has_integer, integer_key}
use Rattle.fc_terms.specs.Values.{is_value_key}
use Rattle.fc_terms.proofs.IntegerBuckets.{integer_bucket, integer_found, integer_is_key}
use Rattle.fc_terms.proofs.longs.collect_longs_densely.Goals as goal

pub add_cells-requires-clause-add_up : goal.add_cells-requires-clause-add_up
add_cells-requires-clause-add_up c =
    let t = terms_view c.args.terms.now in
    let column = c.args.column.now in
    let blocks = c.args.segment.now.blocks in
    let least = to_z w64 (of_z w64 c.args.ends.0) in
    buckets_add_up (definition.terms t) (is_value_key t) blocks c.args.docs.now c.requires.length (has_integer column least) (c.abs_diff.result + 1) (map stat_view c.args.stats.items) c.in_ok-cells.cells c.in_ok-cells.ensures (integer_key least)
    (λ i at here there. integer_bucket t blocks column c.requires.column c.requires.prefix least i at there) c.args.into.now.entries (λ i here. integer_is_key t blocks column c.requires.column c.requires.prefix least i)
    (subst (λ ss. BucketsAddUp (definition.terms t) ss (places_on 0 blocks c.args.docs.now) c.args.into.now.entries) c.requires.stats c.requires.add_up)

pub returns : goal.returns
returns c =
    let t = terms_view c.args.terms.now in
    let column = c.args.column.now in
    let blocks = c.args.segment.now.blocks in
    let least = to_z w64 (of_z w64 c.args.ends.0) in
    let greatest = to_z w64 (of_z w64 c.args.ends.1) in
    let bound = c.abs_diff.result + 1 in
    let least_is : c.args.ends.0 ≡ least = search rules in
    let greatest_is : c.args.ends.1 ≡ greatest = search rules in
    let order : least ≤ℤ greatest = subst (λ z. least ≤ℤ z) greatest_is (subst (λ z. z ≤ℤ c.args.ends.1) least_is c.requires.order) in
    let lie : All (All (λ v. is_between least greatest v ≡ true)) column =
    subst (λ z. All (All (λ v. is_between least z v ≡ true)) column) greatest_is (subst (λ z. All (All (λ v. is_between z c.args.ends.1 v ≡ true)) column) least_is c.requires.between) in
    counted_collects (definition.terms t) (is_value_key t) blocks c.args.docs.now c.requires.length (has_integer column least) bound c.args.into.now.stats c.in_ok-cells.cells
    (subst (λ ss. AreCounted blocks (has_integer column least) bound ss (positions c.args.docs.now) c.in_ok-cells.cells) (sym c.requires.stats) c.in_ok-cells.ensures) (integer_key least)
    (λ i at here there. integer_bucket t blocks column c.requires.column c.requires.prefix least i at there) (λ i here. integer_is_key t blocks column c.requires.column c.requires.prefix least i)
    (integer_found t blocks column c.requires.column c.requires.prefix least greatest bound order (ap (λ n. n + 1) c.abs_diff.ensures) lie) c.args.into.now c.add_cells.new.into refl c.in_ok-add_cells.ensures
