use Rattle.std.proofs.Common.{◌≤◌, ◌<◌, ◌∙◌, map, sym, subst, arith}
use Rattle.std.specs.Prelude.{nat_abs, sum_by}
use Rattle.std.specs.List.{All}
use Rattle.std.proofs.lemmas.List.{length-map}
use Rattle.fc_spec.specs.requests.Statistics.{longs_of}
use Rattle.fc_spec.specs.scripts.ScriptTotals.{total_limit}
use Rattle.fc_base.specs.StatisticView.{stat_kind_view}
use Rattle.fc_kind.specs.PlaceAt.{place_at}
use Rattle.fc_kind.proofs.SinglePlaces.{as_many, longs, statistic}
use Rattle.fc_kind.proofs.statistics.value_at_all.Goals as goal

pub of_singles-requires-clause-there : goal.of_singles-requires-clause-there
of_singles-requires-clause-there c =
    let blocks = c.args.segment.now.blocks in
    let size = as_many blocks c.args.stat.field.0 c.in-Some.values.now c.in-Some.ensures in
    subst (λ n. All (λ at. at < n) c.args.positions.now) (sym size) c.requires.there

pub of_singles-requires-clause-few : goal.of_singles-requires-clause-few
of_singles-requires-clause-few c =
    omega (arith, c.requires.fit.places, length-map c.args.positions.now (place_at c.args.segment.now.blocks))

pub of_singles-requires-clause-small : goal.of_singles-requires-clause-small
of_singles-requires-clause-small c =
    let blocks = c.args.segment.now.blocks in
    let field = c.args.stat.field.0 in
    let small : sum_by nat_abs (longs_of field (map (place_at blocks) c.args.positions.now)) ≤ total_limit = c.requires.fit.sums field in
    subst (λ zs. sum_by nat_abs zs ≤ total_limit) (longs blocks field c.in-Some.values.now c.in-Some.ensures c.args.positions.now c.requires.there) small

pub returns-in-Some : goal.returns-in-Some
returns-in-Some c =
    c.of_singles.ensures
    ∙ sym (statistic c.args.segment.now.blocks c.args.stat.field.0 c.in-Some.values.now c.in-Some.ensures (stat_kind_view c.args.stat.of) c.args.positions.now c.requires.there)
