use Rattle.std.proofs.Common.{◌≡◌, ◌∙◌, ◌==◌, pos, to_z, w64, false, length, map, sym, ap, subst, arith}
use Rattle.std.proofs.lemmas.Grind.{common_steps}
use Rattle.std.proofs.lemmas.Int.{ints}
use Rattle.std.specs.Option.{ForSome}
use Rattle.fc_spec.specs.requests.Statistics.{Stats, stats_over}
use Rattle.fc_partial.specs.Adding.{AddUp, HasShape}
use Rattle.fc_partial.specs.StatsView.{stats_view}
use Rattle.fc_partial.specs.Tallying.{entry_at}
use Rattle.fc_partial.proofs.NeutralCells.{shape_over}
use Rattle.fc_kind.specs.PlaceAt.{place_at}
use Rattle.fc_count.proofs.by_postings.add_positions.Goals as goal

pub add-requires-clause-shaped : goal.add-requires-clause-shaped
add-requires-clause-shaped g c =
    let X = map (place_at c.args.segment.now.blocks) c.args.positions.now in
    let e = c.in_ok-over.ensures ∙ ap (λ ss. stats_over ss X) (sym c.requires.stats) in
    subst (HasShape c.args.into.now.stats) (sym e) (shape_over c.args.into.now.stats X)

pub add-requires-clause-fits : goal.add-requires-clause-fits
add-requires-clause-fits g c =
    let n = c.args.number in
    let key = g.K.Keys.key c.args.keys.now in
    let es = c.args.into.now.entries in
    let X = map (place_at c.args.segment.now.blocks) c.args.positions.now in
    let e = c.in_ok-over.ensures ∙ ap (λ ss. stats_over ss X) (sym c.requires.stats) in
    let same : pos n ≡ to_z w64 n = omega (arith, ints) in
    let some : (length c.args.positions.now == 0) ≡ false = grind (arith, common_steps) in
    subst (λ z. ForSome (entry_at es (key z)) (λ there. AddUp there (stats_view c.in_ok-over.over))) same
    (subst (λ (s : Stats). ForSome (entry_at es (key (pos n))) (λ there. AddUp there s)) (sym e) (c.requires.add_up some))
