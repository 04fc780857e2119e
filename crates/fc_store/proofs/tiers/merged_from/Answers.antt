use Rattle.std.proofs.Common.{◌-◌, map, take, sym, subst, arith}
use Rattle.std.specs.Arc.{arc_value}
use Rattle.std.proofs.lemmas.Bool.{MatchBool-at_false}
use Rattle.fc_store.specs.Tiers.{AreTiered, sizes_of}
use Rattle.fc_store.proofs.Sizes.{sizes_long}
use Rattle.fc_store.proofs.Tiered.{tiered_before}
use Rattle.fc_store.proofs.tiers.merged_from.Goals as goal

pub returns-else-goes_on-clause-tiers : goal.returns-else-goes_on-clause-tiers
returns-else-goes_on-clause-tiers c =
    let sizes = sizes_of (map arc_value c.args.segments.now) in
    let long = sizes_long arc_value c.args.segments.now in
    tiered_before sizes c.loop-place.place (subst (λ n. AreTiered (take (n - 1) sizes)) (sym long) c.requires.tiers) c.requires.some (omega (arith, long, c.loop-place.invariant.within))
    (λ more. let kept = MatchBool-at_false _ _ c.if-goes_on.false c.goes_on.ensures in omega (arith, kept.1, c.loop-place.invariant.size))
