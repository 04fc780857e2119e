use Rattle.std.proofs.Common.{◌≡◌, ◌≤◌, ◌<◌, ◌^◌, ◌∙◌, ◌+ℤ◌, ℤ, List, map, length, set, w64, sym, ap, subst, rules, arith}
use Rattle.std.proofs.lemmas.List.{take_at}
use Rattle.std.specs.Prelude.{FitsSigned, nat_abs, sum_by}
use Rattle.fc_spec.specs.documents.Bits.{first_bits, HasBits}
use Rattle.fc_spec.specs.documents.Val.{long}
use Rattle.fc_spec.specs.requests.Statistics.{amount, combined_value}
use Rattle.fc_spec.specs.scripts.ScriptTotals.{total_limit}
use Rattle.fc_base.specs.StatisticView.{stat_kind_view}
use Rattle.fc_lane.specs.Masked.{masked}
use Rattle.fc_lists.specs.Flat.{flat, spread_over}
use Rattle.fc_lists.proofs.Flat.{flat-singles}
use Rattle.fc_partial.specs.OneDocument.{statistic_of}
use Rattle.fc_partial.specs.View.{stat_value_view}
use Rattle.fc_kind.proofs.MaskedSets.{by_singles, by_spread}
use Rattle.fc_kind.proofs.PickedValues.{beside_none, masked_fits}
use Rattle.fc_kind.proofs.set_statistics.add_by_mask.Goals as goal

pub add_longs-requires-clause-small : goal.add_longs-requires-clause-small
add_longs-requires-clause-small c =
    subst (λ zs. sum_by nat_abs zs ≤ total_limit) (ap flat c.in-Some.ensures.values ∙ flat-singles c.in-Some.values.now) c.requires.small

pub add_longs-requires-clause-fits : goal.add_longs-requires-clause-fits
add_longs-requires-clause-fits c =
    let of = stat_kind_view c.args.of in
    let values = c.in-Some.values.now in
    let words = c.words.result.now in
    let small : sum_by nat_abs values ≤ total_limit = subst (λ zs. sum_by nat_abs zs ≤ total_limit) (ap flat c.in-Some.ensures.values ∙ flat-singles values) c.requires.small in
    let few : length values < 2 ^ 63 = search rules in
    subst (λ v. FitsSigned w64 (amount v +ℤ amount (statistic_of of (map long (masked words values))))) (sym c.requires.neutral)
    (masked_fits of c.requires.kind words values small few)

pub returns-in-Some : goal.returns-in-Some
returns-in-Some c =
    let of = stat_kind_view c.args.of in
    let values = c.in-Some.values.now in
    let words = c.words.result.now in
    let picked = by_singles c.args.column.now c.args.docs.now words c.requires.length c.words.ensures.bits values c.in-Some.ensures.values in
    c.add_longs.ensures
    ∙ ap (λ v. record { count = c.args.over.now.count; values = set (map stat_value_view c.args.over.now.values.items) c.args.at v })
    (ap (λ v. combined_value of v (statistic_of of (map long (masked words values)))) c.requires.neutral
    ∙ beside_none of c.requires.kind (map long (masked words values))
    ∙ ap (λ (zs : List ℤ). statistic_of of (map long zs)) picked)

pub add_longs-requires-2-clause-fits : goal.add_longs-requires-2-clause-fits
add_longs-requires-2-clause-fits c =
    let of = stat_kind_view c.args.of in
    let values = c.flat-values.result.now in
    let words = c.deref.result.now in
    let small : sum_by nat_abs values ≤ total_limit = subst (λ zs. sum_by nat_abs zs ≤ total_limit) (sym c.flat-values.ensures.values) c.requires.small in
    let few : length values < 2 ^ 63 = search rules in
    subst (λ v. FitsSigned w64 (amount v +ℤ amount (statistic_of of (map long (masked words values))))) (sym c.requires.neutral)
    (masked_fits of c.requires.kind words values small few)

pub returns : goal.returns
returns c =
    let of = stat_kind_view c.args.of in
    let column = c.args.column.now in
    let values = c.flat-values.result.now in
    let words = c.deref.result.now in
    let made : words ≡ c.spread.new.into = c.deref.ensures.value ∙ take_at c.spread.new.into _ _ (omega (arith, c.spread.auto.into, c.deref_mut.ensures.len)) in
    let spread : HasBits words (spread_over (first_bits (length column) c.words-2.result.now) column) =
    subst (λ w. HasBits w (spread_over (first_bits (length column) c.words-2.result.now) column)) (sym made) c.spread.ensures in
    let picked = ap (masked words) c.flat-values.ensures.values ∙ by_spread column c.args.docs.now c.words-2.result.now c.requires.length c.words-2.ensures.bits words spread in
    c.add_longs-2.ensures
    ∙ ap (λ v. record { count = c.args.over.now.count; values = set (map stat_value_view c.args.over.now.values.items) c.args.at v })
    (ap (λ v. combined_value of v (statistic_of of (map long (masked words values)))) c.requires.neutral
    ∙ beside_none of c.requires.kind (map long (masked words values))
    ∙ ap (λ (zs : List ℤ). statistic_of of (map long zs)) picked)
