use Rattle.std.proofs.Common.{◌-◌, ◌<◌, ◌∙◌, map, length, ap, sym, arith}
use Rattle.std.proofs.lemmas.List.{get_or-map, length-map}
use Rattle.fc_spec.specs.requests.Least.{share}
use Rattle.fc_exact.specs.ToldView.{total_view}
use Rattle.fc_exact.specs.declared.totals.Total.{Total}
use Rattle.fc_exact.proofs.TotalLists.{least_past, least_there}
use Rattle.fc_exact.proofs.leasts.least_at.Goals as goal

pub returns-then-ordered-place : goal.returns-then-ordered-place
returns-then-ordered-place c = λ V sorted.
    let ts = c.args.ordered.now in
    c.share.ensures ∙ least_past c.args.shards c.args.bound V (map total_view ts) sorted c.if-bound-eq0.false (omega (arith, length-map ts total_view, c.if-ordered-place.true))

pub returns : goal.returns
returns c = λ V sorted.
    let ts = c.args.ordered.now in
    let item = c.index-ordered-place.result in
    let place = c.args.bound - 1 in
    let within : place < length ts = omega (arith, c.if-ordered-place.false) in
    let counted = length-map ts total_view in
    let at = ap total_view c.index-ordered-place.is ∙ sym (get_or-map total_view ts place item (total_view item) within) in
    c.share-2.ensures ∙ ap (λ (t : Total). share t.count c.args.shards) (sym c.index-ordered-place.is) ∙ least_there c.args.shards c.args.bound V (map total_view ts) (total_view item) sorted c.if-bound-eq0.false (omega (arith, counted)) at
