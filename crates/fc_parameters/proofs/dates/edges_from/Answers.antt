use Rattle.std.proofs.Common.{◌≡◌, suc, ◌+◌, ◌-◌, [], ◌∷◌, ◌++◌, Some, Ok, ap, sym, ◌∙◌, arith}
use Rattle.fc_spec.specs.requests.DateRangeReading.{edges_from}
use Rattle.fc_dates.specs.GapView.{gap_view}
use Rattle.fc_parameters.specs.DateEdges.{goes_on}
use Rattle.fc_parameters.proofs.DateEdges.{continued, from_first, inner_edge, last_edge, no_edge}
use Rattle.fc_parameters.proofs.dates.edges_from.Goals as goal

pub loop-count-init : goal.loop-count-init
loop-count-init c =
    let g = gap_view c.args.gap.now in
    let e = c.args.end.now.bytes in
    let low = c.args.start.now.bytes in
    let pushed = c.in_ok-push.ensures.items ∙ ap (λ es. es ++ c.in_ok-new.field-0 ∷ []) c.new-edges.ensures.items ∙ ap (λ t. t ∷ []) (c.in_ok-new.ensures ∙ c.text.ensures.bytes) in
    let all : c.args.most - 0 ≡ c.args.most = omega arith in
    from_first c.args.most g e c.args.hardend low ∙ (λ i. continued (sym pushed i) (edges_from (sym all i) g e c.args.hardend low))

pub returns-in_default : goal.returns-in_default
returns-in_default c =
    let g = gap_view c.args.gap.now in
    let e = c.args.end.now.bytes in
    let es = c.loop-count.edges.items in
    let low = c.loop-count.low.bytes in
    let k = c.args.most - (c.loop-count.count + 1) in
    let next : c.args.most - c.loop-count.count ≡ suc k = omega (arith, c.loop-count-test.true) in
    c.loop-count.invariant ∙ ap (λ n. continued es (edges_from n g e c.args.hardend low)) next ∙ no_edge k g e c.args.hardend es low (λ go_on. c.in_default.ensures go_on)

pub returns-in-Last : goal.returns-in-Last
returns-in-Last c =
    let g = gap_view c.args.gap.now in
    let e = c.args.end.now.bytes in
    let es = c.loop-count.edges.items in
    let low = c.loop-count.low.bytes in
    let k = c.args.most - (c.loop-count.count + 1) in
    let next : c.args.most - c.loop-count.count ≡ suc k = omega (arith, c.loop-count-test.true) in
    let pushed = c.in_ok-push-in-Last.ensures.items ∙ ap (λ t. es ++ t ∷ []) (c.in_ok-new-in-Last.ensures ∙ c.text-in-Last.ensures.bytes) in
    c.loop-count.invariant
    ∙ ap (λ n. continued es (edges_from n g e c.args.hardend low)) next
    ∙ last_edge k g e c.args.hardend es low c.in-Last.edge (λ go_on. c.in-Some.ensures go_on ∙ ap (λ b. goes_on go_on (Some b)) c.in-Last.is)
    ∙ ap Ok (sym pushed)

pub loop-count-preserved : goal.loop-count-preserved
loop-count-preserved c =
    let g = gap_view c.args.gap.now in
    let e = c.args.end.now.bytes in
    let es = c.loop-count.edges.items in
    let low = c.loop-count.low.bytes in
    let k = c.args.most - (c.loop-count.count + 1) in
    let next : c.args.most - c.loop-count.count ≡ suc k = omega (arith, c.loop-count-test.true) in
    let pushed = c.in_ok-push-in-Inner.ensures.items ∙ ap (λ t. es ++ t ∷ []) (c.in_ok-new-in-Inner.ensures ∙ c.text-in-Inner.ensures.bytes) in
    c.loop-count.invariant
    ∙ ap (λ n. continued es (edges_from n g e c.args.hardend low)) next
    ∙ inner_edge k g e c.args.hardend es low c.in-Inner.edge (λ go_on. c.in-Some.ensures go_on ∙ ap (λ b. goes_on go_on (Some b)) c.in-Inner.is)
    ∙ ap (λ done. continued done (edges_from k g e c.args.hardend c.in-Inner.edge.bytes)) (sym pushed)

pub returns : goal.returns
returns c =
    let none : c.args.most - c.loop-count.count ≡ 0 = omega (arith, c.loop-count-test.false) in
    c.loop-count.invariant ∙ ap (λ n. continued c.loop-count.edges.items (edges_from n (gap_view c.args.gap.now) c.args.end.now.bytes c.args.hardend c.loop-count.low.bytes)) none
