use Rattle.std.proofs.Common.{◌≡◌, ◌∙◌, [], Some, length, sym, ap, subst, arith}
use Rattle.std.specs.Prelude.{option_map}
use Rattle.std.proofs.lemmas.Grind.{merely}
use Rattle.std.proofs.lemmas.List.{length-map}
use Rattle.std.proofs.lemmas.List.FromFn.{length-range_with_len}
use Rattle.fc_spec.specs.messages.Message.{first}
use Rattle.fc_spec.specs.words.Lists.{numbers_below}
use Rattle.fc_request.specs.RequestView.{request_view}
use Rattle.fc_refine.specs.AskView.{ask_view}
use Rattle.fc_coord.specs.State.{at_start}
use Rattle.fc_coord.specs.Keeps.{Keeps}
use Rattle.fc_coord.specs.View.{state_of, KeepsAt}
use Rattle.fc_coord.specs.declared.standing.Standing.TheVariants.{Open}
use Rattle.fc_coord.proofs.Beginning.{start_keeps}
use Rattle.fc_coord.proofs.coord.Coord.begin.Goals as goal

pub invariant_of-result-clause-kept : goal.invariant_of-result-clause-kept
invariant_of-result-clause-kept c = λ _.
    let start = at_start (request_view c.args.request.now) c.args.shards in
    let same : state_of c.args.request.now c.new.result c.in_ok-first_asks.field-0.items 1 Open ≡ start = λ j. record start { tree = c.new.ensures j; asks = c.in_ok-first_asks.ensures j } in
    merely ([], subst (λ s. KeepsAt s [] 0) (sym same) (start_keeps (request_view c.args.request.now) c.args.shards c.trees_tell.ensures.nothing))

pub invariant_of-result-clause-shards : goal.invariant_of-result-clause-shards
invariant_of-result-clause-shards c =
    let len : length c.in_ok-first_asks.field-0.items ≡ c.args.shards =
    sym (length-map c.in_ok-first_asks.field-0.items (option_map ask_view)) ∙ ap length c.in_ok-first_asks.ensures ∙ length-map (numbers_below c.args.shards) (λ i. Some first) ∙ length-range_with_len 0 c.args.shards in
    omega (arith, c.requires.few, len)

pub returns-clause-kept : goal.returns-clause-kept
returns-clause-kept c =
    let start = at_start (request_view c.args.request.now) c.args.shards in
    let same : state_of c.args.request.now c.new.result c.in_ok-first_asks.field-0.items 1 Open ≡ start = λ j. record start { tree = c.new.ensures j; asks = c.in_ok-first_asks.ensures j } in
    subst (λ s. Keeps s []) (sym same) (start_keeps (request_view c.args.request.now) c.args.shards c.trees_tell.ensures.nothing).0
