use Rattle.std.proofs.Common.{◌≡◌, ℕ, List, ◌++◌, ◌∷◌, [], map, Bor, Vec, Global}
use Rattle.std.proofs.lemmas.Result.{err_from_is_err_and}
use Rattle.std.proofs.lemmas.List.{map_push}
use Rattle.fc_partial.specs.declared.statistics.StatValue.{StatValue}
use Rattle.fc_partial.specs.View.{stat_value_view}
use Rattle.fc_wire.specs.FieldReading.{many, value_at}
use Rattle.fc_wire.proofs.Loop.{goes_on, ends, is_done}
use Rattle.fc_wire.proofs.reading.values_at.Goals as goal

pub returns-in_err-value : goal.returns-in_err-value
returns-in_err-value c =
    let p = err_from_is_err_and c.from_residual-in_err-value.result c.from_residual-in_err-value.ensures.1 in
    rw (p.1, p.2)
    (ends value_at (λ (x : StatValue × Bor (List ℕ)). (stat_value_view x.0, x.1.now)) (λ (x : Vec StatValue Global × Bor (List ℕ)). (map stat_value_view x.0.items, x.1.now)) c.in_err-value.field-0.0 (map stat_value_view c.loop.values.items) c.args.count c.loop.counter c.loop.rest.now (many value_at c.args.count c.args.bytes.now) c.loop-test.true c.in_err-value.ensures c.loop.invariant)

pub loop-preserved : goal.loop-preserved
loop-preserved c =
    let v = c.in_ok-value.value in
    let e : map stat_value_view c.push.new.self.items ≡ map stat_value_view c.loop.values.items ++ stat_value_view v ∷ [] = rw c.in_ok-push.ensures.items (map_push _ c.loop.values.items v) in
    rw e (goes_on value_at (map stat_value_view c.loop.values.items) c.args.count c.loop.counter c.loop.rest.now (stat_value_view v) c.in_ok-value.after.now (many value_at c.args.count c.args.bytes.now) c.loop-test.true c.in_ok-value.ensures c.loop.invariant)

pub returns : goal.returns
returns c = is_done value_at (map stat_value_view c.loop.values.items) c.args.count c.loop.counter c.loop.rest.now (many value_at c.args.count c.args.bytes.now) c.loop-test.false c.loop.invariant
