use Rattle.std.proofs.Common.{◌≤◌, suc, All, length, subst, arith}
use Rattle.fc_segment.specs.declared.builder.Builder.{Builder}
use Rattle.fc_segment.specs.Building.{builds_texts, padded, values_built}
use Rattle.fc_segment.specs.Columns.{column_values, is_text_column}
use Rattle.fc_segment.proofs.Transposed.{made_more}
use Rattle.fc_segment.proofs.columns.finish.Goals as goal

pub finish-requires : goal.finish-requires
finish-requires c =
    let left = subst (All (λ (builder : Builder). length (values_built builder) ≤ c.args.len)) c.in-Some.ensures.steps.0 c.loop-builder.invariant.behind in
    left 0 c.in-Some.builder (omega arith)

pub loop-builder-preserved : goal.loop-builder-preserved
loop-builder-preserved c =
    let len = c.args.len in
    let steps = c.in-Some.ensures.steps.0 in
    let left = subst (All (λ (builder : Builder). length (values_built builder) ≤ len)) steps c.loop-builder.invariant.behind in
    record {
      behind = λ k d inside. left (suc k) d (omega arith);
      values = made_more (λ builder. padded len (values_built builder)) column_values c.loop-builder.columns.items c.push.new.self.items _ c.in-Some.builder _ c.in_ok-finish.field-0 _
          steps c.in_ok-push.ensures.items c.in_ok-finish.ensures.values c.loop-builder.invariant.values;
      kinds = made_more builds_texts is_text_column c.loop-builder.columns.items c.push.new.self.items _ c.in-Some.builder _ c.in_ok-finish.field-0 _
          steps c.in_ok-push.ensures.items c.in_ok-finish.ensures.kind c.loop-builder.invariant.kinds;
    }
