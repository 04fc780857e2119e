use Rattle.std.proofs.Common.{◌∙◌, ap, unwrap_or, rules}
use Rattle.std.specs.BTreeMap.Entry.{map_with_value}
use Rattle.fc_refine.proofs.Growing.{pushed_written}
use Rattle.fc_exact.specs.ToldView.{count_view}
use Rattle.fc_exact.proofs.values.push_count.Goals as goal

pub returns : goal.returns
returns c =
    let writes = c.in_ok-by_value.ensures.update in
    let empty = c.new.result in
    pushed_written count_view c.args.by_value.now _ (map_with_value c.in_ok-by_value.field-0) c.args.val (λ w. writes.1 w) (λ w. writes.2 w) empty c.or_insert-all.result.now c.push.new.self c.args.count
    c.new.ensures.items (c.or_insert-all.ensures.value ∙ ap (λ o. unwrap_or o empty) c.in_ok-by_value.ensures.value) c.in_ok-push.ensures.items (search rules)
