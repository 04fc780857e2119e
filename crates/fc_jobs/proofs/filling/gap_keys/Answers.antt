use Rattle.std.proofs.Common.{◌+◌, ◌-◌, ◌∷◌, ◌++◌, [], map, ap, ◌∙◌}
use Rattle.std.specs.List.{range_with_len}
use Rattle.std.proofs.lemmas.List.{map-append}
use Rattle.fc_spec.specs.requests.Buckets.{gap}
use Rattle.fc_partial.specs.View.{key_view}
use Rattle.fc_jobs.proofs.FilledEntries.{next_key}
use Rattle.fc_jobs.proofs.filling.gap_keys.Goals as goal

pub loop-gap-preserved : goal.loop-gap-preserved
loop-gap-preserved c =
    let n = c.loop-gap.gap in
    let end = c.args.gaps in
    let rest = map gap (range_with_len (n + 1) (end - (n + 1))) in
    ap (λ keys. map key_view keys ++ rest) c.in_ok-push.ensures.items ∙ ap (λ keys. keys ++ rest) (map-append key_view c.loop-gap.keys.items (_ ∷ []))
    ∙ next_key (map key_view c.loop-gap.keys.items) n end c.loop-gap-test.true ∙ c.loop-gap.invariant
