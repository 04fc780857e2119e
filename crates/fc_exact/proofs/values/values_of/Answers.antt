use Rattle.std.proofs.Common.{◌∙◌, ◌++◌, ◌∷◌, [], map, ap, sym, append_assoc}
use Rattle.std.proofs.lemmas.List.{map_push}
use Rattle.fc_refine.proofs.Growing.{seen}
use Rattle.fc_exact.specs.ToldView.{count_view, value_view}
use Rattle.fc_exact.specs.declared.values.ToldValue.{ToldValue}
use Rattle.fc_exact.proofs.values.values_of.Goals as goal

pub loop-val-preserved : goal.loop-val-preserved
loop-val-preserved c =
    let first = ap (seen count_view) c.in-Some.ensures.steps in
    let rest = seen count_view c.next.new.self in
    let done = c.loop-val.values.items in
    let made : ToldValue = record { val = c.in-Some.val; counts = c.in-Some.counts } in
    ap (λ l. map value_view l ++ rest) c.in_ok-push.ensures.items ∙ ap (λ l. l ++ rest) (map_push value_view done made) ∙ append_assoc (map value_view done) (value_view made ∷ []) rest
    ∙ ap (λ l. map value_view done ++ l) (sym first) ∙ c.loop-val.invariant
