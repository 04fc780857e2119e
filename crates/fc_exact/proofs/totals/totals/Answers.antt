use Rattle.std.proofs.Common.{◌≡◌, ◌∙◌, ◌+◌, ◌*◌, ◌-◌, ◌^◌, ◌≤◌, ◌++◌, ◌∷◌, [], suc, map, drop, drop-cons, add-one, append_assoc, ap, sym, subst}
use Rattle.std.specs.Prelude.{All, sum, unwrap_or}
use Rattle.std.proofs.lemmas.List.{map_push}
use Rattle.std.proofs.lemmas.List.Elements.{All-push}
use Rattle.fc_spec.specs.words.Lists.{numbers_below}
use Rattle.fc_base.specs.View.{val_view}
use Rattle.fc_exact.specs.ToldFacets.{count_on, total_entry}
use Rattle.fc_exact.specs.ToldView.{count_view, total_view, value_view}
use Rattle.fc_exact.specs.declared.totals.Total.{Total}
use Rattle.fc_exact.proofs.totals.totals.Goals as goal

pub loop-value-preserved : goal.loop-value-preserved
loop-value-preserved c =
    let H = numbers_below c.args.shards in
    let xs = c.args.values.now in
    let i = c.loop-value.value-index in
    let item = c.value-item.result in
    let rest = map (total_entry H) (map value_view (drop (i + 1) xs)) in
    let done = c.loop-value.totals.items in
    let made : Total = record { val = item.val; count = c.summed.result } in
    let first : drop i xs ≡ item ∷ drop (i + 1) xs = rw add-one (drop-cons xs i item c.loop-value-test.true ∙ ap (λ x. x ∷ drop (suc i) xs) (sym c.value-item.is)) in
    let count = c.summed.ensures.sum ∙ ap (λ cs. sum (map (λ k. unwrap_or (count_on k (map count_view cs)) 0) H)) c.deref.ensures.value in
    let seen : total_view made ≡ total_entry H (value_view item) = λ j. record { val = val_view item.val.now; stats = record { count = count j; values = [] } } in
    let P : Total → Type 0 = λ t. t.count ≤ c.args.shards * (2 ^ 64 - 1) in
    record {
      totals = ap (λ l. map total_view l ++ rest) c.in_ok-push.ensures.items ∙ ap (λ l. l ++ rest) (map_push total_view done made) ∙ append_assoc (map total_view done) (total_view made ∷ []) rest
          ∙ ap (λ e. map total_view done ++ (e ∷ rest)) seen ∙ ap (λ l. map total_view done ++ map (total_entry H) (map value_view l)) (sym first) ∙ c.loop-value.invariant.totals;
      bound = subst (All P) (sym c.in_ok-push.ensures.items) (All-push P done made c.loop-value.invariant.bound c.summed.ensures.bound);
    }
