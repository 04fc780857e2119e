-- The entries of one kind of key, as the code's map has them and as they are seen.
use Rattle.std.proofs.Common.{◌≡◌, List, map, Option, Some, None, false, is_some, option_map, refl, sym, ◌∙◌, ap}
use Rattle.std.specs.Prelude.{All}
use Rattle.std.specs.BTreeMap.{insert_entry, is_at}
use Rattle.std.specs.Cmp.{IsTotalOrder}
use Rattle.std.specs.List.Sorted.{IsStrictlySortedBy}
use Rattle.std.specs.Map.{lookup, keys_of, values_of, set_value}
use Rattle.std.specs.declared.cmp.Ordering.{Ordering}
use Rattle.std.proofs.lemmas.Map.Views.{All-values-insert_entry, IfSome-lookup_from_All}
use Rattle.fc_spec.specs.requests.Request as definition
use Rattle.fc_spec.specs.requests.Statistics as statistics
use Rattle.fc_partial.specs.declared.statistics.Stats.{Stats}
use Rattle.fc_partial.specs.StatsView.{stats_view}
use Rattle.fc_partial.specs.Adding.{HasShape}
use Rattle.fc_partial.specs.Tallying.{with_more}
use Rattle.fc_partial.specs.TallyParts.{put_more}
use Rattle.fc_partial.proofs.CombinedShape.{with_more_shape}
use Rattle.fc_partial.proofs.ViewedEntries.{lookup-seen, insert_entry-seen, insert_entry-there}

-- entries with what their statistics stand for
abbrev pub seen_in : {K : Type 0} → List (K × Stats) → List (K × statistics.Stats)
seen_in es = map (λ e. (e.0, stats_view e.1)) es

module _ {K : Type 0} (cmp : K → K → Ordering) where
  -- what stands at a key is what the map finds
  pub lookup-seen_in : (es : List (K × Stats)) (k : K) → lookup (is_at (cmp k)) (seen_in es) ≡ option_map stats_view (lookup (is_at (cmp k)) es)
  lookup-seen_in es k = lookup-seen (λ q. q) stats_view (is_at (cmp k)) es

  -- a new key
  pub put_new : (ss : List definition.Stat) (es : List (K × Stats)) (k : K) (copy : Stats) (more : statistics.Stats)
      → stats_view copy ≡ more → lookup (is_at (cmp k)) (seen_in es) ≡ None
      → seen_in (insert_entry cmp es k copy) ≡ put_more cmp ss (seen_in es) k more
  put_new ss es k copy more same none =
      insert_entry-seen (λ q. q) stats_view cmp es k copy ∙ ap (insert_entry cmp (seen_in es) k) (same ∙ ap (λ o. with_more ss o more) (sym none))

  -- a key that is there
  pub put_there : IsTotalOrder cmp → (ss : List definition.Stat) (es : List (K × Stats)) (k : K) (there now : Stats) (more : statistics.Stats)
      → IsStrictlySortedBy cmp (keys_of es) → lookup (is_at (cmp k)) es ≡ Some there → stats_view now ≡ with_more ss (Some (stats_view there)) more
      → seen_in (set_value (is_at (cmp k)) es now) ≡ put_more cmp ss (seen_in es) k more
  put_there total ss es k there now more sorted found is =
      ap seen_in (sym (insert_entry-there total es k now there sorted found))
      ∙ insert_entry-seen (λ q. q) stats_view cmp es k now
      ∙ ap (insert_entry cmp (seen_in es) k) (is ∙ ap (λ o. with_more ss o more) (sym (lookup-seen_in es k ∙ ap (option_map stats_view) found)))

  -- values keep their shape
  pub put_shaped : (ss : List definition.Stat) (es : List (K × statistics.Stats)) (k : K) (more : statistics.Stats)
      → All (HasShape ss) (values_of es) → HasShape ss more → All (HasShape ss) (values_of (put_more cmp ss es k more))
  put_shaped ss es k more all shaped =
      All-values-insert_entry cmp k _ (HasShape ss) es all (with_more_shape ss (lookup (is_at (cmp k)) es) more (IfSome-lookup_from_All (HasShape ss) (is_at (cmp k)) es all) shaped)

pub none_from_test : {X : Type 0} (o : Option X) → false ≡ is_some o → o ≡ None
none_from_test None h = refl
none_from_test (Some x) h = cc
