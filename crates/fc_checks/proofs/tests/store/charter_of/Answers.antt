use Rattle.std.proofs.Common.{◌≡◌, ◌∙◌, [], ◌∷◌, ◌++◌, map, All, ap, sym, subst, rules}
use Rattle.std.specs.Arc.{arc_value}
use Rattle.std.proofs.lemmas.List.{map_push}
use Rattle.fc_docs.specs.View.{batch_view}
use Rattle.fc_script.specs.PartsView.{batches_view}
use Rattle.fc_store.specs.Charters.{Chartered, IsBatchOf, KeepsLimits}
use Rattle.fc_run.specs.Searches.{Shard, shards_view}
use Rattle.fc_checks.specs.Shards.{IsShardOf}
use Rattle.fc_checks.proofs.ShardWorlds.{last_shard}
use Rattle.fc_checks.proofs.tests.store.charter_of.Goals as goal

pub returns-in-Some-clause-batches : goal.returns-in-Some-clause-batches
returns-in-Some-clause-batches c =
    let s = arc_value c.in_ok-script.script.schema in
    let here = c.in-Some.batches in
    let split : shards_view c.in_ok-script.script.batches.items ≡ shards_view c.pop.new.self.items ++ batches_view here.items ∷ [] =
    ap shards_view c.in-Some.ensures.items ∙ map_push (λ (shard : Shard). batches_view shard.items) c.pop.new.self.items here in
    let shard = last_shard s (shards_view c.pop.new.self.items) (batches_view here.items) (subst (All (IsShardOf s)) split c.in_ok-script.ensures.shards) in
    let held : arc_value c.in_ok-new-in-Some.field-0 ≡ here = search rules in
    let is : c.new-in-Some.result ≡ record { start = record { schema = s; number = 0; blocks = [] }; later = batches_view here.items } =
    c.new-in-Some.ensures ∙ (λ i. record { start = c.in_ok-start.ensures i; later = map batch_view (held i).items }) in
    subst (λ (charter : Chartered). All (IsBatchOf charter.start.schema) charter.later) (sym is) shard.each

pub returns-in-Some-clause-limits : goal.returns-in-Some-clause-limits
returns-in-Some-clause-limits c =
    let s = arc_value c.in_ok-script.script.schema in
    let here = c.in-Some.batches in
    let split : shards_view c.in_ok-script.script.batches.items ≡ shards_view c.pop.new.self.items ++ batches_view here.items ∷ [] =
    ap shards_view c.in-Some.ensures.items ∙ map_push (λ (shard : Shard). batches_view shard.items) c.pop.new.self.items here in
    let shard = last_shard s (shards_view c.pop.new.self.items) (batches_view here.items) (subst (All (IsShardOf s)) split c.in_ok-script.ensures.shards) in
    let held : arc_value c.in_ok-new-in-Some.field-0 ≡ here = search rules in
    let is : c.new-in-Some.result ≡ record { start = record { schema = s; number = 0; blocks = [] }; later = batches_view here.items } =
    c.new-in-Some.ensures ∙ (λ i. record { start = c.in_ok-start.ensures i; later = map batch_view (held i).items }) in
    subst KeepsLimits (sym is) shard.limits
