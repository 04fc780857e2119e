use Rattle.std.proofs.Common.{◌≡◌, ◌++◌, ◌∷◌, [], ◌∙◌, ap, map, All, subst, sym}
use Rattle.std.specs.Arc.{arc_value}
use Rattle.std.proofs.lemmas.List.{map_push}
use Rattle.std.proofs.lemmas.List.Elements.{All-head, All-push, All-tail}
use Rattle.fc_script.specs.PartsView.{batches_view}
use Rattle.fc_run.specs.Searches.{shards_view}
use Rattle.fc_round.specs.Askable.{world_of}
use Rattle.fc_checks.specs.Shards.{IsShardOf, world_left}
use Rattle.fc_checks.proofs.ShardWorlds.{world_more}
use Rattle.fc_checks.proofs.tests.scripts.generations_of.Goals as goal

pub generation_of-requires : goal.generation_of-requires
generation_of-requires c =
    let s = arc_value c.args.schema.now in
    let first = c.in-Some.ensures.steps.0 in
    All-head (IsShardOf s) (batches_view c.in-Some.batches.items) (shards_view c.next.new.self.rest.items)
    (subst (λ xs. All (IsShardOf s) (shards_view xs)) first c.loop-batches.invariant.shards)

pub loop-batches-preserved : goal.loop-batches-preserved
loop-batches-preserved c =
    let was = c.loop-batches.invariant in
    let s = arc_value c.args.schema.now in
    let rest = c.next.new.self.rest.items in
    let here = c.in-Some.batches in
    let first = c.in-Some.ensures.steps.0 in
    let made = c.in_ok-generation_of.field-0 in
    let gs = map arc_value c.loop-batches.all.items in
    let pushed : map arc_value c.push.new.self.items ≡ gs ++ arc_value made ∷ [] = ap (map arc_value) c.in_ok-push.ensures.items ∙ map_push arc_value c.loop-batches.all.items made in
    record {
      shards = All-tail (IsShardOf s) (batches_view here.items) (shards_view rest) (subst (λ xs. All (IsShardOf s) (shards_view xs)) first was.shards);
      schema = subst (All (λ g. g.schema ≡ s)) (sym pushed) (All-push (λ g. g.schema ≡ s) gs (arc_value made) was.schema c.in_ok-generation_of.ensures.schema);
      world = world_more gs (map arc_value c.push.new.self.items) (arc_value made) (batches_view here.items) (shards_view rest) _ pushed c.in_ok-generation_of.ensures.blocks
          (subst (λ xs. world_of gs ++ world_left (shards_view xs) ≡ world_left (shards_view c.args.shards.items)) first was.world);
    }
