use Rattle.std.proofs.Common.{◌≡◌, ◌+◌, ◌<◌, ◌∙◌, ◌++◌, ◌∷◌, [], ap, drop, get_or, length, map, subst, sym, arith, rules}
use Rattle.std.specs.Prelude.{Vec}
use Rattle.std.specs.Arc.{arc_value}
use Rattle.std.specs.declared.alloc.Global.{Global}
use Rattle.std.proofs.lemmas.Grind.{common_steps}
use Rattle.std.proofs.lemmas.List.{get_or-map, length-append, length-map}
use Rattle.fc_docs.specs.declared.block.Batch.{Batch}
use Rattle.fc_run.specs.Progress.{joined_again, progress_of}
use Rattle.fc_run.specs.declared.commits.Committed.{Committed}
use Rattle.fc_run.proofs.scripts.NextShard.{again_more}
use Rattle.fc_run.proofs.openings.again.Goals as goal

pub loop-uncommitted-preserved : goal.loop-uncommitted-preserved
loop-uncommitted-preserved c =
    let was = c.loop-uncommitted.invariant in
    let gens = c.args.generations.now in
    let gs = map arc_value gens in
    let before = c.loop-uncommitted.shards.items in
    let i = length before in
    let rest = c.next.new.self.rest.items in
    let first = c.in-Some.ensures.steps.0 in
    let long = ap length first in
    let r = c.index-generations-len.result in
    let below : i < length gens = (let count = was.count in omega (arith, count, long)) in
    let within : i < length gs = (let same = length-map gens arc_value in omega (arith, same, below)) in
    let at : c.len-in-loop-uncommitted.result ≡ i = c.len-in-loop-uncommitted.ensures ∙ c.loop-uncommitted.shards.ok.0 in
    let here : r ≡ get_or gens i r = c.index-generations-len.is ∙ ap (λ k. get_or gens k r) at in
    let same : arc_value c.in_ok-generation.generation ≡ arc_value r = first_of (search rules, grind (arith, common_steps)) in
    let value : arc_value c.in_ok-generation.generation ≡ get_or gs i (arc_value r) = same ∙ ap arc_value here ∙ sym (get_or-map arc_value gens i r (arc_value r) below) in
    let made : Committed = record { generation = c.in_ok-generation.generation; uncommitted = c.in-Some.uncommitted } in
    let pushed : c.push.new.self.items ≡ before ++ made ∷ [] = c.in_ok-push.ensures.items in
    let more : length c.push.new.self.items ≡ i + 1 = ap length pushed ∙ length-append before (made ∷ []) in
    let all = joined_again gs (map (λ (own : Vec Batch Global). own.items) c.args.left.items) in
    record {
      count = (let count = was.count in omega (arith, count, long, more));
      made =
          subst (λ n. map progress_of c.push.new.self.items ++ joined_again (drop n gs) (map (λ (own : Vec Batch Global). own.items) rest) ≡ all) (sym more)
          (again_more gs i (arc_value r) before c.push.new.self.items made c.in-Some.uncommitted.items (map (λ (own : Vec Batch Global). own.items) rest) all within
          (λ j. record { generation = value j; left = c.in-Some.uncommitted.items }) pushed
          (subst (λ vs. map progress_of before ++ joined_again (drop i gs) (map (λ (own : Vec Batch Global). own.items) vs) ≡ all) first was.made));
    }
