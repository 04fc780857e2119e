use Rattle.std.proofs.Common.{◌≡◌, ◌+◌, ◌<◌, ◌∙◌, ◌++◌, ◌∷◌, [], ap, drop, length, map, subst, sym, arith}
use Rattle.std.proofs.lemmas.List.{length-append, map-append}
use Rattle.std.specs.Prelude.{Vec}
use Rattle.std.specs.declared.alloc.Global.{Global}
use Rattle.fc_docs.specs.declared.block.Batch.{Batch}
use Rattle.fc_work.specs.declared.stores.Opening.{Opening}
use Rattle.fc_run.specs.Progress.{CanCarryAll, all_left, charter_to, charters_to, left_by, progress_of}
use Rattle.fc_run.proofs.scripts.NextShard.{made_more, next_can, numbered_more}
use Rattle.fc_run.proofs.openings.openings_of.Goals as goal

pub cut_off-requires : goal.cut_off-requires
cut_off-requires c =
    let was = c.loop-one.invariant in
    let i = length c.loop-one.stores.items in
    let first = c.in-Some.ensures.steps.0 in
    let long = ap length first in
    let below : i < length c.args.commits.now = (let count = was.count in omega (arith, count, long)) in
    let at : c.len-at.result ≡ i = c.len-at.ensures ∙ c.loop-one.stores.ok.0 in
    rw at (next_can c.loop-one.one-iterator.rest.items c.next.new.self.rest.items c.in-Some.one c.args.commits.now i first below was.each).first

pub loop-one-preserved : goal.loop-one-preserved
loop-one-preserved c =
    let was = c.loop-one.invariant in
    let commits = c.args.commits.now in
    let stores = c.loop-one.stores.items in
    let i = length stores in
    let rest = c.next.new.self.rest.items in
    let first = c.in-Some.ensures.steps.0 in
    let long = ap length first in
    let below : i < length commits = (let count = was.count in omega (arith, count, long)) in
    let at : c.len-at.result ≡ i = c.len-at.ensures ∙ c.loop-one.stores.ok.0 in
    let o : Opening = record { shard = c.len-at.result; charter = c.in_ok-cut.cut.charter } in
    let own = c.in_ok-cut.cut.left in
    let pushed : c.push.new.self.items ≡ stores ++ o ∷ [] = c.in_ok-push.ensures.items in
    let kept : c.push-in-loop-one.new.self.items ≡ c.loop-one.left.items ++ own ∷ [] = c.in_ok-push-2.ensures.items in
    let more : length c.push.new.self.items ≡ i + 1 = ap length pushed ∙ length-append stores (o ∷ []) in
    record {
      count = (let count = was.count in omega (arith, count, long, more));
      few = was.few;
      each = subst (λ n. CanCarryAll (map progress_of rest) (drop n commits)) (sym more) (next_can c.loop-one.one-iterator.rest.items rest c.in-Some.one commits i first below was.each).others;
      charters =
          subst (λ n. map (λ (o : Opening). o.charter) c.push.new.self.items ++ charters_to (map progress_of rest) (drop n commits) ≡ charters_to (map progress_of c.args.shards.items) commits) (sym more)
          (made_more charter_to c.loop-one.one-iterator.rest.items rest c.in-Some.one commits i (map (λ (o : Opening). o.charter) stores) (map (λ (o : Opening). o.charter) c.push.new.self.items) _ o.charter first below
          (rw (← at) c.in_ok-cut.ensures.charter) (ap (map (λ (o : Opening). o.charter)) pushed ∙ map-append (λ (o : Opening). o.charter) stores (o ∷ [])) was.charters);
      left =
          subst (λ n. map (λ (own : Vec Batch Global). own.items) c.push-in-loop-one.new.self.items ++ all_left (map progress_of rest) (drop n commits) ≡ all_left (map progress_of c.args.shards.items) commits) (sym more)
          (made_more left_by c.loop-one.one-iterator.rest.items rest c.in-Some.one commits i (map (λ (own : Vec Batch Global). own.items) c.loop-one.left.items) (map (λ (own : Vec Batch Global). own.items) c.push-in-loop-one.new.self.items) _ own.items
          first below (rw (← at) c.in_ok-cut.ensures.left) (ap (map (λ (own : Vec Batch Global). own.items)) kept ∙ map-append (λ (own : Vec Batch Global). own.items) c.loop-one.left.items (own ∷ [])) was.left);
      numbered = numbered_more stores c.push.new.self.items o was.numbered at pushed;
    }
