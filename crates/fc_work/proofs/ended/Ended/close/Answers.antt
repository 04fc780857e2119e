use Rattle.std.proofs.Common.{◌≡◌, length, map, slice_set, ap, ◌∙◌, arith, rules}
use Rattle.std.specs.Arc.{arc_value}
use Rattle.std.specs.Vec.{with_items}
use Rattle.std.proofs.lemmas.Grind.{common_steps}
use Rattle.std.proofs.lemmas.List.{places, with_items_is}
use Rattle.fc_work.specs.Ends.{last_of}
use Rattle.fc_work.specs.Woven.{lines_in}
use Rattle.fc_work.proofs.Batches.{last_is}
use Rattle.fc_work.proofs.ended.Ended.close.Goals as goal
use Rattle.fc_work.proofs.ended.Ended.close.Goals.{then-self, else-self}

pub returns-after-self : goal.returns-after-self
returns-after-self g c =
    let w = c.args.worker in
    let old = c.args.self.now in
    let last : arc_value c.in-Ok.last ≡ last_of w.writer = last_is w.writer (arc_value c.in-Ok.last) c.in-Ok.ensures.schema c.in-Ok.ensures.charted c.in-Ok.ensures.number in
    let ok = old.generations.ok.0 in
    let kept = c.put.auto.all in
    let value = ap length c.deref_mut.ensures.value in
    let held : (with_items old.generations c.put.new.all).items ≡ c.put.new.all =
    with_items_is old.generations c.put.new.all (first_of (search (rules, places), omega (arith, ok, kept, value), grind (arith, common_steps))) in
    let put : map arc_value (with_items old.generations c.put.new.all).items ≡ slice_set (map arc_value old.generations.items) w.shard (last_of w.writer) =
    ap (map arc_value) held ∙ c.put.ensures ∙ (λ i. slice_set (map arc_value (c.deref_mut.ensures.value i)) w.shard (last i)) in
    record {
      taken = λ calm.
          elim c.if-self.branch [
            | then-self t ↦ absurd (first_of (cc, search rules))
            | else-self t ↦ (first_of (search rules, grind (arith, common_steps)), first_of (cc, search rules), λ i. record { generations = put i; lines = lines_in old.lines.items })
          ];
    }
