use Rattle.std.proofs.Common.{All, ◌≡◌, ℕ, ◌-◌, ◌≤◌, ◌<◌, List, ◌++◌, Bor, length, drop, get_or, replicate, false, ◌||◌, sym, ap, ap₂, subst, ◌∙◌, arith}
use Rattle.std.proofs.lemmas.List.{length-map}
use Rattle.std.proofs.lemmas.List.Elements.{All-get_or}
use Rattle.std.proofs.Math.ListN.{get_or-map}
use Rattle.fc_spec.specs.documents.Live.{left_set}
use Rattle.fc_spec.specs.documents.Operations.{has_id, is_named, op_id}
use Rattle.fc_docs.specs.declared.block.Op as docs
use Rattle.fc_docs.specs.View.{op_view}
use Rattle.fc_store.specs.Named.{has_one_of, left_with, ops_of, texts_of, NamesId}
use Rattle.fc_store.proofs.IdKeys.{any_inserted}
use Rattle.fc_store.proofs.LeftSteps.{ended, left_step, rest_is, said_of}
use Rattle.fc_store.proofs.named.named.Goals as goal

op_here : (ops : List (Bor docs.Op)) (i : ℕ) (one : Bor docs.Op) → one ≡ get_or ops i one → get_or (ops_of ops) i (op_view one.now) ≡ op_view one.now
op_here ops i one is = get_or-map (λ (o : Bor docs.Op). op_view o.now) ops i one ∙ ap (λ (o : Bor docs.Op). op_view o.now) (sym is)

within_view : (ops : List (Bor docs.Op)) (at : ℕ) → at ≤ length ops → at ≤ length (ops_of ops)
within_view ops at within = omega (arith, within, length-map ops (λ (o : Bor docs.Op). op_view o.now))

names_here : (ops : List (Bor docs.Op)) (at : ℕ) (one : Bor docs.Op) → 0 < at → at ≤ length ops → one ≡ get_or ops (at - 1) one → All NamesId (ops_of ops) → NamesId (op_view one.now)
names_here ops at one some within is names =
    subst NamesId (op_here ops (at - 1) one is) (All-get_or NamesId (ops_of ops) (at - 1) (op_view one.now) (omega (arith, within_view ops at within, some)) names)

pub id_of-requires : goal.id_of-requires
id_of-requires c = names_here c.args.ops.now c.loop-at.at c.index-ops-at.result c.loop-at-test.true c.loop-at.auto.at c.index-ops-at.is c.requires.names

pub put-end-requires-clause-fits : goal.put-end-requires-clause-fits
put-end-requires-clause-fits c =
    let ops = c.args.ops.now in
    let at = c.loop-at.at in
    let one = c.index-ops-at.result in
    let end = ended (ops_of ops) at (op_view one.now) c.loop-at-test.true (within_view ops at c.loop-at.auto.at) (op_here ops (at - 1) one c.index-ops-at.is) in
    omega (arith, end, c.loop-at.invariant.end)

pub loop-at-preserved : goal.loop-at-preserved
loop-at-preserved c =
    let ops = ops_of c.args.ops.now in
    let at = c.loop-at.at in
    let one = c.index-ops-at.result in
    let op = op_view one.now in
    let inside = within_view c.args.ops.now at c.loop-at.auto.at in
    let here = op_here c.args.ops.now (at - 1) one c.index-ops-at.is in
    let names = names_here c.args.ops.now at one c.loop-at-test.true c.loop-at.auto.at c.index-ops-at.is c.requires.names in
    let start = c.put-end.result in
    let kept = c.loop-at.invariant in
    let end = ended ops at op c.loop-at-test.true inside here in
    let rest = rest_is ops at op c.loop-at-test.true inside here in
    let key : c.id_of.result.now ≡ op_id op = c.id_of.ensures in
    let says = said_of op (drop at ops) c.loop-at.ids.keys c.id_of.result c.in_ok-is_left.is_left names key kept.named c.in_ok-is_left.ensures.added in
    record {
      end = omega (arith, end, kept.end, c.put-end.ensures.start);
      left = c.put-end.ensures.left ∙ ap (λ set. left_with set start c.loop-at.end op c.in_ok-is_left.is_left) kept.left
          ∙ left_step op (drop at ops) start c.loop-at.end c.in_ok-is_left.is_left c.put-end.ensures.start says
          ∙ ap (λ l. replicate start false ++ left_set l) (sym rest);
      named = λ b.
          ap (λ ids. has_one_of (texts_of ids) b) c.in_ok-is_left.ensures.keys ∙ any_inserted (λ x. has_id x b) c.id_of.result c.loop-at.ids.keys
          ∙ ap₂ (λ t r. has_id t b || r) key (kept.named b) ∙ ap (λ l. is_named l b) (sym rest);
    }
