use Rattle.std.proofs.Common.{◌≡◌, ◌+◌, List, [], ◌∷◌, ◌++◌, get_or, length, sym, ◌∙◌, ap, subst, arith}
use Rattle.std.specs.Prelude.{nat_le, All}
use Rattle.std.specs.List.{list_all, range_with_len}
use Rattle.fc_spec.specs.documents.Document.{Document}
use Rattle.fc_spec.specs.scripts.ScriptTotals.{absolute_total, total_limit}
use Rattle.fc_script.proofs.SumsOfBlocks.{child_fails, parent_decides, parent_room, child_room}
use Rattle.fc_script.proofs.counts.documents.add_to_sums.Goals as goal

pub returns-then-not-add_to_sums-clause-fits : goal.returns-then-not-add_to_sums-clause-fits
returns-then-not-add_to_sums-clause-fits c =
    let old = c.args.sums.now in
    let parent = c.args.block.now.parent in
    let children = c.deref-child-items.result.now in
    let same = c.deref-child-items.ensures.value in
    let rooms = subst (λ (ds : List Document). All (λ d. length d ≡ length old) (ds ++ parent ∷ [])) (sym same) c.requires.room in
    let room = child_room children parent c.child-item.result c.loop-child.child-index (length old) rooms c.loop-child-test.true c.child-item.is in
    let fails = child_fails old c.loop-child.sums children parent c.child-item.result c.loop-child.child-index c.loop-child.invariant.sums c.loop-child-test.true c.child-item.is room (sym c.add_to_sums.ensures.fits ∙ c.if-not-add_to_sums.true) in
    sym fails ∙ ap (λ (ds : List Document). list_all (λ field. nat_le (get_or old field 0 + absolute_total (ds ++ parent ∷ []) field) total_limit) (range_with_len 0 (length old))) same

pub add_to_sums-requires-2-clause-room : goal.add_to_sums-requires-2-clause-room
add_to_sums-requires-2-clause-room c =
    let room = parent_room c.args.block.now.children.items c.args.block.now.parent (length c.args.sums.now) c.requires.room in omega arith

pub returns-clause-fits : goal.returns-clause-fits
returns-clause-fits c =
    let old = c.args.sums.now in
    let parent = c.args.block.now.parent in
    let children = c.deref-child-items.result.now in
    let same = c.deref-child-items.ensures.value in
    let room = parent_room c.args.block.now.children.items parent (length old) c.requires.room in
    c.add_to_sums-2.ensures.fits ∙ parent_decides old c.loop-child.sums children parent c.loop-child.child-index c.loop-child.invariant.sums c.loop-child-test.false room
    ∙ ap (λ (ds : List Document). list_all (λ field. nat_le (get_or old field 0 + absolute_total (ds ++ parent ∷ []) field) total_limit) (range_with_len 0 (length old))) same
