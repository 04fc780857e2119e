use Rattle.std.proofs.Common.{◌≡◌, ◌<◌, None, Some, length, arith}
use Rattle.json.specs.Json.{after_end_array}
use Rattle.fc_docs.specs.DirectState.{GivesChild}
use Rattle.fc_docs.proofs.ChildrenRead.{none_so_far, one_so_far, all_so_far}
use Rattle.fc_docs.proofs.direct.block.read_each.Goals as goal

pub items-init : goal.items-init
items-init c = rw c.new-children.ensures.items (none_so_far c.args.schema.now c.args.reader.now)

pub items-preserved : goal.items-preserved
items-preserved c =
    let l = c.items in
    let going : (after_end_array l.reader ≡ None) × (c.take_end_array.new.self ≡ l.reader) = grind arith in
    let child : GivesChild c.args.schema.now l.reader c.read_child.new.reader c.in-Some.child = rw going.1 at (rw c.in-Some.is at c.in_ok-child.ensures.child) in
    let shorter : length c.read_child.new.reader < length l.reader = rw going.1 at (rw c.in-Some.is at c.in_ok-child.ensures.shorter) in
    rw c.in_ok-push-in-Some.ensures.items (one_so_far c.args.schema.now c.args.reader.now l.reader c.read_child.new.reader l.children.items c.in-Some.child l.invariant going.0 child shorter)

pub returns-clause-each : goal.returns-clause-each
returns-clause-each c =
    let ended : after_end_array c.items.reader ≡ Some c.take_end_array.new.self = grind arith in
    rw c.shrink_to_fit.ensures.items (all_so_far c.args.schema.now c.args.reader.now c.items.reader c.take_end_array.new.self c.items.children.items c.items.invariant ended)
