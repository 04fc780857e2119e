use Rattle.std.proofs.Common.{arith}
use Rattle.std.proofs.lemmas.Result.{on_ok_weaker}
use Rattle.fc_lists.proofs.FilledRows.{contained, none_added, empty_added, one_added, all_added, kept_if_filled, empty_beside}
use Rattle.fc_lists.proofs.entries.Entries+i64.add_rows.Goals as goal

pub loop-at-init : goal.loop-at-init
loop-at-init c = none_added c.args.live.now c.args.rows.now c.args.self.now c.requires.whole

pub kept_between-requires-clause-within : goal.kept_between-requires-clause-within
kept_between-requires-clause-within c =
    let here = kept_if_filled c.args.live.now c.args.rows.now c.in_ok-filled.filled c.in_ok-filled.ensures c.in-Some.at c.in-Some.ensures.found.member in
    omega (arith, contained c.args.live.now c.in-Some.at here)

pub row-requires : goal.row-requires
row-requires c =
    let here = kept_if_filled c.args.live.now c.args.rows.now c.in_ok-filled.filled c.in_ok-filled.ensures c.in-Some.at c.in-Some.ensures.found.member in
    omega (arith, contained c.args.live.now c.in-Some.at here, c.requires.length)

pub loop-at-preserved : goal.loop-at-preserved
loop-at-preserved c =
    let here = kept_if_filled c.args.live.now c.args.rows.now c.in_ok-filled.filled c.in_ok-filled.ensures c.in-Some.at c.in-Some.ensures.found.member in
    one_added c.args.live.now c.in_ok-filled.filled c.args.rows.now c.requires.length
    (empty_beside c.args.live.now c.args.rows.now c.in_ok-filled.filled c.requires.length c.in_ok-filled.ensures)
    c.args.self.now.rows c.loop-at.self c.skip-in-Some.new.self c.add_row.new.self c.loop-at.from c.in-Some.at c.kept_between.result c.row.result.now
    c.loop-at.invariant c.in-Some.ensures.found here c.kept_between.ensures c.row.ensures c.in_ok-skip.ensures.ok c.in_ok-add_row.ensures

pub loop-at-smaller : goal.loop-at-smaller
loop-at-smaller c =
    let here = kept_if_filled c.args.live.now c.args.rows.now c.in_ok-filled.filled c.in_ok-filled.ensures c.in-Some.at c.in-Some.ensures.found.member in
    omega (arith, contained c.args.live.now c.in-Some.at here, c.in-Some.ensures.found.behind)

pub returns-then-are_empty : goal.returns-then-are_empty
returns-then-are_empty c =
    on_ok_weaker c.skip.result
    (empty_added c.args.live.now c.args.rows.now c.args.self.now c.skip.new.self c.count.result c.requires.length c.if-are_empty.ensures c.count.ensures)
    c.skip.ensures.ok

pub returns : goal.returns
returns c = on_ok_weaker c.skip-2.result
    (all_added c.args.live.now c.in_ok-filled.filled c.args.rows.now c.requires.length
    (empty_beside c.args.live.now c.args.rows.now c.in_ok-filled.filled c.requires.length c.in_ok-filled.ensures)
    c.args.self.now.rows c.loop-at.self c.skip-2.new.self c.loop-at.from c.kept_between-2.result c.len.result c.loop-at.invariant c.in_default.ensures.found c.len.ensures c.kept_between-2.ensures)
    c.skip-2.ensures.ok
