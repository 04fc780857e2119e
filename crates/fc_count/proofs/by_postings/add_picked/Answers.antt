use Rattle.std.proofs.Common.{◌≡◌, ◌∙◌, ◌==◌, ◌<◌, length, map, sym, ap, subst, All, arith}
use Rattle.std.specs.List.{filter, range_with_len}
use Rattle.std.specs.List.Sorted.{IsPermutation}
use Rattle.std.proofs.lemmas.List.Sorted.{All-permutation, IsPermutation-sym}
use Rattle.std.proofs.lemmas.List.{length-map}
use Rattle.fc_docset.specs.Positions.{positions}
use Rattle.fc_kind.specs.PlaceAt.{place_at}
use Rattle.fc_count.specs.Held.{held_stats}
use Rattle.fc_count.proofs.AddedKeys.{grown_more, next_grows}
use Rattle.fc_count.proofs.HeldPositions.{held_below, held_cell, held_fit, held_picked, passing_below}
use Rattle.fc_count.proofs.by_postings.add_picked.Goals as goal

pub pick-requires : goal.pick-requires
pick-requires g c =
    let holds = g.P.Postings.holds c.args.postings.now in
    let n = c.loop-number.number in
    let size = length c.args.docs.now in
    let count = g.P.Postings.positions c.args.postings.now in
    let list = c.positions_of.result.now in
    let those = filter (λ at. holds at n) (range_with_len 0 count) in
    All-permutation (λ at. at < size) those list (IsPermutation-sym list those c.positions_of.ensures)
    (subst (λ m. All (λ at. at < size) (filter (λ at. holds at n) (range_with_len 0 m))) (sym (c.requires.positions ∙ sym c.requires.length)) (passing_below (λ at. holds at n) size))

pub add_positions-requires-clause-there : goal.add_positions-requires-clause-there
add_positions-requires-clause-there g c =
    let blocks = c.args.segment.now.blocks in
    let set = c.args.docs.now in
    let n = c.loop-number.number in
    let holds = g.P.Postings.holds c.args.postings.now in
    let list = c.deref.result.now in
    let is : IsPermutation list (filter (λ at. holds at n) (positions set)) = held_picked set (g.P.Postings.positions c.args.postings.now) (λ at. holds at n) c.positions_of.result.now list (c.requires.positions ∙ sym c.requires.length) c.positions_of.ensures (c.deref.ensures.value ∙ c.in_ok-pick.ensures) in
    held_below blocks set c.requires.length holds n list is

pub add_positions-requires-clause-fit : goal.add_positions-requires-clause-fit
add_positions-requires-clause-fit g c =
    let blocks = c.args.segment.now.blocks in
    let set = c.args.docs.now in
    let n = c.loop-number.number in
    let holds = g.P.Postings.holds c.args.postings.now in
    let list = c.deref.result.now in
    let is : IsPermutation list (filter (λ at. holds at n) (positions set)) = held_picked set (g.P.Postings.positions c.args.postings.now) (λ at. holds at n) c.positions_of.result.now list (c.requires.positions ∙ sym c.requires.length) c.positions_of.ensures (c.deref.ensures.value ∙ c.in_ok-pick.ensures) in
    held_fit blocks set c.requires.length holds n list is c.requires.limits

pub add_positions-requires-clause-add_up : goal.add_positions-requires-clause-add_up
add_positions-requires-clause-add_up g c some =
    let blocks = c.args.segment.now.blocks in
    let set = c.args.docs.now in
    let n = c.loop-number.number in
    let holds = g.P.Postings.holds c.args.postings.now in
    let list = c.deref.result.now in
    let is : IsPermutation list (filter (λ at. holds at n) (positions set)) = held_picked set (g.P.Postings.positions c.args.postings.now) (λ at. holds at n) c.positions_of.result.now list (c.requires.positions ∙ sym c.requires.length) c.positions_of.ensures (c.deref.ensures.value ∙ c.in_ok-pick.ensures) in
    let key = g.P.Keys.key c.args.postings.now in
    let old = c.args.into.now in
    let cells = held_stats blocks holds c.args.bound old.stats (positions set) in
    let X = map (place_at blocks) list in
    let cell = held_cell blocks set c.requires.length holds n list is c.args.bound old.stats (omega arith) in
    next_grows key cells c.args.bound n (omega arith) c.requires.apart old c.loop-number.into c.loop-number.invariant X cell c.requires.add_up (ap (λ m. m == 0) (length-map list (place_at blocks)) ∙ some)

pub loop-number-preserved : goal.loop-number-preserved
loop-number-preserved g c =
    let blocks = c.args.segment.now.blocks in
    let set = c.args.docs.now in
    let n = c.loop-number.number in
    let holds = g.P.Postings.holds c.args.postings.now in
    let list = c.deref.result.now in
    let is : IsPermutation list (filter (λ at. holds at n) (positions set)) = held_picked set (g.P.Postings.positions c.args.postings.now) (λ at. holds at n) c.positions_of.result.now list (c.requires.positions ∙ sym c.requires.length) c.positions_of.ensures (c.deref.ensures.value ∙ c.in_ok-pick.ensures) in
    let key = g.P.Keys.key c.args.postings.now in
    let old = c.args.into.now in
    let cells = held_stats blocks holds c.args.bound old.stats (positions set) in
    let X = map (place_at blocks) list in
    let cell = held_cell blocks set c.requires.length holds n list is c.args.bound old.stats (omega arith) in
    grown_more key cells c.args.bound n (omega arith) c.requires.apart old c.loop-number.into c.loop-number.invariant X cell c.add_positions.new.into c.in_ok-add_positions.ensures
