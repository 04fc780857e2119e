use Rattle.std.proofs.Common.{◌+◌, vec_len, length, take, get_or, ap, ◌∙◌, arith}
use Rattle.std.proofs.lemmas.List.Edits.{length-between}
use Rattle.fc_lists.specs.Flat.{flat}
use Rattle.fc_lists.specs.Starts.{starts_in}
use Rattle.fc_lists.proofs.Cuts.{length-cut, cut_front, within_size}
use Rattle.fc_lists.proofs.lists.Lists.places.Goals as goal

pub places-requires-clause-within : goal.places-requires-clause-within
places-requires-clause-within g c =
    let inside = c.self.inside in
    let long = length-cut (starts_in inside.starts (vec_len inside.items)) inside.items.items in
    let all = ap length c.self.view_is in
    rw c.len.ensures (omega (arith, long, all, c.self.invariant.some))

pub returns-clause-start : goal.returns-clause-start
returns-clause-start g c =
    let inside = c.self.inside in
    let starts = starts_in inside.starts (vec_len inside.items) in
    let items = inside.items.items in
    let at = c.args.at in
    let long = length-cut starts items in
    let all = ap length c.self.view_is in
    let place = rw c.len.ensures at c.places.ensures.start in
    let below = within_size starts (vec_len inside.items) at c.self.invariant (omega (arith, long, all, c.self.invariant.some)) in
    let size = ap length (cut_front starts items at c.self.invariant.rising c.self.invariant.some (omega (arith, long, all)))
    ∙ length-between items (get_or starts 0 0) (get_or starts at 0) (omega (arith, below)) in
    let view = ap (λ (lists : _). length (flat (take at lists))) c.self.view_is in
    omega (arith, place, size, view)

pub returns-clause-end : goal.returns-clause-end
returns-clause-end g c =
    let inside = c.self.inside in
    let starts = starts_in inside.starts (vec_len inside.items) in
    let items = inside.items.items in
    let next = c.args.at + 1 in
    let long = length-cut starts items in
    let all = ap length c.self.view_is in
    let place = rw c.len.ensures at c.places.ensures.end in
    let below = within_size starts (vec_len inside.items) next c.self.invariant (omega (arith, long, all, c.self.invariant.some)) in
    let size = ap length (cut_front starts items next c.self.invariant.rising c.self.invariant.some (omega (arith, long, all)))
    ∙ length-between items (get_or starts 0 0) (get_or starts next 0) (omega (arith, below)) in
    let view = ap (λ (lists : _). length (flat (take next lists))) c.self.view_is in
    omega (arith, place, size, view)
