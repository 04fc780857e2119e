use Rattle.std.proofs.Common.{ℕ, ◌<◌, All, List, map, subst, sym, ap, ◌∙◌}
use Rattle.std.specs.List.{range_with_len}
use Rattle.std.specs.List.Sorted.{IsStrictlyIncreasing}
use Rattle.fc_docset.specs.Positions.{positions}
use Rattle.fc_lists.specs.declared.entries.Entry.{Entry}
use Rattle.fc_lists.specs.Among.{is_among}
use Rattle.fc_lists.specs.Placed.{positions_with}
use Rattle.fc_lists.proofs.ItemsAt.{entries_below, entries_hold, map_range_same}
use Rattle.fc_lists.proofs.OfNumbers.{positions_of_rows}
use Rattle.fc_lists.proofs.entries.Entries+u32.positions.Goals as goal

pub positions_of_numbers-requires-clause-below : goal.positions_of_numbers-requires-clause-below
positions_of_numbers-requires-clause-below c =
    let inside = c.self.inside in
    let es = inside.entries.items in
    let below = entries_below es inside.len c.self.invariant.within (ap (λ laid. laid.next) c.self.view_is ∙ c.requires.whole) in
    let rows = subst (All (All (λ item. item < c.args.count))) (sym (ap (λ laid. laid.rows) c.self.view_is)) c.requires.within in
    subst (All (λ (e : Entry ℕ). e.item < c.args.count)) (sym c.deref.ensures.value) (entries_hold (λ item. item < c.args.count) es inside.len below rows)

pub returns : goal.returns
returns c =
    let inside = c.self.inside in
    let es = inside.entries.items in
    let below = entries_below es inside.len c.self.invariant.within (ap (λ laid. laid.next) c.self.view_is ∙ c.requires.whole) in
    let rising = subst (All IsStrictlyIncreasing) (sym (ap (λ laid. laid.rows) c.self.view_is)) c.requires.rising in
    c.in_ok-lists.ensures
    ∙ ap (λ (l : List (Entry ℕ)). map (λ number. positions_with number l) (range_with_len 0 c.args.count)) c.deref.ensures.value
    ∙ map_range_same (λ number. positions_with number es) (λ number. positions (map (is_among number) c.args.self.now.rows)) c.args.count
    (λ number _. positions_of_rows es number inside.len c.self.invariant.rising below rising
    ∙ ap (λ laid. positions (map (is_among number) laid.rows)) c.self.view_is)
