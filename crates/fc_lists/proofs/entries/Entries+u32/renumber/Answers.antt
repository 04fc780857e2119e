use Rattle.std.proofs.Common.{ℕ, ◌<◌, All, map, length, get_or, subst, sym, ap, ap₂, ◌∙◌, arith}
use Rattle.std.proofs.lemmas.List.{with_items_is}
use Rattle.fc_lists.specs.declared.entries.Entry.{Entry}
use Rattle.fc_lists.specs.Entries.{laid_of}
use Rattle.fc_lists.proofs.ItemsAt.{entries_below, entries_hold, renumbered_none, renumbered_more, renumbered_all, laid_of-map}
use Rattle.fc_lists.proofs.entries.Entries+u32.renumber.Goals as goal

pub loop-entry-init : goal.loop-entry-init
loop-entry-init c =
    let inside = c.self.inside in
    let es = inside.entries.items in
    let numbers = c.args.numbers.now in
    let same = c.deref_mut-entry-items.ensures.value in
    let below = entries_below es inside.len c.self.invariant.within (ap (λ laid. laid.next) c.self.view_is ∙ c.requires.whole) in
    let rows = subst (All (All (λ item. item < length numbers))) (sym (ap (λ laid. laid.rows) c.self.view_is)) c.requires.within in
    record {
      within = subst (All (λ (e : Entry ℕ). e.item < length numbers)) (sym same) (entries_hold (λ item. item < length numbers) es inside.len below rows);
      renumbered = renumbered_none _ c.deref_mut-entry-items.result.now;
    }

pub bounds-numbers-entry : goal.bounds-numbers-entry
bounds-numbers-entry c =
    let none : Entry ℕ = record { at = 0; item = 0 } in
    let i = c.loop-entry.entry-index in
    let here = ap (λ (e : Entry ℕ). e.item) (c.loop-entry.invariant.renumbered.left i none (omega arith)) in
    omega (arith, here, c.loop-entry.invariant.within i none c.loop-entry-test.true)

pub loop-entry-preserved : goal.loop-entry-preserved
loop-entry-preserved c =
    let none : Entry ℕ = record { at = 0; item = 0 } in
    let numbers = c.args.numbers.now in
    record {
      within = c.loop-entry.invariant.within;
      renumbered = renumbered_more (λ n. get_or numbers n 0) _ c.loop-entry.entry-items c.loop-entry.entry-index none (omega arith) c.loop-entry.invariant.renumbered;
    }

pub returns : goal.returns
returns c =
    let inside = c.self.inside in
    let numbers = c.args.numbers.now in
    let new = c.loop-entry.entry-items in
    let numbered : ℕ → ℕ = λ n. get_or numbers n 0 in
    let same = c.deref_mut-entry-items.ensures.value in
    ap (λ es. laid_of es inside.len)
    (with_items_is inside.entries new (omega arith)
    ∙ renumbered_all numbered c.deref_mut-entry-items.result.now new c.loop-entry.entry-index (omega arith) (omega arith) c.loop-entry.invariant.renumbered
    ∙ ap (map _) same)
    ∙ laid_of-map numbered inside.entries.items inside.len
    ∙ ap₂ (λ rows next. record { rows = map (map numbered) rows; next = map numbered next })
    (ap (λ laid. laid.rows) c.self.view_is) (ap (λ laid. laid.next) c.self.view_is ∙ c.requires.whole)
