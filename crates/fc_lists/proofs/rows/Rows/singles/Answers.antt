use Rattle.std.proofs.Common.{◌≡◌, ◌∷◌, [], map, Some, None, Option, List, Bor, sym, ◌∙◌}
use Rattle.std.specs.Option.{IfSome}
use Rattle.std.proofs.lemmas.Bool.{OnTrue_at}
use Rattle.fc_lists.proofs.FlatRows.{full_rows, count_all_bits}
use Rattle.fc_lists.proofs.rows.Rows.singles.Goals as goal

-- the lists are those of the positions
lists_are : {T : Type 0} (rows lists : List (List T)) (found : Option (Bor (List T))) → rows ≡ lists
    → IfSome found (λ items. lists ≡ map (λ item. item ∷ []) items.now) → IfSome found (λ items. rows ≡ map (λ item. item ∷ []) items.now)
lists_are rows lists None same is = tt
lists_are rows lists (Some items) same is = same ∙ is

pub returns-then-self : goal.returns-then-self
returns-then-self g c =
    let inside = c.self.inside in
    let words = inside.words.items in
    let full = OnTrue_at c.if-self.true c.self.invariant.full in
    let count = count_all_bits words inside.len c.self.invariant.none_past ∙ c.self.invariant.whole ∙ full in
    lists_are c.args.self.now inside.lists c.singles.result (sym c.self.view_is ∙ full_rows words inside.lists inside.len count full) c.singles.ensures
