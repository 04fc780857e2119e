use Rattle.std.proofs.Common.{◌≡◌, ◌∷◌, [], List, Option, Some, None, Bor, false, true, length, get_or, map, sym, ap, ◌∙◌, arith}
use Rattle.std.specs.Option.{IfSome, is_some}
use Rattle.std.proofs.lemmas.Bool.{false≢true}
use Rattle.std.proofs.lemmas.List.{length-map}
use Rattle.std.proofs.lemmas.List.FromFn.{length-map-range_with_len}
use Rattle.fc_spec.specs.documents.Bits.{first_bits}
use Rattle.fc_lane.proofs.BitLists.{length-first_bits}
use Rattle.fc_lists.specs.Flat.{flat, spread_over}
use Rattle.fc_lists.specs.Rows.{row_at}
use Rattle.fc_lists.proofs.Flat.{flat-singles, spread_over-singles}
use Rattle.fc_lists.proofs.rows.Rows.spread.Goals as goal

-- each position has one item
singles_of : {T : Type 0} (rows : List (List T)) (found : Option (Bor (List T))) → is_some found ≡ true → IfSome found (λ items. rows ≡ map (λ item. item ∷ []) items.now)
    → (items : List T) × (rows ≡ map (λ item. item ∷ []) items)
singles_of rows None some is = absurd (false≢true some)
singles_of rows (Some items) some is = (items.now, is)

pub copy_front-requires-clause-enough : goal.copy_front-requires-clause-enough
copy_front-requires-clause-enough g c =
    let inside = c.self.inside in
    omega (arith, length-map-range_with_len (row_at inside.words.items inside.lists) 0 inside.len, ap length c.self.view_is, c.requires.enough)

pub copy_front-requires-clause-room : goal.copy_front-requires-clause-room
copy_front-requires-clause-room g c =
    let inside = c.self.inside in
    let single = singles_of c.args.self.now c.singles.result (sym c.if-is_some.ensures) c.singles.ensures in
    let all = ap (λ (rows : _). length (flat rows)) single.1 ∙ ap length (flat-singles single.0) in
    let long = ap length single.1 ∙ length-map single.0 (λ item. item ∷ []) in
    omega (arith, length-map-range_with_len (row_at inside.words.items inside.lists) 0 inside.len, ap length c.self.view_is, all, long, c.requires.room)

pub returns-then-is_some : goal.returns-then-is_some
returns-then-is_some g c = λ k.
    let inside = c.self.inside in
    let docs = c.args.docs.now in
    let rows = c.args.self.now in
    let single = singles_of rows c.singles.result (sym c.if-is_some.ensures) c.singles.ensures in
    let long = ap length single.1 ∙ length-map single.0 (λ item. item ∷ []) in
    let size : inside.len ≡ length rows = sym (length-map-range_with_len (row_at inside.words.items inside.lists) 0 inside.len) ∙ ap length c.self.view_is in
    let bits = first_bits (length rows) docs in
    let spread = ap (spread_over bits) single.1 ∙ spread_over-singles bits single.0 (length-first_bits (length rows) docs ∙ long) in
    c.copy_front.ensures k ∙ ap (λ n. get_or (first_bits n docs) k false) size ∙ sym (ap (λ l. get_or l k false) spread)
