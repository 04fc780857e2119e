use Rattle.std.proofs.Common.{◌<◌, [], cond, length, get_or, sym, ap, ◌∙◌, arith}
use Rattle.std.proofs.lemmas.List.FromFn.{length-map-range_with_len, get_or-map-range_with_len}
use Rattle.fc_spec.specs.documents.Bits.{has_bit}
use Rattle.fc_lists.specs.Ranks.{bits_below}
use Rattle.fc_lists.specs.Rows.{row_at}
use Rattle.fc_lists.proofs.BitRanks.{rank_within, some_rank, no_rank}
use Rattle.fc_lists.proofs.FlatRows.{rank_if_filled}
use Rattle.fc_lists.proofs.Marks.{word_within}
use Rattle.fc_lists.proofs.rows.Rows.row.Goals as goal

pub rank_among-requires-clause-all : goal.rank_among-requires-clause-all
rank_among-requires-clause-all g c =
    let inside = c.self.inside in
    let within : c.args.at < inside.len = omega (arith, length-map-range_with_len (row_at inside.words.items inside.lists) 0 inside.len, ap length c.self.view_is) in
    rw c.deref.ensures.value (rank_if_filled inside.filled inside.words.items inside.lists inside.len c.args.at c.self.invariant.none_past c.self.invariant.whole c.self.invariant.full within)

pub list-requires : goal.list-requires
list-requires g c =
    let inside = c.self.inside in
    let words = inside.words.items in
    let found = some_rank (has_bit words c.args.at) (bits_below c.args.at words) c.in-Some.rank (rw c.deref.ensures.value at c.in-Some.ensures) in
    omega (arith, found.1, rank_within words c.args.at (length inside.lists) found.0 (word_within words c.args.at found.0) c.self.invariant.whole)

pub returns-in-Some : goal.returns-in-Some
returns-in-Some g c =
    let inside = c.self.inside in
    let words = inside.words.items in
    let at = c.args.at in
    let found = some_rank (has_bit words at) (bits_below at words) c.in-Some.rank (rw c.deref.ensures.value at c.in-Some.ensures) in
    let within : at < inside.len = omega (arith, length-map-range_with_len (row_at words inside.lists) 0 inside.len, ap length c.self.view_is) in
    c.list.ensures ∙ ap (λ n. get_or inside.lists n []) found.1
    ∙ sym (ap (λ b. cond b (get_or inside.lists (bits_below at words) []) []) found.0)
    ∙ sym (get_or-map-range_with_len (row_at words inside.lists) 0 inside.len at at [] within (omega arith))
    ∙ ap (λ (rows : _). get_or rows at []) c.self.view_is

pub returns-in-None : goal.returns-in-None
returns-in-None g c =
    let inside = c.self.inside in
    let words = inside.words.items in
    let at = c.args.at in
    let none = no_rank (has_bit words at) (bits_below at words) (rw c.deref.ensures.value at c.in-None.ensures) in
    let within : at < inside.len = omega (arith, length-map-range_with_len (row_at words inside.lists) 0 inside.len, ap length c.self.view_is) in
    sym (ap (λ b. cond b (get_or inside.lists (bits_below at words) []) []) none)
    ∙ sym (get_or-map-range_with_len (row_at words inside.lists) 0 inside.len at at [] within (omega arith))
    ∙ ap (λ (rows : _). get_or rows at []) c.self.view_is
