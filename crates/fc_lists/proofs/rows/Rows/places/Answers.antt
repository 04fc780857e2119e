use Rattle.std.proofs.Common.{◌≡◌, ◌+◌, ◌<◌, ℕ, cond, [], length, take, get_or, sym, ap, ◌∙◌, arith}
use Rattle.std.proofs.lemmas.List.FromFn.{length-map-range_with_len}
use Rattle.fc_spec.specs.documents.Bits.{has_bit}
use Rattle.fc_lists.specs.Flat.{flat}
use Rattle.fc_lists.specs.Ranks.{bits_below}
use Rattle.fc_lists.specs.Rows.{row_at}
use Rattle.fc_lists.proofs.BitRanks.{bits_below-le, bits_below-next, rank_within, some_rank, no_rank}
use Rattle.fc_lists.proofs.FlatRows.{rank_if_filled, count_all_bits, flat_take, row_of_none}
use Rattle.fc_lists.proofs.Marks.{word_within}
use Rattle.fc_lists.proofs.rows.Rows.places.Goals as goal

pub rank_among-requires-clause-all : goal.rank_among-requires-clause-all
rank_among-requires-clause-all g c =
    let inside = c.self.inside in
    let within : c.args.at < inside.len = omega (arith, length-map-range_with_len (row_at inside.words.items inside.lists) 0 inside.len, ap length c.self.view_is, c.requires.within) in
    rw c.deref.ensures.value (rank_if_filled inside.filled inside.words.items inside.lists inside.len c.args.at c.self.invariant.none_past c.self.invariant.whole c.self.invariant.full within)

pub places-requires-clause-within : goal.places-requires-clause-within
places-requires-clause-within g c =
    let inside = c.self.inside in
    let words = inside.words.items in
    let found = some_rank (has_bit words c.args.at) (bits_below c.args.at words) c.in-Some.rank (rw c.deref.ensures.value at c.in-Some.ensures) in
    omega (arith, found.1, rank_within words c.args.at (length inside.lists) found.0 (word_within words c.args.at found.0) c.self.invariant.whole)

pub places-requires-clause-few : goal.places-requires-clause-few
places-requires-clause-few g c =
    let inside = c.self.inside in
    let words = inside.words.items in
    let count = count_all_bits words inside.len c.self.invariant.none_past ∙ c.self.invariant.whole in
    omega (arith, count, bits_below-le inside.len words, c.self.invariant.small)

pub unreachable-requires : goal.unreachable-requires
unreachable-requires g c =
    let inside = c.self.inside in
    let words = inside.words.items in
    let none = no_rank (has_bit words c.args.at) (bits_below c.args.at words) (rw c.deref.ensures.value at c.in-None.ensures) in
    let within : c.args.at < inside.len = omega (arith, length-map-range_with_len (row_at words inside.lists) 0 inside.len, ap length c.self.view_is, c.requires.within) in
    let empty = sym (ap (λ (rows : _). get_or rows c.args.at []) c.self.view_is) ∙ row_of_none words inside.lists inside.len c.args.at within none in
    omega (arith, ap length empty, c.requires.some)

pub returns-clause-start : goal.returns-clause-start
returns-clause-start g c =
    let inside = c.self.inside in
    let words = inside.words.items in
    let lists = inside.lists in
    let at = c.args.at in
    let found = some_rank (has_bit words at) (bits_below at words) c.in-Some.rank (rw c.deref.ensures.value at c.in-Some.ensures) in
    let size = length-map-range_with_len (row_at words lists) 0 inside.len in
    c.places.ensures.start ∙ ap (λ n. length (flat (take n lists))) found.1
    ∙ ap length (sym (flat_take words lists c.self.invariant.whole inside.len at (omega (arith, size, ap length c.self.view_is, c.requires.within))))
    ∙ ap (λ (rows : _). length (flat (take at rows))) c.self.view_is

pub returns-clause-end : goal.returns-clause-end
returns-clause-end g c =
    let inside = c.self.inside in
    let words = inside.words.items in
    let lists = inside.lists in
    let at = c.args.at in
    let found = some_rank (has_bit words at) (bits_below at words) c.in-Some.rank (rw c.deref.ensures.value at c.in-Some.ensures) in
    let size = length-map-range_with_len (row_at words lists) 0 inside.len in
    let next : c.in-Some.rank + 1 ≡ bits_below (at + 1) words = omega (arith, found.1, bits_below-next at words, ap (λ b. cond {A = ℕ} b 1 0) found.0) in
    c.places.ensures.end ∙ ap (λ n. length (flat (take n lists))) next
    ∙ ap length (sym (flat_take words lists c.self.invariant.whole inside.len (at + 1) (omega (arith, size, ap length c.self.view_is, c.requires.within))))
    ∙ ap (λ (rows : _). length (flat (take (at + 1) rows))) c.self.view_is
