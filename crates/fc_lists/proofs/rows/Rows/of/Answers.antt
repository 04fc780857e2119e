use Rattle.std.proofs.Common.{◌≡◌, ◌<◌, ◌*◌, ◌^◌, map, length, vec_len, subst, ◌==◌, eqb-true, sym, ap, ◌∙◌, arith}
use Rattle.std.proofs.lemmas.Bool.{OnTrue_from}
use Rattle.std.proofs.lemmas.List.{length-map}
use Rattle.fc_lists.specs.Among.{is_among}
use Rattle.fc_lists.specs.Starts.{AreStarts, cut}
use Rattle.fc_lists.specs.Ranks.{bits_below}
use Rattle.fc_lists.specs.Rows.{row_at}
use Rattle.std.specs.List.{range_with_len}
use Rattle.fc_lists.proofs.Marks.{Marked}
use Rattle.fc_lists.proofs.FirstEntries.{heads_start}
use Rattle.fc_lists.proofs.BitRows.{rows_are, whole_is, length-lists, lists_some, none_past_is, positions_within}
use Rattle.fc_lists.proofs.rows.Rows.of.Goals as goal

pub bits_before-requires : goal.bits_before-requires
bits_before-requires g c =
    let entries = c.args.entries.now in
    let positions = c.in_ok-positions.positions.items in
    let starts = c.in_ok-positions.starts.items in
    let words = c.in_ok-words.words.items in
    let heads = c.in_ok-positions.ensures in
    let marked : Marked words positions = λ at. c.in_ok-words.ensures.bits at ∙ ap (is_among at) c.deref.ensures.value in
    let whole = whole_is entries positions starts c.requires.rising heads words marked in
    let few = length-lists entries positions starts c.requires.rising heads in
    let small : bits_below (64 * length words) words < 2 ^ 32 = omega (arith, whole, few, heads.few, length-map entries (λ entry. entry.at), c.requires.few) in
    rw c.deref-2.ensures.value small

pub new-lists-requires : goal.new-lists-requires
new-lists-requires g c =
    let entries = c.args.entries.now in
    let starts = c.in_ok-positions.starts.items in
    let items = c.in_ok-items.ensures in
    let size : length (map (λ (entry : _). entry.at) entries) ≡ vec_len c.in_ok-items.items =
    length-map entries (λ entry. entry.at) ∙ omega (arith, ap length items, length-map entries (λ entry. entry.item)) in
    subst (AreStarts starts) size (heads_start _ c.in_ok-positions.positions.items starts c.in_ok-positions.ensures)

pub invariant_of-result : goal.invariant_of-result
invariant_of-result g c =
    let entries = c.args.entries.now in
    let positions = c.in_ok-positions.positions.items in
    let starts = c.in_ok-positions.starts.items in
    let words = c.in_ok-words.words.items in
    let heads = c.in_ok-positions.ensures in
    let marked : Marked words positions = λ at. c.in_ok-words.ensures.bits at ∙ ap (is_among at) c.deref.ensures.value in
    let items = c.in_ok-items.ensures in
    let lists = c.new-lists.ensures ∙ ap (cut starts) items in
    let same = c.deref-2.ensures.value in
    record {
      small = omega arith;
      few = c.in_ok-words.ensures.few c.args.len (rw c.deref.ensures.value (positions_within entries positions starts c.requires.rising heads c.args.len c.requires.below));
      none_past = none_past_is entries positions starts c.requires.rising heads words c.args.len marked c.requires.below;
      counts = omega (arith, c.in_ok-before.ensures.len, ap length same);
      counted = λ i within. c.in_ok-before.ensures.counts i (omega (arith, ap length same)) ∙ ap (bits_below (64 * i)) same;
      whole = whole_is entries positions starts c.requires.rising heads words marked ∙ sym (ap length lists);
      some = rw lists (lists_some entries positions starts c.requires.rising heads);
      full = OnTrue_from (c.len.result == c.args.len) (length c.new-lists.result ≡ c.args.len) (λ same. sym c.len.ensures ∙ eqb-true c.len.result c.args.len same);
    }

pub returns : goal.returns
returns g c =
    let entries = c.args.entries.now in
    let positions = c.in_ok-positions.positions.items in
    let starts = c.in_ok-positions.starts.items in
    let words = c.in_ok-words.words.items in
    let heads = c.in_ok-positions.ensures in
    let marked : Marked words positions = λ at. c.in_ok-words.ensures.bits at ∙ ap (is_among at) c.deref.ensures.value in
    let items = c.in_ok-items.ensures in
    ap (λ (lists : _). map (row_at words lists) (range_with_len 0 c.args.len)) (c.new-lists.ensures ∙ ap (cut starts) items)
    ∙ rows_are entries positions starts c.requires.rising heads words c.args.len marked
