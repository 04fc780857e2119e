use Rattle.std.proofs.Common.{map, length, sym, ap, ap₂, ◌∙◌, ◌&&◌, ◌==◌, cond}
use Rattle.std.proofs.lemmas.List.{length-map}
use Rattle.std.proofs.lemmas.List.Sorted.{sum_by-IsPermutation}
use Rattle.fc_lists.specs.Ordered.{count_beside}
use Rattle.fc_lists.proofs.SortedEntries.{beside_sorted}
use Rattle.fc_lists.proofs.ordered.in_order.Goals as goal

pub returns : goal.returns
returns c =
    let sorted = c.in_ok-sorted.sorted.items in
    let values = c.in_ok-values.ensures ∙ ap (map (λ entry. entry.item)) c.deref.ensures.value in
    let positions = c.in_ok-positions.ensures ∙ ap (map (λ entry. entry.at)) c.deref-2.ensures.value in
    record {
      even = ap length positions ∙ length-map sorted (λ entry. entry.at) ∙ sym (ap length values ∙ length-map sorted (λ entry. entry.item));
      rising = rw values c.in_ok-sorted.ensures.rising;
      same = λ passes at. ap₂ (count_beside passes at) values positions ∙ beside_sorted passes at sorted
          ∙ sum_by-IsPermutation (λ entry. cond (passes entry.item && (entry.at == at)) 1 0) c.args.entries.items sorted c.in_ok-sorted.ensures.entries;
    }
