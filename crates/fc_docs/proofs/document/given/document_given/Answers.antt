use Rattle.std.proofs.Common.{◌≢◌, length, vec_len, arith, sym, ◌∙◌}
use Rattle.std.proofs.lemmas.Bool.{eqb-true, eqb-false, not-false, not-true}
use Rattle.std.proofs.lemmas.List.{nil_from_length}
use Rattle.fc_docs.specs.Direct.{given_view}
use Rattle.fc_docs.proofs.GivenPairs.{rise}
use Rattle.fc_docs.proofs.GivenDocument.{are_distinct, are_parts, is_document, first_given, has_id}
use Rattle.fc_docs.proofs.NoId.{none_at_all, none_of_id}
use Rattle.fc_docs.proofs.PairOrder.{AreSortedPairs}
use Rattle.fc_docs.proofs.document.given.document_given.Goals as goal
use Rattle.fc_docs.proofs.document.given.document_given.Goals.{then-is_empty-via-then-is_empty, then-is_empty-via-else-is_empty+then-ne}

pub packed-requires : goal.packed-requires
packed-requires c =
    rise c.args.given.items c.sort_unstable.new.self.items c.dedup.new.self.items
    (record { moved = c.sort_unstable.ensures.permutation; sorted = c.sort_unstable.ensures.sorted; kept = c.dedup.ensures.filtered })

pub of-requires : goal.of-requires
of-requires c =
    are_parts c.args.fields (given_view c.args.given.items) (given_view c.dedup.new.self.items) c.in_ok-counts.counts c.in_ok-counts.values.items
    (are_distinct c.args.fields c.args.given.items c.sort_unstable.new.self.items c.dedup.new.self.items c.in_ok-counts.counts c.in_ok-counts.values.items
    c.requires c.sort_unstable.ensures.permutation c.sort_unstable.ensures.sorted c.dedup.ensures.filtered c.in_ok-counts.ensures)

pub returns-then-is_empty-clause-none : goal.returns-then-is_empty-clause-none
returns-then-is_empty-clause-none c =
    let xs = c.args.given.items in
    let ys = c.sort_unstable.new.self.items in
    let zs = c.dedup.new.self.items in
    let sorted : AreSortedPairs xs ys zs = record { moved = c.sort_unstable.ensures.permutation; sorted = c.sort_unstable.ensures.sorted; kept = c.dedup.ensures.filtered } in
    elim c.then-is_empty.branch [
      | then-is_empty-via-then-is_empty w ↦ none_at_all c.args.fields xs ys zs sorted (nil_from_length zs (omega (arith, eqb-true (vec_len c.dedup.new.self) 0 (sym (w.if-is_empty.ensures)))))
      | then-is_empty-via-else-is_empty+then-ne w ↦ none_of_id c.args.fields xs ys zs w.index.result.now sorted w.index.ensures (eqb-false w.index.result.now.0.0 0 (not-true _ (sym (w.if-ne.ensures))))
    ]

pub returns-clause-document : goal.returns-clause-document
returns-clause-document c =
    c.of.ensures ∙ is_document c.args.fields (given_view c.args.given.items) (given_view c.dedup.new.self.items) c.in_ok-counts.counts c.in_ok-counts.values.items
    (are_distinct c.args.fields c.args.given.items c.sort_unstable.new.self.items c.dedup.new.self.items c.in_ok-counts.counts c.in_ok-counts.values.items
    c.requires c.sort_unstable.ensures.permutation c.sort_unstable.ensures.sorted c.dedup.ensures.filtered c.in_ok-counts.ensures)

pub returns-clause-id : goal.returns-clause-id
returns-clause-id c =
    let pairs = c.dedup.new.self.items in
    let some : length pairs ≢ 0 = omega (arith, eqb-false (vec_len c.dedup.new.self) 0 (sym c.if-is_empty.ensures)) in
    let id = eqb-true c.index.result.now.0.0 0 (not-false _ (sym c.if-ne.ensures)) in
    rw c.of.ensures
    (has_id c.args.fields (given_view c.args.given.items) (given_view pairs) c.in_ok-counts.counts c.in_ok-counts.values.items
    (are_distinct c.args.fields c.args.given.items c.sort_unstable.new.self.items pairs c.in_ok-counts.counts c.in_ok-counts.values.items
    c.requires c.sort_unstable.ensures.permutation c.sort_unstable.ensures.sorted c.dedup.ensures.filtered c.in_ok-counts.ensures)
    (first_given pairs c.index.result.now some c.index.ensures id))
