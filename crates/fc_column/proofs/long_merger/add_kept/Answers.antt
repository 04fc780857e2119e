use Rattle.std.proofs.Common.{◌≡◌, ◌+◌, ◌∙◌, ◌∷◌, ◌++◌, length, sym, ap, arith, get_or, drop, pos, cond, append_assoc, ap₂, to_z, of_z, w64, rules}
use Rattle.std.proofs.lemmas.List.{append-nil, nil_from_length}
use Rattle.fc_docset.specs.Positions.{contains}
use Rattle.fc_lists.specs.Kept.{kept_before}
use Rattle.fc_column.proofs.KeptInOrder.{kept_entries, kept_next, kept_end, some_if, none_if, moved}
use Rattle.fc_column.proofs.long_merger.add_kept.Goals as goal
use Rattle.fc_column.proofs.long_merger.add_kept.Goals.{in-Some+in_ok-push, in_default}

pub returns-then-is_empty : goal.returns-then-is_empty
returns-then-is_empty c =
    let values = c.in_order.result.0.now in
    let positions = c.in_order.result.1.now in
    let live = c.args.live.now in
    let first = c.args.first in
    let old = c.args.ordered.now.items in
    let none : length values ≡ 0 = search rules in
    moved c.args.column.now live first values positions old old c.in_order.ensures c.requires.length
    (sym (append-nil old) ∙ ap (λ l. old ++ l) (sym (ap (λ l. kept_entries live first l positions) (nil_from_length values none))))

pub loop-place-preserved : goal.loop-place-preserved
loop-place-preserved c =
    let values = c.in_order.result.0.now in
    let positions = c.in_order.result.1.now in
    let live = c.args.live.now in
    let first = c.args.first in
    let place = c.loop-place.place in
    let rest = kept_entries live first (drop (place + 1) values) (drop (place + 1) positions) in
    let next = kept_next live first values positions place (pos 0) c.in_order.ensures.even c.loop-place-test.true in
    elim c.match-place_of.branch [
      | in-Some+in_ok-push w ↦
          let is = some_if (contains live (get_or positions place 0)) (kept_before live (get_or positions place 0)) w.in-Some.at w.in-Some.ensures in
          let old = c.loop-place.ordered.items in
          let item = get_or values place (pos 0) in
          let same : to_z w64 (of_z w64 item) ≡ item = search rules in
          ap (λ o. o.items ++ rest) w.ordered-is ∙ ap (λ l. l ++ rest) w.in_ok-push.ensures.items ∙ append_assoc old _ rest
          ∙ ap (λ l. old ++ l) (ap₂ (λ a v. record { at = first + a; item = v } ∷ rest) is.1 same ∙ sym (next ∙ ap (λ b. cond b (record { at = first + kept_before live (get_or positions place 0); item = item } ∷ rest) rest) is.0))
          ∙ c.loop-place.invariant
      | in_default w ↦
          let is = none_if (contains live (get_or positions place 0)) (kept_before live (get_or positions place 0)) w.in_default.ensures in
          ap (λ o. o.items ++ rest) w.ordered-is
          ∙ ap (λ l. c.loop-place.ordered.items ++ l) (sym (next ∙ ap (λ b. cond b (record { at = first + kept_before live (get_or positions place 0); item = get_or values place (pos 0) } ∷ rest) rest) is))
          ∙ c.loop-place.invariant
    ]

pub returns : goal.returns
returns c =
    let values = c.in_order.result.0.now in
    let positions = c.in_order.result.1.now in
    let live = c.args.live.now in
    let first = c.args.first in
    let ended = kept_end live first values (drop c.loop-place.place positions) c.loop-place.place (omega arith) in
    moved c.args.column.now live first values positions c.args.ordered.now.items c.loop-place.ordered.items c.in_order.ensures c.requires.length
    (sym (append-nil c.loop-place.ordered.items) ∙ ap (λ l. c.loop-place.ordered.items ++ l) (sym ended) ∙ c.loop-place.invariant)
