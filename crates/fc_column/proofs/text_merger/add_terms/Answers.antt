use Rattle.std.proofs.Common.{◌≡◌, ◌∙◌, ◌+◌, ◌++◌, ◌∷◌, ℕ, [], map, drop, get_or, cond, false, ap, sym, arith, append_assoc}
use Rattle.std.proofs.lemmas.List.{get_or-map, get_or_default, length-map}
use Rattle.std.specs.List.{list_any}
use Rattle.fc_spec.specs.documents.Val.{Text}
use Rattle.fc_docset.specs.Positions.{contains}
use Rattle.fc_column.specs.TextMerger.{numbered_terms}
use Rattle.fc_column.proofs.MergedNumbers.{numbered_next}
use Rattle.fc_column.proofs.text_merger.add_terms.Goals as goal
use Rattle.fc_column.proofs.text_merger.add_terms.Goals.{then-has_one+in_ok-copy+in_ok-push, else-has_one}

pub loop-ord-preserved : goal.loop-ord-preserved
loop-ord-preserved c =
    let has = list_any (contains c.args.live.now) in
    let lists = c.args.positions.now in
    let terms = c.args.terms.now in
    let used = map has lists in
    let ord = c.loop-ord.ord in
    let next = numbered_next c.args.first ord terms used (length-map lists has ∙ c.requires.lists) c.loop-ord-test.true in
    let rest = numbered_terms (c.args.first + (ord + 1)) (drop (ord + 1) terms) (drop (ord + 1) used) in
    let one : Text × ℕ = (get_or terms ord [], c.args.first + ord) in
    let old = c.loop-ord.texts.items in
    let is : get_or used ord false ≡ c.has_one.result = get_or-map has lists ord [] false (omega (arith, c.requires.lists)) ∙ ap has (sym c.list.ensures) ∙ sym c.has_one.ensures in
    elim c.if-has_one.branch [
      | then-has_one+in_ok-copy+in_ok-push w ↦
          ap (λ o. o.items ++ rest) w.texts-is ∙ ap (λ l. l ++ rest) w.in_ok-push.ensures.items ∙ append_assoc old _ rest
          ∙ ap (λ l. old ++ l) (ap (λ t. (t, c.args.first + ord) ∷ rest) (w.in_ok-copy.ensures ∙ c.term.view_is ∙ c.index-terms-ord.is ∙ get_or_default terms ord _ [] c.loop-ord-test.true)
          ∙ sym (next ∙ ap (λ b. cond b (one ∷ rest) rest) (is ∙ w.if-has_one.true)))
          ∙ c.loop-ord.invariant
      | else-has_one w ↦
          ap (λ o. o.items ++ rest) w.texts-is ∙ ap (λ l. old ++ l) (sym (next ∙ ap (λ b. cond b (one ∷ rest) rest) (is ∙ w.if-has_one.false))) ∙ c.loop-ord.invariant
    ]
