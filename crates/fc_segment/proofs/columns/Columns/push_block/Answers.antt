use Rattle.std.proofs.Common.{◌++◌, ◌∷◌, [], length, take, sym, ap, ap₂, ◌∙◌, arith}
use Rattle.std.proofs.lemmas.List.{append_assoc, length-append, length-take-le, length_push, take_all, take_more}
use Rattle.fc_segment.specs.Building.{FitsTexts}
use Rattle.fc_segment.proofs.Rows.{of_child, of_parent}
use Rattle.fc_segment.proofs.columns.Columns.push_block.Goals as goal

pub push-requires : goal.push-requires
push-requires c =
    let block = c.args.block.now in
    let children = block.children.items in
    let documents = c.args.self.documents in
    let at = c.loop-child.child-index in
    let within = rw c.deref-child-items.ensures.value at c.loop-child-test.true in
    let item = rw c.deref-child-items.ensures.value at c.child-item.is in
    rw (c.loop-child.invariant, c.deref-child-items.ensures.value) (record {
      fits = of_child (FitsTexts c.args.self.texts) children block.parent at c.child-item.result c.requires.fit within item;
      few = omega (arith, length-append documents (take at children), length-take-le at children (omega arith), length_push children block.parent, c.requires.few);
    })

pub push-requires-2 : goal.push-requires-2
push-requires-2 c =
    let block = c.args.block.now in
    let children = block.children.items in
    let documents = c.args.self.documents in
    let at = c.loop-child.child-index in
    let past = rw c.deref-child-items.ensures.value at c.loop-child-test.false in
    rw (c.loop-child.invariant, c.deref-child-items.ensures.value) (record {
      fits = of_parent (FitsTexts c.args.self.texts) children block.parent c.requires.fit;
      few = omega (arith, length-append documents (take at children), ap length (take_all at children past), length_push children block.parent, c.requires.few);
    })

pub loop-child-preserved : goal.loop-child-preserved
loop-child-preserved c =
    let items = c.deref-child-items.result.now in
    let documents = c.args.self.documents in
    let at = c.loop-child.child-index in
    let child = c.child-item.result in
    c.in_ok-columns.ensures
    ∙ ap₂ (λ texts ds. record { texts = texts; documents = ds })
    (ap (λ w. w.texts) c.loop-child.invariant)
    (ap (λ w. w.documents ++ child ∷ []) c.loop-child.invariant ∙ append_assoc documents (take at items) (child ∷ [])
    ∙ ap (λ l. documents ++ l) (sym (take_more items at child c.loop-child-test.true ∙ ap (λ d. take at items ++ d ∷ []) (sym c.child-item.is))))

pub returns : goal.returns
returns c =
    let items = c.deref-child-items.result.now in
    let parent = c.args.block.now.parent in
    let documents = c.args.self.documents in
    let at = c.loop-child.child-index in
    c.in_ok-whole.ensures
    ∙ ap₂ (λ texts ds. record { texts = texts; documents = ds })
    (ap (λ w. w.texts) c.loop-child.invariant)
    (ap (λ w. w.documents ++ parent ∷ []) c.loop-child.invariant ∙ append_assoc documents (take at items) (parent ∷ [])
    ∙ ap (λ l. documents ++ (l ++ parent ∷ [])) (take_all at items c.loop-child-test.false ∙ c.deref-child-items.ensures.value))
