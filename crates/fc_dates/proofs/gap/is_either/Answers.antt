use Rattle.std.proofs.Common.{◌||◌, ap, sym, ◌∙◌}
use Rattle.std.proofs.lemmas.Map.Text.{is_eq-slice_cmp}
use Rattle.fc_spec.specs.documents.Val.{same_text}
use Rattle.fc_dates.proofs.gap.is_either.Goals as goal

pub returns-then-eq : goal.returns-then-eq
returns-then-eq c =
    let one = sym c.if-eq.true ∙ c.eq.ensures ∙ sym (is_eq-slice_cmp c.args.name.now c.args.one.now) in
    c.if-eq.true ∙ ap (λ b. b || same_text c.args.name.now c.args.many.now) one

pub returns-else-eq : goal.returns-else-eq
returns-else-eq c =
    let one = sym c.if-eq.false ∙ c.eq.ensures ∙ sym (is_eq-slice_cmp c.args.name.now c.args.one.now) in
    c.eq-else-eq.ensures ∙ sym (is_eq-slice_cmp c.args.name.now c.args.many.now) ∙ ap (λ b. b || same_text c.args.name.now c.args.many.now) one
