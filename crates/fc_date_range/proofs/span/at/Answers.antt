use Rattle.std.proofs.Common.{◌≡◌, ◌||◌, true, refl, ap, ap₂, ◌∙◌, inl, inr}
use Rattle.fc_column.specs.Terms.{terms_below, terms_up_to}
use Rattle.fc_date_range.proofs.BucketSpans.{date_span, empty_span}
use Rattle.fc_date_range.proofs.span.at.Goals as goal

pub returns-then-with_high : goal.returns-then-with_high
returns-then-with_high c =
    let held : (c.args.with_low || c.args.with_high) ≡ true = elim c.if-with_high.either [
      | inl low ↦ ap (λ b. b || c.args.with_high) low
      | inr both ↦ ap₂ (λ a b. a || b) both.0 both.1
    ] in
    date_span c.args.column.now c.args.date.now c.args.with_low c.args.with_high c.first_from-from.result c.first_past-past.result held
    (c.first_from-from.ensures ∙ ap (terms_below c.args.column.now) c.bytes.ensures.value) (c.first_past-past.ensures ∙ ap (terms_up_to c.args.column.now) c.bytes-then-with_high.ensures.value)

pub returns-else-with_high : goal.returns-else-with_high
returns-else-with_high c =
    empty_span c.args.column.now c.args.date.now c.args.with_low c.args.with_high c.first_from-from.result c.first_from-from.result (ap₂ (λ a b. a || b) c.if-with_high.false.0 c.if-with_high.false.1) refl
