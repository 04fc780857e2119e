use Rattle.std.proofs.Common.{ℕ, ◌+◌, ◌≤◌, length, slice_index, arith, ◌∙◌, ap}
use Rattle.std.proofs.lemmas.Bool.{OnTrue_at, OnTrue_from}
use Rattle.std.proofs.lemmas.Bool.Decides.{Decides-like}
use Rattle.fc_spec.specs.scripts.ScriptTotals.{total_limit}
use Rattle.fc_docs.specs.Sums.{absolute_kept, absolute_row, absolute_sum}
use Rattle.fc_docs.proofs.AbsoluteSums.{none_past, sum_within, each_within, fits_below}
use Rattle.fc_docs.proofs.document.Document.add_to_sums.Goals as goal

pub add_to_sums-requires-clause-room : goal.add_to_sums-requires-clause-room
add_to_sums-requires-clause-room c = λ field past. ap absolute_row (c.fields.ensures.values field) ∙ none_past c.args.self.now field (omega arith)

pub returns-clause-fits : goal.returns-clause-fits
returns-clause-fits c =
    let kept = λ (field : ℕ). ap absolute_row (c.fields.ensures.values field) in
    let past = λ (field : ℕ) (beyond : length c.args.self.now ≤ field).
    let none = none_past c.args.self.now field beyond in
    let within = sum_within c.args.sums.now total_limit field c.requires.within in
    let both : slice_index c.args.sums.now field + absolute_sum c.args.self.now field ≤ total_limit = omega arith in
    both in
    fits_below (λ field. slice_index c.args.sums.now field + absolute_sum c.args.self.now field) total_limit (length c.args.self.now) past c.add_to_sums.result
    (Decides-like c.add_to_sums.result
    (λ (every : (field : ℕ) → slice_index c.args.sums.now field + absolute_kept c.fields.result field ≤ total_limit) field. let here = every field in omega (arith, kept field))
    (λ every field. let here = every field in omega (arith, kept field))
    c.add_to_sums.ensures.fits)

pub returns-clause-sums : goal.returns-clause-sums
returns-clause-sums c =
    OnTrue_from c.add_to_sums.result _ (λ fits field.
    OnTrue_at fits c.add_to_sums.ensures.sums field
    ∙ ap (λ n. slice_index c.args.sums.now field + n) (ap absolute_row (c.fields.ensures.values field)))

pub returns-clause-still : goal.returns-clause-still
returns-clause-still c =
    OnTrue_from c.add_to_sums.result _ (λ fits. each_within c.add_to_sums.new.sums total_limit (λ field.
    let sum = OnTrue_at fits c.add_to_sums.ensures.sums field in
    let within = c.add_to_sums.ensures.fits.0 fits field in
    omega arith))
