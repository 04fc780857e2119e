use Rattle.std.proofs.Common.{◌≡◌, ℕ, ◌+◌, ◌<◌, ◌≤◌, length, map, nat_le, slice_index, true, false, arith, ◌∙◌, ap, sym, refl, subst, true≢false}
use Rattle.std.proofs.lemmas.Bool.Decides.{nat_tests}
use Rattle.fc_spec.specs.scripts.ScriptTotals.{total_limit}
use Rattle.fc_base.specs.View.{val_view}
use Rattle.fc_docs.specs.Sums.{absolute_row}
use Rattle.fc_docs.proofs.AbsoluteSums.{added, added_here, added_is_kept, nothing_past, one_more, within_limit}
use Rattle.fc_docs.proofs.Entries.{Entry}
use Rattle.fc_docs.proofs.document.sums.add_to_sums.Goals as goal

outgrown : (n limit : ℕ) → false ≡ nat_le n limit → limit < n
outgrown n limit is = grind (arith, nat_tests)

fits : (n limit : ℕ) → true ≡ nat_le n limit → n ≤ limit
fits n limit is = grind (arith, nat_tests)

pub add_to_sum-requires-clause-room : goal.add_to_sum-requires-clause-room
add_to_sum-requires-clause-room c = λ past.
    let e : Entry = (c.in-Some.field.0, map val_view c.in-Some.values.now) in
    let none = added_is_kept c.args.fields e.0 c.requires.ascending ∙ c.requires.room e.0 (omega arith) in
    nothing_past c.loop-field.sums c.args.sums.now c.args.fields c.loop-field.field-iterator c.next.new.self e c.in-Some.ensures.steps c.loop-field.auto.sums past (c.loop-field.invariant.so_far e.0) none

pub returns-then-not-add_to_sum-clause-fits : goal.returns-then-not-add_to_sum-clause-fits
returns-then-not-add_to_sum-clause-fits c =
    let e : Entry = (c.in-Some.field.0, map val_view c.in-Some.values.now) in
    let first = ap (λ es. added es e.0) c.in-Some.ensures.steps ∙ added_here e c.next.new.self e.0 refl in
    let past = outgrown (slice_index c.loop-field.sums e.0 + absolute_row e.1) total_limit c.if-not-add_to_sum.ensures.fits in
    let so_far = c.loop-field.invariant.so_far e.0 in
    let kept = added_is_kept c.args.fields e.0 c.requires.ascending in
    (λ never. absurd (true≢false (sym never)), λ every. let fits = every e.0 in absurd (omega arith))

pub loop-field-preserved : goal.loop-field-preserved
loop-field-preserved c =
    let e : Entry = (c.in-Some.field.0, map val_view c.in-Some.values.now) in
    let steps = c.in-Some.ensures.steps in
    let none = λ (past : length c.loop-field.sums ≤ e.0). added_is_kept c.args.fields e.0 c.requires.ascending ∙ c.requires.room e.0 (omega arith) in
    let past = λ (beyond : length c.loop-field.sums ≤ e.0).
    nothing_past c.loop-field.sums c.args.sums.now c.args.fields c.loop-field.field-iterator c.next.new.self e steps c.loop-field.auto.sums beyond (c.loop-field.invariant.so_far e.0) (none beyond) in
    let now = c.if-not-add_to_sum.ensures.sums in
    let sum = slice_index c.loop-field.sums e.0 + absolute_row e.1 in
    record {
      so_far = λ n.
          ap (λ sums. slice_index sums n + added c.next.new.self n) now
          ∙ one_more c.loop-field.sums c.loop-field.field-iterator c.next.new.self e n steps past
          ∙ c.loop-field.invariant.so_far n;
      within = λ n. subst (λ sums. slice_index sums n ≤ total_limit) (sym now)
          (within_limit c.loop-field.sums e.0 sum total_limit n (fits sum total_limit c.if-not-add_to_sum.ensures.fits) (c.loop-field.invariant.within n));
    }

pub returns-clause-fits : goal.returns-clause-fits
returns-clause-fits c = (
  (λ _ field.
      let so_far = c.loop-field.invariant.so_far field in
      let within = c.loop-field.invariant.within field in
      let none = ap (λ es. added es field) c.in-None.ensures.steps.0 in
      let kept = added_is_kept c.args.fields field c.requires.ascending in
      omega arith),
  λ _. refl,
)

pub returns-clause-sums : goal.returns-clause-sums
returns-clause-sums c = λ field.
    let so_far = c.loop-field.invariant.so_far field in
    let none = ap (λ es. added es field) c.in-None.ensures.steps.0 in
    let kept = added_is_kept c.args.fields field c.requires.ascending in
    omega arith
