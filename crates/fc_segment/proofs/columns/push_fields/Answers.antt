use Rattle.std.proofs.Common.{◌+◌, refl, length, map, subst, sym, ap, ◌∙◌, arith}
use Rattle.std.proofs.lemmas.List.{length-map}
use Rattle.fc_base.specs.View.{val_view}
use Rattle.fc_docs.proofs.Entries.{Entry}
use Rattle.fc_segment.specs.Building.{builds_texts, values_built}
use Rattle.fc_segment.proofs.WalkedFields.{Pushed, pushed_none, pushed_value, pushed_all, waits_of, all_wait, field_within, here_is, some_here, still_waits}
use Rattle.fc_segment.proofs.columns.push_fields.Goals as goal

pub loop-field-init : goal.loop-field-init
loop-field-init c =
    let builders = c.args.builders.now.items in
    rw c.into_iter-field-iterator.ensures.into_iter_gives (record {
      pushed = pushed_none (map values_built builders) c.args.at (waits_of builders c.args.at c.requires.behind) c.args.document.now
          c.fields-field-items.result c.fields-field-items.ensures.ascending c.fields-field-items.ensures.some c.fields-field-items.ensures.values;
      kinds = refl;
    })

pub push_field-requires : goal.push_field-requires
push_field-requires c =
    let old = map values_built c.args.builders.now.items in
    let at = c.args.at in
    let waits = waits_of c.args.builders.now.items at c.requires.behind in
    let document = c.args.document.now in
    let e : Entry = (c.in-Some.field.0, map val_view c.in-Some.values.now) in
    let left = c.next.new.self in
    let rows = map values_built c.loop-field.builders.items in
    let pushed = subst (Pushed old rows at document) c.in-Some.ensures.steps c.loop-field.invariant.pushed in
    let here = here_is old at waits document rows e left pushed in
    let kinds = c.loop-field.invariant.kinds in
    let size = ap length kinds in
    let within = field_within document e.1 e.0 here (some_here old at waits document rows e left pushed) in
    record {
      within = omega (arith, within, c.requires.fits.lists, size, length-map c.loop-field.builders.items builds_texts);
      behind = omega (arith, waits e.0, ap length (still_waits old at waits document rows e left pushed));
      row = rw (kinds, ← here) (c.requires.fits.rows e.0);
    }

pub loop-field-preserved : goal.loop-field-preserved
loop-field-preserved c =
    let old = map values_built c.args.builders.now.items in
    let at = c.args.at in
    let waits = waits_of c.args.builders.now.items at c.requires.behind in
    let document = c.args.document.now in
    let e : Entry = (c.in-Some.field.0, map val_view c.in-Some.values.now) in
    let left = c.next.new.self in
    let rows = map values_built c.loop-field.builders.items in
    let pushed = subst (Pushed old rows at document) c.in-Some.ensures.steps c.loop-field.invariant.pushed in
    let here = here_is old at waits document rows e left pushed in
    let kinds = c.loop-field.invariant.kinds in
    let size = ap length kinds in
    let within = field_within document e.1 e.0 here (some_here old at waits document rows e left pushed) in
    record {
      pushed = subst (λ next. Pushed old next at document left) (sym c.in_ok-push_field.ensures.values)
          (pushed_value old at waits document rows e left pushed
          (omega (arith, within, c.requires.fits.lists, size, length-map c.loop-field.builders.items builds_texts, length-map c.loop-field.builders.items values_built)));
      kinds = c.push_field.ensures.kinds ∙ kinds;
    }

pub returns-in_err-push_field-clause-kinds : goal.returns-in_err-push_field-clause-kinds
returns-in_err-push_field-clause-kinds c = c.push_field.ensures.kinds ∙ c.loop-field.invariant.kinds

pub returns-clause-behind : goal.returns-clause-behind
returns-clause-behind c =
    let old = map values_built c.args.builders.now.items in
    let at = c.args.at in
    let waits = waits_of c.args.builders.now.items at c.requires.behind in
    let document = c.args.document.now in
    let rows = map values_built c.loop-field.builders.items in
    let whole = subst (Pushed old rows at document) c.in-None.ensures.steps.0 c.loop-field.invariant.pushed in
    all_wait c.loop-field.builders.items (at + 1) (λ n. (pushed_all old at waits document rows whole n).1)

pub returns-clause-values : goal.returns-clause-values
returns-clause-values c = λ n within.
    let old = map values_built c.args.builders.now.items in
    let at = c.args.at in
    let waits = waits_of c.args.builders.now.items at c.requires.behind in
    let document = c.args.document.now in
    let rows = map values_built c.loop-field.builders.items in
    let whole = subst (Pushed old rows at document) c.in-None.ensures.steps.0 c.loop-field.invariant.pushed in
    (pushed_all old at waits document rows whole n).0
