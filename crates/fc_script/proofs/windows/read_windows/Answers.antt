use Rattle.std.proofs.Common.{◌≡◌, [], ◌++◌, map, sym, ◌∙◌, ap}
use Rattle.std.proofs.lemmas.Result.{err_from_is_err_and}
use Rattle.fc_lines.specs.LinesLeft.{lines_left}
use Rattle.fc_window.specs.Slots.{line_of}
use Rattle.fc_script.specs.LimitsView.{limits_view}
use Rattle.fc_script.proofs.WindowsRead.{window_on, window_stops}
use Rattle.fc_script.proofs.windows.read_windows.Goals as goal

pub loop-text-preserved : goal.loop-text-preserved
loop-text-preserved g c =
    let lines = map line_of c.deref_mut.result.now in
    let left = lines_left c.begin.new.lines in
    let first : lines_left c.loop-text.lines ≡ lines ++ left = c.in-Some.ensures.line ∙ sym c.in_ok-begin.ensures.lines ∙ ap (λ xs. map line_of xs ++ left) (sym c.deref_mut.ensures.value) in
    window_on (record { limits = limits_view c.args.limits; schema = c.args.schema; lines = [] }) (lines_left c.args.lines) (lines_left c.loop-text.lines) c.loop-text.reading c.in_ok-reading-2.reading lines left
    c.loop-text.invariant first c.in_ok-reading-2.ensures

pub returns-in_err-reading-2 : goal.returns-in_err-reading-2
returns-in_err-reading-2 g c =
    let lines = map line_of c.deref_mut.result.now in
    let left = lines_left c.begin.new.lines in
    let first : lines_left c.loop-text.lines ≡ lines ++ left = c.in-Some.ensures.line ∙ sym c.in_ok-begin.ensures.lines ∙ ap (λ xs. map line_of xs ++ left) (sym c.deref_mut.ensures.value) in
    let p = err_from_is_err_and c.from_residual-in_err-reading-2.result c.from_residual-in_err-reading-2.ensures.1 in
    rw (p.1, p.2) (window_stops (record { limits = limits_view c.args.limits; schema = c.args.schema; lines = [] }) (lines_left c.args.lines) (lines_left c.loop-text.lines) c.loop-text.reading c.in_err-reading-2.field-0.0 lines left
    (limits_view c.args.limits) c.loop-text.invariant first c.in_err-reading-2.ensures)
