use Rattle.std.proofs.Common.{◌≡◌, [], ◌∷◌, sym, ◌∙◌, ap}
use Rattle.fc_lines.specs.LinesLeft.{lines_left}
use Rattle.fc_script.specs.LimitsView.{limits_view}
use Rattle.fc_script.proofs.LinesRead.{reads_on}
use Rattle.fc_script.proofs.read.read_rest.Goals as goal

pub loop-text-preserved : goal.loop-text-preserved
loop-text-preserved c =
    let number = c.number.result in
    let text = c.in-Some.text.now in
    let left = lines_left c.next_said.new.self in
    let first : lines_left c.loop-text.lines ≡ (number, text) ∷ left = c.in-Some.ensures.line ∙ ap (λ n. (n, text) ∷ left) (sym c.number.ensures) in
    reads_on (record { limits = limits_view c.args.limits; schema = c.args.schema; lines = [] }) (lines_left c.args.lines) (lines_left c.loop-text.lines) c.loop-text.reading c.in_ok-reading-2.reading number text left
    c.loop-text.invariant first c.in_ok-reading-2.ensures
