use Rattle.std.proofs.Common.{◌+◌, ◌-◌, ◌∷◌, length, take, drop, sym, ◌∙◌, ap, arith, length-drop}
use Rattle.std.proofs.lemmas.List.{take_all}
use Rattle.fc_spec.specs.scripts.ScriptLines.{lines_of}
use Rattle.fc_lines.proofs.CutLines.{lines_of-at, lines_of-uncut}
use Rattle.fc_lines.proofs.lines.cut.cut_line.Goals as goal

pub returns-in-Some-clause-lines : goal.returns-in-Some-clause-lines
returns-in-Some-clause-lines c =
    let bytes = c.args.bytes.now in
    let end = c.in-Some.end in
    lines_of-at bytes end (sym c.in-Some.ensures)
    ∙ ap (λ rest. take end bytes ∷ lines_of rest) (sym (take_all (length bytes - (end + 1)) (drop (end + 1) bytes) (simp length-drop (omega arith))))

pub returns-in-None-clause-lines : goal.returns-in-None-clause-lines
returns-in-None-clause-lines c = lines_of-uncut c.args.bytes.now (sym c.in-None.ensures) c.requires
