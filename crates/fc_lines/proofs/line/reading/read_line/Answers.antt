use Rattle.std.proofs.Common.{refl}
use Rattle.fc_lines.proofs.line.reading.read_line.Goals as goal
use Rattle.fc_spec.proofs.words.Texts.{differs}

pub returns-clause-answer : goal.returns-clause-answer
returns-clause-answer c =
    let found = rw (c.in_ok-name.ensures.ok_part) at c.take_sole_member.ensures in
    let members = rw (c.in_ok-members.ensures.ok_part) at c.take_members.ensures in
    rw (← found) (rw (← members) (rw (← c.as_str.ensures.value, differs _ _ c.in_default.not-add, differs _ _ c.in_default.not-delete, differs _ _ c.in_default.not-commit, differs _ _ c.in_default.not-sync, differs _ _ c.in_default.not-search) refl))

pub returns-in-sync-clause-valid : goal.returns-in-sync-clause-valid
returns-in-sync-clause-valid c = c.in_ok-sync_of-in-sync.ensures.valid c.args.schema.now
