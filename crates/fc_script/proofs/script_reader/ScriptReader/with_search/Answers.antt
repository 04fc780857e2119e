use Rattle.std.proofs.Common.{length, true, false, refl, ◌∙◌, ap, arith}
use Rattle.std.proofs.lemmas.Bool.{le-leb, lt-leb}
use Rattle.fc_spec.specs.scripts.Script.{asks}
use Rattle.fc_lines.specs.LineView.{asked_view}
use Rattle.fc_script.specs.Gathered as definition
use Rattle.fc_script.specs.GatheredView.{gathered_view}
use Rattle.fc_script.proofs.LimitsKept.{few_sessions_then}
use Rattle.fc_script.proofs.ReadSteps.{with_search}
use Rattle.fc_script.proofs.ReaderAnswers.{taken, refused}
use Rattle.fc_script.proofs.script_reader.ScriptReader.with_search.Goals as goal

pub returns-then-len-gt-SESSION_LIMIT-clause-meets : goal.returns-then-len-gt-SESSION_LIMIT-clause-meets
returns-then-len-gt-SESSION_LIMIT-clause-meets c = refused c.args.self (asks c.args.session (asked_view c.args.asked)) _ (λ m ls has.
    few_sessions_then m c.args.self ls has c.args.session (asked_view c.args.asked) false _ c.in_ok-number.ensures.sessions (lt-leb (length c.session_number.new.sessions.items) 16 (omega (arith, c.if-len-gt-SESSION_LIMIT.true, c.len.ensures))))

pub returns-clause-meets : goal.returns-clause-meets
returns-clause-meets c = taken c.args.self c.args.self.documents c.session_number.new.sessions.items c.search.new.self (asks c.args.session (asked_view c.args.asked)) (λ m ls has.
    let asked = asked_view c.args.asked in
    let names = c.session_number.new.sessions.items in (
      few_sessions_then m c.args.self ls has c.args.session asked true _ c.in_ok-number.ensures.sessions (le-leb (length c.session_number.new.sessions.items) 16 (omega (arith, c.if-len-gt-SESSION_LIMIT.false, c.len.ensures))),
      with_search m c.args.self ls has c.args.self.documents names c.search.new.self c.args.session asked c.in_ok-number.ensures.sessions refl
          (c.in_ok-search.ensures.lines names ∙ ap (λ t. definition.with_search t asked (gathered_view names c.args.self.gathered)) c.in_ok-number.ensures.session)
          (c.in_ok-search.ensures.sound c.args.self.schema (length names) c.in_ok-number.ensures.below c.requires.valid c.requires.root),
    ))
