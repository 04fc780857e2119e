use Rattle.std.proofs.Common.{◌≡◌, ◌∙◌, ◌++◌, ◌&&◌, [], List, Bool, sym, ap, true, false, append-nil, string_bytes}
use Rattle.std.proofs.Math.Bool.{and-true}
use Rattle.std.specs.Char.{encode_utf8}
use Rattle.std.specs.List.{list_all, take_while}
use Rattle.fc_spec.specs.queries.QueryCharacters.{Character, code, behind, is_bare, text_of}
use Rattle.fc_query.specs.declared.lex.Run.{Run}
use Rattle.fc_query.specs.Takes.{IsRun}
use Rattle.fc_query.specs.View.{character_view, part_test}
use Rattle.fc_query.proofs.Fronts.{left_goes_on, text_goes_on, plain_goes_on, front_ends, left_ends, no_front, none_left}
use Rattle.fc_query.proofs.lex.run_of.Goals as goal
use Rattle.fc_query.proofs.lex.run_of.Goals.{in-Some+then-not-has, in_default}

pub loop-first-preserved : goal.loop-first-preserved
loop-first-preserved c =
    let first = character_view c.in-Some.first in
    let test = part_test c.args.part in
    let goes : test first ≡ true = sym c.has.ensures ∙ c.if-not-has.false in
    let here = sym c.in-Some.ensures in
    record {
      text = ap (λ t. t ++ text_of (take_while test c.advance.new.self)) (c.in_ok-push.ensures.bytes ∙ ap (λ n. string_bytes c.loop-first.text ++ encode_utf8 n) c.code.ensures)
          ∙ ap (λ cs. (string_bytes c.loop-first.text ++ encode_utf8 (code first)) ++ text_of (take_while test cs)) c.advance.ensures
          ∙ text_goes_on test first c.loop-first.cursor (string_bytes c.loop-first.text) here goes
          ∙ c.loop-first.invariant.text;
      plain = ap (λ b. (c.loop-first.plain && b) && list_all is_bare (take_while test c.advance.new.self)) c.is_bare-plain.ensures
          ∙ ap (λ cs. (c.loop-first.plain && is_bare first) && list_all is_bare (take_while test cs)) c.advance.ensures
          ∙ plain_goes_on test first c.loop-first.cursor c.loop-first.plain here goes
          ∙ c.loop-first.invariant.plain;
      left = ap (behind test) c.advance.ensures ∙ left_goes_on test first c.loop-first.cursor here goes ∙ c.loop-first.invariant.left;
    }

-- nothing of the run is left
whole : (test : Character → Bool) (run : Run) (old cs : List Character) → take_while test cs ≡ [] → behind test cs ≡ cs
    → string_bytes run.text ++ text_of (take_while test cs) ≡ text_of (take_while test old)
    → (run.plain && list_all is_bare (take_while test cs)) ≡ list_all is_bare (take_while test old)
    → behind test cs ≡ behind test old
    → IsRun test run old cs
whole test run old cs none same text plain left = record {
  text = sym (ap (λ ds. string_bytes run.text ++ text_of ds) none ∙ append-nil (string_bytes run.text)) ∙ text;
  plain = sym (ap (λ ds. run.plain && list_all is_bare ds) none ∙ and-true run.plain) ∙ plain;
  left = sym same ∙ left;
}

pub returns : goal.returns
returns c =
    let test = part_test c.args.part in
    let l = c.loop-first in
    let done = λ (none : take_while test l.cursor ≡ []) (same : behind test l.cursor ≡ l.cursor).
    whole test (record { text = l.text; plain = l.plain }) c.args.cursor.now l.cursor none same l.invariant.text l.invariant.plain l.invariant.left in
    elim c.match-peek.branch [
      | in-Some+then-not-has w ↦
          let first = character_view w.in-Some.first in
          let stops : test first ≡ false = sym w.has.ensures ∙ w.if-not-has.true in
          done (front_ends test first l.cursor (sym w.in-Some.ensures) stops) (left_ends test first l.cursor (sym w.in-Some.ensures) stops)
      | in_default w ↦ done (no_front test l.cursor (sym w.in_default.ensures)) (none_left test l.cursor (sym w.in_default.ensures))
    ]
