use Rattle.std.proofs.Common.{◌≡◌, ◌∙◌, Bool, true, false, ◌&&◌, ◌||◌, eqb, ap, sym, codes, string_bytes}
use Rattle.std.specs.Cmp.Lexicographic.{pointwise, texts_ties}
use Rattle.fc_spec.specs.documents.Val.{Text, same_text}
use Rattle.fc_spec.specs.words.Lists.{is_empty}
use Rattle.fc_query.proofs.lex.is_no_end.Goals as goal

is_to : (t s : Text) (plain r : Bool) → is_empty s ≡ false → plain ≡ true → t ≡ s → r ≡ pointwise eqb t (codes "TO") → r ≡ (is_empty s || plain && same_text s (codes "TO"))
is_to t s plain r some p same e = rw (some, p) (e ∙ ap (λ u. pointwise eqb u (codes "TO")) same ∙ texts_ties s (codes "TO"))

pub returns-then-run : goal.returns-then-run
returns-then-run c =
    let is = c.as_str-end.ensures.value in
    let some = sym (ap is_empty is) ∙ sym c.is_empty.ensures ∙ c.if-is_empty.false in
    is_to c.as_str-end.result.now (string_bytes c.args.run.now.text) c.args.run.now.plain c.eq.result some c.if-run.true is c.eq.ensures
