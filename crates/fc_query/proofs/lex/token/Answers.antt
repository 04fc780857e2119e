use Rattle.std.proofs.Common.{◌≡◌, ◌∙◌, sym, ap, subst, List, Option, false}
use Rattle.fc_spec.specs.queries.QueryTokens.{Token}
use Rattle.fc_spec.specs.queries.QueryCharacters.{Character, code}
use Rattle.fc_spec.specs.queries.QueryRow.{begins_word, marked_at}
use Rattle.fc_query.specs.Takes.{Takes}
use Rattle.fc_query.specs.View.{character_view, token_view}
use Rattle.fc_query.proofs.FirstTokens.{marked_first}
use Rattle.fc_query.proofs.lex.token.Goals as goal

pub returns-in-Some-2 : goal.returns-in-Some-2
returns-in-Some-2 c =
    let first = character_view c.in-Some.first in
    let none : begins_word c.args.behind_colon first ≡ false = sym c.begins_word.ensures ∙ c.if-begins_word.false in
    let same = ap (λ n. marked_at n c.advance.new.self) c.code.ensures ∙ ap (marked_at (code first)) c.advance.ensures
    ∙ marked_first c.args.behind_colon first c.args.cursor.now (sym c.in-Some.ensures) none in
    subst (λ (d : Option (Token × List Character)). Takes token_view c.marked.new.cursor c.marked.result d) same c.marked.ensures
