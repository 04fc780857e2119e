use Rattle.std.proofs.Common.{◌≡◌, ◌∙◌, ◌++◌, ◌∷◌, [], ap, sym, map, List, Bool, true, false, Option, Some}
use Rattle.std.proofs.lemmas.List.{map-append}
use Rattle.fc_spec.specs.queries.QueryTokens.{Token}
use Rattle.fc_spec.specs.queries.QueryCharacters.{Character, is_blank}
use Rattle.fc_spec.specs.queries.QueryRow.{token_at, tokens_of}
use Rattle.fc_query.specs.View.{character_view, token_view, tokens_view}
use Rattle.std.specs.Prelude.{slice_get}
use Rattle.std.proofs.Common.{Err}
use Rattle.std.proofs.lemmas.Result.{err_from_is_err_and}
use Rattle.fc_base.specs.declared.error.Refusal.{Refusal}
use Rattle.fc_base.specs.declared.error.Refusal.TheVariants.{Memory, Fault}
use Rattle.fc_query.specs.declared.fault.QueryFault.{QueryFault}
use Rattle.fc_query.specs.Takes.{Takes, Gives}
use Rattle.fc_query.proofs.SoFar.{IsSoFar, blank_goes_on, token_goes_on, token_is_shorter, none_goes_on, ended}
use Rattle.fc_query.proofs.lex.tokens.Goals as goal

pub loop-first-preserved-then-is_blank : goal.loop-first-preserved-then-is_blank
loop-first-preserved-then-is_blank c =
    let first = character_view c.in-Some.first in
    let blank : is_blank first ≡ true = sym c.is_blank.ensures ∙ c.if-is_blank.true in
    blank_goes_on _ _ first c.loop-first.cursor c.advance.new.self _ (sym c.in-Some.ensures) blank c.advance.ensures c.loop-first.invariant

-- where no token is read, the text has no row
stops : (e : Refusal QueryFault) (before : List Token) (b : Bool) (c : Character) (cs left : List Character) (whole : Option (List Token))
    → slice_get cs 0 ≡ Some c → is_blank c ≡ false → IsSoFar before b cs whole → Takes token_view left (Err e) (token_at b cs) → Gives tokens_view (Err e) whole
stops Memory before b c cs left whole e h s k = tt
stops (Fault f) before b c cs left whole e h s k = (none_goes_on before b c cs whole e h k.0 s, k.1)

pub returns-in_err-token : goal.returns-in_err-token
returns-in_err-token c =
    let first = character_view c.in-Some.first in
    let other : is_blank first ≡ false = sym c.is_blank.ensures ∙ c.if-is_blank.false in
    let p = err_from_is_err_and c.from_residual.result c.from_residual.ensures.1 in
    rw (p.1, p.2) (stops c.in_err-token.field-0.0 _ _ first c.loop-first.cursor c.token.new.cursor (tokens_of c.args.text.now) (sym c.in-Some.ensures) other c.loop-first.invariant c.in_err-token.ensures)

pub loop-first-smaller : goal.loop-first-smaller
loop-first-smaller c = token_is_shorter _ (character_view c.in-Some.first) c.loop-first.cursor c.token.new.cursor _ (sym c.in-Some.ensures) c.in_ok-token.ensures

pub loop-first-preserved : goal.loop-first-preserved
loop-first-preserved c =
    let first = character_view c.in-Some.first in
    let other : is_blank first ≡ false = sym c.is_blank.ensures ∙ c.if-is_blank.false in
    let on = token_goes_on _ _ first c.loop-first.cursor c.token.new.cursor _ (tokens_of c.args.text.now) (sym c.in-Some.ensures) other c.in_ok-token.ensures c.loop-first.invariant in
    let pushed : map token_view c.push.new.self.items ≡ map token_view c.loop-first.tokens.items ++ token_view c.in_ok-token.token ∷ [] =
    ap (map token_view) c.in_ok-push.ensures.items ∙ map-append token_view c.loop-first.tokens.items _ in
    rw (pushed, c.is_colon-behind_colon.ensures) on

pub returns : goal.returns
returns c = ended _ _ c.loop-first.cursor _ (sym c.in_default.ensures) c.loop-first.invariant
