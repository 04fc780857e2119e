use Rattle.std.proofs.Common.{◌≡◌, ◌<◌, ◌∷◌, [], length, sym, ap, ◌∙◌, append-nil, arith}
use Rattle.std.proofs.lemmas.Bool.{OnTrue_from}
use Rattle.json.specs.Reads.{token_of}
use Rattle.json.specs.Token as token
use Rattle.fc_base.specs.View.{field_type_view}
use Rattle.fc_docs.proofs.ItemsSoFar.{alone_is_null, told_alone}
use Rattle.fc_docs.proofs.direct.values.read_values.Goals as goal

pub returns-in-Null-clause-values : goal.returns-in-Null-clause-values
returns-in-Null-clause-values c =
    let next : c.args.reader.now ≡ token.null ∷ c.next.new.self = c.in-Some.ensures.value ∙ ap (λ t. token_of t ∷ c.next.new.self) c.in-Null.is in
    ([], rw next (alone_is_null (field_type_view c.args.kind) c.next.new.self), sym (append-nil _))

pub returns-in_ok-told-in_default-token-clause-values : goal.returns-in_ok-told-in_default-token-clause-values
returns-in_ok-told-in_default-token-clause-values c =
    told_alone c.in_ok-told-in_default-token.told (field_type_view c.args.kind) (token_of c.in-Some.token) _ _ _ _ _ c.in-Some.ensures.value c.in_ok-told-in_default-token.ensures

pub returns-in_ok-told-in_default-token-clause-shorter : goal.returns-in_ok-told-in_default-token-clause-shorter
returns-in_ok-told-in_default-token-clause-shorter c =
    let next : length c.args.reader.now ≡ length (token_of c.in-Some.token ∷ c.next.new.self) = ap length c.in-Some.ensures.value in
    let less : length c.next.new.self < length c.args.reader.now = omega arith in
    OnTrue_from _ (length c.next.new.self < length c.args.reader.now) (λ is. less)
