use Rattle.std.proofs.Common.{[], refl, sym, ap, append-nil}
use Rattle.std.proofs.lemmas.List.Elements.{All-nil}
use Rattle.json.specs.Reads.{token_of}
use Rattle.serde_json.specs.Data.{null}
use Rattle.fc_base.specs.View.{field_type_view}
use Rattle.fc_docs.specs.Direct.{data_of}
use Rattle.fc_docs.proofs.ItemsSoFar.{told_item}
use Rattle.fc_docs.proofs.direct.values.read_item.Goals as goal

pub returns-in-Null : goal.returns-in-Null
returns-in-Null c = (null, [], ap (λ t. data_of (token_of t)) c.in-Null.is, refl, All-nil _, sym (append-nil _))

pub returns : goal.returns
returns c = told_item c.in_ok-told.told (field_type_view c.args.kind) (token_of c.args.token) _ _ c.args.field.0 c.in_ok-told.ensures
