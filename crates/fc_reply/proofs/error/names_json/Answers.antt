use Rattle.std.proofs.Common.{◌++◌, map, sym, ◌∙◌, ap, append-nil}
use Rattle.std.proofs.lemmas.List.{drop_all}
use Rattle.serde_json.specs.Data.{array, string}
use Rattle.serde_json.specs.View.{view, items_of}
use Rattle.serde_json.proofs.Views.{view-Array}
use Rattle.fc_reply.proofs.ErrorJson.{texts_data-is}
use Rattle.fc_reply.proofs.error.names_json.Goals as goal

pub returns : goal.returns
returns c =
    let left = ap (λ names. map view c.loop-name.texts.items ++ map string names) (sym (drop_all c.loop-name.name-index c.args.names.now c.loop-name-test.false)) in
    view-Array c.loop-name.texts ∙ ap (λ ds. array (items_of ds)) (sym (append-nil (map view c.loop-name.texts.items)) ∙ left ∙ c.loop-name.invariant) ∙ ap array (sym (texts_data-is c.args.names.now))
