use Rattle.std.proofs.Common.{◌∙◌, rules}
use Rattle.std.proofs.lemmas.Fn.{always_returns_same}
use Rattle.fc_spec.specs.documents.Val.{text_cmp}
use Rattle.fc_base.proofs.Searching.{search_gives}
use Rattle.fc_base.proofs.schema.place_of.Goals as goal

pub returns-clause-place : goal.returns-clause-place
returns-clause-place c =
    let compares = c.binary_search_by.ensures.position (λ f. text_cmp f.name c.args.name.now) (always_returns_same _ _ _ (λ a r f' called. search rules)) in
    c.ok.ensures.value
    ∙ search_gives (λ f. f.name) c.args.fields.now c.args.name.now c.binary_search_by.result c.requires c.binary_search_by.ensures.bound compares
