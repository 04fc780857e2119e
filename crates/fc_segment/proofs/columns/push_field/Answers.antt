use Rattle.std.proofs.Common.{◌++◌, ◌∷◌, [], false, map, set, sym, ap, ◌∙◌}
use Rattle.std.proofs.lemmas.List.{get_or-map, map-set, set-get_or}
use Rattle.fc_base.specs.View.{val_view}
use Rattle.fc_segment.specs.Building.{builds_texts, padded, values_built}
use Rattle.fc_segment.proofs.columns.push_field.Goals as goal

pub push_at-requires : goal.push_at-requires
push_at-requires c =
    let items = c.args.builders.now.items in
    let f = c.args.field.0 in
    let b = c.index_mut.result.now in
    let kind = get_or-map builds_texts items f b false c.requires.within ∙ ap builds_texts (sym c.index_mut.ensures.value) in
    let built = get_or-map values_built items f b [] c.requires.within ∙ ap values_built (sym c.index_mut.ensures.value) in
    record { row = rw kind at c.requires.row; behind = rw built at c.requires.behind }

pub returns-in_err-push_at-clause-kinds : goal.returns-in_err-push_at-clause-kinds
returns-in_err-push_at-clause-kinds c =
    let items = c.args.builders.now.items in
    let f = c.args.field.0 in
    let b = c.index_mut.result.now in
    let kind = get_or-map builds_texts items f b false c.requires.within ∙ ap builds_texts (sym c.index_mut.ensures.value) in
    map-set builds_texts items f c.push_at.new.self ∙ ap (set (map builds_texts items) f) (c.push_at.ensures.kind ∙ sym kind) ∙ set-get_or (map builds_texts items) f false

pub returns-clause-kinds : goal.returns-clause-kinds
returns-clause-kinds c =
    let items = c.args.builders.now.items in
    let f = c.args.field.0 in
    let b = c.index_mut.result.now in
    let kind = get_or-map builds_texts items f b false c.requires.within ∙ ap builds_texts (sym c.index_mut.ensures.value) in
    map-set builds_texts items f c.push_at.new.self ∙ ap (set (map builds_texts items) f) (c.push_at.ensures.kind ∙ sym kind) ∙ set-get_or (map builds_texts items) f false

pub returns-clause-values : goal.returns-clause-values
returns-clause-values c =
    let items = c.args.builders.now.items in
    let f = c.args.field.0 in
    let b = c.index_mut.result.now in
    let built = get_or-map values_built items f b [] c.requires.within ∙ ap values_built (sym c.index_mut.ensures.value) in
    map-set values_built items f c.push_at.new.self
    ∙ ap (set (map values_built items) f) (c.in_ok-push_at.ensures.values ∙ ap (λ rows. padded c.args.at rows ++ map val_view c.args.values.now ∷ []) (sym built))
