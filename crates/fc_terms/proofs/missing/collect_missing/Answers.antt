use Rattle.std.proofs.Common.{◌≡◌, ◌∙◌, true, List, sym, ap, subst, rules}
use Rattle.fc_domain.proofs.GroupSets.{on_ok}
use Rattle.fc_facet.specs.KindView.{terms_view}
use Rattle.fc_kind.specs.Collecting.{CollectsAmong, GrowsBy}
use Rattle.fc_kind.proofs.BucketPlaces.{bucket_picked}
use Rattle.fc_kind.proofs.CollectedParts.{among_same, one_bucket}
use Rattle.fc_partial.specs.Adding.{AddUp}
use Rattle.fc_spec.specs.documents.Sets.{places_on}
use Rattle.fc_spec.specs.documents.World.{Place}
use Rattle.fc_spec.specs.messages.KeyOrder.{same_key}
use Rattle.fc_spec.specs.requests.Buckets.{bucket_places, missing}
use Rattle.fc_spec.specs.requests.DomainSets.{bucket_set}
use Rattle.fc_spec.specs.requests.Request.{terms}
use Rattle.fc_spec.specs.requests.Statistics.{stats_over}
use Rattle.fc_segment.specs.Columns.{column_values}
use Rattle.fc_terms.specs.Values.{is_missing_key}
use Rattle.fc_terms.proofs.TermsKeys.{bucket_where, only_missing}
use Rattle.fc_terms.proofs.missing.collect_missing.Goals as goal

pub add_documents-requires-clause-add_up : goal.add_documents-requires-clause-add_up
add_documents-requires-clause-add_up c x there =
    let t = terms_view c.args.terms.now in
    let blocks = c.args.segment.now.blocks in
    let docs = c.args.docs.now in
    let asked : t.missing ≡ true = search rules in
    let set : c.select_missing.new.into ≡ bucket_set (terms t) missing blocks docs =
    c.in_ok-select_missing.ensures.set ∙ bucket_where t missing blocks docs (column_values c.column.result.now) c.column.ensures.values in
    let places : bucket_places (terms t) missing (places_on 0 blocks docs) ≡ places_on 0 blocks c.select_missing.new.into =
    bucket_picked (terms t) missing blocks docs ∙ ap (places_on 0 blocks) (sym set) in
    subst (λ (X : List Place). AddUp x (stats_over c.args.into.now.stats X)) places (c.requires.add_up missing asked x there)

pub returns : goal.returns
returns c =
    let t = terms_view c.args.terms.now in
    let blocks = c.args.segment.now.blocks in
    let docs = c.args.docs.now in
    let Y = places_on 0 blocks docs in
    let old = c.args.into.now in
    let new = c.add_documents.new.into in
    let asked : t.missing ≡ true = search rules in
    let set : c.select_missing.new.into ≡ bucket_set (terms t) missing blocks docs =
    c.in_ok-select_missing.ensures.set ∙ bucket_where t missing blocks docs (column_values c.column.result.now) c.column.ensures.values in
    let places : bucket_places (terms t) missing Y ≡ places_on 0 blocks c.select_missing.new.into =
    bucket_picked (terms t) missing blocks docs ∙ ap (places_on 0 blocks) (sym set) in
    on_ok c.add_documents.result (GrowsBy missing (places_on 0 blocks c.select_missing.new.into) old new) (CollectsAmong (is_missing_key t) (terms t) old.stats Y old new)
    (λ grows. among_same (λ k. same_key k missing) (is_missing_key t) (terms t) old.stats Y old new (only_missing t asked)
    (one_bucket (terms t) missing Y old new (subst (λ (X : List Place). GrowsBy missing X old new) (sym places) grows)))
    c.add_documents.ensures
