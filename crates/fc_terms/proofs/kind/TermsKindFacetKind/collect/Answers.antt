use Rattle.std.proofs.Common.{◌≡◌, List, sym, ap, subst}
use Rattle.fc_domain.proofs.GroupSets.{on_ok}
use Rattle.fc_facet.specs.KindView.{terms_view}
use Rattle.fc_kind.specs.Collecting.{BucketsAddUp, Collects, CollectsAmong}
use Rattle.fc_request.specs.FacetNode.{kind_of, kind_view}
use Rattle.fc_spec.specs.documents.Sets.{places_on}
use Rattle.fc_spec.specs.requests.Request.{Kind, Stat, terms}
use Rattle.fc_terms.specs.AddingUp.{AddUpAmong}
use Rattle.fc_terms.specs.Values.{is_missing_key}
use Rattle.fc_terms.proofs.TermsKeys.{both_collected, missing_adds_up}
use Rattle.fc_terms.proofs.kind.TermsKindFacetKind.collect.Goals as goal

pub collect_values-requires-clause-add_up : goal.collect_values-requires-clause-add_up
collect_values-requires-clause-add_up c =
    let old = c.args.into.now in
    let Y = places_on 0 c.args.segment.now.blocks c.args.docs.now in
    let kind : kind_view (kind_of c.args.node.now) ≡ terms (terms_view c.in-Terms.terms) = ap kind_view c.in-Terms.is in
    subst (λ (k : Kind). BucketsAddUp k old.stats Y old.entries) kind c.requires.add_up

pub collect_missing-requires-clause-add_up : goal.collect_missing-requires-clause-add_up
collect_missing-requires-clause-add_up c =
    let t = terms_view c.in-Terms.terms in
    let old = c.args.into.now in
    let mid = c.collect_values.new.into in
    let Y = places_on 0 c.args.segment.now.blocks c.args.docs.now in
    let kind : kind_view (kind_of c.args.node.now) ≡ terms t = ap kind_view c.in-Terms.is in
    let values = c.in_ok-collect_values.ensures in
    subst (λ (ss : List Stat). AddUpAmong (is_missing_key t) (terms t) ss Y mid.entries) (sym values.stats)
    (missing_adds_up t old.stats Y old mid (subst (λ (k : Kind). BucketsAddUp k old.stats Y old.entries) kind c.requires.add_up) values)

pub returns : goal.returns
returns c =
    let t = terms_view c.in-Terms.terms in
    let old = c.args.into.now in
    let mid = c.collect_values.new.into in
    let new = c.collect_missing.new.into in
    let Y = places_on 0 c.args.segment.now.blocks c.args.docs.now in
    let kind : kind_view (kind_of c.args.node.now) ≡ terms t = ap kind_view c.in-Terms.is in
    let values = c.in_ok-collect_values.ensures in
    on_ok c.collect_missing.result (CollectsAmong (is_missing_key t) (terms t) mid.stats Y mid new) (Collects (kind_view (kind_of c.args.node.now)) old.stats Y old new)
    (λ none. subst (λ (k : Kind). Collects k old.stats Y old new) (sym kind)
    (both_collected t old.stats Y old mid new values (subst (λ (ss : List Stat). CollectsAmong (is_missing_key t) (terms t) ss Y mid new) values.stats none)))
    c.collect_missing.ensures
