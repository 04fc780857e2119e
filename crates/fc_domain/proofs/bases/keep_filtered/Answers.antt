use Rattle.std.proofs.Common.{◌≡◌, ◌+◌, ◌∷◌, [], ◌&&◌, ◌||◌, Bool, false, true, drop, length, map, sym, ap, ◌∙◌, subst}
use Rattle.std.specs.List.{list_all}
use Rattle.std.proofs.lemmas.List.{nil_from_length}
use Rattle.std.proofs.lemmas.Bool.{eqb-true, or_left}
use Rattle.fc_spec.specs.documents.Document.{Document}
use Rattle.fc_spec.specs.documents.Sets.{zip_with, passing_of}
use Rattle.fc_spec.specs.queries.Matching.{matches}
use Rattle.fc_spec.specs.requests.Request as definition
use Rattle.fc_spec.specs.requests.Base.{has_tag_in}
use Rattle.fc_query.specs.FilterView.{filter_view}
use Rattle.fc_domain.specs.FieldsFit.{FitsFields}
use Rattle.fc_domain.proofs.ItemsLeft.{fact_at, next_left, none_left}
use Rattle.fc_domain.proofs.StepSets.{AreFilteredTo, passing_of-all, one_filtered, one_passed_over, all_filtered}
use Rattle.fc_domain.proofs.bases.keep_filtered.Goals as goal
use Rattle.fc_domain.proofs.bases.keep_filtered.Goals.{then-not-has_tag_in+in_ok-matches, else-not-has_tag_in}

pub returns-then-is_empty-clause-set : goal.returns-then-is_empty-clause-set
returns-then-is_empty-clause-set c =
    let blocks = c.args.segment.now.blocks in
    let into = c.args.into.now in
    let none : c.args.filters.now ≡ [] = nil_from_length c.args.filters.now (eqb-true (length c.args.filters.now) 0 (sym c.if-is_empty.ensures)) in
    sym (ap (λ filters. passing_of (λ d. list_all (λ f. has_tag_in c.args.exclude.now f || matches f.query d) (map filter_view filters)) blocks into) none ∙ passing_of-all blocks into c.requires.length)

pub matches-requires-clause-fits : goal.matches-requires-clause-fits
matches-requires-clause-fits c =
    fact_at (λ f. FitsFields c.args.segment.now.texts f.query) filter_view c.args.filters.now c.loop-filter.filter-index c.filter-item.result c.requires.fits c.loop-filter-test.true c.filter-item.is

pub loop-filter-preserved : goal.loop-filter-preserved
loop-filter-preserved c =
    let blocks = c.args.segment.now.blocks in
    let filters = c.args.filters.now in
    let exclude = c.args.exclude.now in
    let i = c.loop-filter.filter-index in
    let f = filter_view c.filter-item.result in
    let whole = map filter_view filters in
    let old = c.args.into.now in
    let into = c.loop-filter.into in
    let test : definition.Filter → Document → Bool = λ f d. has_tag_in exclude f || matches f.query d in
    let rest = map filter_view (drop (i + 1) filters) in
    let left = next_left filter_view filters i c.filter-item.result c.loop-filter-test.true c.filter-item.is in
    let so_far : AreFilteredTo test blocks (f ∷ rest) whole old into = subst (λ l. AreFilteredTo test blocks l whole old into) left c.loop-filter.invariant.0 in
    elim c.if-not-has_tag_in.branch [
      | then-not-has_tag_in+in_ok-matches w ↦
          let none : has_tag_in exclude f ≡ false = sym c.has_tag_in.ensures ∙ w.if-not-has_tag_in.true in (
            subst (AreFilteredTo test blocks rest whole old) (sym w.into-is)
                (one_filtered test blocks f rest whole old into w.and_with.new.self so_far
                (w.and_with.ensures ∙ ap (zip_with ◌&&◌ into) w.in_ok-matches.ensures.set ∙ sym (λ i. passing_of (λ d. none i || matches f.query d) blocks into))),
            ap length w.answers-is ∙ w.in_ok-matches.ensures.length ∙ c.loop-filter.invariant.1,
          )
      | else-not-has_tag_in w ↦
          let some : has_tag_in exclude f ≡ true = sym c.has_tag_in.ensures ∙ w.if-not-has_tag_in.false in (
            subst (AreFilteredTo test blocks rest whole old) (sym w.into-is)
                (one_passed_over test blocks f rest whole old into so_far (λ d. or_left (has_tag_in exclude f) (matches f.query d) some)),
            ap length w.answers-is ∙ c.loop-filter.invariant.1,
          )
    ]

pub returns-clause-set : goal.returns-clause-set
returns-clause-set c =
    let blocks = c.args.segment.now.blocks in
    let filters = c.args.filters.now in
    let whole = map filter_view filters in
    let test : definition.Filter → Document → Bool = λ f d. has_tag_in c.args.exclude.now f || matches f.query d in
    all_filtered test blocks whole c.args.into.now c.loop-filter.into
    (subst (λ l. AreFilteredTo test blocks l whole c.args.into.now c.loop-filter.into) (none_left filter_view filters c.loop-filter.filter-index c.loop-filter-test.false) c.loop-filter.invariant.0)
