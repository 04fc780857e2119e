use Rattle.std.proofs.Common.{◌≡◌, ◌+◌, ◌<◌, suc, Bool, true, false, not, List, ◌∷◌, drop, drop-cons, add-one, length, map, sym, ap, ◌∙◌, subst, rules}
use Rattle.std.proofs.lemmas.List.{drop_all}
use Rattle.std.proofs.lemmas.Simd.{map-map, splat_is_map}
use Rattle.fc_base.specs.View.{val_view}
use Rattle.fc_query.specs.QueryView.{Part, bound_view, clause_step, clauses_view, need_view, query_step, query_view}
use Rattle.fc_query.specs.declared.query.Clause.{Clause}
use Rattle.fc_query.specs.declared.query.Query.TheFolds.{fold_out-Clause}
use Rattle.fc_spec.specs.queries.Query as definition
use Rattle.fc_spec.specs.documents.Document.{Document, values_of}
use Rattle.fc_spec.specs.words.Lists.{is_empty}
use Rattle.fc_spec.specs.queries.Matching.{answers, matches, same_need}
use Rattle.fc_spec.specs.documents.Totals.{documents_in}
use Rattle.fc_spec.specs.documents.Val.{has_val}
use Rattle.fc_domain.specs.FieldsFit.{AllFitFields}
use Rattle.fc_domain.specs.Grouping.{all_taken}
use Rattle.fc_domain.specs.Within.{has_meeting}
use Rattle.fc_domain.proofs.Settled.{all_are_settled}
use Rattle.fc_domain.proofs.GroupSets.{group_set, on_ok}
use Rattle.fc_domain.proofs.TakenSoFar.{AreTaken, one_taken, none_more_taken, all_are_taken}
use Rattle.fc_domain.proofs.QueryViews.{view_of_all, view_of_has, view_of_is, view_of_between, view_of_group}
use Rattle.fc_domain.proofs.matching.+matching.Goals as goal
use Rattle.fc_domain.proofs.matching.+matching.Goals.{take_clauses-then-eq+in_ok-select, take_clauses-else-eq}

pub select-returns-in-All-clause-set : goal.select-returns-in-All-clause-set
select-returns-in-All-clause-set t c =
    let ds = documents_in c.args.segment.now.blocks in
    let q : query_view c.args.query.now ≡ definition.all = ap query_view c.in-All.is ∙ view_of_all in
    c.fill.ensures ∙ splat_is_map ds (length c.args.into.now) true (sym c.requires.length)
    ∙ ap (λ q. map (matches q) ds) (sym q)

pub select-returns-in-Has-clause-set : goal.select-returns-in-Has-clause-set
select-returns-in-Has-clause-set t c =
    let ds = documents_in c.args.segment.now.blocks in
    let q : query_view c.args.query.now ≡ definition.has c.in-Has.field.0 = ap query_view c.in-Has.is ∙ view_of_has _ in
    c.select_any.ensures ∙ ap (map (λ vs. not (is_empty vs))) c.column.ensures.values
    ∙ map-map (λ vs. not (is_empty vs)) (λ d. values_of d c.in-Has.field.0) ds
    ∙ ap (λ q. map (matches q) ds) (sym q)

pub select-returns-in-Is-clause-set : goal.select-returns-in-Is-clause-set
select-returns-in-Is-clause-set t c =
    let ds = documents_in c.args.segment.now.blocks in
    let v = val_view c.in-Is.value in
    let q : query_view c.args.query.now ≡ definition.is c.in-Is.field.0 v = ap query_view c.in-Is.is ∙ view_of_is _ _ in
    c.select_value.ensures ∙ ap (map (has_val v)) c.column-in-Is.ensures.values
    ∙ map-map (has_val v) (λ d. values_of d c.in-Is.field.0) ds
    ∙ ap (λ q. map (matches q) ds) (sym q)

pub select-returns-in-Between-clause-set : goal.select-returns-in-Between-clause-set
select-returns-in-Between-clause-set t c =
    let ds = documents_in c.args.segment.now.blocks in
    let p = has_meeting (bound_view c.in-Between.low) (bound_view c.in-Between.high) in
    let q : query_view c.args.query.now ≡ definition.between c.in-Between.field.0 (bound_view c.in-Between.low) (bound_view c.in-Between.high) = ap query_view c.in-Between.is ∙ view_of_between _ _ _ in
    c.select_between.ensures ∙ ap (map p) c.column-in-Between.ensures.values
    ∙ map-map p (λ d. values_of d c.in-Between.field.0) ds
    ∙ ap (λ q. map (matches q) ds) (sym q)

pub select-returns-in-Group-clause-set : goal.select-returns-in-Group-clause-set
select-returns-in-Group-clause-set t c =
    let ds = documents_in c.args.segment.now.blocks in
    let cs = clauses_view c.in-Group.clauses.items in
    let n = need_view c.begin-first.result in
    let q : query_view c.args.query.now ≡ definition.group cs = ap query_view c.in-Group.is ∙ view_of_group _ in
    let first : (before : Document → Bool) → c.begin-first.new.into ≡ map before ds
    → c.take_clauses.new.into ≡ map (λ d. all_taken n (before d) (answers (clauses_view c.deref-in-Group.result.now) n d)) ds =
    c.in_ok-take_clauses-in-Group.ensures.set in
    on_ok c.take_clauses-in-Group.result
    ((before : Document → Bool) → c.take_clauses.new.into ≡ map before ds
    → c.take_clauses-in-Group.new.into ≡ map (λ d. all_taken definition.must_not (before d) (answers (clauses_view c.deref-in-Group-2.result.now) definition.must_not d)) ds)
    (c.take_clauses-in-Group.new.into ≡ map (matches (query_view c.args.query.now)) ds)
    (λ second. group_set ds cs (clauses_view c.deref.result.now) (clauses_view c.deref-in-Group.result.now) (clauses_view c.deref-in-Group-2.result.now)
    n (length c.args.into.now) c.begin-first.new.into c.take_clauses.new.into c.take_clauses-in-Group.new.into
    (ap clauses_view c.deref.ensures.value) (ap clauses_view c.deref-in-Group.ensures.value) (ap clauses_view c.deref-in-Group-2.ensures.value)
    c.begin-first.ensures.need (sym c.requires.length) c.begin-first.ensures.set first second
    ∙ ap (λ q. map (matches q) ds) (sym q))
    c.take_clauses-in-Group.ensures.set

pub take_clauses-loop-clause-preserved : goal.take_clauses-loop-clause-preserved
take_clauses-loop-clause-preserved t c =
    let texts = c.args.segment.now.texts in
    let ds = documents_in c.args.segment.now.blocks in
    let need = need_view c.args.need in
    let xs = c.args.clauses.now in
    let whole = clauses_view xs in
    let i = c.loop-clause.clause-index in
    let item = c.clause-item.result in
    let n = need_view item.need in
    let q = query_view item.query in
    let left = clauses_view (drop (i + 1) xs) in
    let here : i < length xs = c.loop-clause-test.true in
    let first : drop i xs ≡ item ∷ drop (i + 1) xs = rw add-one (drop-cons xs i item here ∙ ap (λ x. x ∷ drop (suc i) xs) (sym c.clause-item.is)) in
    let cut : clauses_view (drop i xs) ≡ definition.clause n q left =
    ap clauses_view first ∙ ap (λ p. definition.clause p.0 p.1 left) (fold_out-Clause definition.Query Part query_step clause_step item) in
    let fit = subst (AllFitFields texts) cut c.loop-clause.invariant.fits in
    let mid = c.loop-clause.into in
    let so_far = subst (λ cs. AreTaken ds need cs whole c.args.into.now mid) cut c.loop-clause.invariant.taken in
    elim c.if-eq.branch [
      | take_clauses-then-eq+in_ok-select w ↦
          let set = w.select.new.into in
          let same : same_need n need ≡ true = search rules in
          let even : length mid ≡ length set =
          c.loop-clause.invariant.taken.size ∙ c.requires.length ∙ sym c.requires.scratch ∙ sym c.loop-clause.invariant.scratch ∙ sym w.in_ok-select.ensures.length in
          record {
            fits = fit.1;
            scratch = ap length w.scratch-is ∙ w.in_ok-select.ensures.length ∙ c.loop-clause.invariant.scratch;
            taken = subst (AreTaken ds need left whole c.args.into.now) (sym w.into-is)
                (one_taken ds need n q left whole c.args.into.now mid set w.take.new.set so_far same w.in_ok-select.ensures.set w.take.ensures even);
          }
      | take_clauses-else-eq w ↦
          let other : same_need n need ≡ false = search rules in
          record {
            fits = fit.1;
            scratch = ap length w.scratch-is ∙ c.loop-clause.invariant.scratch;
            taken = subst (AreTaken ds need left whole c.args.into.now) (sym w.into-is)
                (none_more_taken ds need n q left whole c.args.into.now mid so_far other);
          }
    ]

pub take_clauses-returns-clause-set : goal.take_clauses-returns-clause-set
take_clauses-returns-clause-set t c =
    let ds = documents_in c.args.segment.now.blocks in
    let need = need_view c.args.need in
    let whole = clauses_view c.args.clauses.now in
    let none = drop_all c.loop-clause.clause-index c.args.clauses.now c.loop-clause-test.false in
    all_are_taken ds need whole c.args.into.now c.loop-clause.into
    (subst (λ (xs : List Clause). AreTaken ds need (clauses_view xs) whole c.args.into.now c.loop-clause.into) none c.loop-clause.invariant.taken)

pub take_clauses-returns-then-is_settled-clause-set : goal.take_clauses-returns-then-is_settled-clause-set
take_clauses-returns-then-is_settled-clause-set t c =
    all_are_settled (documents_in c.args.segment.now.blocks) (need_view c.args.need) (clauses_view (drop c.loop-clause.clause-index c.args.clauses.now)) (clauses_view c.args.clauses.now)
    c.args.into.now c.loop-clause.into c.loop-clause.invariant.taken c.if-is_settled.ensures.stays c.if-is_settled.ensures.none
