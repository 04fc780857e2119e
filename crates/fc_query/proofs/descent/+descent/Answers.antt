use Rattle.std.proofs.Common.{◌≡◌, ◌∙◌, ap, sym, refl, ◌-◌, map, [], ◌∷◌, ◌++◌, false, true, arith}
use Rattle.std.proofs.lemmas.List.{map-append}
use Rattle.std.proofs.lemmas.Result.{err_from_is_err_and}
use Rattle.fc_spec.specs.queries.TreeReading.{clause_at, deeper_than, group_within}
use Rattle.fc_query.specs.TreeView.{behind_operator, clause_view, is_end_of, row_of}
use Rattle.fc_query.proofs.GroupsSoFar.{first_read, no_first, next_read, no_next, next_is_shorter, group_ends, group_is, none_deeper, group_deeper}
use Rattle.fc_query.proofs.NestedAtoms.{stops_on, no_group, not_closed, is_closed}
use Rattle.fc_query.proofs.descent.+descent.Goals as goal

pub group-returns-in_err-first : goal.group-returns-in_err-first
group-returns-in_err-first t c =
    let a = c.args in
    let p = err_from_is_err_and c.from_residual.result c.from_residual.ensures.1 in
    rw (p.1, p.2) (stops_on c.in_err-first.field-0.0 _ _ (λ h. group_is a.depth a.in_field (row_of a.tokens.now) ∙ no_first (deeper_than a.depth) a.in_field (row_of a.tokens.now) h) c.in_err-first.ensures)

pub group-others-init : goal.group-others-init
group-others-init t c =
    let a = c.args in
    let pushed : map clause_view c.push.new.self.items ≡ clause_view c.in_ok-first.first ∷ [] =
    ap (map clause_view) c.in_ok-push.ensures.items ∙ ap (λ xs. map clause_view (xs ++ c.in_ok-first.first ∷ [])) c.new-clauses.ensures.items in
    rw (pushed, group_is a.depth a.in_field (row_of a.tokens.now)) (first_read (deeper_than a.depth) a.in_field (row_of a.tokens.now) _ _ c.in_ok-first.ensures)

pub group-returns-in_err-next : goal.group-returns-in_err-next
group-returns-in_err-next t c =
    let a = c.args in
    let deeper = deeper_than a.depth in
    let ts = row_of c.others.left.now in
    let goes : is_end_of ts ≡ false = sym c.is_end.ensures ∙ c.others-test.true in
    let same = ap (λ x. behind_operator x.0 (clause_at deeper a.in_field x.1)) c.operator_of-operator.ensures in
    let p = err_from_is_err_and c.from_residual-in_err-next.result c.from_residual-in_err-next.ensures.1 in
    rw (p.1, p.2) (stops_on c.in_err-next.field-0.0 _ _ (λ h. no_next deeper (map clause_view c.others.clauses.items) a.in_field ts (group_within a.depth a.in_field (row_of a.tokens.now)) goes (sym same ∙ h) c.others.invariant) c.in_err-next.ensures)

pub group-others-smaller : goal.group-others-smaller
group-others-smaller t c =
    let a = c.args in
    let same = ap (λ x. behind_operator x.0 (clause_at (deeper_than a.depth) a.in_field x.1)) c.operator_of-operator.ensures in
    next_is_shorter a.depth a.in_field (row_of c.others.left.now) _ _ (sym same ∙ c.in_ok-next.ensures)

pub group-others-preserved : goal.group-others-preserved
group-others-preserved t c =
    let a = c.args in
    let ts = row_of c.others.left.now in
    let goes : is_end_of ts ≡ false = sym c.is_end.ensures ∙ c.others-test.true in
    let same = ap (λ x. behind_operator x.0 (clause_at (deeper_than a.depth) a.in_field x.1)) c.operator_of-operator.ensures in
    let pushed : map clause_view c.push-in-others.new.self.items ≡ map clause_view c.others.clauses.items ++ clause_view c.in_ok-next.next ∷ [] =
    ap (map clause_view) c.in_ok-push-2.ensures.items ∙ map-append clause_view c.others.clauses.items _ in
    rw pushed (next_read a.depth (map clause_view c.others.clauses.items) a.in_field ts _ _ (group_within a.depth a.in_field (row_of a.tokens.now)) goes (sym same ∙ c.in_ok-next.ensures) c.others.invariant)

pub group-returns : goal.group-returns
group-returns t c =
    let a = c.args in
    let ts = row_of c.others.left.now in
    let ends : is_end_of ts ≡ true = sym c.is_end.ensures ∙ c.others-test.false in
    group_ends (deeper_than a.depth) (map clause_view c.others.clauses.items) a.in_field ts _ ends c.others.invariant

pub nested-returns-then-depth-eq0 : goal.nested-returns-then-depth-eq0
nested-returns-then-depth-eq0 t c =
    let a = c.args in
    (no_group (deeper_than a.depth) _ a.in_field (row_of a.tokens.now) (none_deeper a.depth a.in_field (row_of a.tokens.now) c.if-depth-eq0.true), refl)

pub nested-returns-in_err-clauses : goal.nested-returns-in_err-clauses
nested-returns-in_err-clauses t c =
    let a = c.args in
    let inner = group_deeper a.depth (a.depth - 1) a.in_field (row_of a.tokens.now) (omega (arith, c.if-depth-eq0.false)) in
    let p = err_from_is_err_and c.from_residual.result c.from_residual.ensures.1 in
    rw (p.1, p.2) (stops_on c.in_err-clauses.field-0.0 _ _ (λ h. no_group (deeper_than a.depth) _ a.in_field (row_of a.tokens.now) (inner ∙ h)) c.in_err-clauses.ensures)

pub nested-returns-in-Some : goal.nested-returns-in-Some
nested-returns-in-Some t c =
    let a = c.args in
    let inner = group_deeper a.depth (a.depth - 1) a.in_field (row_of a.tokens.now) (omega (arith, c.if-depth-eq0.false)) in
    rw c.nested_atom.ensures (is_closed (deeper_than a.depth) _ a.in_field (row_of a.tokens.now) _ _ _ (inner ∙ c.in_ok-clauses.ensures) (sym c.in-Some.ensures))

pub nested-returns : goal.nested-returns
nested-returns t c =
    let a = c.args in
    let inner = group_deeper a.depth (a.depth - 1) a.in_field (row_of a.tokens.now) (omega (arith, c.if-depth-eq0.false)) in
    (not_closed (deeper_than a.depth) _ a.in_field (row_of a.tokens.now) _ _ (inner ∙ c.in_ok-clauses.ensures) (sym c.in-None.ensures), refl)
