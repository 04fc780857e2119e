use Rattle.std.proofs.Common.{◌≡◌, ◌∙◌, ◌+◌, ◌<◌, ◌-◌, List, ap, sym, subst, suc, take, add-one, drop, drop-cons, length, map, [], ◌∷◌, ◌++◌, option_map, arith}
use Rattle.std.proofs.lemmas.List.{map-append, take_all, drop_all, length-drop}
use Rattle.fc_spec.specs.queries.QueryTrees.{Atom, Group}
use Rattle.fc_spec.specs.queries.Query.{Query}
use Rattle.fc_spec.specs.queries.QueryMeaning.{clauses_query, need_of, next_operator}
use Rattle.fc_query.specs.declared.query.Query.TheFolds.{fold-roll-Clause}
use Rattle.fc_query.specs.declared.query.Query.TheViews.{roll-Clause}
use Rattle.fc_query.specs.declared.trees.Clause.{Clause}
use Rattle.fc_query.specs.declared.trees.Atom.TheFolds.{fold_out-Clause as tree_out}
use Rattle.fc_query.specs.QueryView as q
use Rattle.fc_query.specs.TreeView as tree
use Rattle.fc_query.specs.View.{operator_view, sign_view}
use Rattle.fc_query.proofs.ClausesSoFar.{AreSoFar, one_more, all_read}
use Rattle.fc_query.proofs.meaning.+building.Goals as goal

pub clauses_query-loop-i-preserved : goal.clauses_query-loop-i-preserved
clauses_query-loop-i-preserved t c =
    let a = c.args in
    let s = a.schema.now in
    let around = option_map (λ id. id.0) a.around in
    let before = map q.clause_view c.loop-i.queries.items in
    let i = c.loop-i.i in
    let item = c.index-clauses-i.result in
    let xs = a.clauses.now in
    let rest = map tree.clause_view (drop (i + 1) xs) in
    let part : tree.Part = (option_map operator_view item.operator, option_map sign_view item.sign, tree.atom_view item.atom) in
    let here : i < length xs = omega (arith, c.loop-i-test.true) in
    let first : drop i xs ≡ item ∷ drop (i + 1) xs = rw add-one (drop-cons xs i item here ∙ ap (λ x. x ∷ drop (suc i) xs) (sym c.index-clauses-i.is)) in
    let cut : tree.group_view (drop i xs) ≡ tree.linked (part ∷ rest) =
    ap tree.group_view first ∙ ap (λ p. tree.linked (p ∷ rest)) (tree_out Atom tree.Part tree.atom_step tree.clause_step item) in
    let behind : take (length xs - (i + 1)) (drop (i + 1) xs) ≡ drop (i + 1) xs = take_all _ _ (omega (arith, length-drop (i + 1) xs)) in
    let next = c.next_operator.ensures ∙ ap (λ ys. next_operator (tree.group_view ys)) behind in
    let need = c.need_of-need.ensures ∙ ap (need_of part.1 part.0) next in
    let clause = q.clause_view (roll-Clause (record { need = c.need_of-need.result; query = c.in_ok-query.query })) in
    let made : clause ≡ (need_of part.1 part.0 (next_operator (tree.linked rest)), q.query_view c.in_ok-query.query) =
    fold-roll-Clause Query q.Part q.query_step q.clause_step (record { need = c.need_of-need.result; query = c.in_ok-query.query }) ∙ ap (λ n. (n, q.query_view c.in_ok-query.query)) need in
    let pushed : map q.clause_view c.push.new.self.items ≡ before ++ (need_of part.1 part.0 (next_operator (tree.linked rest)), q.query_view c.in_ok-query.query) ∷ [] =
    ap (map q.clause_view) c.in_ok-push.ensures.items ∙ map-append q.clause_view c.loop-i.queries.items _ ∙ ap (λ p. before ++ p ∷ []) made in
    let whole = clauses_query s around (tree.group_view xs) in
    let here_is = subst (λ (g : Group). AreSoFar s around before g whole) cut c.loop-i.invariant in
    rw pushed (one_more s around before part rest (q.query_view c.in_ok-query.query) whole c.in_ok-query.ensures here_is)

pub clauses_query-returns : goal.clauses_query-returns
clauses_query-returns t c =
    let a = c.args in
    let around = option_map (λ id. id.0) a.around in
    let whole = clauses_query a.schema.now around (tree.group_view a.clauses.now) in
    let before = map q.clause_view c.loop-i.queries.items in
    let none = drop_all c.loop-i.i a.clauses.now c.loop-i-test.false in
    all_read a.schema.now around before whole (subst (λ (xs : List Clause). AreSoFar a.schema.now around before (tree.group_view xs) whole) none c.loop-i.invariant)
