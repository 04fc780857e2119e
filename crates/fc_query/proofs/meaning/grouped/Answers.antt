use Rattle.std.proofs.Common.{◌≡◌, ◌∙◌, ap, sym, map, [], ◌∷◌, ◌++◌, true}
use Rattle.std.proofs.lemmas.List.{map-append}
use Rattle.fc_query.specs.declared.query.Query.TheFolds.{fold_out-Clause}
use Rattle.fc_query.specs.QueryView.{clause_view, clauses_view, is_one_optional_of, query_step, clause_step, Part}
use Rattle.fc_spec.specs.queries.Query.{Query}
use Rattle.fc_query.proofs.OneOptional.{grouped_one}
use Rattle.fc_query.proofs.meaning.grouped.Goals as goal

pub returns-in-Some : goal.returns-in-Some
returns-in-Some c =
    let one : is_one_optional_of (clauses_view c.args.clauses.items) ≡ true = ap (λ xs. is_one_optional_of (clauses_view xs)) (sym c.deref.ensures.value) ∙ sym c.is_one_optional.ensures ∙ c.if-is_one_optional.true in
    let last : map clause_view c.args.clauses.items ≡ map clause_view c.pop.new.self.items ++ clause_view c.in-Some.clause ∷ [] =
    ap (map clause_view) c.in-Some.ensures.items ∙ map-append clause_view c.pop.new.self.items _ in
    sym (ap (λ p. p.1) (fold_out-Clause Query Part query_step clause_step c.in-Some.clause)) ∙ sym (grouped_one _ _ _ one last)
