use Rattle.std.proofs.Common.{◌≡◌, ◌∙◌, sym, length, map, false, nat_eq, arith}
use Rattle.std.proofs.lemmas.Bool.Decides.{nat_tests}
use Rattle.std.proofs.lemmas.List.{length-map}
use Rattle.fc_query.specs.QueryView.{clause_view}
use Rattle.fc_query.proofs.OneOptional.{not_one}
use Rattle.fc_query.proofs.meaning.is_one_optional.Goals as goal

pub returns-else-clauses-eq1 : goal.returns-else-clauses-eq1
returns-else-clauses-eq1 c =
    let several = c.if-clauses-eq1.false in
    let other : nat_eq (length c.args.clauses.now) 1 ≡ false = grind (arith, nat_tests) in
    other ∙ sym (not_one (map clause_view c.args.clauses.now) (λ h. several (simp length-map at h)))
