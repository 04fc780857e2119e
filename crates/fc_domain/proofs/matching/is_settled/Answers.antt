use Rattle.std.proofs.Common.{◌≡◌, false, Bool, List, sym, ap, subst}
use Rattle.fc_spec.specs.queries.Query as definition
use Rattle.fc_query.specs.QueryView.{need_view}
use Rattle.fc_docset.specs.Positions.{contains}
use Rattle.fc_domain.specs.Grouping.{all_taken}
use Rattle.fc_domain.proofs.GroupAnswers.{required_of_none, forbidden_of_none}
use Rattle.fc_domain.proofs.Settled.{none_found, on_true}
use Rattle.fc_domain.proofs.matching.is_settled.Goals as goal

abbrev Stays : definition.Need → Type 0
Stays need = (there : List Bool) → all_taken need false there ≡ false

pub returns-in-Must : goal.returns-in-Must
returns-in-Must c = record {
  none = none_found (contains c.args.set.now) c.next_from.result c.is_none.result c.is_none.ensures c.next_from.ensures.found;
  stays = on_true c.is_none.result (Stays (need_view c.args.need)) (subst Stays (sym (ap need_view c.in-Must.is)) required_of_none);
}

pub returns-in-MustNot : goal.returns-in-MustNot
returns-in-MustNot c = record {
  none = none_found (contains c.args.set.now) c.next_from-in-MustNot.result c.is_none-in-MustNot.result c.is_none-in-MustNot.ensures c.next_from-in-MustNot.ensures.found;
  stays = on_true c.is_none-in-MustNot.result (Stays (need_view c.args.need)) (subst Stays (sym (ap need_view c.in-MustNot.is)) forbidden_of_none);
}
