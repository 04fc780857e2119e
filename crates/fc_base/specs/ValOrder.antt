-- Index order on values is total, and so `==`, `<` and `cmp` have their laws.
use Rattle.std.specs.Prelude.{refl}
use Rattle.std.specs.Cmp.{IsTotalOrder, IsPartialOrder, IsEquivalence, on_total, po, eq_by_cmp_equiv}
use Rattle.std.specs.Ordering.{on, as_partial_cmp}
use Rattle.fc_spec.specs.documents.Val.{val_cmp, same_val}
use Rattle.fc_spec.specs.documents.ValOrder.{val_cmp_total}
use Rattle.fc_base.specs.View.{val_view}

pub vals_total : IsTotalOrder (on val_view val_cmp)
vals_total = on_total val_view val_cmp_total

pub vals_po : IsPartialOrder (on val_view same_val) (as_partial_cmp (on val_view val_cmp))
vals_po = po vals_total (λ x y. refl)

pub vals_equiv : IsEquivalence (on val_view same_val)
vals_equiv = eq_by_cmp_equiv vals_total
