-- Index order tells all values apart.
use Rattle.std.specs.Prelude.{◌≡◌, true}
use Rattle.std.specs.Cmp.{Equal-is, IsEquivalence, eq_by_cmp_equiv}
use Rattle.std.specs.declared.cmp.Ordering.TheVariants.{Equal}
use Rattle.std.proofs.Common.{ap}
use Rattle.std.proofs.lemmas.Map.Lookups.{exact_bytes, exact_signed}
use Rattle.fc_spec.specs.documents.Val.{Val, text, long, val_cmp, same_val}
use Rattle.fc_spec.specs.documents.ValOrder.{val_cmp_total}

-- values that tie are the same
pub exact_val : (a b : Val) → val_cmp a b ≡ Equal → a ≡ b
exact_val (long a) (long b) h = ap long (exact_signed a b h)
exact_val (long a) (text t) h = cc
exact_val (text s) (long b) h = cc
exact_val (text s) (text t) h = ap text (exact_bytes s t h)

pub same_val_equiv : IsEquivalence same_val
same_val_equiv = eq_by_cmp_equiv val_cmp_total

-- a value is the same as itself
pub same_val_itself : (v : Val) → same_val v v ≡ true
same_val_itself v = same_val_equiv.refl v

-- values that the test holds the same are the same
pub same_val_exact : (v w : Val) → same_val v w ≡ true → v ≡ w
same_val_exact v w h = exact_val v w ((Equal-is (val_cmp v w)).0 h)
