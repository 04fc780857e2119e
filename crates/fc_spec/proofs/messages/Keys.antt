-- Keys that compare alike are one.
use Rattle.std.proofs.Common.{◌≡◌, true, refl, ap}
use Rattle.std.specs.Cmp.{Equal-is}
use Rattle.std.specs.Ordering.{is_eq, nat_cmp}
use Rattle.std.proofs.lemmas.Bool.{false≢true}
use Rattle.std.proofs.lemmas.Cmp.{nat_cmp_total, tied_itself}
use Rattle.std.proofs.lemmas.Map.Lookups.{exact_unsigned}
use Rattle.fc_spec.specs.requests.Buckets.{Key, value, missing, gap, before, between, after, whole}
use Rattle.fc_spec.specs.messages.KeyOrder.{same_key}
use Rattle.fc_spec.proofs.documents.ValOrder.{same_val_exact, same_val_itself}

pub same_key_exact : (k l : Key) → same_key k l ≡ true → k ≡ l
same_key_exact (value v) (value w) h = ap value (same_val_exact v w h)
same_key_exact (gap i) (gap j) h = ap gap (exact_unsigned i j ((Equal-is (nat_cmp i j)).0 h))
same_key_exact missing missing h = refl
same_key_exact before before h = refl
same_key_exact between between h = refl
same_key_exact after after h = refl
same_key_exact whole whole h = refl
same_key_exact _ _ h = absurd (false≢true h)

pub same_key_itself : (k : Key) → same_key k k ≡ true
same_key_itself (value v) = same_val_itself v
same_key_itself (gap i) = ap is_eq (tied_itself nat_cmp_total i)
same_key_itself missing = refl
same_key_itself before = refl
same_key_itself between = refl
same_key_itself after = refl
same_key_itself whole = refl
