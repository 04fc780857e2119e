-- Index order is a total order.
use Rattle.std.specs.Prelude.{◌≡◌, refl}
use Rattle.std.specs.Cmp.{IsTotalOrder, int_cmp_total}
use Rattle.std.specs.Cmp.Lexicographic.{nat_list_cmp_total}
use Rattle.std.specs.Ordering.{ordering_reverse}
use Rattle.std.specs.declared.cmp.Ordering.TheVariants.{Less, Equal}
use Rattle.fc_spec.specs.documents.Val.{Val, text, long, val_cmp}

-- the other way round, the answer is reversed
val_cmp_reversed : (v w : Val) → val_cmp v w ≡ ordering_reverse (val_cmp w v)
val_cmp_reversed (long a) (long b) = int_cmp_total.antisymm a b
val_cmp_reversed (long a) (text t) = refl
val_cmp_reversed (text s) (long b) = refl
val_cmp_reversed (text s) (text t) = nat_list_cmp_total.antisymm s t

-- what is less than a lesser one is less
val_cmp_less : (u v w : Val) → val_cmp u v ≡ Less → val_cmp v w ≡ Less → val_cmp u w ≡ Less
val_cmp_less (long a) (long b) (long c) h k = int_cmp_total.trans a b c h k
val_cmp_less (long a) v (text t) h k = refl
val_cmp_less (long a) (text t) (long c) h k = cc
val_cmp_less (text s) (long b) w h k = cc
val_cmp_less (text s) (text t) (long c) h k = cc
val_cmp_less (text s) (text t) (text r) h k = nat_list_cmp_total.trans s t r h k

-- values that tie compare alike
val_cmp_tied : (u v w : Val) → val_cmp u v ≡ Equal → val_cmp u w ≡ val_cmp v w
val_cmp_tied (long a) (long b) (long c) h = int_cmp_total.congr a b c h
val_cmp_tied (long a) (long b) (text t) h = refl
val_cmp_tied (long a) (text t) w h = cc
val_cmp_tied (text s) (long b) w h = cc
val_cmp_tied (text s) (text t) (long c) h = refl
val_cmp_tied (text s) (text t) (text r) h = nat_list_cmp_total.congr s t r h

pub val_cmp_total : IsTotalOrder val_cmp
val_cmp_total = record { antisymm = val_cmp_reversed; trans = val_cmp_less; congr = val_cmp_tied }
