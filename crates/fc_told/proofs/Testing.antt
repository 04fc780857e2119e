-- The test of a told bucket says that at each way below it the numbers there can be added.
use Rattle.std.proofs.Common.{◌≡◌, ℕ, zero, suc, ◌+◌, [], ◌∷◌, Bool, true, false, cond, Option, None, Some, refl, sym, ◌∙◌, ap, subst, arith}
use Rattle.std.specs.Option.{option_and_then}
use Rattle.std.proofs.lemmas.Bool.{and_parts, and_from}
use Rattle.fc_spec.specs.requests.Buckets.{Key}
use Rattle.fc_spec.specs.requests.Request.{Terms, Nodes, no_nodes, statistic, facet}
use Rattle.fc_spec.specs.requests.Statistics.{Stats}
use Rattle.fc_spec.specs.messages.KeyOrder.{same_key}
use Rattle.fc_spec.specs.messages.Message.{Partials, no_partials, partial, Rows, no_rows, row, Step, Way}
use Rattle.fc_spec.specs.messages.MessageShape as shape
use Rattle.fc_spec.specs.messages.Target.{facet_at, nodes_in}
use Rattle.fc_spec.specs.messages.Held.{HeldBucket, row_at, find_key, bucket_in, descend}
use Rattle.fc_spec.proofs.messages.Keys.{same_key_exact, same_key_itself}
use Rattle.fc_spec.proofs.messages.Ways.{some_exact, none_not_some}
use Rattle.fc_told.specs.Trees.{Tree, child, at}
use Rattle.fc_told.specs.Fitting.{numbers_fit, rows_fit, partials_fit, bucket_fits}
use Rattle.fc_told.proofs.Forks.{row_at-nothing}
use Rattle.fc_told.proofs.Rising.{Rise, first_once, rise_later, HasFittingRows, row_parts}

abbrev step_to : ℕ → Key → Step
step_to n k = record { node = n; key = k }

abbrev pub passes : Tree → HeldBucket → Bool
passes T b = bucket_fits T b.stats b.rows b.nodes

-- the bucket of a key of the j-th node
abbrev listed : ℕ → Key → Nodes → Rows → Option HeldBucket
listed j k nodes rows = find_key (nodes_in (facet_at j nodes)) k (row_at j nodes rows)

-- at each way from the bucket on
abbrev pub EachFits : Tree → HeldBucket → Type 0
EachFits T b = (way : Way) (c : HeldBucket) → descend way b ≡ Some c → numbers_fit (at way T) c.stats ≡ true

-- ---- from the test to each way

partials_fit_at : (T : Tree) (n : ℕ) (k : Key) (ps : Partials) (inner : Nodes) (c : HeldBucket) → partials_fit T n ps inner ≡ true → find_key inner k ps ≡ Some c → passes (child (step_to n k) T) c ≡ true
partials_fit_at T n k no_partials inner c h f = absurd (none_not_some c f)
partials_fit_at T n k (partial l stats rows rest) inner c h f = go (same_key k l) refl f (partials_fit_at T n k rest inner c both.1)
  where
    here : HeldBucket
    here = record { stats = stats; nodes = inner; rows = rows }

    both : (passes (child (step_to n l) T) here ≡ true) × (partials_fit T n rest inner ≡ true)
    both = and_parts (passes (child (step_to n l) T) here) (partials_fit T n rest inner) h

    go : (b : Bool) → same_key k l ≡ b → cond b (Some here) (find_key inner k rest) ≡ Some c → (find_key inner k rest ≡ Some c → passes (child (step_to n k) T) c ≡ true) → passes (child (step_to n k) T) c ≡ true
    go true e g ih = subst (λ b. passes (child (step_to n k) T) b ≡ true) (some_exact here c g) (subst (λ x. passes (child (step_to n x) T) here ≡ true) (sym (same_key_exact k l e)) both.0)
    go false e g ih = ih g

rows_fit_at : (T : Tree) (m n j : ℕ) (k : Key) (rows : Rows) (nodes : Nodes) (c : HeldBucket) → m ≡ n + j → rows_fit T n rows nodes ≡ true → listed j k nodes rows ≡ Some c → passes (child (step_to m k) T) c ≡ true
rows_fit_at T m n j k no_rows nodes c e h f = absurd (none_not_some c (sym (ap (find_key (nodes_in (facet_at j nodes)) k) (row_at-nothing j nodes)) ∙ f))
rows_fit_at T m n j k (row ps rest) no_nodes c e h f = absurd (none_not_some c f)
rows_fit_at T m n zero k (row ps rest) (statistic name s nodes) c e h f = absurd (none_not_some c f)
rows_fit_at T m n (suc j) k (row ps rest) (statistic name s nodes) c e h f = rows_fit_at T m (suc n) j k (row ps rest) nodes c (omega arith) h f
rows_fit_at T m n zero k (row ps rest) (facet g inner nodes) c e h f =
    let same : n ≡ m = omega arith in
    subst (λ x. passes (child (step_to x k) T) c ≡ true) same (partials_fit_at T n k ps inner c (and_parts (partials_fit T n ps inner) (rows_fit T (suc n) rest nodes) h).0 f)
rows_fit_at T m n (suc j) k (row ps rest) (facet g inner nodes) c e h f = rows_fit_at T m (suc n) j k rest nodes c (omega arith) (and_parts (partials_fit T n ps inner) (rows_fit T (suc n) rest nodes) h).1 f

pub fits_at : (way : Way) (T : Tree) (b c : HeldBucket) → passes T b ≡ true → descend way b ≡ Some c → numbers_fit (at way T) c.stats ≡ true
fits_at [] T b c h e = subst (λ (d : HeldBucket). numbers_fit T d.stats ≡ true) (some_exact b c e) (and_parts (numbers_fit T b.stats) (rows_fit T 0 b.rows b.nodes) h).0
fits_at (s ∷ way) T b c h e = go (bucket_in s.node s.key b) refl e (λ d. fits_at way (child s T) d c)
  where
    go : (o : Option HeldBucket) → bucket_in s.node s.key b ≡ o → option_and_then (descend way) o ≡ Some c → ((d : HeldBucket) → passes (child s T) d ≡ true → descend way d ≡ Some c → numbers_fit (at way (child s T)) c.stats ≡ true) → numbers_fit (at way (child s T)) c.stats ≡ true
    go None at_s f ih = absurd (none_not_some c f)
    go (Some d) at_s f ih = ih d (rows_fit_at T s.node 0 s.node s.key b.rows b.nodes d (omega arith) (and_parts (numbers_fit T b.stats) (rows_fit T 0 b.rows b.nodes) h).1 at_s) f

-- ---- from each way to the test

abbrev EachRowFits : Tree → ℕ → Rows → Nodes → Type 0
EachRowFits T n rows nodes = (m j : ℕ) (k : Key) (c : HeldBucket) → m ≡ n + j → listed j k nodes rows ≡ Some c → EachFits (child (step_to m k) T) c

abbrev EachKeyFits : Tree → ℕ → Partials → Nodes → Type 0
EachKeyFits T n ps inner = (k : Key) (c : HeldBucket) → find_key inner k ps ≡ Some c → EachFits (child (step_to n k) T) c

each_below : (T : Tree) (b : HeldBucket) → EachFits T b → EachRowFits T 0 b.rows b.nodes
each_below T b f m j k c e h =
    let same : j ≡ m = omega arith in
    subst (λ x. EachFits (child (step_to x k) T) c) same (λ way d g. f (step_to j k ∷ way) d (ap (option_and_then (descend way)) h ∙ g))

later_key : (inner : Nodes) (k l : Key) (stats : Stats) (rows : Rows) (rest : Partials) (c : HeldBucket) → Rise (partial l stats rows rest) → find_key inner k rest ≡ Some c → find_key inner k (partial l stats rows rest) ≡ Some c
later_key inner k l stats rows rest c up h = go (same_key k l) refl
  where
    go : (b : Bool) → same_key k l ≡ b → cond b (Some (record { stats = stats; nodes = inner; rows = rows })) (find_key inner k rest) ≡ Some c
    go true e = absurd (none_not_some c (sym (ap (λ x. find_key inner x rest) (same_key_exact k l e) ∙ first_once inner l stats rows rest up) ∙ h))
    go false e = h

module _ (most : Terms → Option ℕ) where
  mutual
    rows_fit_from : (T : Tree) (n : ℕ) (rows : Rows) (nodes : Nodes) → shape.rows_fit most rows nodes ≡ true → EachRowFits T n rows nodes → rows_fit T n rows nodes ≡ true
    rows_fit_from T n no_rows nodes d f = refl
    rows_fit_from T n (row ps rest) no_nodes d f = refl
    rows_fit_from T n (row ps rest) (statistic name s nodes) d f = rows_fit_from T (suc n) (row ps rest) nodes d (λ m j k c e h. f m (suc j) k c (omega arith) h)
    rows_fit_from T n (row ps rest) (facet g inner nodes) d f =
        let parts = row_parts most g inner nodes ps rest d in
        and_from (partials_fit T n ps inner) (rows_fit T (suc n) rest nodes) (partials_fit_from T n ps inner parts.0 parts.1 (λ k c h. f n 0 k c (omega arith) h)) (rows_fit_from T (suc n) rest nodes parts.2 (λ m j k c e h. f m (suc j) k c (omega arith) h))

    partials_fit_from : (T : Tree) (n : ℕ) (ps : Partials) (inner : Nodes) → Rise ps → shape.insides_fit most ps inner ≡ true → EachKeyFits T n ps inner → partials_fit T n ps inner ≡ true
    partials_fit_from T n no_partials inner up d f = refl
    partials_fit_from T n (partial l stats rows rest) inner up d f =
        let b : HeldBucket = record { stats = stats; nodes = inner; rows = rows } in
        let U = child (step_to n l) T in
        let here : EachFits U b = f l b (ap (λ x. cond x (Some b) (find_key inner l rest)) (same_key_itself l)) in
        let insides = and_parts (shape.rows_fit most rows inner) (shape.insides_fit most rest inner) d in
        and_from (passes U b) (partials_fit T n rest inner) (and_from (numbers_fit U stats) (rows_fit U 0 rows inner) (here [] b refl) (rows_fit_from U 0 rows inner insides.0 (each_below U b here)))
        (partials_fit_from T n rest inner (rise_later l stats rows rest up).1 insides.1 (λ k c h. f k c (later_key inner k l stats rows rest c up h)))

  pub fits_from : (T : Tree) (b : HeldBucket) → HasFittingRows most b → EachFits T b → passes T b ≡ true
  fits_from T b d f = and_from (numbers_fit T b.stats) (rows_fit T 0 b.rows b.nodes) (f [] b refl) (rows_fit_from T 0 b.rows b.nodes d (each_below T b f))
