-- A told bucket put into a tree: at each way stands what is nested there, put into what stood there.
use Rattle.std.proofs.Common.{◌≡◌, ℕ, [], ◌∷◌, Bool, true, false, cond, Option, None, Some, refl, sym, ◌∙◌, ap}
use Rattle.std.specs.Option.{option_and_then}
use Rattle.fc_spec.specs.requests.Buckets.{Key}
use Rattle.fc_spec.specs.requests.Request.{Terms, Nodes}
use Rattle.fc_spec.specs.messages.KeyOrder.{same_key}
use Rattle.fc_spec.specs.messages.Message.{Partials, no_partials, partial, Step, Way}
use Rattle.fc_spec.specs.messages.Target.{facet_at, nodes_in}
use Rattle.fc_spec.specs.messages.Held.{HeldBucket, row_at, find_key, bucket_in, descend}
use Rattle.fc_spec.proofs.messages.Keys.{same_key_exact}
use Rattle.fc_told.specs.Trees.{Teller, Tree, tree, Branches, tellers_in, count_in, sizes_in, forks_in, branches_at, find_branch, child, at}
use Rattle.fc_told.specs.Adding.{with_teller, sum_of, sizes_added, changed_branch, numbers_added, forks_of, rows_added, partials_added}
use Rattle.fc_told.proofs.Branches.{Ascend, find_changed, find_changed_other, ascend_changed}
use Rattle.fc_told.proofs.Forks.{rows_added_at}
use Rattle.fc_told.proofs.Rising.{Rise, first_once, rise_later, HasFittingRows, row_rises, nested_fits}

-- at each way the keys of each node ascend
abbrev pub AllAscend : Tree → Type 0
AllAscend T = (n : ℕ) (way : Way) → Ascend (branches_at n (forks_in (at way T)))

module _ (i : ℕ) where
  abbrev pub teller_by : Bool → HeldBucket → Teller
  teller_by listed b = record { shard = i; stats = b.stats; listed = listed }

  abbrev pub put : Bool → Option HeldBucket → Tree → Tree
  put listed None T = T
  put listed (Some b) T = numbers_added (teller_by listed b) T (rows_added i 0 b.rows b.nodes (forks_of T))

  -- ---- what it has

  pub put_tellers : (listed : Bool) (b : HeldBucket) (T : Tree) → tellers_in (put listed (Some b) T) ≡ with_teller (teller_by listed b) (tellers_in T)
  put_tellers listed b (tree ts c zs fs) = refl

  pub put_count : (listed : Bool) (b : HeldBucket) (T : Tree) → count_in (put listed (Some b) T) ≡ sum_of (count_in T) b.stats.count
  put_count listed b (tree ts c zs fs) = refl

  pub put_sizes : (listed : Bool) (b : HeldBucket) (T : Tree) → sizes_in (put listed (Some b) T) ≡ sizes_added (sizes_in T) b.stats.values
  put_sizes listed b (tree ts c zs fs) = refl

  pub put_branches : (listed : Bool) (b : HeldBucket) (n : ℕ) (T : Tree) → branches_at n (forks_in (put listed (Some b) T)) ≡ partials_added i (row_at n b.nodes b.rows) (nodes_in (facet_at n b.nodes)) (branches_at n (forks_in T))
  put_branches listed b n (tree ts c zs fs) = rows_added_at i n b.rows b.nodes fs

  -- ---- a step further in

  pub ascend_added : (ps : Partials) (inner : Nodes) (bs : Branches) → Ascend bs → Ascend (partials_added i ps inner bs)
  ascend_added no_partials inner bs a = a
  ascend_added (partial l stats rows rest) inner bs a = ascend_added rest inner (changed_branch l (put true (Some (record { stats = stats; nodes = inner; rows = rows }))) bs) (ascend_changed l (put true (Some (record { stats = stats; nodes = inner; rows = rows }))) bs a)

  find_added : (k : Key) (ps : Partials) (inner : Nodes) (bs : Branches) → Ascend bs → Rise ps → find_branch k (partials_added i ps inner bs) ≡ put true (find_key inner k ps) (find_branch k bs)
  find_added k no_partials inner bs a up = refl
  find_added k (partial l stats rows rest) inner bs a up =
      find_added k rest inner (changed_branch l add bs) (ascend_changed l add bs a) (rise_later l stats rows rest up).1 ∙ go (same_key k l) refl
    where
      here : HeldBucket
      here = record { stats = stats; nodes = inner; rows = rows }

      add : Tree → Tree
      add = put true (Some here)

      go : (b : Bool) → same_key k l ≡ b → put true (find_key inner k rest) (find_branch k (changed_branch l add bs)) ≡ put true (cond b (Some here) (find_key inner k rest)) (find_branch k bs)
      go true e =
          let same = same_key_exact k l e in
          let none : find_key inner k rest ≡ None = ap (λ x. find_key inner x rest) same ∙ first_once inner l stats rows rest up in
          ap (λ o. put true o (find_branch k (changed_branch l add bs))) none ∙ ap (λ x. find_branch k (changed_branch x add bs)) (sym same) ∙ find_changed k add bs a
      go false e = ap (put true (find_key inner k rest)) (find_changed_other k l add bs e)

  module _ (most : Terms → Option ℕ) where
    child_put : (s : Step) (listed : Bool) (b : HeldBucket) (T : Tree) → AllAscend T → HasFittingRows most b → child s (put listed (Some b) T) ≡ put true (bucket_in s.node s.key b) (child s T)
    child_put s listed b T a fit =
        ap (find_branch s.key) (put_branches listed b s.node T) ∙ find_added s.key (row_at s.node b.nodes b.rows) (nodes_in (facet_at s.node b.nodes)) (branches_at s.node (forks_in T)) (a s.node []) (row_rises most s.node b fit)

    -- ---- where a way leads

    pub at_put : (way : Way) (listed : Bool) (b : HeldBucket) (T : Tree) → AllAscend T → HasFittingRows most b → (x : Bool) × (at way (put listed (Some b) T) ≡ put x (descend way b) (at way T))
    at_put [] listed b T a fit = (listed, refl)
    at_put (s ∷ way) listed b T a fit =
        let further = go (bucket_in s.node s.key b) refl (λ c. at_put way true c (child s T) (λ n w. a n (s ∷ w))) in
        (further.0, ap (at way) (child_put s listed b T a fit) ∙ further.1)
      where
        go : (o : Option HeldBucket) → bucket_in s.node s.key b ≡ o → ((c : HeldBucket) → HasFittingRows most c → (x : Bool) × (at way (put true (Some c) (child s T)) ≡ put x (descend way c) (at way (child s T))))
            → (x : Bool) × (at way (put true o (child s T)) ≡ put x (option_and_then (descend way) o) (at way (child s T)))
        go None e ih = (true, refl)
        go (Some c) e ih = ih c (nested_fits most s.node s.key b c fit e)
