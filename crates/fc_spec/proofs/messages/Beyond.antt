-- Deeper than the terms facets of a request nothing is wanted, and what is wanted is wanted of the bucket's shards.
use Rattle.std.proofs.Common.{◌≡◌, ℕ, zero, suc, ◌+◌, ◌≤◌, max, List, [], ◌∷◌, ◌++◌, Bool, true, false, cond, ◌&&◌, ◌==◌, refl, sym, ap, subst, inl, inr, arith}
use Rattle.std.specs.List.{flat_map}
use Rattle.fc_spec.specs.words.Lists.{is_empty}
use Rattle.fc_spec.specs.requests.Request.{Kind, terms, range, date_range, query, Facet, Nodes, no_nodes, statistic, facet}
use Rattle.fc_spec.specs.requests.Buckets.{Key, value}
use Rattle.fc_spec.specs.replies.Reading.{Reading}
use Rattle.fc_spec.specs.replies.Chosen.{offering, chosen}
use Rattle.fc_spec.specs.replies.Distributed.{printed_keys, carried}
use Rattle.fc_spec.specs.messages.Message.{Way}
use Rattle.fc_spec.specs.messages.Merged.{over_held}
use Rattle.fc_spec.specs.messages.Rounds.{told_in}
use Rattle.fc_spec.specs.messages.Lacks.{Lack, want_of, each_of, wanted_values, wanted_at, facet_wanted, wanted, untold, own_depth, terms_depth}
use Rattle.fc_spec.specs.requests.Shape.{asks_again, counts_all}
use Rattle.fc_spec.specs.laws.RoundsEnd.{NothingLacksBeyond}
use Rattle.fc_spec.proofs.words.Members.{Member, filter_member}
use Rattle.fc_spec.proofs.messages.HeldFurther.{step_to}
use Rattle.fc_spec.proofs.words.AlikeLists.{member_append, member_map, member_flat_map}

flat_map_nothing : {X Y : Type 0} (f : X → List Y) (xs : List X) → ((x : X) → f x ≡ []) → flat_map f xs ≡ []
flat_map_nothing f [] h = refl
flat_map_nothing f (x ∷ xs) h = λ i. h x i ++ flat_map_nothing f xs h i

nothing_wanted : (empty : Bool) (f : Facet) (all : List Lack) → all ≡ [] → facet_wanted empty f all ≡ []
nothing_wanted empty f all e = go (empty && is_empty f.change.exclude)
  where
    go : (b : Bool) → cond b [] all ≡ []
    go true = refl
    go false = e

nothing_at : {B D : Type 0} (R : Reading B D) (kind : Kind) (inner : Nodes) (e n : ℕ) (H : List ℕ) (Y : D) (way : Way) (under : ℕ → List Lack) → own_depth kind + terms_depth inner ≤ e → ((d : ℕ) → terms_depth inner ≤ d → under d ≡ []) → wanted_at R kind inner e n H Y way under ≡ []
nothing_at R (terms t) inner zero n H Y way under h u = absurd (let bad : 1 + terms_depth inner ≤ 0 = h in omega arith)
nothing_at R (terms t) inner (suc e) n H Y way under h u = u e (let less : 1 + terms_depth inner ≤ suc e = h in omega arith)
nothing_at R (range g) inner e n H Y way under h u = u e (let less : 0 + terms_depth inner ≤ e = h in omega arith)
nothing_at R (date_range g) inner e n H Y way under h u = u e (let less : 0 + terms_depth inner ≤ e = h in omega arith)
nothing_at R (query q) inner e n H Y way under h u = u e (let less : 0 + terms_depth inner ≤ e = h in omega arith)

-- beyond the depth of the nodes nothing is wanted
pub wanted_beyond : {B D : Type 0} (R : Reading B D) (nodes : Nodes) (e n : ℕ) (H : List ℕ) (X : B) (way : Way) → terms_depth nodes ≤ e → wanted R e nodes n H X way ≡ []
wanted_beyond R no_nodes e n H X way h = refl
wanted_beyond R (statistic name s rest) e n H X way h = wanted_beyond R rest e (suc n) H X way h
wanted_beyond R (facet f inner rest) e n H X way h =
    let Y = R.domain_on n f H X in
    let first : own_depth f.kind + terms_depth inner ≤ e = (let m : max (own_depth f.kind + terms_depth inner) (terms_depth rest) ≤ e = h in omega arith) in
    let second : terms_depth rest ≤ e = (let m : max (own_depth f.kind + terms_depth inner) (terms_depth rest) ≤ e = h in omega arith) in
    let here = nothing_wanted (R.count_on H X == 0) f _ (nothing_at R f.kind inner e n H Y way _ first (λ d less. flat_map_nothing (λ k. wanted R d inner 0 (carried R f.kind inner H Y k) (R.bucket_at f.kind Y k) (way ++ step_to n k)) (printed_keys R f.kind inner H Y)
    (λ k. wanted_beyond R inner d 0 (carried R f.kind inner H Y k) (R.bucket_at f.kind Y k) (way ++ step_to n k) less))) in
    let later = wanted_beyond R rest e (suc n) H X way second in
    λ i. here i ++ later i

pub nothing_lacks_beyond : NothingLacksBeyond
nothing_lacks_beyond r n e sent h = ap (untold (told_in r.nodes sent)) (wanted_beyond (over_held (told_in r.nodes sent)) r.nodes e 0 _ [] [] h)

-- ---- the shards of what is wanted

carried_among : {B D : Type 0} (R : Reading B D) (kind : Kind) (inner : Nodes) (H : List ℕ) (Y : D) (key : Key) (i : ℕ) → Member i (carried R kind inner H Y key) → Member i H
carried_among R (terms t) inner H Y (value v) i m = go (counts_all t inner) m
  where
    go : (b : Bool) → Member i (cond b H (offering R t inner H Y v)) → Member i H
    go true m = m
    go false m = (filter_member _ H i m).0
carried_among R _ inner H Y _ i m = m

pub wanted_part : (empty : Bool) (f : Facet) (all : List Lack) (l : Lack) → Member l (facet_wanted empty f all) → Member l all
wanted_part empty f all l m = go (empty && is_empty f.change.exclude) m
  where
    go : (b : Bool) → Member l (cond b [] all) → Member l all
    go true m = absurd m
    go false m = m

each_among : (H : List ℕ) (way : Way) (n : ℕ) (key : Key) (l : Lack) → Member l (each_of H (want_of way n key)) → Member l.shard H
each_among H way n key l m = let r = member_map (λ i. record { shard = i; want = want_of way n key }) H l m in subst (λ i. Member i H) (sym (ap (λ (w : Lack). w.shard) r.2)) r.1

at_among : {B D : Type 0} (R : Reading B D) (kind : Kind) (inner : Nodes) (e n : ℕ) (H : List ℕ) (Y : D) (way : Way) (under : ℕ → List Lack) (l : Lack) → ((d : ℕ) → Member l (under d) → Member l.shard H) → Member l (wanted_at R kind inner e n H Y way under) → Member l.shard H
at_among R (terms t) inner zero n H Y way under l u m = go (asks_again t inner) m
  where
    go : (b : Bool) → Member l (cond b (wanted_values R t inner n H Y way) []) → Member l.shard H
    go true m = let r = member_flat_map (λ v. each_of H (want_of way n (value v))) (chosen R t inner H Y) l m in each_among H way n (value r.0) l r.2
    go false m = absurd m
at_among R (terms t) inner (suc e) n H Y way under l u m = u e m
at_among R (range g) inner e n H Y way under l u m = u e m
at_among R (date_range g) inner e n H Y way under l u m = u e m
at_among R (query q) inner e n H Y way under l u m = u e m

pub wanted_among : {B D : Type 0} (R : Reading B D) (nodes : Nodes) (e n : ℕ) (H : List ℕ) (X : B) (way : Way) (l : Lack) → Member l (wanted R e nodes n H X way) → Member l.shard H
wanted_among R no_nodes e n H X way l m = absurd m
wanted_among R (statistic name s rest) e n H X way l m = wanted_among R rest e (suc n) H X way l m
wanted_among R (facet f inner rest) e n H X way l m =
    let Y = R.domain_on n f H X in
    let under = λ (d : ℕ). flat_map (λ k. wanted R d inner 0 (carried R f.kind inner H Y k) (R.bucket_at f.kind Y k) (way ++ step_to n k)) (printed_keys R f.kind inner H Y) in
    elim (member_append (facet_wanted (R.count_on H X == 0) f (wanted_at R f.kind inner e n H Y way under)) (wanted R e rest (suc n) H X way) l m) [
      | inl a ↦ at_among R f.kind inner e n H Y way under l
          (λ d u. let r = member_flat_map (λ k. wanted R d inner 0 (carried R f.kind inner H Y k) (R.bucket_at f.kind Y k) (way ++ step_to n k)) (printed_keys R f.kind inner H Y) l u in
          carried_among R f.kind inner H Y r.0 l.shard (wanted_among R inner d 0 (carried R f.kind inner H Y r.0) (R.bucket_at f.kind Y r.0) (way ++ step_to n r.0) l r.2))
          (wanted_part (R.count_on H X == 0) f (wanted_at R f.kind inner e n H Y way under) l a)
      | inr b ↦ wanted_among R rest e (suc n) H X way l b
    ]
