-- The stores of a phase with searches: that they can be opened, and what they leave.
use Rattle.std.proofs.Common.{◌≡◌, ℕ, suc, ◌+◌, ◌-◌, List, [], ◌∷◌, ◌++◌, length, map, take, drop, Result, Ok, Err, IfOk, refl, sym, ◌∙◌, ap, subst, arith}
use Rattle.std.specs.Prelude.{All}
use Rattle.std.specs.List.{zip}
use Rattle.std.proofs.lemmas.List.{get_or-map, length-map, length-take-le, take_all}
use Rattle.std.proofs.lemmas.List.Elements.{All-cons, All-head, All-map, All-nil, All-tail, All-weaker}
use Rattle.std.proofs.lemmas.Simd.{map-map}
use Rattle.fc_spec.specs.documents.Operations.{after_ops, blocks_added}
use Rattle.fc_spec.specs.documents.Schema.{Schema}
use Rattle.fc_spec.specs.requests.ValidRequests.{IsValidRequest}
use Rattle.fc_spec.specs.scripts.WorldLimits.{IsWithinLimits}
use Rattle.fc_spec.specs.words.Lists.{joined}
use Rattle.fc_docs.specs.View.{batch_view}
use Rattle.fc_docs.specs.declared.block.Batch.{Batch}
use Rattle.fc_request.specs.RequestView.{request_view}
use Rattle.fc_request.specs.declared.fault.RequestFault.{RequestFault}
use Rattle.fc_request.specs.declared.request.Request.{Request}
use Rattle.fc_script.specs.PartsView.{batches_view}
use Rattle.fc_script.specs.declared.script.Search.{Search}
use Rattle.fc_search.specs.Schemas.{AreSame}
use Rattle.fc_store.specs.Charters.{Chartered, IsBatchOf, blocks_at, last_number}
use Rattle.fc_store.specs.Ends.{Pinning}
use Rattle.fc_store.specs.Generated.{Generated}
use Rattle.fc_work.specs.Opened.{CanOpen}
use Rattle.fc_work.specs.Phased.{IsSearchBy, readers_in, whole_in}
use Rattle.fc_work.specs.Pinned.{batches_of, charters_of, least_of, most_of}
use Rattle.fc_work.specs.declared.stores.Opening.{Opening}
use Rattle.fc_run.specs.Phased.{chartered_batches, numbers_before}
use Rattle.fc_run.specs.Progress.{CanCarry, CanCarryAll, Progress, all_carried, all_left, charter_to, charters_to, generation_after, joined_again, missing_to}
use Rattle.fc_run.specs.Runnable.{IsSearchOf}

all_back : {X Y : Type 0} (P : Y → Type 0) (f : X → Y) (xs : List X) → All P (map f xs) → All (λ x. P (f x)) xs
all_back P f xs all k d below =
    let long = length-map xs f in
    subst P (get_or-map f xs k d (f d) below) (all k (f d) (omega (arith, long, below)))

-- ---- charters

abbrev pub charters_in : List Opening → List Chartered
charters_in os = map (λ (o : Opening). o.charter) os

abbrev whole_from : Chartered → Generated
whole_from c = record { schema = c.start.schema; number = last_number c; blocks = blocks_at c (last_number c) }

record IsBuildable (c : Chartered) : Type 0 where
  batches : All (IsBatchOf c.start.schema) c.later
  limits : IsWithinLimits ((c.start.blocks ++ blocks_added (joined c.later)) ∷ [])

charters_are : (os : List Opening) → charters_of (readers_in os) ≡ map batches_of (charters_in os)
charters_are [] = refl
charters_are (o ∷ os) = ap (λ rest. batches_of o.charter ∷ rest) (charters_are os)

most_are : (os : List Opening) → most_of (readers_in os) ≡ map last_number (charters_in os)
most_are [] = refl
most_are (o ∷ os) = ap (λ rest. last_number o.charter ∷ rest) (most_are os)

least_are : (os : List Opening) → least_of (readers_in os) ≡ map (λ (c : Chartered). c.start.number) (charters_in os)
least_are [] = refl
least_are (o ∷ os) = ap (λ (rest : List ℕ). o.charter.start.number ∷ rest) (least_are os)

schemas_are : (os : List Opening) → map (λ (r : Pinning). r.schema) (readers_in os) ≡ map (λ (c : Chartered). c.start.schema) (charters_in os)
schemas_are [] = refl
schemas_are (o ∷ os) = ap (λ (rest : List Schema). o.charter.start.schema ∷ rest) (schemas_are os)

wholes_are : (os : List Opening) → map whole_in os ≡ map whole_from (charters_in os)
wholes_are [] = refl
wholes_are (o ∷ os) = ap (λ rest. whole_in o ∷ rest) (wholes_are os)

-- ---- of shards that are carried on

last_is : (p : Progress) (n : ℕ) → CanCarry p n → last_number (charter_to p n) ≡ n
last_is p n can =
    let views = length-map (take (missing_to p n) p.left) batch_view in
    let long = length-take-le (missing_to p n) p.left can.there in
    let below = can.below in
    omega (arith, views, long, below)

lasts_are : (ps : List Progress) (ns : List ℕ) → length ns ≡ length ps → CanCarryAll ps ns → map last_number (charters_to ps ns) ≡ ns
lasts_are [] [] same can = refl
lasts_are [] (n ∷ ns) same can = absurd (omega (arith, same))
lasts_are (p ∷ ps) [] same can = absurd (omega (arith, same))
lasts_are (p ∷ ps) (n ∷ ns) same can =
    let first = last_is p n (All-head (λ x. CanCarry x.0 x.1) (p, n) (zip ps ns) can) in
    let rest = lasts_are ps ns (omega (arith, same)) (All-tail (λ x. CanCarry x.0 x.1) (p, n) (zip ps ns) can) in
    λ i. first i ∷ rest i

starts_are : (ps : List Progress) (ns : List ℕ) → length ns ≡ length ps → map (λ (c : Chartered). c.start.number) (charters_to ps ns) ≡ numbers_before ps
starts_are [] [] same = refl
starts_are [] (n ∷ ns) same = absurd (omega (arith, same))
starts_are (p ∷ ps) [] same = absurd (omega (arith, same))
starts_are (p ∷ ps) (n ∷ ns) same = ap (λ (rest : List ℕ). p.generation.number ∷ rest) (starts_are ps ns (omega (arith, same)))

start_schemas : (ps : List Progress) (ns : List ℕ) → length ns ≡ length ps → map (λ (c : Chartered). c.start.schema) (charters_to ps ns) ≡ map (λ (g : Generated). g.schema) (map (λ (p : Progress). p.generation) ps)
start_schemas [] [] same = refl
start_schemas [] (n ∷ ns) same = absurd (omega (arith, same))
start_schemas (p ∷ ps) [] same = absurd (omega (arith, same))
start_schemas (p ∷ ps) (n ∷ ns) same = ap (λ (rest : List Schema). p.generation.schema ∷ rest) (start_schemas ps ns (omega (arith, same)))

buildable : (ps : List Progress) (ns : List ℕ) → CanCarryAll ps ns → All IsBuildable (charters_to ps ns)
buildable [] ns can = All-nil IsBuildable
buildable (p ∷ ps) [] can = All-nil IsBuildable
buildable (p ∷ ps) (n ∷ ns) can =
    let here = All-head (λ x. CanCarry x.0 x.1) (p, n) (zip ps ns) can in
    All-cons IsBuildable (charter_to p n) (charters_to ps ns) (record { batches = here.each; limits = here.limits })
    (buildable ps ns (All-tail (λ x. CanCarry x.0 x.1) (p, n) (zip ps ns) can))

whole_is : (p : Progress) (n : ℕ) → whole_from (charter_to p n) ≡ generation_after p.generation (take (missing_to p n) p.left)
whole_is p n = λ i. record { schema = p.generation.schema; number = p.generation.number + views i; blocks = after_ops p.generation.blocks (joined (all i)) }
  where
    part : List Batch
    part = take (missing_to p n) p.left

    views : length (batches_view part) ≡ length part
    views = length-map part batch_view

    all : take (last_number (charter_to p n) - p.generation.number) (batches_view part) ≡ batches_view part
    all = take_all (last_number (charter_to p n) - p.generation.number) (batches_view part) (omega arith)

again_are : (ps : List Progress) (ns : List ℕ) → joined_again (map whole_from (charters_to ps ns)) (all_left ps ns) ≡ all_carried ps ns
again_are [] ns = refl
again_are (p ∷ ps) [] = refl
again_are (p ∷ ps) (n ∷ ns) = λ i. record { generation = whole_is p n i; left = drop (missing_to p n) p.left } ∷ again_are ps ns i

left_many : (ps : List Progress) (ns : List ℕ) → length ns ≡ length ps → length (all_left ps ns) ≡ length ns
left_many [] [] same = refl
left_many [] (n ∷ ns) same = absurd (omega (arith, same))
left_many (p ∷ ps) [] same = refl
left_many (p ∷ ps) (n ∷ ns) same = ap (λ k. suc k) (left_many ps ns (omega (arith, same)))

-- ---- all stores of a phase

module _ (ps : List Progress) (ns : List ℕ) (os : List Opening) (are : charters_in os ≡ charters_to ps ns) where
  pub can_open : CanCarryAll ps ns → All CanOpen os
  can_open can =
      All-weaker (λ (o : Opening). IsBuildable o.charter) CanOpen (λ o is. record { batches = is.batches; limits = is.limits }) os
      (all_back IsBuildable (λ (o : Opening). o.charter) os (subst (All IsBuildable) (sym are) (buildable ps ns can)))

  pub batches_are : charters_of (readers_in os) ≡ chartered_batches ps ns
  batches_are = charters_are os ∙ ap (map batches_of) are

  pub highest : length ns ≡ length ps → CanCarryAll ps ns → most_of (readers_in os) ≡ ns
  highest same can = most_are os ∙ ap (map last_number) are ∙ lasts_are ps ns same can

  pub lowest : length ns ≡ length ps → least_of (readers_in os) ≡ numbers_before ps
  lowest same = least_are os ∙ ap (map (λ (c : Chartered). c.start.number)) are ∙ starts_are ps ns same

  pub as_many : length ns ≡ length ps → CanCarryAll ps ns → length os ≡ length ns
  as_many same can = sym (length-map os (λ (o : Opening). o.charter)) ∙ sym (length-map (charters_in os) last_number) ∙ ap length (ap (map last_number) are ∙ lasts_are ps ns same can)

  pub carried_by : (gs : List Generated) (left : List (List Batch)) → gs ≡ map whole_in os → left ≡ all_left ps ns → joined_again gs left ≡ all_carried ps ns
  carried_by gs left last rest = (λ i. joined_again ((last ∙ wholes_are os ∙ ap (map whole_from) are) i) (rest i)) ∙ again_are ps ns

  pub each_left : length ns ≡ length ps → CanCarryAll ps ns → (gs : List Generated) (left : List (List Batch)) → gs ≡ map whole_in os → left ≡ all_left ps ns → length gs ≡ length left
  each_left same can gs left last rest = ap length last ∙ length-map os whole_in ∙ as_many same can ∙ sym (left_many ps ns same) ∙ sym (ap length rest)

  reader_schemas : length ns ≡ length ps → map (λ (r : Pinning). r.schema) (readers_in os) ≡ map (λ (g : Generated). g.schema) (map (λ (p : Progress). p.generation) ps)
  reader_schemas same = schemas_are os ∙ ap (map (λ (c : Chartered). c.start.schema)) are ∙ start_schemas ps ns same

  pub one_schema : length ns ≡ length ps → AreSame (map (λ (p : Progress). p.generation.schema) ps) → AreSame (map (λ (r : Pinning). r.schema) (readers_in os))
  one_schema same schema =
      subst AreSame (sym (reader_schemas same ∙ map-map (λ (g : Generated). g.schema) (λ (p : Progress). p.generation) ps)) schema

  ask_of : length ns ≡ length ps → (a : Result Request RequestFault) → IfOk a (λ r. All (λ g. IsValidRequest g.schema (request_view r)) (map (λ (p : Progress). p.generation) ps))
      → IfOk a (λ r. All (λ reader. IsValidRequest reader.schema (request_view r)) (readers_in os))
  ask_of same (Ok r) valid =
      let P : Schema → Type 0 = λ s. IsValidRequest s (request_view r) in
      all_back P (λ (r : Pinning). r.schema) (readers_in os) (subst (All P) (sym (reader_schemas same)) (All-map P (λ (g : Generated). g.schema) (map (λ (p : Progress). p.generation) ps) valid))
  ask_of same (Err f) valid = tt

  pub searches_by : length ns ≡ length ps → (n : ℕ) (qs : List Search) → All (IsSearchOf (map (λ (p : Progress). p.generation) ps) n) qs → All (IsSearchBy n (readers_in os)) qs
  searches_by same n qs all =
      All-weaker (IsSearchOf (map (λ (p : Progress). p.generation) ps) n) (IsSearchBy n (readers_in os))
      (λ q is. record { session = is.session; ask = record { root = is.root; valid = ask_of same q.request is.request } }) qs all
