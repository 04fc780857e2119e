-- One shard is carried on or cut, and then the others.
use Rattle.std.proofs.Common.{◌≡◌, ℕ, zero, suc, ◌+◌, ◌<◌, ◌≤◌, ◌⊎◌, inl, inr, List, [], ◌∷◌, ◌++◌, length, map, drop, get_or, refl, sym, ◌∙◌, ap, subst, append_assoc, arith}
use Rattle.std.specs.Prelude.{All}
use Rattle.std.specs.List.{zip}
use Rattle.std.proofs.lemmas.Bool.{cases_lt}
use Rattle.std.proofs.lemmas.List.{drop_more, length-append, map-append}
use Rattle.std.proofs.lemmas.List.Elements.{All-head, All-tail}
use Rattle.fc_docs.specs.declared.block.Batch.{Batch}
use Rattle.fc_store.specs.Generated.{Generated}
use Rattle.fc_work.specs.Opened.{AreNumbered}
use Rattle.fc_work.specs.declared.stores.Opening.{Opening}
use Rattle.fc_run.specs.Progress.{CanCarry, CanCarryAll, Progress, all_carried, carried, joined_again, progress_of}
use Rattle.fc_run.specs.declared.commits.Committed.{Committed}

pub record NextCan (here : Committed) (rest : List Committed) (commits : List ℕ) (i : ℕ) : Type 0 where
  pub first : CanCarry (progress_of here) (get_or commits i 0)
  pub others : CanCarryAll (map progress_of rest) (drop (i + 1) commits)

pub next_can : (shards rest : List Committed) (first : Committed) (commits : List ℕ) (i : ℕ) → shards ≡ first ∷ rest → i < length commits → CanCarryAll (map progress_of shards) (drop i commits)
    → NextCan first rest commits i
next_can shards rest first commits i is below can = record {
  first = All-head (λ x. CanCarry x.0 x.1) (progress_of first, get_or commits i 0) (zip (map progress_of rest) (drop (i + 1) commits)) all;
  others = All-tail (λ x. CanCarry x.0 x.1) (progress_of first, get_or commits i 0) (zip (map progress_of rest) (drop (i + 1) commits)) all;
}
  where
    all : All (λ x. CanCarry x.0 x.1) ((progress_of first, get_or commits i 0) ∷ zip (map progress_of rest) (drop (i + 1) commits))
    all = subst (λ ns. CanCarryAll (map progress_of (first ∷ rest)) ns) (drop_more commits i 0 below) (subst (λ cs. CanCarryAll (map progress_of cs) (drop i commits)) is can)

-- what is made of each by its number
pub made_more : {X : Type 0} (F : Progress → ℕ → X) (shards rest : List Committed) (first : Committed) (commits : List ℕ) (i : ℕ) (before after all : List X) (made : X) → shards ≡ first ∷ rest → i < length commits
    → made ≡ F (progress_of first) (get_or commits i 0) → after ≡ before ++ made ∷ []
    → before ++ map (λ x. F x.0 x.1) (zip (map progress_of shards) (drop i commits)) ≡ all
    → after ++ map (λ x. F x.0 x.1) (zip (map progress_of rest) (drop (i + 1) commits)) ≡ all
made_more {X = X} F shards rest first commits i before after all made is below made_is pushed so_far =
    ap (λ xs. xs ++ tail) pushed
    ∙ append_assoc before (made ∷ []) tail
    ∙ ap (λ x. before ++ x ∷ tail) made_is
    ∙ ap (λ xs. before ++ xs) (sym opened)
    ∙ so_far
  where
    tail : List X
    tail = map (λ x. F x.0 x.1) (zip (map progress_of rest) (drop (i + 1) commits))

    opened : map (λ x. F x.0 x.1) (zip (map progress_of shards) (drop i commits)) ≡ F (progress_of first) (get_or commits i 0) ∷ tail
    opened = (λ j. map (λ x. F x.0 x.1) (zip (map progress_of (is j)) (drop_more commits i 0 below j)))

pub carried_more : (shards rest before after : List Committed) (first made : Committed) (commits : List ℕ) (i : ℕ) (all : List Progress) → shards ≡ first ∷ rest → i < length commits
    → progress_of made ≡ carried (progress_of first) (get_or commits i 0) → after ≡ before ++ made ∷ []
    → map progress_of before ++ all_carried (map progress_of shards) (drop i commits) ≡ all
    → map progress_of after ++ all_carried (map progress_of rest) (drop (i + 1) commits) ≡ all
carried_more shards rest before after first made commits i all is below made_is pushed so_far =
    made_more carried shards rest first commits i (map progress_of before) (map progress_of after) all (progress_of made) is below made_is
    (ap (map progress_of) pushed ∙ map-append progress_of before (made ∷ [])) so_far

-- one generation more with what is left of its shard
pub again_more : (gs : List Generated) (i : ℕ) (d : Generated) (before after : List Committed) (made : Committed) (first : List Batch) (rest : List (List Batch)) (all : List Progress) → i < length gs
    → progress_of made ≡ record { generation = get_or gs i d; left = first } → after ≡ before ++ made ∷ []
    → map progress_of before ++ joined_again (drop i gs) (first ∷ rest) ≡ all → map progress_of after ++ joined_again (drop (i + 1) gs) rest ≡ all
again_more gs i d before after made first rest all below made_is pushed so_far =
    ap (λ cs. map progress_of cs ++ tail) pushed
    ∙ ap (λ ps. ps ++ tail) (map-append progress_of before (made ∷ []))
    ∙ append_assoc (map progress_of before) (progress_of made ∷ []) tail
    ∙ ap (λ p. map progress_of before ++ p ∷ tail) made_is
    ∙ ap (λ ps. map progress_of before ++ ps) (sym (ap (λ hs. joined_again hs (first ∷ rest)) (drop_more gs i d below)))
    ∙ so_far
  where
    tail : List Progress
    tail = joined_again (drop (i + 1) gs) rest

at_front : (xs : List Opening) (o : Opening) (k : ℕ) (d : Opening) → k < length xs → get_or (xs ++ o ∷ []) k d ≡ get_or xs k d
at_front [] o k d below = absurd (omega arith)
at_front (x ∷ xs) o zero d below = refl
at_front (x ∷ xs) o (suc k) d below = at_front xs o k d (omega (arith, below))

at_end : (xs : List Opening) (o d : Opening) → get_or (xs ++ o ∷ []) (length xs) d ≡ o
at_end [] o d = refl
at_end (x ∷ xs) o d = at_end xs o d

-- one store more, of the shard at its place
pub numbered_more : (stores after : List Opening) (o : Opening) → AreNumbered stores → o.shard ≡ length stores → after ≡ stores ++ o ∷ [] → AreNumbered after
numbered_more stores after o so_far is more = subst AreNumbered (sym more) at
  where
    at : AreNumbered (stores ++ o ∷ [])
    at k d below = go (cases_lt k (length stores))
      where
        long : length (stores ++ o ∷ []) ≡ length stores + 1
        long = length-append stores (o ∷ [])

        go : (k < length stores) ⊎ (length stores ≤ k) → (get_or (stores ++ o ∷ []) k d).shard ≡ k
        go (inl less) = ap (λ (s : Opening). s.shard) (at_front stores o k d less) ∙ so_far k d less
        go (inr most) =
            let last : k ≡ length stores = omega (arith, most, below, long) in
            ap (λ j. (get_or (stores ++ o ∷ []) j d).shard) last ∙ ap (λ (s : Opening). s.shard) (at_end stores o d)
            ∙ is ∙ sym last
