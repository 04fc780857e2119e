-- The rounds of a search end, with the distributed reply.
use Rattle.std.proofs.Common.{◌≡◌, ◌⊎◌, ℕ, zero, suc, ◌+◌, ◌<◌, ◌≤◌, List, [], ◌∷◌, ◌++◌, map, length, Bool, true, false, cond, not, is_some, refl, sym, ◌∙◌, ap, subst, inl, inr, arith}
use Rattle.std.specs.List.{AllByRecursion, filter, range_with_len}
use Rattle.std.proofs.lemmas.Bool.{false≢true, cases_lt, cases_eq}
use Rattle.fc_spec.specs.words.Lists.{is_empty, numbers_below}
use Rattle.fc_spec.specs.documents.World.{World}
use Rattle.fc_spec.specs.requests.Request.{Request}
use Rattle.fc_spec.specs.messages.Message.{first, more}
use Rattle.fc_spec.specs.messages.Target.{target_of}
use Rattle.fc_spec.specs.messages.Answer.{answer}
use Rattle.fc_spec.specs.messages.Held.{Told, held, told_by}
use Rattle.fc_spec.specs.messages.Lacks.{Lack, lacks, terms_depth}
use Rattle.fc_spec.specs.messages.Rounds.{SentMessage, told_in, next_lacks, wants_of, sent_by, first_round, later_round, rounds_from, search_rounds}
use Rattle.fc_spec.specs.laws.Merging.{IsAnswer, HasRoots, LacksNothing}
use Rattle.fc_spec.specs.laws.RoundsEnd.{LacksNothingBelow, SearchesEnd, RoundsAreFew}
use Rattle.fc_spec.proofs.words.Members.{Member}
use Rattle.fc_spec.proofs.messages.HeldAnswers.{answer_at}
use Rattle.fc_spec.proofs.messages.HeldFurther.{all_append, held_among_more, held_among_later, told_held}
use Rattle.fc_spec.proofs.messages.PrintedKnown.{nothing_is_empty}
use Rattle.fc_spec.proofs.messages.MergedReply.{answers_merge_into_reply}
use Rattle.fc_spec.proofs.messages.Beyond.{nothing_lacks_beyond}
use Rattle.fc_spec.proofs.messages.RoundComplete.{told_in-append, later_round_answers, round_completes}

-- what is next: nothing lacks at these depths, or the least at which something does
abbrev pub IsNext : Request → ℕ → List Told → ℕ → ℕ → List Lack → Type 0
IsNext r n A depths e all = ((all ≡ []) × ((d : ℕ) → e ≤ d → d < e + depths → lacks r n A d ≡ [])) ⊎ ((f : ℕ) × (all ≡ lacks r n A f) × (is_empty all ≡ false) × ((d : ℕ) → e ≤ d → d < f → lacks r n A d ≡ []))

pub next_is : (r : Request) (n : ℕ) (A : List Told) (depths e : ℕ) → IsNext r n A depths e (next_lacks r n A depths e)
next_is r n A zero e = inl (refl, λ d low high. absurd (omega arith))
next_is r n A (suc k) e = go (is_empty (lacks r n A e)) refl (next_is r n A k (suc e))
  where
    go : (b : Bool) → is_empty (lacks r n A e) ≡ b → IsNext r n A k (suc e) (next_lacks r n A k (suc e)) → IsNext r n A (suc k) e (cond b (next_lacks r n A k (suc e)) (lacks r n A e))
    go false h ih = inr (e, refl, h, λ d low high. absurd (omega arith))
    go true h (inl none) = inl (none.0, λ d low high. here d (cases_lt e d) (λ above. none.1 d (omega arith) (omega arith)) low)
      where
        here : (d : ℕ) → (e < d) ⊎ (d ≤ e) → (e < d → lacks r n A d ≡ []) → e ≤ d → lacks r n A d ≡ []
        here d (inl above) f low = f above
        here d (inr at) f low = subst (λ c. lacks r n A c ≡ []) (let same : e ≡ d = omega arith in same) (nothing_is_empty (lacks r n A e) h)
    go true h (inr some) = inr (some.0, some.1, some.2, λ d low high. here d (cases_lt e d) (λ above. some.3 d (omega arith) high) low)
      where
        here : (d : ℕ) → (e < d) ⊎ (d ≤ e) → (e < d → lacks r n A d ≡ []) → e ≤ d → lacks r n A d ≡ []
        here d (inl above) f low = f above
        here d (inr at) f low = subst (λ c. lacks r n A c ≡ []) (let same : e ≡ d = omega arith in same) (nothing_is_empty (lacks r n A e) h)

-- what a search has in the end
abbrev pub HasEnded : Request → World → List SentMessage → Type 0
HasEnded r W sent = AllByRecursion (IsAnswer r W) sent × HasRoots (length W) (told_in r.nodes sent) × LacksNothing r (length W) (told_in r.nodes sent)

-- nothing lacks below the depth of the terms facets, so nothing at all
nothing_at_all : (r : Request) (n : ℕ) (sent : List SentMessage) → LacksNothingBelow r n sent (terms_depth r.nodes) → LacksNothing r n (told_in r.nodes sent)
nothing_at_all r n sent none e = elim (cases_lt e (terms_depth r.nodes)) [ inl low ↦ none e low | inr high ↦ nothing_lacks_beyond r n e sent high ]

ends_from : (r : Request) (W : World) (left done round : ℕ) (sent : List SentMessage) → terms_depth r.nodes ≤ done + left → AllByRecursion (IsAnswer r W) sent → HasRoots (length W) (told_in r.nodes sent)
    → LacksNothingBelow r (length W) sent done → HasEnded r W (rounds_from r W left round sent)
ends_from r W zero done round sent bound answers roots none = (answers, roots, nothing_at_all r (length W) sent (λ d less. none d (omega arith)))
ends_from r W (suc left) done round sent bound answers roots none = go (next_is r (length W) (told_in r.nodes sent) (terms_depth r.nodes) 0) (λ s. ends_from r W left (done + 1) (suc round) s (omega arith))
  where
    all : List Lack
    all = next_lacks r (length W) (told_in r.nodes sent) (terms_depth r.nodes) 0

    go : IsNext r (length W) (told_in r.nodes sent) (terms_depth r.nodes) 0 all
        → ((s : List SentMessage) → AllByRecursion (IsAnswer r W) s → HasRoots (length W) (told_in r.nodes s) → LacksNothingBelow r (length W) s (done + 1) → HasEnded r W (rounds_from r W left (suc round) s))
        → HasEnded r W (cond (is_empty all) sent (rounds_from r W left (suc round) (sent ++ later_round r W round all)))
    go (inl ended) ih = subst (λ b. HasEnded r W (cond b sent (rounds_from r W left (suc round) (sent ++ later_round r W round all)))) (sym (ap is_empty ended.0)) (answers, roots, nothing_at_all r (length W) sent (λ d less. ended.1 d (omega arith) (omega arith)))
    go (inr goes_on) ih =
        subst (λ b. HasEnded r W (cond b sent (rounds_from r W left (suc round) (sent ++ later_round r W round all)))) (sym goes_on.2)
        (ih (sent ++ later_round r W round all) (all_append (IsAnswer r W) sent (later_round r W round all) answers (later_round_answers r W round all))
        (λ i h. subst (λ T. is_some (held T i []) ≡ true) (sym (told_in-append r.nodes sent (later_round r W round all))) (held_among_more (told_in r.nodes sent) (told_in r.nodes (later_round r W round all)) i [] (roots i h)))
        (λ d less. subst (λ a. lacks r (length W) (told_in r.nodes (sent ++ later_round r W round a)) d ≡ []) (sym goes_on.1)
        (round_completes r W sent goes_on.0 round answers roots (λ c h. goes_on.3 c (omega arith) h) d (deeper d less (cases_lt goes_on.0 done)))))
      where
        deeper : (d : ℕ) → d < done + 1 → (goes_on.0 < done) ⊎ (done ≤ goes_on.0) → d < goes_on.0 + 1
        deeper d less (inl shallow) = absurd (false≢true (sym goes_on.2 ∙ ap is_empty (goes_on.1 ∙ none goes_on.0 shallow)))
        deeper d less (inr deep) = omega arith

pub first_answers : (r : Request) (W : World) (is : List ℕ) → AllByRecursion (IsAnswer r W) (map (λ i. sent_by r W 1 i first) is)
first_answers r W [] = tt
first_answers r W (i ∷ is) = (refl, first_answers r W is)

-- each shard that is asked first tells of its root
pub first_roots : (r : Request) (W : World) (is : List ℕ) (i : ℕ) → Member i is → is_some (held (told_in r.nodes (map (λ j. sent_by r W 1 j first) is)) i []) ≡ true
first_roots r W [] i m = absurd m
first_roots r W (j ∷ is) i (inl e) = subst (λ k. is_some (held (told_in r.nodes (map (λ j. sent_by r W 1 j first) (j ∷ is))) k []) ≡ true) (sym e) (told_held (record { shard = j; way = []; bucket = answer_at r W j (target_of r.nodes []) }) (told_in r.nodes (map (λ j. sent_by r W 1 j first) is)))
first_roots r W (j ∷ is) i (inr m) = held_among_later (told_by r.nodes j first (answer r W j first)) (told_in r.nodes (map (λ j. sent_by r W 1 j first) is)) i [] (first_roots r W is i m)

pub number_is_below : (n a i : ℕ) → a ≤ i → i < a + n → Member i (range_with_len a n)
number_is_below zero a i low high = absurd (omega arith)
number_is_below (suc n) a i low high = elim (cases_eq i a) [ inl e ↦ inl e | inr apart ↦ inr (number_is_below n (a + 1) i (omega arith) (omega arith)) ]

pub searches_end : SearchesEnd
searches_end r W =
    let ended = ends_from r W (terms_depth r.nodes) 0 2 (first_round r W) (omega arith) (first_answers r W (numbers_below (length W)))
    (λ i h. first_roots r W (numbers_below (length W)) i (number_is_below (length W) 0 i (omega arith) (omega arith))) (λ d less. absurd (omega arith)) in
    (ended.0, ended.2, answers_merge_into_reply r W (search_rounds r W) ended.0 ended.1 ended.2)

-- ---- how many rounds

-- the round is one of those before another
abbrev pub IsRoundBefore : ℕ → SentMessage → Type 0
IsRoundBefore end s = (1 ≤ s.round) × (s.round < end)

pub more_rounds : (sent : List SentMessage) (a b : ℕ) → a ≤ b → AllByRecursion (IsRoundBefore a) sent → AllByRecursion (IsRoundBefore b) sent
more_rounds [] a b h all = tt
more_rounds (s ∷ ss) a b h all = ((all.0.0, (let k : s.round < a = all.0.1 in omega arith)), more_rounds ss a b h all.1)

pub this_round : (r : Request) (W : World) (round : ℕ) (all : List Lack) → 1 ≤ round → AllByRecursion (IsRoundBefore (suc round)) (later_round r W round all)
this_round r W round all h = go (filter (λ i. not (is_empty (wants_of i all))) (numbers_below (length W)))
  where
    go : (is : List ℕ) → AllByRecursion (IsRoundBefore (suc round)) (map (λ i. sent_by r W round i (more (wants_of i all))) is)
    go [] = tt
    go (i ∷ is) = ((h, omega arith), go is)

few_from : (r : Request) (W : World) (left round : ℕ) (sent : List SentMessage) → 1 ≤ round → AllByRecursion (IsRoundBefore round) sent → AllByRecursion (IsRoundBefore (round + left)) (rounds_from r W left round sent)
few_from r W zero round sent h all = more_rounds sent round (round + 0) (omega arith) all
few_from r W (suc left) round sent h all = go (is_empty next) (λ s. few_from r W left (suc round) s (omega arith))
  where
    next : List Lack
    next = next_lacks r (length W) (told_in r.nodes sent) (terms_depth r.nodes) 0

    go : (b : Bool) → ((s : List SentMessage) → AllByRecursion (IsRoundBefore (suc round)) s → AllByRecursion (IsRoundBefore (suc round + left)) (rounds_from r W left (suc round) s))
        → AllByRecursion (IsRoundBefore (round + suc left)) (cond b sent (rounds_from r W left (suc round) (sent ++ later_round r W round next)))
    go true ih = more_rounds sent round (round + suc left) (omega arith) all
    go false ih =
        more_rounds (rounds_from r W left (suc round) (sent ++ later_round r W round next)) (suc round + left) (round + suc left) (omega arith)
        (ih (sent ++ later_round r W round next) (all_append (IsRoundBefore (suc round)) sent (later_round r W round next) (more_rounds sent round (suc round) (omega arith) all) (this_round r W round next h)))

pub first_rounds : (r : Request) (W : World) (is : List ℕ) → AllByRecursion (IsRoundBefore 2) (map (λ i. sent_by r W 1 i first) is)
first_rounds r W [] = tt
first_rounds r W (i ∷ is) = ((omega arith, omega arith), first_rounds r W is)

within : (sent : List SentMessage) (a b : ℕ) → a ≡ b + 1 → AllByRecursion (IsRoundBefore a) sent → AllByRecursion (λ s. (1 ≤ s.round) × (s.round ≤ b)) sent
within [] a b e all = tt
within (s ∷ ss) a b e all = ((all.0.0, (let k : s.round < a = all.0.1 in omega arith)), within ss a b e all.1)

pub rounds_are_few : RoundsAreFew
rounds_are_few r W =
    within (search_rounds r W) (2 + terms_depth r.nodes) (terms_depth r.nodes + 1) (omega arith) (few_from r W (terms_depth r.nodes) 2 (first_round r W) (omega arith) (first_rounds r W (numbers_below (length W))))
