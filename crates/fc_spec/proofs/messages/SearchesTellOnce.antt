-- In a search no shard tells a bucket twice.
use Rattle.std.proofs.Common.{◌≡◌, ◌≢◌, ◌⊎◌, ℕ, zero, suc, ◌+◌, ◌<◌, ◌≤◌, List, [], ◌∷◌, ◌++◌, append_assoc, append-nil, map, length, true, cond, not, is_some, refl, sym, ◌∙◌, ap, subst, inl, inr, arith}
use Rattle.std.specs.List.{AllByRecursion, filter}
use Rattle.std.proofs.lemmas.Bool.{false≢true, cases_lt}
use Rattle.fc_spec.specs.words.Lists.{is_empty, numbers_below}
use Rattle.fc_spec.specs.documents.World.{World}
use Rattle.fc_spec.specs.requests.Request.{Request}
use Rattle.fc_spec.specs.messages.Message.{first, more}
use Rattle.fc_spec.specs.messages.Answer.{answer}
use Rattle.fc_spec.specs.messages.Held.{Told, held, told_by}
use Rattle.fc_spec.specs.messages.Lacks.{Lack, lacks, terms_depth}
use Rattle.fc_spec.specs.messages.Rounds.{SentMessage, told_in, next_lacks, wants_of, sent_by, first_round, later_round, rounds_from}
use Rattle.fc_spec.specs.laws.Merging.{IsAnswer, HasRoots}
use Rattle.fc_spec.specs.laws.RoundsEnd.{LacksNothingBelow}
use Rattle.fc_spec.specs.laws.LacksLaws.{TellOnce, way_depth, AreWithinDepth, AreOfOthers, SearchesTellOnce}
use Rattle.fc_spec.proofs.words.Members.{Member, all_from_members, each_member}
use Rattle.fc_spec.proofs.words.Differing.{Differ, Other, differ_filter, differ_range}
use Rattle.fc_spec.proofs.messages.HeldFurther.{all_append, held_among_more}
use Rattle.fc_spec.proofs.messages.RoundComplete.{told_in-append, later_round_answers, round_completes}
use Rattle.fc_spec.proofs.messages.SearchEnds.{IsNext, next_is, first_answers, first_roots, number_is_below}
use Rattle.fc_spec.proofs.messages.ToldOnce.{told_want, first_tell_once, rounds_tell_once}

-- what is told by one shard is told by none of the others
others_more : (j : ℕ) (B T : List Told) (i : ℕ) → AreOfOthers j B → AllByRecursion (λ t. t.shard ≡ i) T → i ≢ j → AreOfOthers j (B ++ T)
others_more j B T i b t apart = all_append (λ u. u.shard ≢ j) B T b (all_from_members (λ u. u.shard ≢ j) T (λ u m e. apart (sym (each_member (λ x. x.shard ≡ i) T u t m) ∙ e)))

within_more : (r : Request) (d e : ℕ) (A : List Told) → d ≤ e → AreWithinDepth r.nodes d A → AreWithinDepth r.nodes e A
within_more r d e A le within = all_from_members (λ t. way_depth r.nodes t.way ≤ e) A (λ t m. let own = each_member (λ x. way_depth r.nodes x.way ≤ d) A t within m in omega arith)

module _ (r : Request) (W : World) where
  -- ---- the first round
  abbrev firsts : List ℕ → List Told
  firsts is = told_in r.nodes (map (λ i. sent_by r W 1 i first) is)

  first_tell : (is : List ℕ) (B : List Told) → Differ Other is → ((j : ℕ) → Member j is → AreOfOthers j B) → TellOnce B → TellOnce (B ++ firsts is) × AreWithinDepth r.nodes 0 (firsts is)
  first_tell [] B d others once = (subst TellOnce (sym (append-nil B)) once, tt)
  first_tell (i ∷ is) B d others once =
      let own = told_by r.nodes i first (answer r W i first) in
      let step = first_tell_once r.nodes B i (answer r W i first) once (others i (inl refl)) in
      let rest = first_tell is (B ++ own) d.1 (λ j m. others_more j B own i (others j (inr m)) (refl, tt) (d.0 j m)) step.0 in
      (subst TellOnce (append_assoc B own (firsts is)) rest.0, all_append (λ t. way_depth r.nodes t.way ≤ 0) own (firsts is) step.1 rest.1)

  -- ---- a later round
  module _ (A : List Told) (e round : ℕ) (within : AreWithinDepth r.nodes e A) where
    abbrev all : List Lack
    all = lacks r (length W) A e

    abbrev laters : List ℕ → List Told
    laters is = told_in r.nodes (map (λ i. sent_by r W round i (more (wants_of i all))) is)

    later_tell : (is : List ℕ) (B : List Told) → Differ Other is → ((j : ℕ) → Member j is → AreOfOthers j B) → TellOnce (A ++ B) → TellOnce (A ++ (B ++ laters is)) × AreWithinDepth r.nodes (e + 1) (laters is)
    later_tell [] B d others once = (subst (λ T. TellOnce (A ++ T)) (sym (append-nil B)) once, tt)
    later_tell (i ∷ is) B d others once =
        let m = answer r W i (more (wants_of i all)) in
        let own = told_by r.nodes i (more (wants_of i all)) m in
        let step = rounds_tell_once r (length W) A B e i m once within (others i (inl refl)) in
        let mine = all_from_members (λ t. t.shard ≡ i) own (λ t there. (told_want r.nodes i (wants_of i all) m t there).2) in
        let rest = later_tell is (B ++ own) d.1 (λ j n. others_more j B own i (others j (inr n)) mine (d.0 j n)) (subst TellOnce (append_assoc A B own) step.0) in
        (subst (λ T. TellOnce (A ++ T)) (append_assoc B own (laters is)) rest.0, all_append (λ t. way_depth r.nodes t.way ≤ e + 1) own (laters is) step.1 rest.1)

    round_tells : TellOnce A → TellOnce (A ++ told_in r.nodes (later_round r W round all)) × AreWithinDepth r.nodes (e + 1) (A ++ told_in r.nodes (later_round r W round all))
    round_tells once =
        let is = filter (λ i. not (is_empty (wants_of i all))) (numbers_below (length W)) in
        let told = later_tell is [] (differ_filter Other (λ i. not (is_empty (wants_of i all))) (numbers_below (length W)) (differ_range (length W) 0)) (λ j m. tt) (subst TellOnce (sym (append-nil A)) once) in
        (told.0, all_append (λ t. way_depth r.nodes t.way ≤ e + 1) A (laters is) (within_more r e (e + 1) A (omega arith) within) told.1)

  tell_from : (left done round : ℕ) (sent : List SentMessage) → AllByRecursion (IsAnswer r W) sent → HasRoots (length W) (told_in r.nodes sent)
      → LacksNothingBelow r (length W) sent done → TellOnce (told_in r.nodes sent) → AreWithinDepth r.nodes done (told_in r.nodes sent) → TellOnce (told_in r.nodes (rounds_from r W left round sent))
  tell_from zero done round sent answers roots none once within = once
  tell_from (suc left) done round sent answers roots none once within = go (next_is r (length W) (told_in r.nodes sent) (terms_depth r.nodes) 0) (λ f s. tell_from left (f + 1) (suc round) s)
    where
      next : List Lack
      next = next_lacks r (length W) (told_in r.nodes sent) (terms_depth r.nodes) 0

      go : IsNext r (length W) (told_in r.nodes sent) (terms_depth r.nodes) 0 next
          → ((f : ℕ) (s : List SentMessage) → AllByRecursion (IsAnswer r W) s → HasRoots (length W) (told_in r.nodes s) → LacksNothingBelow r (length W) s (f + 1) → TellOnce (told_in r.nodes s) → AreWithinDepth r.nodes (f + 1) (told_in r.nodes s)
          → TellOnce (told_in r.nodes (rounds_from r W left (suc round) s)))
          → TellOnce (told_in r.nodes (cond (is_empty next) sent (rounds_from r W left (suc round) (sent ++ later_round r W round next))))
      go (inl ended) ih = subst (λ b. TellOnce (told_in r.nodes (cond b sent (rounds_from r W left (suc round) (sent ++ later_round r W round next))))) (sym (ap is_empty ended.0)) once
      go (inr goes_on) ih =
          let A = told_in r.nodes sent in
          let f = goes_on.0 in
          let more_sent = sent ++ later_round r W round (lacks r (length W) A f) in
          let joined = told_in-append r.nodes sent (later_round r W round (lacks r (length W) A f)) in
          let told = round_tells A f round (within_more r done f A (deeper (cases_lt f done)) within) once in
          subst (λ b. TellOnce (told_in r.nodes (cond b sent (rounds_from r W left (suc round) (sent ++ later_round r W round next))))) (sym goes_on.2)
          (subst (λ a. TellOnce (told_in r.nodes (rounds_from r W left (suc round) (sent ++ later_round r W round a)))) (sym goes_on.1)
          (ih f more_sent (all_append (IsAnswer r W) sent (later_round r W round (lacks r (length W) A f)) answers (later_round_answers r W round (lacks r (length W) A f)))
          (λ i h. subst (λ T. is_some (held T i []) ≡ true) (sym joined) (held_among_more A (told_in r.nodes (later_round r W round (lacks r (length W) A f))) i [] (roots i h)))
          (round_completes r W sent f round answers roots (λ c h. goes_on.3 c (omega arith) h))
          (subst TellOnce (sym joined) told.0) (subst (AreWithinDepth r.nodes (f + 1)) (sym joined) told.1)))
        where
          deeper : (goes_on.0 < done) ⊎ (done ≤ goes_on.0) → done ≤ goes_on.0
          deeper (inl shallow) = absurd (false≢true (sym goes_on.2 ∙ ap is_empty (goes_on.1 ∙ none goes_on.0 shallow)))
          deeper (inr deep) = deep

pub searches_tell_once : SearchesTellOnce
searches_tell_once r W =
    let told = first_tell r W (numbers_below (length W)) [] (differ_range (length W) 0) (λ j m. tt) (λ i j d before within. absurd (omega arith)) in
    tell_from r W (terms_depth r.nodes) 0 2 (first_round r W) (first_answers r W (numbers_below (length W)))
    (λ i h. first_roots r W (numbers_below (length W)) i (number_is_below (length W) 0 i (omega arith) (omega arith))) (λ d less. absurd (omega arith)) told.0 told.1
