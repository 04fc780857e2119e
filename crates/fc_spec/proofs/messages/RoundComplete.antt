-- Answers that tell of what lacks at a depth complete it, and keep the depths below.
use Rattle.std.proofs.Common.{◌≡◌, ◌⊎◌, ℕ, zero, suc, ◌+◌, ◌<◌, ◌≤◌, List, [], ◌∷◌, ◌++◌, append_assoc, map, length, true, not, ◌==◌, Option, None, Some, is_some, is_none, refl, sym, ◌∙◌, ap, subst, inl, inr, arith}
use Rattle.std.specs.List.{AllByRecursion, filter}
use Rattle.std.proofs.lemmas.Bool.{eq-eqb, ne_eqb, cases_lt}
use Rattle.fc_spec.specs.words.Lists.{is_empty, numbers_below}
use Rattle.fc_spec.specs.documents.World.{World}
use Rattle.fc_spec.specs.requests.Request.{Nodes, Request}
use Rattle.fc_spec.specs.replies.Reading.{over_places}
use Rattle.fc_spec.specs.replies.Distributed.{root_bucket}
use Rattle.fc_spec.specs.messages.Message.{Way, way_of, more}
use Rattle.fc_spec.specs.messages.Held.{HeldBucket, Told, held, told_by}
use Rattle.fc_spec.specs.messages.Merged.{over_held}
use Rattle.fc_spec.specs.messages.Lacks.{Lack, wanted, untold, lacks}
use Rattle.fc_spec.specs.messages.Rounds.{SentMessage, told_in, wants_of, sent_by, later_round}
use Rattle.fc_spec.specs.laws.Merging.{IsAnswer, HasRoots}
use Rattle.fc_spec.specs.laws.RoundsEnd.{LacksNothingBelow, RoundsComplete, RoundsAnswer}
use Rattle.fc_spec.proofs.words.Members.{Member, every_from_members, every_member, filter_member, member_of_filter}
use Rattle.fc_spec.proofs.messages.HeldAnswers.{IsTold}
use Rattle.fc_spec.proofs.messages.HeldFurther.{held_among_more, held_among_later, all_append, answers_told, wants_held}
use Rattle.fc_spec.proofs.messages.Merges.{AllTold, from_start}
use Rattle.fc_spec.proofs.messages.MergedReply.{all_told, none_untold, root_state}
use Rattle.fc_spec.proofs.messages.WantedAgree.{wanted_agrees}
use Rattle.fc_spec.proofs.messages.Beyond.{wanted_among}

-- what is told in more messages
pub told_in-append : (nodes : Nodes) (xs ys : List SentMessage) → told_in nodes (xs ++ ys) ≡ told_in nodes xs ++ told_in nodes ys
told_in-append nodes [] ys = refl
told_in-append nodes (x ∷ xs) ys = ap (λ t. told_by nodes x.shard x.ask x.message ++ t) (told_in-append nodes xs ys) ∙ sym (append_assoc (told_by nodes x.shard x.ask x.message) (told_in nodes xs) (told_in nodes ys))

-- what is held of one of some messages is held of all
held_of_one : (nodes : Nodes) (ss : List SentMessage) (s : SentMessage) (i : ℕ) (way : Way) → Member s ss → is_some (held (told_by nodes s.shard s.ask s.message) i way) ≡ true → is_some (held (told_in nodes ss) i way) ≡ true
held_of_one nodes [] s i way m h = absurd m
held_of_one nodes (x ∷ xs) s i way (inl e) h = held_among_more (told_by nodes x.shard x.ask x.message) (told_in nodes xs) i way (subst (λ y. is_some (held (told_by nodes y.shard y.ask y.message) i way) ≡ true) e h)
held_of_one nodes (x ∷ xs) s i way (inr m) h = held_among_later (told_by nodes x.shard x.ask x.message) (told_in nodes xs) i way (held_of_one nodes xs s i way m h)

map_member : {X Y : Type 0} (f : X → Y) (xs : List X) (x : X) → Member x xs → Member (f x) (map f xs)
map_member f [] x m = absurd m
map_member f (y ∷ ys) x (inl e) = inl (ap f e)
map_member f (y ∷ ys) x (inr m) = inr (map_member f ys x m)

a_member_is_there : {X : Type 0} (xs : List X) (x : X) → Member x xs → not (is_empty xs) ≡ true
a_member_is_there [] x m = absurd m
a_member_is_there (y ∷ ys) x m = ap not (ne_eqb (suc (length ys)) 0 (λ e. omega arith))

-- the round that asks for what lacks holds it
pub later_round_holds : (r : Request) (W : World) (round : ℕ) (all : List Lack) (l : Lack) → Member l.shard (numbers_below (length W)) → Member l all → is_some (held (told_in r.nodes (later_round r W round all)) l.shard (way_of l.want)) ≡ true
later_round_holds r W round all l at m =
    let mine = map_member (λ (k : Lack). k.want) (filter (λ k. k.shard == l.shard) all) l (member_of_filter (λ k. k.shard == l.shard) all l m (eq-eqb l.shard l.shard refl)) in
    held_of_one r.nodes (later_round r W round all) (sent_by r W round l.shard (more (wants_of l.shard all))) l.shard (way_of l.want)
    (map_member (λ i. sent_by r W round i (more (wants_of i all))) (filter (λ i. not (is_empty (wants_of i all))) (numbers_below (length W))) l.shard
    (member_of_filter (λ i. not (is_empty (wants_of i all))) (numbers_below (length W)) l.shard at (a_member_is_there (wants_of l.shard all) l.want mine)))
    (wants_held r W l.shard (wants_of l.shard all) l.want mine)

-- the messages of a round are answers
pub later_round_answers : (r : Request) (W : World) (round : ℕ) (all : List Lack) → AllByRecursion (IsAnswer r W) (later_round r W round all)
later_round_answers r W round all = go (filter (λ i. not (is_empty (wants_of i all))) (numbers_below (length W)))
  where
    go : (is : List ℕ) → AllByRecursion (IsAnswer r W) (map (λ i. sent_by r W round i (more (wants_of i all))) is)
    go [] = tt
    go (i ∷ is) = (refl, go is)

-- a wanted bucket is held, or lacks
held_or_lacks : (A : List Told) (all : List Lack) (l : Lack) → Member l all → (is_some (held A l.shard (way_of l.want)) ≡ true) ⊎ Member l (untold A all)
held_or_lacks A all l m = go (held A l.shard (way_of l.want)) refl
  where
    go : (o : Option HeldBucket) → held A l.shard (way_of l.want) ≡ o → (is_some (held A l.shard (way_of l.want)) ≡ true) ⊎ Member l (untold A all)
    go None e = inr (member_of_filter (λ k. is_none (held A k.shard (way_of k.want))) all l m (ap is_none e))
    go (Some b) e = inl (ap is_some e)

-- what is wanted of the root, over places
abbrev pub wanted_of_root : Request → World → ℕ → List Lack
wanted_of_root r W e = wanted (over_places r W) e r.nodes 0 (numbers_below (length W)) (root_bucket r W) []

-- it is what is wanted over answers that lack nothing below
pub root_agrees : (r : Request) (W : World) (A : List Told) (e : ℕ) → AllByRecursion (IsTold r W) A → HasRoots (length W) A → ((d : ℕ) → d < e → lacks r (length W) A d ≡ [])
    → wanted (over_held A) e r.nodes 0 (numbers_below (length W)) [] [] ≡ wanted_of_root r W e
root_agrees r W A e all roots none =
    wanted_agrees r W A r.nodes e 0 0 (numbers_below (length W)) [] (root_bucket r W) all (root_state r W A roots) (from_start r W [] r.nodes refl)
    (λ d less. all_told A (wanted (over_held A) d r.nodes 0 (numbers_below (length W)) [] []) (none d less))

-- the same of told buckets: where more is told, which holds what lacked at a depth, that depth and those below lack nothing
told_complete : (r : Request) (W : World) (A B : List Told) (e : ℕ) → AllByRecursion (IsTold r W) A → AllByRecursion (IsTold r W) (A ++ B) → HasRoots (length W) A → ((d : ℕ) → d < e → lacks r (length W) A d ≡ [])
    → ((l : Lack) → Member l (lacks r (length W) A e) → is_some (held B l.shard (way_of l.want)) ≡ true) → (d : ℕ) → d < e + 1 → (below : (c : ℕ) → c < d → lacks r (length W) (A ++ B) c ≡ []) → lacks r (length W) (A ++ B) d ≡ []
told_complete r W A B e all all_more roots none answered d less below =
    none_untold (A ++ B) (wanted (over_held (A ++ B)) d r.nodes 0 (numbers_below (length W)) [] [])
    (subst (AllTold (A ++ B)) (before ∙ sym after) (every_from_members (λ l. is_some (held (A ++ B) l.shard (way_of l.want))) wanted_A (λ l m. still l m (cases_lt d e))))
  where
    wanted_A : List Lack
    wanted_A = wanted (over_held A) d r.nodes 0 (numbers_below (length W)) [] []

    before : wanted_A ≡ wanted_of_root r W d
    before = root_agrees r W A d all roots (λ c h. none c (let k : d < e + 1 = less in omega arith))

    after : wanted (over_held (A ++ B)) d r.nodes 0 (numbers_below (length W)) [] [] ≡ wanted_of_root r W d
    after = root_agrees r W (A ++ B) d all_more (λ i h. held_among_more A B i [] (roots i h)) below

    still : (l : Lack) → Member l wanted_A → (d < e) ⊎ (e ≤ d) → is_some (held (A ++ B) l.shard (way_of l.want)) ≡ true
    still l m (inl low) = held_among_more A B l.shard (way_of l.want) (every_member (λ k. is_some (held A k.shard (way_of k.want))) wanted_A l (all_told A wanted_A (none d low)) m)
    still l m (inr high) =
        let same : d ≡ e = omega arith in
        elim (held_or_lacks A wanted_A l m) [
          | inl h ↦ held_among_more A B l.shard (way_of l.want) h
          | inr lacking ↦ held_among_later A B l.shard (way_of l.want) (answered l (subst (λ c. Member l (lacks r (length W) A c)) same lacking))
        ]

-- a fact about each number, from that about those below it
by_those_below : (P : ℕ → Type 0) (n : ℕ) → ((d : ℕ) → d < n → ((c : ℕ) → c < d → P c) → P d) → (d : ℕ) → d < n → P d
by_those_below P zero step d less = absurd (omega arith)
by_those_below P (suc n) step d less = last (cases_lt d n) (by_those_below P n (λ c h below. step c (omega arith) below))
  where
    last : (d < n) ⊎ (n ≤ d) → ((c : ℕ) → c < n → P c) → P d
    last (inl low) ih = ih d low
    last (inr high) ih = step d less (λ c h. ih c (omega arith))

-- what is wanted stays at the shards that are asked
lacks_at_shards : (r : Request) (n : ℕ) (A : List Told) (e : ℕ) (l : Lack) → Member l (lacks r n A e) → Member l.shard (numbers_below n)
lacks_at_shards r n A e l m =
    let all = wanted (over_held A) e r.nodes 0 (numbers_below n) [] [] in
    (wanted_among (over_held A) r.nodes e 0 (numbers_below n) [] [] l (filter_member (λ k. is_none (held A k.shard (way_of k.want))) all l m).0)

pub rounds_complete : RoundsComplete
rounds_complete r W sent extra e answers further roots none holds =
    by_those_below (λ d. lacks r (length W) (told_in r.nodes (sent ++ extra)) d ≡ []) (e + 1) (λ d less below.
    subst (λ T. lacks r (length W) T d ≡ []) (sym (told_in-append r.nodes sent extra))
    (told_complete r W (told_in r.nodes sent) (told_in r.nodes extra) e (answers_told r W sent answers)
    (all_append (IsTold r W) (told_in r.nodes sent) (told_in r.nodes extra) (answers_told r W sent answers) (answers_told r W extra further)) roots none
    (λ l m. every_member (λ k. is_some (held (told_in r.nodes extra) k.shard (way_of k.want))) lacking l (all_told (told_in r.nodes extra) lacking holds) m)
    d less (λ c h. subst (λ T. lacks r (length W) T c ≡ []) (told_in-append r.nodes sent extra) (below c h))))
  where
    lacking : List Lack
    lacking = lacks r (length W) (told_in r.nodes sent) e

pub rounds_answer : RoundsAnswer
rounds_answer r W A e round = (
  later_round_answers r W round lacking,
  none_untold (told_in r.nodes (later_round r W round lacking)) lacking
      (every_from_members (λ l. is_some (held (told_in r.nodes (later_round r W round lacking)) l.shard (way_of l.want))) lacking (λ l m. later_round_holds r W round lacking l (lacks_at_shards r (length W) A e l m) m)),
)
  where
    lacking : List Lack
    lacking = lacks r (length W) A e

-- where answers lack nothing below a depth, the round that answers what lacks there completes it
pub round_completes : (r : Request) (W : World) (sent : List SentMessage) (e round : ℕ) → AllByRecursion (IsAnswer r W) sent → HasRoots (length W) (told_in r.nodes sent)
    → LacksNothingBelow r (length W) sent e → LacksNothingBelow r (length W) (sent ++ later_round r W round (lacks r (length W) (told_in r.nodes sent) e)) (e + 1)
round_completes r W sent e round answers roots none =
    let round_answers = rounds_answer r W (told_in r.nodes sent) e round in
    rounds_complete r W sent (later_round r W round (lacks r (length W) (told_in r.nodes sent) e)) e answers round_answers.0 roots none round_answers.1
