-- The rounds of a search, one after another, and the messages that are awaited.
use Rattle.std.proofs.Common.{◌≡◌, ℕ, zero, suc, ◌+◌, List, [], ◌∷◌, ◌++◌, map, length, cond, not, Option, Some, refl, sym, ◌∙◌, ap, arith}
use Rattle.std.specs.List.{filter, range_with_len}
use Rattle.std.proofs.lemmas.Bool.{ne_eqb}
use Rattle.fc_spec.specs.words.Lists.{is_empty, numbers_below}
use Rattle.fc_spec.specs.documents.World.{World}
use Rattle.fc_spec.specs.requests.Request.{Request}
use Rattle.fc_spec.specs.messages.Message.{Want, Ask, first, more}
use Rattle.fc_spec.specs.messages.Lacks.{Lack, terms_depth}
use Rattle.fc_spec.specs.messages.Rounds.{SentMessage, told_in, next_lacks, wants_of, sent_by, first_round, later_round, rounds_from}
use Rattle.fc_coord.specs.State.{ask_for}
use Rattle.fc_search.specs.Hearing.{messages_from}

-- ---- from one round to the next

-- what lacks next, in any round
abbrev pub lacks_behind : Request → World → List SentMessage → List Lack
lacks_behind r W sent = next_lacks r (length W) (told_in r.nodes sent) (terms_depth r.nodes) 0

-- where nothing lacks there is no further round
pub rounds_end : (r : Request) (W : World) (left round : ℕ) (sent : List SentMessage) → lacks_behind r W sent ≡ [] → rounds_from r W left round sent ≡ sent
rounds_end r W zero round sent none = refl
rounds_end r W (suc left) round sent none = ap (λ all. cond (is_empty all) sent (rounds_from r W left (suc round) (sent ++ later_round r W round all))) none

-- where something lacks there is one
pub rounds_go_on : (r : Request) (W : World) (left round : ℕ) (sent : List SentMessage) (l : Lack) (ls : List Lack) → lacks_behind r W sent ≡ l ∷ ls → rounds_from r W (suc left) round sent ≡ rounds_from r W left (suc round) (sent ++ later_round r W round (l ∷ ls))
rounds_go_on r W left round sent l ls some =
    ap (λ all. cond (is_empty all) sent (rounds_from r W left (suc round) (sent ++ later_round r W round all))) some
    ∙ ap (λ b. cond b sent (rounds_from r W left (suc round) (sent ++ later_round r W round (l ∷ ls)))) (ne_eqb (suc (length ls)) 0 (λ e. omega arith))

-- ---- the messages that are awaited

-- in the first round
first_messages : (r : Request) (W : World) (n i : ℕ) → messages_from r W 1 i (map (λ _. Some first) (range_with_len i n)) ≡ map (λ k. sent_by r W 1 k first) (range_with_len i n)
first_messages r W zero i = refl
first_messages r W (suc n) i =
    let next : suc i ≡ i + 1 = omega arith in
    ap (λ rest. sent_by r W 1 i first ∷ rest) (ap (λ k. messages_from r W 1 k (map (λ _. Some first) (range_with_len (i + 1) n))) next ∙ first_messages r W n (i + 1))

pub at_first : (r : Request) (W : World) (n : ℕ) → n ≡ length W → messages_from r W 1 0 (map (λ _. Some first) (numbers_below n)) ≡ first_round r W
at_first r W n same = first_messages r W n 0 ∙ ap (λ k. map (λ i. sent_by r W 1 i first) (numbers_below k)) same

-- in a later one
later_messages : (r : Request) (W : World) (round : ℕ) (all : List Lack) (n i : ℕ)
    → messages_from r W round i (map (λ k. ask_for (wants_of k all)) (range_with_len i n)) ≡ map (λ k. sent_by r W round k (more (wants_of k all))) (filter (λ k. not (is_empty (wants_of k all))) (range_with_len i n))
later_messages r W round all zero i = refl
later_messages r W round all (suc n) i = go (wants_of i all) refl (ap (λ k. messages_from r W round k asks) (let next : suc i ≡ i + 1 = omega arith in next) ∙ later_messages r W round all n (i + 1))
  where
    asks : List (Option Ask)
    asks = map (λ k. ask_for (wants_of k all)) (range_with_len (i + 1) n)

    those : List ℕ
    those = filter (λ k. not (is_empty (wants_of k all))) (range_with_len (i + 1) n)

    go : (ws : List Want) → wants_of i all ≡ ws → messages_from r W round (suc i) asks ≡ map (λ k. sent_by r W round k (more (wants_of k all))) those
        → messages_from r W round i (ask_for ws ∷ asks) ≡ map (λ k. sent_by r W round k (more (wants_of k all))) (cond (not (is_empty ws)) (i ∷ those) those)
    go [] e behind = behind
    go (w ∷ ws) e behind =
        (λ j. sent_by r W round i (more (sym e j)) ∷ behind j)
        ∙ ap (λ b. map (λ k. sent_by r W round k (more (wants_of k all))) (cond (not b) (i ∷ those) those)) (sym (ne_eqb (suc (length ws)) 0 (λ same. omega arith)))

pub in_later_round : (r : Request) (W : World) (round n : ℕ) (all : List Lack) → n ≡ length W → messages_from r W round 0 (map (λ i. ask_for (wants_of i all)) (numbers_below n)) ≡ later_round r W round all
in_later_round r W round n all same = later_messages r W round all n 0 ∙ ap (λ k. map (λ i. sent_by r W round i (more (wants_of i all))) (filter (λ i. not (is_empty (wants_of i all))) (numbers_below k))) same
