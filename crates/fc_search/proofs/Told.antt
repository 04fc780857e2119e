-- A message that is told: it fits, and what follows.
use Rattle.std.proofs.Common.{◌≡◌, ℕ, suc, ◌+◌, ◌-◌, ◌<◌, ◌≤◌, List, [], ◌∷◌, ◌++◌, append_assoc, append-nil, map, length, true, false, cond, None, Some, is_some, IsTrue, refl, sym, ◌∙◌, ap, subst, arith}
use Rattle.std.specs.Prelude.{slice_set}
use Rattle.std.specs.List.{AllByRecursion, list_any}
use Rattle.std.proofs.lemmas.Bool.{false≢true, ne_eqb}
use Rattle.std.proofs.lemmas.List.{map-append}
use Rattle.fc_spec.specs.words.Lists.{is_empty, numbers_below}
use Rattle.fc_spec.specs.documents.World.{World}
use Rattle.fc_spec.specs.requests.Request.{Request}
use Rattle.fc_spec.specs.messages.Message.{Partials, Ask}
use Rattle.fc_spec.specs.messages.MessageShape.{is_shaped}
use Rattle.fc_spec.specs.messages.Held.{Told, told_by}
use Rattle.fc_spec.specs.messages.Lacks.{Lack, terms_depth}
use Rattle.fc_spec.specs.messages.MessageBytes.{message_bytes}
use Rattle.fc_spec.specs.messages.Trace.{Sent, entry_of}
use Rattle.fc_spec.specs.messages.Rounds.{SentMessage, told_in, next_lacks, wants_of, later_round, rounds_from, search_rounds}
use Rattle.fc_spec.specs.laws.LacksLaws.{TellOnce}
use Rattle.fc_spec.specs.laws.Merging.{IsAnswer}
use Rattle.fc_spec.specs.laws.SumsLaw.{SumsFit}
use Rattle.fc_spec.specs.scripts.WorldLimits.{IsWithinLimits}
use Rattle.fc_spec.proofs.messages.HeldFurther.{all_append}
use Rattle.fc_spec.proofs.messages.RoundComplete.{told_in-append}
use Rattle.fc_coord.specs.State.{State, ask_at, ask_for, begun, goes_on, heard, is_awaited, is_fitting, is_shaped_for, lacks_next, taken, told_for, told_of}
use Rattle.fc_coord.specs.Keeps.{Keeps}
use Rattle.fc_coord.proofs.AskLists.{not_ready}
use Rattle.fc_coord.proofs.Beginning.{has_begun, length-asks_for}
use Rattle.fc_coord.proofs.Hearing.{asks_name_keys, fits_is_exact, heard_keeps, length-heard, once_told}
use Rattle.fc_coord.proofs.Kept.{waits}
use Rattle.fc_refine.specs.Named.{NamesKeys}
use Rattle.fc_units.specs.Asked.{asked_count}
use Rattle.fc_round.specs.Questions.{ShardAnswer}
use Rattle.fc_search.specs.Hearing.{HasHeard, IsHearing, WasTold, all_messages, answers_from, awaited_answers, awaited_messages, messages_from, rounds_left}
use Rattle.fc_search.specs.SearchLaws.{AreTellingLaws}
use Rattle.fc_search.proofs.AskedAgain.{kept_asked, made_asked, round_asks, some_wanted}
use Rattle.fc_search.proofs.Awaited.{IsFirst, asked_there, first_awaited, no_messages, none_awaited, some_awaited}
use Rattle.fc_search.proofs.Begun.{fewer_begun}
use Rattle.fc_search.proofs.TraceRounds.{in_later_round, lacks_behind, rounds_end, rounds_go_on}

-- in a round that began with so many left: the answers that are still to be told are those that are awaited; behind the last one fewer rounds are left
abbrev pub IsInRound : Request → World → ℕ → State → List ShardAnswer → Type 0
IsInRound r W left s [] = rounds_left s < left
IsInRound r W left s (a ∷ rest) = (awaited_answers r W s ≡ a ∷ rest) × (rounds_left s ≡ left)

-- ---- the message that is told next

module _ (laws : AreTellingLaws) (r : Request) (W : World) (limits : IsWithinLimits W) (s : State) (sent : List SentMessage) (told : WasTold r W s sent) (left : ℕ) (a : ShardAnswer) (rest : List ShardAnswer) (here : IsInRound r W left s (a ∷ rest)) where
  abbrev A : List Told
  A = told_in r.nodes sent

  pub next : IsFirst r W 0 s.asks a rest
  next = first_awaited r W 0 s.asks a rest here.0

  place : a.shard ≡ next.place
  place = let shard = next.shard in omega (arith, shard)

  at : ask_at s.asks a.shard ≡ Some next.ask
  at = ap (ask_at s.asks) place ∙ next.asked

  abbrev one : SentMessage
  one = record { round = s.round; shard = a.shard; ask = next.ask; message = a.message }

  answers : AllByRecursion (IsAnswer r W) (sent ++ one ∷ [])
  answers = all_append (IsAnswer r W) sent (one ∷ []) told.answers (next.message, tt)

  own : told_of s a.shard a.message ≡ told_by r.nodes a.shard next.ask a.message
  own = ap (λ o. told_for s.request.nodes a.shard o a.message) at ∙ ap (λ (x : Request). told_by x.nodes a.shard next.ask a.message) told.request

  told_is : told_in r.nodes (sent ++ one ∷ []) ≡ A ++ told_of s a.shard a.message
  told_is = told_in-append r.nodes sent (one ∷ []) ∙ ap (λ T. A ++ T) (append-nil (told_by r.nodes a.shard next.ask a.message) ∙ sym own)

  once : TellOnce (A ++ told_of s a.shard a.message)
  once = subst (λ T. TellOnce (A ++ T)) (sym (ap (λ o. told_for s.request.nodes a.shard o a.message) at)) (once_told s A a.shard a.message told.kept next.ask at)

  sums : SumsFit (A ++ told_of s a.shard a.message)
  sums = subst SumsFit told_is (laws.fit r W (sent ++ one ∷ []) limits answers (subst TellOnce (sym told_is) once))

  shaped : IsTrue (is_shaped_for s.request (ask_at s.asks a.shard) a.message)
  shaped =
      ap (λ o. is_shaped_for s.request o a.message) at ∙ ap (λ x. is_shaped x next.ask a.message) told.request ∙ ap (is_shaped r next.ask) next.message ∙ laws.shaped r W a.shard next.ask

  pub awaited : IsTrue (is_awaited s a.shard)
  awaited = ap is_some at

  pub fitting : IsTrue (is_fitting s a.shard a.message)
  fitting = (fits_is_exact s A a.shard a.message laws.exact told.kept awaited).1 (shaped, sums)

  -- ---- the state behind it

  unready : s.ready ≡ false
  unready = not_ready s.ready s.asks a.shard (λ ready. (told.kept.ended ready).0) awaited

  abbrev h : State
  h = heard s a.shard a.message

  abbrev B : List Told
  B = A ++ told_of s a.shard a.message

  others : awaited_answers r W h ≡ rest
  others = ap (λ i. answers_from r W 0 (slice_set s.asks i None)) place ∙ next.others

  shards : length h.asks ≡ length W
  shards = length-heard s.asks a.shard ∙ told.shards

  -- the rounds that are to come, with this message told
  own_message : awaited_messages r W s ≡ one ∷ awaited_messages r W h
  own_message =
      next.messages s.round
      ∙ (λ j. record { round = s.round; shard = a.shard; ask = next.ask; message = sym next.message j } ∷ messages_from r W s.round 0 (slice_set s.asks (sym place j) None))

  to_come : rounds_from r W (terms_depth r.nodes + 1 - s.round) (suc s.round) ((sent ++ one ∷ []) ++ awaited_messages r W h) ≡ search_rounds r W
  to_come =
      ap (rounds_from r W (terms_depth r.nodes + 1 - s.round) (suc s.round)) (append_assoc sent (one ∷ []) (awaited_messages r W h) ∙ ap (λ ms. sent ++ ms) (sym own_message))
      ∙ sym (ap (λ b. cond b sent (rounds_from r W (terms_depth r.nodes + 1 - s.round) (suc s.round) (sent ++ awaited_messages r W s))) unready) ∙ told.rounds

  -- what follows in a state that keeps all that was told
  abbrev Follows : List ShardAnswer → State → Type 0
  Follows after x = Keeps x B → WasTold r W x (sent ++ one ∷ []) × IsInRound r W left x after

  -- others are awaited
  waiting : (b : ShardAnswer) (bs : List ShardAnswer) → awaited_answers r W h ≡ b ∷ bs → Follows (b ∷ bs) (goes_on h B)
  waiting b bs e = subst (Follows (b ∷ bs)) (waits h B some) (λ k. (
    record {
      request = told.request;
      shards = shards;
      kept = subst (Keeps h) (sym told_is) k;
      answers = answers;
      fresh = told.fresh;
      asks = kept_asked (λ ask. 0 < asked_count ask) s.asks a.shard told.asks;
      goes_on = λ unready. some;
      rounds = ap (λ b. cond b (sent ++ one ∷ []) (rounds_from r W (terms_depth r.nodes + 1 - s.round) (suc s.round) ((sent ++ one ∷ []) ++ awaited_messages r W h))) unready ∙ to_come;
      counted = told.counted;
    },
    (e, here.1),
  ))
    where
      some : list_any is_some h.asks ≡ true
      some = some_awaited r W 0 h.asks b bs e

  -- the round has ended
  lack_same : lacks_behind r W (sent ++ one ∷ []) ≡ lacks_next h B
  lack_same = λ j. next_lacks (sym told.request j) (sym shards j) (told_is j) (terms_depth (sym told.request j).nodes) 0

  ended_rounds : awaited_answers r W h ≡ [] → rounds_from r W (terms_depth r.nodes + 1 - s.round) (suc s.round) (sent ++ one ∷ []) ≡ search_rounds r W
  ended_rounds none =
      ap (rounds_from r W (terms_depth r.nodes + 1 - s.round) (suc s.round)) (sym (append-nil (sent ++ one ∷ [])) ∙ ap (λ ms. (sent ++ one ∷ []) ++ ms) (sym (no_messages r W s.round 0 h.asks none))) ∙ to_come

  told_begun : (all : List Lack) → lacks_next h B ≡ all → awaited_answers r W h ≡ [] → (is_empty all ≡ false → s.round ≤ terms_depth s.request.nodes) → Keeps h B → Keeps (begun h all) B → WasTold r W (begun h all) (sent ++ one ∷ [])
  told_begun [] e none counted hk k = record {
    request = told.request;
    shards = shards;
    kept = subst (Keeps (begun h [])) (sym told_is) k;
    answers = answers;
    fresh = told.fresh;
    asks = kept_asked (λ ask. 0 < asked_count ask) s.asks a.shard told.asks;
    goes_on = λ unready. absurd (false≢true (sym unready));
    rounds = sym (rounds_end r W (terms_depth r.nodes + 1 - s.round) (suc s.round) (sent ++ one ∷ []) (lack_same ∙ e)) ∙ ended_rounds none;
    counted = told.counted;
  }
  told_begun (l ∷ ls) e none counted hk k = record {
    request = told.request;
    shards = length-asks_for (length h.asks) (l ∷ ls) ∙ shards;
    kept = subst (Keeps (begun h (l ∷ ls))) (sym told_is) k;
    answers = answers;
    fresh = told.fresh;
    asks = made_asked (λ ask. 0 < asked_count ask) (λ i. ask_for (wants_of i (l ∷ ls))) (λ i ask f. some_wanted (wants_of i (l ∷ ls)) ask f) (numbers_below (length h.asks));
    goes_on = λ unready. round_asks h B l ls hk e;
    rounds = next_rounds;
    counted = let low = in_time in (omega arith, omega (arith, low));
  }
    where
      in_time : s.round ≤ terms_depth r.nodes
      in_time = subst (λ (x : Request). s.round ≤ terms_depth x.nodes) told.request (counted (ne_eqb (suc (length ls)) 0 (λ same. omega arith)))

      left_is : terms_depth r.nodes + 1 - s.round ≡ suc (terms_depth r.nodes + 1 - suc s.round)
      left_is = let low = in_time in omega (arith, low)

      later : messages_from r W (suc s.round) 0 (map (λ i. ask_for (wants_of i (l ∷ ls))) (numbers_below (length h.asks))) ≡ later_round r W (suc s.round) (l ∷ ls)
      later = in_later_round r W (suc s.round) (length h.asks) (l ∷ ls) shards

      next_rounds : all_messages r W (begun h (l ∷ ls)) (sent ++ one ∷ []) ≡ search_rounds r W
      next_rounds =
          ap (λ b. cond b (sent ++ one ∷ []) (rounds_from r W (terms_depth r.nodes + 1 - suc s.round) (suc (suc s.round)) ((sent ++ one ∷ []) ++ awaited_messages r W (begun h (l ∷ ls))))) unready
          ∙ ap (λ ms. rounds_from r W (terms_depth r.nodes + 1 - suc s.round) (suc (suc s.round)) ((sent ++ one ∷ []) ++ ms)) later
          ∙ sym (rounds_go_on r W (terms_depth r.nodes + 1 - suc s.round) (suc s.round) (sent ++ one ∷ []) l ls (lack_same ∙ e))
          ∙ ap (λ left. rounds_from r W left (suc s.round) (sent ++ one ∷ [])) (sym left_is) ∙ ended_rounds none

  ended : awaited_answers r W h ≡ [] → Keeps h B → Follows [] (goes_on h B)
  ended e hk = subst (Follows []) (sym (ap (λ b. cond b h (begun h (lacks_next h B))) none)) (λ k. (told_begun (lacks_next h B) refl e (has_begun h B hk none).counted hk k, fewer))
    where
      none : list_any is_some h.asks ≡ false
      none = none_awaited r W 0 h.asks e

      fewer : rounds_left (begun h (lacks_next h B)) < left
      fewer = let less = fewer_begun h B hk none unready in let same : rounds_left h ≡ left = here.1 in omega (arith, less, same)

  follows : (after : List ShardAnswer) → awaited_answers r W h ≡ after → Keeps h B → Follows after (goes_on h B)
  follows [] e hk = ended e hk
  follows (b ∷ bs) e hk = waiting b bs e

  -- the coordinator as it is then
  pub told_more : (new : State) → Keeps new B → new ≡ taken s A a.shard a.message → WasTold r W new (sent ++ one ∷ []) × IsInRound r W left new rest
  told_more new k is = subst (Follows rest) (sym is) (follows rest others (heard_keeps s A a.shard a.message laws.more laws.exact told.kept awaited fitting)) k

  -- the entry of this message
  pub entry : map entry_of (sent ++ one ∷ []) ≡ map entry_of sent ++ record { round = s.round; shard = a.shard; length = length (message_bytes a.message) } ∷ []
  entry = map-append entry_of sent (one ∷ [])

  -- its shard is there
  pub shard_there : a.shard < length W
  shard_there = let below = asked_there s.asks a.shard next.ask at in let same = told.shards in omega (arith, below, same)

-- ---- in a round

-- a search under way, whose messages so far have these entries, in a round that began with so many left
abbrev pub IsUnderWay : Request → World → ℕ → State → List Sent → List ShardAnswer → Type 0
IsUnderWay r W left s es rest = (sent : List SentMessage) × WasTold r W s sent × (map entry_of sent ≡ es) × IsInRound r W left s rest

-- the round begins: some answers are awaited
pub round_begins : (r : Request) (W : World) (s : State) (es : List Sent) → HasHeard r W s es → s.ready ≡ false → IsUnderWay r W (rounds_left s) s es (awaited_answers r W s)
round_begins r W s es (sent, told, entries) unready = (sent, told, entries, go (awaited_answers r W s) refl)
  where
    go : (all : List ShardAnswer) → awaited_answers r W s ≡ all → IsInRound r W (rounds_left s) s all
    go [] e = absurd (false≢true (sym (none_awaited r W 0 s.asks e) ∙ told.goes_on unready))
    go (a ∷ rest) e = (e, refl)

-- what was heard is heard in a round that is over
pub round_over : (r : Request) (W : World) (left : ℕ) (s : State) (es : List Sent) → IsUnderWay r W left s es [] → HasHeard r W s es × (rounds_left s < left)
round_over r W left s es (sent, told, entries, fewer) = ((sent, told, entries), fewer)

-- the next message can be told
pub told_awaited : (laws : AreTellingLaws) (r : Request) (W : World) (limits : IsWithinLimits W) (left : ℕ) (s : State) (es : List Sent) (a : ShardAnswer) (rest : List ShardAnswer) (i : ℕ) (m : Partials) → IsUnderWay r W left s es (a ∷ rest) → i ≡ a.shard → m ≡ a.message
    → (s.spent ≡ false) × IsTrue (is_awaited s i) × IsTrue (is_fitting s i m)
told_awaited laws r W limits left s es a rest i m (sent, told, entries, here) shard message = (
  told.fresh,
  subst (λ k. IsTrue (is_awaited s k)) (sym shard) (awaited laws r W limits s sent told left a rest here),
  subst (λ k. IsTrue (is_fitting s k m)) (sym shard) (subst (λ x. IsTrue (is_fitting s a.shard x)) (sym message) (fitting laws r W limits s sent told left a rest here)),
)

-- and a probe can be told of it
pub told_within : (laws : AreTellingLaws) (r : Request) (W : World) (limits : IsWithinLimits W) (left : ℕ) (s : State) (es : List Sent) (a : ShardAnswer) (rest : List ShardAnswer) → IsUnderWay r W left s es (a ∷ rest) → terms_depth r.nodes ≤ 8
    → (1 ≤ s.round) × (s.round ≤ 9) × (a.shard < 64)
told_within laws r W limits left s es a rest (sent, told, entries, here) few =
    let counted = told.counted.1 in
    let there = shard_there laws r W limits s sent told left a rest here in
    let shards = limits.shards in
    (told.counted.0, omega (arith, counted, few), omega (arith, there, shards))

-- and the search is under way then too; of the new state this is known for whatever was told
pub told_then : (laws : AreTellingLaws) (r : Request) (W : World) (limits : IsWithinLimits W) (left : ℕ) (s new : State) (es : List Sent) (a : ShardAnswer) (rest : List ShardAnswer) (i : ℕ) (m : Partials) → IsUnderWay r W left s es (a ∷ rest) → i ≡ a.shard → m ≡ a.message
    → ((A : List Told) → Keeps s A → Keeps new (A ++ told_of s i m)) → ((A : List Told) → Keeps s A → new ≡ taken s A i m) → IsUnderWay r W left new (es ++ record { round = s.round; shard = a.shard; length = length (message_bytes a.message) } ∷ []) rest
told_then laws r W limits left s new es a rest i m (sent, told, entries, here) shard message kept state =
    let A = told_in r.nodes sent in
    let k : Keeps new (A ++ told_of s a.shard a.message) = subst (λ T. Keeps new (A ++ T)) (λ j. told_of s (shard j) (message j)) (kept A told.kept) in
    let is : new ≡ taken s A a.shard a.message = state A told.kept ∙ (λ j. taken s A (shard j) (message j)) in
    let all = told_more laws r W limits s sent told left a rest here new k is in
    let one_more : Sent = record { round = s.round; shard = a.shard; length = length (message_bytes a.message) } in (
      sent ++ one laws r W limits s sent told left a rest here ∷ [],
      all.0,
      entry laws r W limits s sent told left a rest here ∙ ap (λ fs. fs ++ one_more ∷ []) entries,
      all.1,
    )

-- ---- what is asked

-- whoever is awaited is asked for buckets that are there, one at least
pub asked_well : (r : Request) (W : World) (s : State) (i : ℕ) (ask : Ask) → IsHearing r W s → ask_at s.asks i ≡ Some ask → (0 < asked_count ask) × NamesKeys r.nodes ask
asked_well r W s i ask (sent, told) at = (told.asks i ask at, subst (λ (x : Request). NamesKeys x.nodes ask) told.request (asks_name_keys s (told_in r.nodes sent) i ask told.kept at))

-- there is an ask for each shard
pub asks_there : (r : Request) (W : World) (s : State) → IsHearing r W s → length s.asks ≡ length W
asks_there r W s (sent, told) = told.shards
