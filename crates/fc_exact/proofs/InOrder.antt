-- The core is told the answers in the order of the shards.
use Rattle.std.proofs.Common.{◌≡◌, ℕ, zero, suc, ◌+◌, ◌-◌, ◌<◌, ◌≤◌, List, [], ◌∷◌, ◌++◌, map, length, Bool, true, false, cond, not, Option, None, Some, is_some, refl, sym, ◌∙◌, ap, subst, arith, append-nil, append_assoc}
use Rattle.std.specs.Prelude.{slice_set}
use Rattle.std.specs.List.{filter, list_any, range_with_len}
use Rattle.std.proofs.lemmas.Bool.{false≢true, true≢false, ne_eqb}
use Rattle.fc_spec.specs.words.Lists.{is_empty, numbers_below}
use Rattle.fc_spec.specs.documents.World.{World}
use Rattle.fc_spec.specs.requests.Request.{Request}
use Rattle.fc_spec.specs.messages.Message.{Want}
use Rattle.fc_spec.specs.messages.TopRounds.{ExactAsk, exact_first, exact_least, exact_more, exact_answer, leasts, wants_from, tops_told, ExactSent, exact_sent, exact_told_in, offering_round, lacking_round}
use Rattle.fc_spec.specs.messages.WholeTrace.{exact_round_count}
use Rattle.fc_spec.proofs.messages.TopsTold.{rounds_tell_tops}
use Rattle.fc_exact.specs.State.{State, ask_at, heard, ask_for, asks_least, asks_lacking, asks_behind, asked_on}
use Rattle.fc_exact.specs.Rounds.{messages_from, rounds_until, WasTold, IsFirstAwaited, rounds_left, IsToldAtStart, IsToldFurther, HasFewerLeft, TellsTops}
use Rattle.fc_exact.proofs.Heard.{any_awaited, asks_made, length-heard, length-made, told_more, within_asks}

-- ---- the first that is awaited

pub first_at : (asks : List (Option ExactAsk)) (i : ℕ) (ask : ExactAsk) → IsFirstAwaited asks i ask → ask_at asks i ≡ Some ask
first_at [] i ask h = absurd h
first_at (o ∷ asks) zero ask h = h
first_at (o ∷ asks) (suc i) ask h = first_at asks i ask h.1

module _ (x : Request) (W : World) (round : ℕ) where
  -- its message comes first
  first_message : (asks : List (Option ExactAsk)) (n i : ℕ) (ask : ExactAsk) → IsFirstAwaited asks i ask
      → messages_from x W round n asks ≡ exact_sent x W round (n + i) ask ∷ messages_from x W round n (slice_set asks i None)
  first_message [] n i ask h = absurd h
  first_message (o ∷ asks) n zero ask h =
      ap (λ a. messages_from x W round n (a ∷ asks)) h ∙ ap (λ k. exact_sent x W round k ask ∷ messages_from x W round (suc n) asks) (let e : n ≡ n + 0 = omega arith in e)
  first_message (o ∷ asks) n (suc i) ask h =
      ap (λ a. messages_from x W round n (a ∷ asks)) h.0 ∙ first_message asks (suc n) i ask h.1
      ∙ ap (λ k. exact_sent x W round k ask ∷ messages_from x W round (suc n) (slice_set asks i None)) (let e : suc n + i ≡ n + suc i = omega arith in e)
      ∙ sym (ap (λ a. exact_sent x W round (n + suc i) ask ∷ messages_from x W round n (a ∷ slice_set asks i None)) h.0)

  -- where none is awaited there is no message
  no_message : (asks : List (Option ExactAsk)) (n : ℕ) → list_any is_some asks ≡ false → messages_from x W round n asks ≡ []
  no_message [] n h = refl
  no_message (None ∷ asks) n h = no_message asks (suc n) h
  no_message (Some a ∷ asks) n h = absurd (true≢false h)

  -- where each shard is asked the same
  asked_alike : (ask : ExactAsk) (n k : ℕ) → messages_from x W round n (map (λ i. Some ask) (range_with_len n k)) ≡ map (λ i. exact_sent x W round i ask) (range_with_len n k)
  asked_alike ask n zero = refl
  asked_alike ask n (suc k) =
      ap (λ ms. exact_sent x W round n ask ∷ ms) (ap (λ m. messages_from x W round m (map (λ i. Some ask) (range_with_len (n + 1) k))) (let e : suc n ≡ n + 1 = omega arith in e) ∙ asked_alike ask (n + 1) k)

  -- where each is asked for its wants, if it has some
  abbrev own_messages : (ℕ → List Want) → List ℕ → List ExactSent
  own_messages wants is = map (λ i. exact_sent x W round i (exact_more (wants i))) (filter (λ i. not (is_empty (wants i))) is)

  some_wants : (w : Want) (ws : List Want) → is_empty (w ∷ ws) ≡ false
  some_wants w ws = ne_eqb (suc (length ws)) 0 (λ e. omega arith)

  asked_first : (wants : ℕ → List Want) (n : ℕ) (is : List ℕ) (asks : List (Option ExactAsk)) → messages_from x W round (suc n) asks ≡ own_messages wants is
      → (ws : List Want) → wants n ≡ ws → messages_from x W round n (ask_for (wants n) ∷ asks) ≡ own_messages wants (n ∷ is)
  asked_first wants n is asks rest [] e =
      ap (λ us. messages_from x W round n (ask_for us ∷ asks)) e ∙ rest
      ∙ sym (ap (λ us. map (λ i. exact_sent x W round i (exact_more (wants i))) (cond (not (is_empty us)) (n ∷ filter (λ i. not (is_empty (wants i))) is) (filter (λ i. not (is_empty (wants i))) is))) e)
  asked_first wants n is asks rest (w ∷ ws) e =
      ap (λ us. messages_from x W round n (ask_for us ∷ asks)) e ∙ ap (λ us. exact_sent x W round n (exact_more us) ∷ messages_from x W round (suc n) asks) (sym e)
      ∙ ap (λ ms. exact_sent x W round n (exact_more (wants n)) ∷ ms) rest
      ∙ sym (ap (λ b. map (λ i. exact_sent x W round i (exact_more (wants i))) (cond (not b) (n ∷ filter (λ i. not (is_empty (wants i))) is) (filter (λ i. not (is_empty (wants i))) is))) (ap is_empty e ∙ some_wants w ws))

  asked_own : (wants : ℕ → List Want) (n k : ℕ) → messages_from x W round n (map (λ i. ask_for (wants i)) (range_with_len n k)) ≡ own_messages wants (range_with_len n k)
  asked_own wants n zero = refl
  asked_own wants n (suc k) =
      asked_first wants n (range_with_len (n + 1) k) (map (λ i. ask_for (wants i)) (range_with_len (n + 1) k))
      (ap (λ m. messages_from x W round m (map (λ i. ask_for (wants i)) (range_with_len (n + 1) k))) (let e : suc n ≡ n + 1 = omega arith in e) ∙ asked_own wants (n + 1) k)
      (wants n) refl

  -- where some shard is asked there is one
  some_message : (asks : List (Option ExactAsk)) (n : ℕ) → list_any is_some asks ≡ true → is_empty (messages_from x W round n asks) ≡ false
  some_message [] n h = absurd (false≢true h)
  some_message (None ∷ asks) n h = some_message asks (suc n) h
  some_message (Some a ∷ asks) n h = ne_eqb (suc (length (messages_from x W round (suc n) asks))) 0 (λ e. omega arith)

-- ---- how many rounds

two_or_three : (b : Bool) → (2 ≤ cond b 2 3) × (cond b 2 3 ≤ 3)
two_or_three true = (omega arith, omega arith)
two_or_three false = (omega arith, omega arith)

pub few_rounds : (x : Request) (W : World) → (2 ≤ exact_round_count x W) × (exact_round_count x W ≤ 3)
few_rounds x W = two_or_three (is_empty (lacking_round x W (exact_told_in (rounds_until x W 2))))

fewer_asked : (s : State) (asks : List (Option ExactAsk)) (b : Bool) → s.ready ≡ false → s.round < 3
    → rounds_left (cond b (record s { asks = asks; round = suc s.round }) (record s { ready = true })) < suc (3 - s.round)
fewer_asked s asks true unready less = subst (λ r. cond r 0 (suc (3 - suc s.round)) < suc (3 - s.round)) (sym unready) (let k : suc (3 - suc s.round) < suc (3 - s.round) = omega arith in k)
fewer_asked s asks false unready less = let k : 0 < suc (3 - s.round) = omega arith in k

-- ---- one message more

module _ (x : Request) (W : World) (s : State) (sent : List ExactSent) (i : ℕ) (ask : ExactAsk) (was : WasTold x W s sent) (unready : s.ready ≡ false) (first : IsFirstAwaited s.asks i ask) where
  abbrev m : ExactSent
  m = exact_sent x W s.round i ask

  abbrev next : State
  next = heard s i (exact_answer x W i ask)

  awaited : ask_at s.asks i ≡ Some ask
  awaited = first_at s.asks i ask first

  shards : length next.asks ≡ length W
  shards = length-heard s.asks i ∙ was.shards

  some_shard : 0 < length W
  some_shard = let within = within_asks s.asks i ask awaited in omega (arith, within, was.shards)

  told_now : next.told ≡ exact_told_in (sent ++ m ∷ [])
  told_now = told_more x W s i ask sent awaited was.told

  -- with those that are awaited still
  messages_now : (sent ++ m ∷ []) ++ messages_from x W s.round 0 next.asks ≡ rounds_until x W s.round
  messages_now =
      append_assoc sent (m ∷ []) (messages_from x W s.round 0 next.asks)
      ∙ ap (λ k. sent ++ (exact_sent x W s.round k ask ∷ messages_from x W s.round 0 next.asks)) (let e : i ≡ 0 + i = omega arith in e)
      ∙ ap (λ ms. sent ++ ms) (sym (first_message x W s.round s.asks 0 i ask first)) ∙ was.messages unready

  others_awaited : list_any is_some next.asks ≡ true → WasTold x W next (sent ++ m ∷ [])
  others_awaited some = record {
    request = was.request;
    shards = shards;
    fresh = was.fresh;
    told = told_now;
    goes_on = λ r. some;
    messages = λ r. messages_now;
    counted = was.counted;
    ended = λ r. absurd (false≢true (sym unready ∙ r));
  }

  module _ (none : list_any is_some next.asks ≡ false) where
    all_now : sent ++ m ∷ [] ≡ rounds_until x W s.round
    all_now = sym (append-nil (sent ++ m ∷ [])) ∙ ap (λ ms. (sent ++ m ∷ []) ++ ms) (sym (no_message x W s.round next.asks 0 none)) ∙ messages_now

    -- the second round begins
    abbrev least_asks : List ExactSent → List (Option ExactAsk)
    least_asks told = map (λ j. Some (exact_least (leasts x (length W) (exact_told_in told)))) (numbers_below (length W))

    second : s.round ≡ 1 → WasTold x W (cond (list_any is_some (asks_least next)) (record next { asks = asks_least next; round = suc s.round }) (record next { ready = true })) (sent ++ m ∷ [])
    second round =
        subst (λ b. WasTold x W (cond b (record next { asks = asks_least next; round = suc s.round }) (record next { ready = true })) (sent ++ m ∷ [])) (sym some) (record {
          request = was.request;
          shards = ap length asks_are ∙ length-made (λ j. Some (exact_least (leasts x (length W) (exact_told_in (offering_round x W))))) (length W);
          fresh = was.fresh;
          told = told_now;
          goes_on = λ r. some;
          messages = λ r. (λ j. one j ++ messages_from x W (suc (round j)) 0 (asks_are j))
              ∙ ap (λ ms. offering_round x W ++ ms) (asked_alike x W 2 (exact_least (leasts x (length W) (exact_told_in (offering_round x W)))) 0 (length W))
              ∙ sym (ap (λ k. rounds_until x W (suc k)) round);
          counted = (let k : 1 ≤ suc s.round = omega arith in k, let n = (few_rounds x W).0 in let k : suc s.round ≤ exact_round_count x W = omega arith in k);
          ended = λ r. absurd (false≢true (sym unready ∙ r));
        })
      where
        one : sent ++ m ∷ [] ≡ offering_round x W
        one = all_now ∙ ap (rounds_until x W) round

        asks_are : asks_least next ≡ least_asks (offering_round x W)
        asks_are = λ k. map (λ j. Some (exact_least (leasts (was.request k) (shards k) ((told_now ∙ ap exact_told_in one) k)))) (numbers_below (shards k))

        some : list_any is_some (asks_least next) ≡ true
        some = ap (list_any is_some) asks_are
            ∙ any_awaited (least_asks (offering_round x W)) 0 (ap is_some (asks_made (λ j. Some (exact_least (leasts x (length W) (exact_told_in (offering_round x W))))) (length W) 0 some_shard))

    -- the third begins, or there is none
    abbrev two_rounds : List ExactSent
    two_rounds = rounds_until x W 2

    abbrev wants : ℕ → List Want
    wants j = wants_from (exact_told_in two_rounds) j x.nodes 0

    module _ (round : s.round ≡ 2) where
      two : sent ++ m ∷ [] ≡ two_rounds
      two = all_now ∙ ap (rounds_until x W) round

      lacking_asks_are : asks_lacking next ≡ map (λ j. ask_for (wants j)) (numbers_below (length W))
      lacking_asks_are = λ k. map (λ j. ask_for (wants_from ((told_now ∙ ap exact_told_in two) k) j (was.request k).nodes 0)) (numbers_below (shards k))

      lacking_are : messages_from x W 3 0 (asks_lacking next) ≡ lacking_round x W (exact_told_in two_rounds)
      lacking_are = ap (messages_from x W 3 0) lacking_asks_are ∙ asked_own x W 3 wants 0 (length W)

      third : (b : Bool) → list_any is_some (asks_lacking next) ≡ b → WasTold x W (cond b (record next { asks = asks_lacking next; round = suc s.round }) (record next { ready = true })) (sent ++ m ∷ [])
      third true some = record {
        request = was.request;
        shards = ap length lacking_asks_are ∙ length-made (λ j. ask_for (wants j)) (length W);
        fresh = was.fresh;
        told = told_now;
        goes_on = λ r. some;
        messages = λ r. (λ j. two j ++ messages_from x W (suc (round j)) 0 (asks_lacking next)) ∙ ap (λ ms. two_rounds ++ ms) lacking_are ∙ sym (ap (λ k. rounds_until x W (suc k)) round);
        counted = (let k : 1 ≤ suc s.round = omega arith in k, (let e : exact_round_count x W ≡ 3 = ap (λ b. cond b 2 3) (sym (ap is_empty lacking_are) ∙ some_message x W 3 (asks_lacking next) 0 some) in let k : suc s.round ≤ exact_round_count x W = omega arith in k));
        ended = λ r. absurd (false≢true (sym unready ∙ r));
      }
      third false nobody =
          let nothing : lacking_round x W (exact_told_in two_rounds) ≡ [] = sym lacking_are ∙ no_message x W 3 (asks_lacking next) 0 nobody in
          record {
            request = was.request;
            shards = shards;
            fresh = was.fresh;
            told = told_now;
            goes_on = λ r. absurd (true≢false r);
            messages = λ r. absurd (true≢false r);
            counted = was.counted;
            ended = λ r. (two ∙ sym (append-nil two_rounds) ∙ ap (λ ms. two_rounds ++ ms) (sym nothing), round ∙ sym (ap (λ ms. cond (is_empty ms) 2 3) nothing));
          }

    -- all has ended
    last : s.round ≡ 3 → WasTold x W (record next { ready = true }) (sent ++ m ∷ [])
    last round = record {
      request = was.request;
      shards = shards;
      fresh = was.fresh;
      told = told_now;
      goes_on = λ r. absurd (true≢false r);
      messages = λ r. absurd (true≢false r);
      counted = was.counted;
      ended = λ r. (all_now ∙ ap (rounds_until x W) round, let n = (few_rounds x W).1 in let l = was.counted.1 in let k : s.round ≡ exact_round_count x W = omega arith in k);
    }

    begins : (k : ℕ) → s.round ≡ k → WasTold x W (asked_on next (asks_behind next s.round)) (sent ++ m ∷ [])
    begins zero e = let l = was.counted.0 in absurd (omega arith)
    begins (suc zero) e = subst (λ k. WasTold x W (asked_on next (asks_behind next k)) (sent ++ m ∷ [])) (sym e) (second e)
    begins (suc (suc zero)) e = subst (λ k. WasTold x W (asked_on next (asks_behind next k)) (sent ++ m ∷ [])) (sym e) (third e (list_any is_some (asks_lacking next)) refl)
    begins (suc (suc (suc zero))) e = subst (λ k. WasTold x W (asked_on next (asks_behind next k)) (sent ++ m ∷ [])) (sym e) (last e)
    begins (suc (suc (suc (suc k)))) e = let n = (few_rounds x W).1 in let l = was.counted.1 in absurd (omega arith)

    fewer : (k : ℕ) → s.round ≡ k → rounds_left (asked_on next (asks_behind next s.round)) < suc (3 - s.round)
    fewer zero e = let l = was.counted.0 in absurd (omega arith)
    fewer (suc zero) e = subst (λ k. rounds_left (asked_on next (asks_behind next k)) < suc (3 - s.round)) (sym e) (fewer_asked next (asks_least next) (list_any is_some (asks_least next)) unready (omega arith))
    fewer (suc (suc zero)) e = subst (λ k. rounds_left (asked_on next (asks_behind next k)) < suc (3 - s.round)) (sym e) (fewer_asked next (asks_lacking next) (list_any is_some (asks_lacking next)) unready (omega arith))
    fewer (suc (suc (suc k))) e = subst (λ k. rounds_left (asked_on next (asks_behind next k)) < suc (3 - s.round)) (sym e) (let l : 0 < suc (3 - s.round) = omega arith in l)

  further : (b : Bool) → list_any is_some next.asks ≡ b → WasTold x W (cond b next (asked_on next (asks_behind next s.round))) (sent ++ m ∷ [])
  further true some = others_awaited some
  further false none = begins none s.round refl

-- ---- the laws

pub is_told_at_start : IsToldAtStart
is_told_at_start x W some = record {
  request = refl;
  shards = length-made (λ i. Some exact_first) (length W);
  fresh = refl;
  told = refl;
  goes_on = λ r. any_awaited (map (λ i. Some exact_first) (numbers_below (length W))) 0 (ap is_some (asks_made (λ i. Some exact_first) (length W) 0 (omega arith)));
  messages = λ r. asked_alike x W 1 exact_first 0 (length W);
  counted = (let k : 1 ≤ 1 = omega arith in k, let n = (few_rounds x W).0 in let k : 1 ≤ exact_round_count x W = omega arith in k);
  ended = λ r. absurd (false≢true r);
}

pub is_told_further : IsToldFurther
is_told_further x W s sent i ask was unready first = further x W s sent i ask was unready first (list_any is_some (slice_set s.asks i None)) refl

pub has_fewer_left : HasFewerLeft
has_fewer_left x W s sent i ask was unready first none =
    subst (λ b. rounds_left (cond b (heard s i (exact_answer x W i ask)) (asked_on (heard s i (exact_answer x W i ask)) (asks_behind (heard s i (exact_answer x W i ask)) s.round))) < rounds_left s) (sym none)
    (subst (λ b. rounds_left (asked_on (heard s i (exact_answer x W i ask)) (asks_behind (heard s i (exact_answer x W i ask)) s.round)) < cond b 0 (suc (3 - s.round))) (sym unready) (fewer x W s sent i ask was unready first none s.round refl))

pub tells_tops : TellsTops
tells_tops x W s sent top was ready =
    (λ k. tops_told (was.request k) (was.shards k) ((was.told ∙ ap exact_told_in (was.ended ready).0) k)) ∙ rounds_tell_tops x W top
