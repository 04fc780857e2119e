-- The core is told answers of shards, round after round, and gives the top values in the end.
use Rattle.std.proofs.Common.{◌≡◌, ◌⊎◌, ℕ, zero, suc, ◌+◌, ◌<◌, List, [], ◌∷◌, ◌++◌, map, length, Bool, true, false, cond, not, ◌||◌, ◌==◌, Option, None, Some, is_some, refl, sym, ◌∙◌, ap, subst, inl, inr, arith, append-nil, append_assoc}
use Rattle.std.specs.Prelude.{slice_set}
use Rattle.std.specs.List.{list_any, range_with_len}
use Rattle.std.proofs.lemmas.Bool.{false≢true, or_left, or_right, eq-eqb}
use Rattle.std.proofs.lemmas.List.{length-map}
use Rattle.std.proofs.lemmas.List.Folds.{list_any-append}
use Rattle.std.proofs.lemmas.List.FromFn.{length-range_with_len}
use Rattle.std.proofs.lemmas.Grind.{flat_map-append}
use Rattle.fc_spec.specs.words.Lists.{is_empty, numbers_below}
use Rattle.fc_spec.specs.documents.World.{World}
use Rattle.fc_spec.specs.requests.Request.{Request}
use Rattle.fc_spec.specs.messages.Message.{Want}
use Rattle.fc_spec.specs.messages.TopRounds.{ExactAsk, exact_first, exact_least, exact_more, exact_answer, exact_told, leasts, wants_from, tops_told, ExactSent, exact_told_in}
use Rattle.fc_spec.specs.replies.Tops.{tops_of}
use Rattle.fc_spec.specs.laws.TopRoundsLaw.{IsExactRound, asks_for_more, is_asked_more}
use Rattle.fc_spec.proofs.messages.HeldFurther.{all_append}
use Rattle.fc_spec.proofs.messages.TopsTold.{tops_are_told}
use Rattle.fc_spec.proofs.messages.Ways.{none_not_some, some_exact}
use Rattle.fc_exact.specs.State.{State, ask_at, at_start, told_of, told_for, heard, ask_for, asks_least, asks_lacking, asks_behind, asked_on, goes_on, taken, tops}
use Rattle.fc_exact.specs.Hearing.{IsRoundSoFar, IsFirst, WasFirst, IsSecond, WasSecond, IsThird, IsUnderWay, IsHearing, StartsHearing, GoesOnHearing, EndsWithTops}

-- ---- who is asked

-- where each shard is asked something by a function of its number
made_from : (g : ℕ → Option ExactAsk) (n from i : ℕ) → i < n → ask_at (map g (range_with_len from n)) i ≡ g (from + i)
made_from g zero from i h = absurd (omega arith)
made_from g (suc n) from zero h = ap g (let j : from ≡ from + 0 = omega arith in j)
made_from g (suc n) from (suc i) h = made_from g n (from + 1) i (omega arith) ∙ ap g (let j : from + 1 + i ≡ from + suc i = omega arith in j)

pub asks_made : (g : ℕ → Option ExactAsk) (n i : ℕ) → i < n → ask_at (map g (numbers_below n)) i ≡ g i
asks_made g n i h = made_from g n 0 i h ∙ ap g (let j : 0 + i ≡ i = omega arith in j)

pub within_asks : (asks : List (Option ExactAsk)) (i : ℕ) (a : ExactAsk) → ask_at asks i ≡ Some a → i < length asks
within_asks [] i a e = absurd (none_not_some a e)
within_asks (o ∷ asks) zero a e = omega arith
within_asks (o ∷ asks) (suc i) a e = let l = within_asks asks i a e in omega arith

pub length-made : (g : ℕ → Option ExactAsk) (n : ℕ) → length (map g (numbers_below n)) ≡ n
length-made g n = length-map (numbers_below n) g ∙ length-range_with_len 0 n

-- a shard that was heard is awaited no longer, and the others still are
still_asked : (asks : List (Option ExactAsk)) (i j : ℕ) (a : ExactAsk) → ask_at (slice_set asks i None) j ≡ Some a → ask_at asks j ≡ Some a
still_asked [] i j a e = e
still_asked (x ∷ asks) zero zero a e = absurd (none_not_some a e)
still_asked (x ∷ asks) zero (suc j) a e = e
still_asked (x ∷ asks) (suc i) zero a e = e
still_asked (x ∷ asks) (suc i) (suc j) a e = still_asked asks i j a e

-- another shard, or the one that was heard
awaited_or_heard : (asks : List (Option ExactAsk)) (i j : ℕ) → is_some (ask_at asks j) ≡ true → (is_some (ask_at (slice_set asks i None) j) ≡ true) ⊎ (i ≡ j)
awaited_or_heard [] i j h = absurd (false≢true h)
awaited_or_heard (x ∷ asks) zero zero h = inr refl
awaited_or_heard (x ∷ asks) zero (suc j) h = inl h
awaited_or_heard (x ∷ asks) (suc i) zero h = inl h
awaited_or_heard (x ∷ asks) (suc i) (suc j) h = elim (awaited_or_heard asks i j h) [ inl a ↦ inl a | inr e ↦ inr (ap suc e) ]

pub length-heard : (asks : List (Option ExactAsk)) (i : ℕ) → length (slice_set asks i None) ≡ length asks
length-heard [] i = refl
length-heard (x ∷ asks) zero = refl
length-heard (x ∷ asks) (suc i) = ap suc (length-heard asks i)

-- where none is awaited, no shard is
none_awaited : (asks : List (Option ExactAsk)) (j : ℕ) → list_any is_some asks ≡ false → is_some (ask_at asks j) ≡ true → ⊥
none_awaited [] j none h = false≢true h
none_awaited (None ∷ asks) zero none h = false≢true h
none_awaited (None ∷ asks) (suc j) none h = none_awaited asks j none h
none_awaited (Some a ∷ asks) j none h = false≢true (sym none)

pub any_awaited : (asks : List (Option ExactAsk)) (j : ℕ) → is_some (ask_at asks j) ≡ true → list_any is_some asks ≡ true
any_awaited [] j h = absurd (false≢true h)
any_awaited (x ∷ asks) zero h = or_left (is_some x) (list_any is_some asks) h
any_awaited (x ∷ asks) (suc j) h = or_right (is_some x) (list_any is_some asks) (any_awaited asks j h)

-- ---- one round

module _ (x : Request) (W : World) (ask : ℕ → ExactAsk) (is_asked : ℕ → Bool) where
  abbrev IsOwn : ExactSent → Type 0
  IsOwn m = (m.message ≡ exact_answer x W m.shard m.ask) × (m.ask ≡ ask m.shard) × (m.shard < length W)

  -- the answer of a shard, as it was sent
  abbrev answered : ℕ → ℕ → ExactAsk → ExactSent
  answered round i a = record { round = round; shard = i; ask = a; message = exact_answer x W i a }

  -- one more answer is taken
  round_goes_on : (sent : List ExactSent) (s : State) (i : ℕ) (a : ExactAsk) → IsRoundSoFar x W ask is_asked sent s → ask_at s.asks i ≡ Some a
      → IsRoundSoFar x W ask is_asked (sent ++ answered s.round i a ∷ []) (heard s i (exact_answer x W i a))
  round_goes_on sent s i a r e =
      let own = r.asks i a e in
      let m = answered s.round i a in
      record {
        answers = all_append IsOwn sent (m ∷ []) r.answers ((refl, own.0, own.1), tt);
        whole = λ j h asked. elim (r.whole j h asked) [
          | inl awaited ↦ elim (awaited_or_heard s.asks i j awaited) [
            | inl still ↦ inl still
            | inr same ↦ inr (list_any-append (λ n. n.shard == j) sent (m ∷ []) ∙ or_right (list_any (λ n. n.shard == j) sent) ((i == j) || false) (or_left (i == j) false (eq-eqb i j same)))
          ]
          | inr told ↦ inr (list_any-append (λ n. n.shard == j) sent (m ∷ []) ∙ or_left (list_any (λ n. n.shard == j) sent) ((i == j) || false) told)
        ];
        asks = λ j b f. r.asks j b (still_asked s.asks i j b f);
      }

  -- where none is awaited, it is whole
  round_ends : (sent : List ExactSent) (s : State) → IsRoundSoFar x W ask is_asked sent s → list_any is_some s.asks ≡ false → IsExactRound x W ask is_asked sent
  round_ends sent s r none = record {
    answers = r.answers;
    whole = λ j h asked. elim (r.whole j h asked) [ inl awaited ↦ absurd (none_awaited s.asks j none awaited) | inr told ↦ told ];
  }

  -- it begins, where exactly the shards that are to be asked are asked so
  round_begins : (g : ℕ → Option ExactAsk) (s : State) → s.asks ≡ map g (numbers_below (length W)) → ((i : ℕ) → is_asked i ≡ true → is_some (g i) ≡ true) → ((i : ℕ) (a : ExactAsk) → g i ≡ Some a → a ≡ ask i)
      → IsRoundSoFar x W ask is_asked [] s
  round_begins g s e all own = record {
    answers = tt;
    whole = λ j h asked. inl (ap (λ o. is_some o) (ap (λ asks. ask_at asks j) e ∙ asks_made g (length W) j h) ∙ all j asked);
    asks = λ j a f.
        let there : ask_at (map g (numbers_below (length W))) j ≡ Some a = sym (ap (λ asks. ask_at asks j) e) ∙ f in
        let within = within_asks (map g (numbers_below (length W))) j a there in
        let below : j < length W = omega (arith, within, length-made g (length W)) in
        (own j a (sym (asks_made g (length W) j below) ∙ there), below);
  }

  -- it is whole from the start, where none is to be asked
  none_asked : (g : ℕ → Option ExactAsk) → list_any is_some (map g (numbers_below (length W))) ≡ false → ((i : ℕ) → is_asked i ≡ true → is_some (g i) ≡ true) → IsExactRound x W ask is_asked []
  none_asked g none all = record {
    answers = tt;
    whole = λ j h asked. absurd (none_awaited (map g (numbers_below (length W))) j none (ap is_some (asks_made g (length W) j h) ∙ all j asked));
  }

-- ---- what is told

told_append : (xs ys : List ExactSent) → exact_told_in (xs ++ ys) ≡ exact_told_in xs ++ exact_told_in ys
told_append xs ys = flat_map-append (λ m. exact_told m.shard m.ask m.message) xs ys

-- one more answer behind what was told
pub told_more : (x : Request) (W : World) (s : State) (i : ℕ) (a : ExactAsk) (sent : List ExactSent) → ask_at s.asks i ≡ Some a → s.told ≡ exact_told_in sent
    → (heard s i (exact_answer x W i a)).told ≡ exact_told_in (sent ++ record { round = s.round; shard = i; ask = a; message = exact_answer x W i a } ∷ [])
told_more x W s i a sent e told =
    let m : ExactSent = record { round = s.round; shard = i; ask = a; message = exact_answer x W i a } in
    ap (λ ts. ts ++ told_of s i (exact_answer x W i a)) told ∙ ap (λ o. exact_told_in sent ++ told_for i o (exact_answer x W i a)) e
    ∙ ap (λ ts. exact_told_in sent ++ ts) (sym (append-nil (exact_told i a (exact_answer x W i a)))) ∙ sym (told_append sent (m ∷ []))

-- ---- from round to round

module _ (x : Request) (W : World) (s : State) (i : ℕ) (a : ExactAsk) (fresh : s.ready ≡ false) (e : ask_at s.asks i ≡ Some a)
    (request : s.request ≡ x) (shards : length s.asks ≡ length W) where
  abbrev m : ExactSent
  m = record { round = s.round; shard = i; ask = a; message = exact_answer x W i a }

  abbrev next : State
  next = heard s i (exact_answer x W i a)

  next_shards : length next.asks ≡ length W
  next_shards = length-heard s.asks i ∙ shards

  -- some shard is there
  some_shard : 0 < length W
  some_shard = let within = within_asks s.asks i a e in omega (arith, within, shards)

  -- the first round
  first_goes_on : (one : List ExactSent) → s.round ≡ 1 → s.told ≡ exact_told_in one → IsFirst x W s one → IsHearing x W (goes_on next)
  first_goes_on one round told is = go (list_any is_some next.asks) refl
    where
      told_now : next.told ≡ exact_told_in (one ++ m ∷ [])
      told_now = told_more x W s i a one e told

      told_all : next.told ≡ exact_told_in (((one ++ m ∷ []) ++ []) ++ [])
      told_all = told_now ∙ ap exact_told_in (sym (append-nil (one ++ m ∷ [])) ∙ sym (append-nil ((one ++ m ∷ []) ++ [])))

      now : IsFirst x W next (one ++ m ∷ [])
      now = round_goes_on x W (λ j. exact_first) (λ j. true) one s i a is e

      asks_are : asks_least next ≡ map (λ j. Some (exact_least (leasts x (length W) (exact_told_in (one ++ m ∷ []))))) (numbers_below (length W))
      asks_are = λ k. map (λ j. Some (exact_least (leasts (request k) (next_shards k) (told_now k)))) (numbers_below (next_shards k))

      some : list_any is_some (asks_least next) ≡ true
      some = ap (list_any is_some) asks_are ∙ any_awaited (map (λ j. Some (exact_least (leasts x (length W) (exact_told_in (one ++ m ∷ []))))) (numbers_below (length W))) 0 (ap is_some (asks_made (λ j. Some (exact_least (leasts x (length W) (exact_told_in (one ++ m ∷ []))))) (length W) 0 some_shard))

      second : list_any is_some next.asks ≡ false → IsHearing x W (record next { asks = asks_least next; round = suc next.round })
      second none = (
        one ++ m ∷ [],
        [],
        [],
        request,
        ap length asks_are ∙ length-made (λ j. Some (exact_least (leasts x (length W) (exact_told_in (one ++ m ∷ []))))) (length W),
        told_all,
        inr (inl (
          fresh,
          ap suc round,
          refl,
          round_ends x W (λ j. exact_first) (λ j. true) (one ++ m ∷ []) next now none,
          round_begins x W (λ j. exact_least (leasts x (length W) (exact_told_in (one ++ m ∷ [])))) (λ j. true) (λ j. Some (exact_least (leasts x (length W) (exact_told_in (one ++ m ∷ []))))) (record next { asks = asks_least next; round = suc next.round }) asks_are
              (λ j h. refl) (λ j b f. sym (some_exact _ b f)),
        )),
      )

      go : (b : Bool) → list_any is_some next.asks ≡ b → IsHearing x W (cond b next (asked_on next (asks_behind next next.round)))
      go true h = (one ++ m ∷ [], [], [], request, next_shards, told_all, inl (fresh, round, refl, refl, now))
      go false none =
          subst (λ k. IsHearing x W (asked_on next (asks_behind next k))) (sym round)
          (subst (λ c. IsHearing x W (cond c (record next { asks = asks_least next; round = suc next.round }) (record next { ready = true }))) (sym some) (second none))

  -- what a shard lacks, as an ask
  abbrev lacking_of : List ExactSent → ℕ → Option ExactAsk
  lacking_of sent j = ask_for (wants_from (exact_told_in sent) j x.nodes 0)

  ask_some : (ws : List Want) → not (is_empty ws) ≡ true → is_some (ask_for ws) ≡ true
  ask_some [] h = absurd (false≢true h)
  ask_some (w ∷ ws) h = refl

  ask_own : (ws : List Want) (b : ExactAsk) → ask_for ws ≡ Some b → b ≡ exact_more ws
  ask_own [] b h = absurd (none_not_some b h)
  ask_own (w ∷ ws) b h = sym (some_exact (exact_more (w ∷ ws)) b h)

  -- the second round
  second_goes_on : (one two : List ExactSent) → s.round ≡ 2 → s.told ≡ exact_told_in (one ++ two) → WasFirst x W one → IsSecond x W s one two → IsHearing x W (goes_on next)
  second_goes_on one two round told was is = go (list_any is_some next.asks) refl
    where
      told_now : next.told ≡ exact_told_in (one ++ (two ++ m ∷ []))
      told_now = told_more x W s i a (one ++ two) e told ∙ ap exact_told_in (append_assoc one two (m ∷ []))

      told_all : next.told ≡ exact_told_in ((one ++ (two ++ m ∷ [])) ++ [])
      told_all = told_now ∙ ap exact_told_in (sym (append-nil (one ++ (two ++ m ∷ []))))

      ask : ℕ → ExactAsk
      ask j = exact_least (leasts x (length W) (exact_told_in one))

      now : IsSecond x W next one (two ++ m ∷ [])
      now = round_goes_on x W (λ j. exact_least (leasts x (length W) (exact_told_in one))) (λ j. true) two s i a is e

      asks_are : asks_lacking next ≡ map (lacking_of (one ++ (two ++ m ∷ []))) (numbers_below (length W))
      asks_are = λ k. map (λ j. ask_for (wants_from (told_now k) j (request k).nodes 0)) (numbers_below (next_shards k))

      ended : list_any is_some next.asks ≡ false → WasSecond x W one (two ++ m ∷ [])
      ended none = round_ends x W (λ j. exact_least (leasts x (length W) (exact_told_in one))) (λ j. true) (two ++ m ∷ []) next now none

      third : (c : Bool) → list_any is_some (asks_lacking next) ≡ c → list_any is_some next.asks ≡ false → IsHearing x W (cond c (record next { asks = asks_lacking next; round = suc next.round }) (record next { ready = true }))
      third true some none = (
        one,
        two ++ m ∷ [],
        [],
        request,
        ap length asks_are ∙ length-made (lacking_of (one ++ (two ++ m ∷ []))) (length W),
        told_all,
        inr (inr (inl (
          fresh,
          ap suc round,
          was,
          ended none,
          round_begins x W (asks_for_more x (one ++ (two ++ m ∷ []))) (is_asked_more x (one ++ (two ++ m ∷ []))) (lacking_of (one ++ (two ++ m ∷ []))) (record next { asks = asks_lacking next; round = suc next.round }) asks_are
              (λ j h. ask_some (wants_from (exact_told_in (one ++ (two ++ m ∷ []))) j x.nodes 0) h) (λ j b f. ask_own (wants_from (exact_told_in (one ++ (two ++ m ∷ []))) j x.nodes 0) b f),
        ))),
      )
      third false nobody none = (
        one,
        two ++ m ∷ [],
        [],
        request,
        next_shards,
        told_all,
        inr (inr (inr (
          refl,
          was,
          ended none,
          none_asked x W (asks_for_more x (one ++ (two ++ m ∷ []))) (is_asked_more x (one ++ (two ++ m ∷ []))) (lacking_of (one ++ (two ++ m ∷ []))) (sym (ap (list_any is_some) asks_are) ∙ nobody)
              (λ j h. ask_some (wants_from (exact_told_in (one ++ (two ++ m ∷ []))) j x.nodes 0) h),
        ))),
      )

      go : (b : Bool) → list_any is_some next.asks ≡ b → IsHearing x W (cond b next (asked_on next (asks_behind next next.round)))
      go true h = (one, two ++ m ∷ [], [], request, next_shards, told_all, inr (inl (fresh, round, refl, was, now)))
      go false none = subst (λ k. IsHearing x W (asked_on next (asks_behind next k))) (sym round) (third (list_any is_some (asks_lacking next)) refl none)

  -- the third round
  third_goes_on : (one two three : List ExactSent) → s.round ≡ 3 → s.told ≡ exact_told_in ((one ++ two) ++ three) → WasFirst x W one → WasSecond x W one two → IsThird x W s one two three → IsHearing x W (goes_on next)
  third_goes_on one two three round told was were is = go (list_any is_some next.asks) refl
    where
      told_all : next.told ≡ exact_told_in ((one ++ two) ++ (three ++ m ∷ []))
      told_all = told_more x W s i a ((one ++ two) ++ three) e told ∙ ap exact_told_in (append_assoc (one ++ two) three (m ∷ []))

      now : IsThird x W next one two (three ++ m ∷ [])
      now = round_goes_on x W (asks_for_more x (one ++ two)) (is_asked_more x (one ++ two)) three s i a is e

      go : (b : Bool) → list_any is_some next.asks ≡ b → IsHearing x W (cond b next (asked_on next (asks_behind next next.round)))
      go true h = (one, two, three ++ m ∷ [], request, next_shards, told_all, inr (inr (inl (fresh, round, was, were, now))))
      go false none =
          subst (λ k. IsHearing x W (asked_on next (asks_behind next k))) (sym round)
          (one, two, three ++ m ∷ [], request, next_shards, told_all, inr (inr (inr (refl, was, were, round_ends x W (asks_for_more x (one ++ two)) (is_asked_more x (one ++ two)) (three ++ m ∷ []) next now none))))

-- ---- the laws

-- none before the first
told_first : (s : State) (one two three : List ExactSent) → two ≡ [] → three ≡ [] → s.told ≡ exact_told_in ((one ++ two) ++ three) → s.told ≡ exact_told_in one
told_first s one two three a b told = told ∙ (λ k. exact_told_in ((one ++ a k) ++ b k)) ∙ ap exact_told_in (append-nil (one ++ []) ∙ append-nil one)

told_second : (s : State) (one two three : List ExactSent) → three ≡ [] → s.told ≡ exact_told_in ((one ++ two) ++ three) → s.told ≡ exact_told_in (one ++ two)
told_second s one two three b told = told ∙ (λ k. exact_told_in ((one ++ two) ++ b k)) ∙ ap exact_told_in (append-nil (one ++ two))

pub starts_hearing : StartsHearing
starts_hearing x W = (
  [],
  [],
  [],
  refl,
  length-made (λ i. Some exact_first) (length W),
  refl,
  inl (refl, refl, refl, refl, round_begins x W (λ i. exact_first) (λ i. true) (λ i. Some exact_first) (at_start x (length W)) refl (λ i h. refl) (λ i a e. sym (some_exact exact_first a e))),
)

pub goes_on_hearing : GoesOnHearing
goes_on_hearing x W s i a h fresh e = go h.6
  where
    go : IsUnderWay x W s h.0 h.1 h.2 → IsHearing x W (taken s i (exact_answer x W i a))
    go (inl w) = first_goes_on x W s i a fresh e h.3 h.4 h.0 w.1 (told_first s h.0 h.1 h.2 w.2 w.3 h.5) w.4
    go (inr (inl w)) = second_goes_on x W s i a fresh e h.3 h.4 h.0 h.1 w.1 (told_second s h.0 h.1 h.2 w.2 h.5) w.3 w.4
    go (inr (inr (inl w))) = third_goes_on x W s i a fresh e h.3 h.4 h.0 h.1 h.2 w.1 h.5 w.2 w.3 w.4
    go (inr (inr (inr w))) = absurd (false≢true (sym fresh ∙ w.0))

pub ends_with_tops : EndsWithTops
ends_with_tops x W s top h ready = go h.6
  where
    go : IsUnderWay x W s h.0 h.1 h.2 → tops s ≡ tops_of x W
    go (inl w) = absurd (false≢true (sym w.0 ∙ ready))
    go (inr (inl w)) = absurd (false≢true (sym w.0 ∙ ready))
    go (inr (inr (inl w))) = absurd (false≢true (sym w.0 ∙ ready))
    go (inr (inr (inr w))) = (λ k. tops_told (h.3 k) (h.4 k) (h.5 k)) ∙ tops_are_told x W h.0 h.1 h.2 top w.1 w.2 w.3
