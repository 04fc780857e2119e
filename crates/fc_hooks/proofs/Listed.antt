-- Lengths that are listed, shard after shard and round after round.
use Rattle.std.proofs.Common.{◌≡◌, ℕ, zero, suc, ◌+◌, ◌-◌, ◌≤◌, List, [], ◌∷◌, ◌++◌, append_assoc, append-nil, map, None, Some, sym, ◌∙◌, ap, arith}
use Rattle.std.specs.List.{flat_map, range_with_len}
use Rattle.std.proofs.lemmas.Grind.{flat_map-append}
use Rattle.std.proofs.lemmas.List.{map-append}
use Rattle.fc_spec.specs.messages.Lengths.{Lengths, entries_up_to, entry_of_length}
use Rattle.fc_spec.specs.messages.Trace as definition
use Rattle.fc_hooks.specs.SentLists.{round_entries, sent_view}
use Rattle.fc_hooks.specs.declared.round_probe.Sent.{Sent}

numbers_more : (a n j : ℕ) → a + n ≡ j → range_with_len a (suc n) ≡ range_with_len a n ++ j ∷ []
numbers_more a zero j e = ap (λ k. k ∷ []) (let same : a ≡ j = omega (arith, e) in same)
numbers_more a (suc n) j e = ap (λ rest. a ∷ rest) (numbers_more (a + 1) n j (omega (arith, e)))

flat_more : {X : Type 0} (f : ℕ → List X) (a n j : ℕ) → a + n ≡ j → flat_map f (range_with_len a (n + 1)) ≡ flat_map f (range_with_len a n) ++ f j
flat_more f a n j e =
    ap (λ k. flat_map f (range_with_len a k)) (let next : n + 1 ≡ suc n = omega arith in next) ∙ ap (flat_map f) (numbers_more a n j e) ∙ flat_map-append f (range_with_len a n) (j ∷ [])
    ∙ ap (λ rest. flat_map f (range_with_len a n) ++ rest) (append-nil (f j))

-- ---- the shards of a round

module _ (m : Lengths) (round shard : ℕ) (before now : List Sent) (was : map sent_view now ≡ map sent_view before ++ round_entries shard m round) where
  next : round_entries (shard + 1) m round ≡ round_entries shard m round ++ entry_of_length round shard (m round shard)
  next = flat_more (λ s. entry_of_length round s (m round s)) 0 shard shard (omega arith)

  -- one that sent something
  pub sent_more : (one : Sent) → one.round ≡ round → one.shard ≡ shard → Some one.length ≡ m round shard → map sent_view (now ++ one ∷ []) ≡ map sent_view before ++ round_entries (shard + 1) m round
  sent_more one same own told =
      map-append sent_view now (one ∷ []) ∙ ap (λ xs. xs ++ sent_view one ∷ []) was ∙ append_assoc (map sent_view before) (round_entries shard m round) (sent_view one ∷ [])
      ∙ ap (λ xs. map sent_view before ++ xs) (ap (λ xs. round_entries shard m round ++ xs) entry ∙ sym next)
    where
      entry : sent_view one ∷ [] ≡ entry_of_length round shard (m round shard)
      entry = (λ j. record { round = same j; shard = own j; length = one.length } ∷ []) ∙ ap (entry_of_length round shard) told

  -- one that did not
  pub sent_none : None ≡ m round shard → map sent_view now ≡ map sent_view before ++ round_entries (shard + 1) m round
  sent_none told =
      was ∙ ap (λ xs. map sent_view before ++ xs) (sym (next ∙ ap (λ o. round_entries shard m round ++ entry_of_length round shard o) (sym told) ∙ append-nil (round_entries shard m round)))

pub shards_whole : (m : Lengths) (round shard shards : ℕ) (before now : List Sent) → shard ≡ shards → map sent_view now ≡ map sent_view before ++ round_entries shard m round → map sent_view now ≡ map sent_view before ++ round_entries shards m round
shards_whole m round shard shards before now end was = was ∙ ap (λ k. map sent_view before ++ round_entries k m round) end

-- ---- the rounds

pub rounds_more : (m : Lengths) (shards round : ℕ) (before now : List definition.Sent) → 1 ≤ round → before ≡ entries_up_to (round - 1) shards m → now ≡ before ++ round_entries shards m round → now ≡ entries_up_to (round + 1 - 1) shards m
rounds_more m shards round before now low was is =
    is ∙ ap (λ es. es ++ round_entries shards m round) was ∙ sym (flat_more (round_entries shards m) 1 (round - 1) round (omega (arith, low)))
    ∙ ap (λ k. entries_up_to k shards m) (let next : round - 1 + 1 ≡ round + 1 - 1 = omega (arith, low) in next)

pub rounds_whole : (m : Lengths) (shards round rounds : ℕ) (now : List definition.Sent) → round ≡ rounds + 1 → now ≡ entries_up_to (round - 1) shards m → now ≡ entries_up_to rounds shards m
rounds_whole m shards round rounds now end was = was ∙ ap (λ k. entries_up_to k shards m) (let last : round - 1 ≡ rounds = omega (arith, end) in last)
