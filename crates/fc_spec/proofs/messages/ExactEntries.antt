-- The entries of the rounds that find top values ascend, and are of few rounds and of shards that are there.
use Rattle.std.proofs.Common.{◌≡◌, ℕ, ◌<◌, ◌≤◌, List, [], ◌∷◌, ◌++◌, map, length, Bool, true, false, cond, not, refl, sym, ap, subst, inl, inr, arith}
use Rattle.std.specs.List.{AllByRecursion, filter}
use Rattle.std.proofs.lemmas.Bool.{ne_eqb}
use Rattle.fc_spec.specs.words.Lists.{is_empty, numbers_below}
use Rattle.fc_spec.specs.documents.World.{World}
use Rattle.fc_spec.specs.requests.Request.{Request}
use Rattle.fc_spec.specs.messages.TopRounds.{ExactAsk, exact_first, exact_least, exact_more, leasts, wants_from, ExactSent, exact_sent, exact_told_in, offering_round, least_round, lacking_round, exact_rounds}
use Rattle.fc_spec.specs.messages.Trace.{Sent}
use Rattle.fc_spec.specs.messages.WholeTrace.{exact_entry_of, exact_trace, exact_round_count}
use Rattle.fc_spec.specs.laws.TraceLaws.{StandsBefore}
use Rattle.fc_spec.proofs.words.Members.{Member, all_from_members, each_member, filter_member}
use Rattle.fc_spec.proofs.words.AlikeLists.{member_append, member_map}
use Rattle.fc_spec.proofs.words.NumbersBelow.{member_below}
use Rattle.fc_spec.proofs.words.Differing.{Differ, differ_append, differ_filter, differ_map, rising_range}

-- a list with a member is not empty
has_member : {X : Type 0} (xs : List X) (x : X) → Member x xs → is_empty xs ≡ false
has_member [] x m = absurd m
has_member (y ∷ ys) x m = ne_eqb (length (y ∷ ys)) 0 (λ e. omega arith)

module _ (x : Request) (W : World) where
  abbrev H : List ℕ
  H = numbers_below (length W)

  abbrev ComesBefore : ExactSent → ExactSent → Type 0
  ComesBefore s t = StandsBefore (exact_entry_of s) (exact_entry_of t)

  -- a message of a round, from a shard that is there
  abbrev IsOf : ℕ → ExactSent → Type 0
  IsOf k s = (s.round ≡ k) × (s.shard < length W)

  -- the messages of one round, of shards whose numbers rise
  round_ascends : (k : ℕ) (ask : ℕ → ExactAsk) (is : List ℕ) → Differ (λ i j. i < j) is → Differ ComesBefore (map (λ i. exact_sent x W k i (ask i)) is)
  round_ascends k ask is rising = differ_map (λ i j. i < j) ComesBefore (λ i. exact_sent x W k i (ask i)) is (λ i j m n less. inr (refl, less)) rising

  round_is : (k : ℕ) (ask : ℕ → ExactAsk) (is : List ℕ) → ((i : ℕ) → Member i is → i < length W) → (s : ExactSent) → Member s (map (λ i. exact_sent x W k i (ask i)) is) → IsOf k s
  round_is k ask is below s m =
      let from = member_map (λ i. exact_sent x W k i (ask i)) is s m in
      let there = below from.0 from.1 in
      let at : s.shard ≡ from.0 = ap (λ (t : ExactSent). t.shard) from.2 in
      (ap (λ (t : ExactSent). t.round) from.2, omega (arith, there, at))

  -- ---- the three rounds

  abbrev one : List ExactSent
  one = offering_round x W

  abbrev two : List ExactSent
  two = least_round x W (exact_told_in one)

  abbrev lacks_at : ℕ → Bool
  lacks_at i = not (is_empty (wants_from (exact_told_in (one ++ two)) i x.nodes 0))

  abbrev three : List ExactSent
  three = lacking_round x W (exact_told_in (one ++ two))

  one_is : (s : ExactSent) → Member s one → IsOf 1 s
  one_is = round_is 1 (λ i. exact_first) H (λ i m. member_below (length W) i m)

  two_is : (s : ExactSent) → Member s two → IsOf 2 s
  two_is = round_is 2 (λ i. exact_least (leasts x (length W) (exact_told_in one))) H (λ i m. member_below (length W) i m)

  three_is : (s : ExactSent) → Member s three → IsOf 3 s
  three_is = round_is 3 (λ i. exact_more (wants_from (exact_told_in (one ++ two)) i x.nodes 0)) (filter lacks_at H) (λ i m. member_below (length W) i (filter_member lacks_at H i m).0)

  -- each message is of one of them
  of_rounds : (P : ExactSent → Type 0) → ((s : ExactSent) → Member s one → P s) → ((s : ExactSent) → Member s two → P s) → ((s : ExactSent) → Member s three → P s) → AllByRecursion P (exact_rounds x W)
  of_rounds P h1 h2 h3 = all_from_members P ((one ++ two) ++ three) (λ s m. elim (member_append (one ++ two) three s m) [
    | inl n ↦ elim (member_append one two s n) [ inl k ↦ h1 s k | inr k ↦ h2 s k ]
    | inr k ↦ h3 s k
  ])

  rounds_ascend : Differ ComesBefore (exact_rounds x W)
  rounds_ascend =
      differ_append ComesBefore (one ++ two) three
      (differ_append ComesBefore one two (round_ascends 1 (λ i. exact_first) H (rising_range (length W) 0))
      (round_ascends 2 (λ i. exact_least (leasts x (length W) (exact_told_in one))) H (rising_range (length W) 0))
      (λ s t m n. earlier s t 1 2 (omega arith) (one_is s m) (two_is t n)))
      (round_ascends 3 (λ i. exact_more (wants_from (exact_told_in (one ++ two)) i x.nodes 0)) (filter lacks_at H) (differ_filter (λ i j. i < j) lacks_at H (rising_range (length W) 0)))
      (λ s t m n. elim (member_append one two s m) [ inl k ↦ earlier s t 1 3 (omega arith) (one_is s k) (three_is t n) | inr k ↦ earlier s t 2 3 (omega arith) (two_is s k) (three_is t n) ])
    where
      earlier : (s t : ExactSent) (k l : ℕ) → k < l → IsOf k s → IsOf l t → ComesBefore s t
      earlier s t k l less h i = inl (let a = h.0 in let b = i.0 in omega (arith, a, b, less))

  -- ---- their entries

  pub exact_ascends : Differ StandsBefore (exact_trace x W)
  exact_ascends = differ_map ComesBefore StandsBefore exact_entry_of (exact_rounds x W) (λ s t m n before. before) rounds_ascend

  -- as many rounds as are counted, from 1 on, and shards that are there
  abbrev IsCounted : Sent → Type 0
  IsCounted e = (1 ≤ e.round) × (e.round ≤ exact_round_count x W) × (e.shard < length W)

  two_at_least : 2 ≤ exact_round_count x W
  two_at_least = go (is_empty three)
    where
      go : (b : Bool) → 2 ≤ cond b 2 3
      go true = omega arith
      go false = omega arith

  three_there : (s : ExactSent) → Member s three → exact_round_count x W ≡ 3
  three_there s m = ap (λ b. cond b 2 3) (has_member three s m)

  counted : AllByRecursion (λ s. IsCounted (exact_entry_of s)) (exact_rounds x W)
  counted =
      of_rounds (λ s. IsCounted (exact_entry_of s)) (λ s m. let is = (one_is s m).0 in (omega (arith, is), omega (arith, is, two_at_least), (one_is s m).1)) (λ s m. let is = (two_is s m).0 in (omega (arith, is), omega (arith, is, two_at_least), (two_is s m).1))
      (λ s m. let is = (three_is s m).0 in (omega (arith, is), omega (arith, is, three_there s m), (three_is s m).1))

  pub exact_counted : (e : Sent) → Member e (exact_trace x W) → IsCounted e
  exact_counted e m = let from = member_map exact_entry_of (exact_rounds x W) e m in subst IsCounted (sym from.2) (each_member (λ s. IsCounted (exact_entry_of s)) (exact_rounds x W) from.0 counted from.1)
