-- Three rounds that ask by what was told before tell the top values.
use Rattle.std.specs.Prelude.{unwrap_or, sum}
use Rattle.std.proofs.Common.{◌≡◌, ℕ, suc, ◌+◌, ◌<◌, List, [], ◌∷◌, ◌++◌, map, length, Bool, true, false, cond, not, ◌&&◌, ◌||◌, ◌==◌, Option, None, Some, is_none, is_some, refl, sym, ◌∙◌, ap, subst, arith, inl, inr, IsTrue}
use Rattle.std.specs.List.{filter, flat_map, list_any, AllByRecursion}
use Rattle.std.proofs.lemmas.Bool.{false≢true, eqb-true, eq-eqb, ne_eqb, and_parts, and_from, or_left, or_right, or_cases}
use Rattle.std.proofs.lemmas.List.Folds.{list_any-append}
use Rattle.std.proofs.lemmas.List.Sums.{sum_by-cons}
use Rattle.fc_spec.specs.documents.Val.{Val, same_val, has_val, distinct}
use Rattle.fc_spec.specs.words.Lists.{is_empty, numbers_below}
use Rattle.fc_spec.specs.documents.World.{World, Place, on_shards}
use Rattle.fc_spec.specs.requests.Request.{Terms, Kind, terms, range, date_range, query, Facet, Nodes, no_nodes, statistic, facet, Request, stats_of}
use Rattle.fc_spec.specs.requests.Base.{root_domain}
use Rattle.fc_spec.specs.requests.Paths.{at_root, domain}
use Rattle.fc_spec.specs.requests.Shape.{is_exact, has_limit}
use Rattle.fc_spec.specs.requests.Statistics.{stats_over}
use Rattle.fc_spec.specs.requests.Least.{count_first, least_count}
use Rattle.fc_spec.specs.replies.Values.{value_places}
use Rattle.fc_spec.specs.replies.Reading.{PathDomain, offered, over_places}
use Rattle.fc_spec.specs.replies.Chosen.{candidates, offering, entry_on, candidate_entries}
use Rattle.fc_spec.specs.replies.Tops.{printed_values, tops, tops_at, tops_in, tops_of, values_from, least_in, top_bound, exact_nodes}
use Rattle.fc_spec.specs.messages.Message.{Want}
use Rattle.fc_spec.specs.messages.Target.{facet_at}
use Rattle.fc_spec.specs.messages.TopRounds.{ToldCount, ExactAsk, exact_first, exact_least, exact_answer, ExactSent, exact_told_in, values_told, count_told, entry_told, entries_told, least_asked, leasts, wants_from, tops_told_of, tops_told_from, tops_told, exact_sent, offering_round, least_round, lacking_round}
use Rattle.fc_spec.specs.laws.CertificateLaw.{AreDifferent, listed_by}
use Rattle.fc_spec.specs.laws.TopRoundsLaw.{IsTopKind, AreTopNodes, IsExactRound, asks_for_more, is_asked_more, SortExactByCount, TopsAreTold, RoundsTellTops, OnlyExactHasTops}
use Rattle.fc_spec.proofs.words.Members.{Member, Every, member_of_filter, filter_member, passing_member, any_by_member, same_tests, list_any-flat_map, each_member}
use Rattle.fc_spec.proofs.words.AlikeLists.{map_alike}
use Rattle.fc_spec.proofs.words.NumbersBelow.{member_below, below_member}
use Rattle.fc_spec.proofs.documents.Ascending.{has_val-distinct, distinct_ascends, same_ascending}
use Rattle.fc_spec.proofs.documents.Shards.{is_on, on_shards_every, every_on_shards}
use Rattle.fc_spec.proofs.requests.Together.{IsDistinct, distinct-filter, distinct_numbers}
use Rattle.fc_spec.proofs.replies.PathBuckets.{in_path}
use Rattle.fc_spec.proofs.replies.Carried.{allowed_domain}
use Rattle.fc_spec.proofs.replies.ExactPaths.{root_is}
use Rattle.fc_spec.proofs.replies.TopValues.{counts_alone, sum_of_parts, row_sum, part_of_value, tops_are_listed, member_has, has_member}
use Rattle.fc_spec.proofs.messages.HeldAnswers.{part}
use Rattle.fc_spec.proofs.messages.HeldFurther.{all_append}
use Rattle.fc_spec.proofs.messages.ToldCounts.{number_at, number-leasts_from, plain_from, wanted_of, lacking, wanted-wants_from, values_of, IsPlainAsk, IsHeard, count_there, values_are, found_in, count_is}

-- ---- sums over some shards

different : (H : List ℕ) → IsDistinct H → AreDifferent H
different [] d = tt
different (i ∷ H) d = (d.0, different H d.1)

sum_of_some : (b : ℕ → Bool) (c : ℕ → ℕ) (H : List ℕ) → sum (map (λ i. cond (b i) (c i) 0) H) ≡ sum (map c (filter b H))
sum_of_some b c [] = refl
sum_of_some b c (i ∷ H) = sum_by-cons (λ n. n) (cond (b i) (c i) 0) (map (λ i. cond (b i) (c i) 0) H) ∙ go (b i) (sum_of_some b c H)
  where
    go : (d : Bool) → sum (map (λ i. cond (b i) (c i) 0) H) ≡ sum (map c (filter b H)) → cond d (c i) 0 + sum (map (λ i. cond (b i) (c i) 0) H) ≡ sum (map c (cond d (i ∷ filter b H) (filter b H)))
    go true e = ap (λ n. c i + n) e ∙ sym (sum_by-cons (λ n. n) (c i) (map c (filter b H)))
    go false e = omega (arith, e)

unwrap_found : (b : Bool) (n : ℕ) → unwrap_or (cond b (Some n) None) 0 ≡ cond b n 0
unwrap_found true n = refl
unwrap_found false n = refl

-- ---- one facet

module _ (r : Request) (W : World) (n : ℕ) (f : Facet) (t : Terms) (top : AreTopNodes r.nodes) (at : facet_at n r.nodes ≡ Some (record { name = f.name; change = f.change; kind = terms t }, no_nodes))
    (one two three : List ExactSent)
    (first : IsExactRound r W (λ i. exact_first) (λ i. true) one)
    (second : IsExactRound r W (λ i. exact_least (leasts r (length W) (exact_told_in one))) (λ i. true) two)
    (third : IsExactRound r W (asks_for_more r (one ++ two)) (is_asked_more r (one ++ two)) three) where
  abbrev H : List ℕ
  H = numbers_below (length W)

  abbrev Y : List Place
  Y = domain r W at_root f.change (root_domain r W)

  abbrev D : PathDomain
  D = in_path at_root (record { name = f.name; change = f.change; kind = terms t }) Y

  abbrev vals : ExactSent → List Val
  vals s = values_of r W n f t top at s.ask s.shard

  abbrev tells : Val → ExactSent → Bool
  tells v s = has_val v (vals s)

  abbrev Heard : ExactSent → Type 0
  Heard = IsHeard r W n f t top at

  -- a round whose asks are plain is heard
  round_heard : (ask : ℕ → ExactAsk) (sent : List ExactSent) → ((i : ℕ) → IsPlainAsk r W n f t top at (ask i))
      → AllByRecursion (λ s. (s.message ≡ exact_answer r W s.shard s.ask) × (s.ask ≡ ask s.shard) × (s.shard < length W)) sent → AllByRecursion Heard sent
  round_heard ask [] plain h = tt
  round_heard ask (s ∷ ss) plain h = ((h.0.0, subst (IsPlainAsk r W n f t top at) (sym h.0.1) (plain s.shard)), round_heard ask ss plain h.1)

  -- what is told in a round where each shard that is asked tells of the same values
  tells_in : (ask : ℕ → ExactAsk) (is_asked : ℕ → Bool) (sent : List ExactSent) → IsExactRound r W ask is_asked sent → (v : Val) → list_any (tells v) sent ≡ true → (i : ℕ) × Member i H × (has_val v (values_of r W n f t top at (ask i) i) ≡ true)
  tells_in ask is_asked sent round v h =
      let s = passing_member (tells v) sent h in
      let k = each_member (λ s. (s.message ≡ exact_answer r W s.shard s.ask) × (s.ask ≡ ask s.shard) × (s.shard < length W)) sent s.0 round.answers s.1 in
      ((s.0).shard, below_member (length W) (s.0).shard k.2, ap (λ a. has_val v (values_of r W n f t top at a (s.0).shard)) (sym k.1) ∙ s.2)

  told_at : (ask : ℕ → ExactAsk) (is_asked : ℕ → Bool) (sent : List ExactSent) → IsExactRound r W ask is_asked sent → (v : Val) (i : ℕ) → Member i H → is_asked i ≡ true → has_val v (values_of r W n f t top at (ask i) i) ≡ true
      → list_any (λ s. (s.shard == i) && tells v s) sent ≡ true
  told_at ask is_asked sent round v i m asked h =
      let s = passing_member (λ s. s.shard == i) sent (round.whole i (member_below (length W) i m) asked) in
      let k = each_member (λ s. (s.message ≡ exact_answer r W s.shard s.ask) × (s.ask ≡ ask s.shard) × (s.shard < length W)) sent s.0 round.answers s.1 in
      let same = eqb-true (s.0).shard i s.2 in
      any_by_member (λ s. (s.shard == i) && tells v s) sent s.0 s.1
      (and_from ((s.0).shard == i) (tells v s.0) s.2 (ap (λ a. has_val v (values_of r W n f t top at a (s.0).shard)) k.1 ∙ ap (λ j. has_val v (values_of r W n f t top at (ask j) j)) same ∙ h))

  heard_one : AllByRecursion Heard one
  heard_one = round_heard (λ i. exact_first) one (λ i. tt) first.answers

  heard_two : AllByRecursion Heard two
  heard_two = round_heard (λ i. exact_least (leasts r (length W) (exact_told_in one))) two (λ i. tt) second.answers

  heard_three : AllByRecursion Heard three
  heard_three = round_heard (asks_for_more r (one ++ two)) three (λ i. plain_from (exact_told_in (one ++ two)) i r.nodes 0) third.answers

  -- ---- what is offered

  abbrev offers : Val → ℕ → Bool
  offers v i = has_val v (offered t no_nodes Y i)

  told_first : (v : Val) → list_any (tells v) one ≡ list_any (offers v) H
  told_first v = same_tests _ _
      (λ h. let i = tells_in (λ i. exact_first) (λ i. true) one first v h in any_by_member (offers v) H i.0 i.1 i.2)
      (λ h. let i = passing_member (offers v) H h in
      let s = passing_member (λ s. (s.shard == i.0) && tells v s) one (told_at (λ i. exact_first) (λ i. true) one first v i.0 i.1 refl i.2) in
      any_by_member (tells v) one s.0 s.1 (and_parts ((s.0).shard == i.0) (tells v s.0) s.2).1)

  abbrev A1 : List ToldCount
  A1 = exact_told_in one

  values_first : values_told A1 n ≡ candidates (over_places r W) t no_nodes H D
  values_first =
      values_are r W n f t top at one heard_one
      ∙ same_ascending (distinct (flat_map vals one)) (distinct (flat_map (λ i. offered t no_nodes Y i) H)) (distinct_ascends (flat_map vals one)) (distinct_ascends (flat_map (λ i. offered t no_nodes Y i) H))
      (λ v. has_val-distinct v (flat_map vals one) ∙ list_any-flat_map (same_val v) vals one ∙ told_first v ∙ sym (has_val-distinct v (flat_map (λ i. offered t no_nodes Y i) H) ∙ list_any-flat_map (same_val v) (λ i. offered t no_nodes Y i) H))

  -- a shard has told of a value in the first round where it offers it
  told_first_at : (v : Val) (i : ℕ) → Member i H → list_any (λ s. (s.shard == i) && tells v s) one ≡ offers v i
  told_first_at v i m = same_tests _ _ forth (told_at (λ i. exact_first) (λ i. true) one first v i m refl)
    where
      forth : list_any (λ s. (s.shard == i) && tells v s) one ≡ true → offers v i ≡ true
      forth h =
          let s = passing_member (λ s. (s.shard == i) && tells v s) one h in
          let both = and_parts ((s.0).shard == i) (tells v s.0) s.2 in
          let k = each_member (λ s. (s.message ≡ exact_answer r W s.shard s.ask) × (s.ask ≡ exact_first) × (s.shard < length W)) one s.0 first.answers s.1 in
          ap (offers v) (sym (eqb-true (s.0).shard i both.0)) ∙ sym (ap (λ a. has_val v (values_of r W n f t top at a (s.0).shard)) k.1) ∙ both.1

  on_all : on_shards H Y ≡ Y
  on_all = on_shards_every H Y (allowed_domain r W at_root f.change H (root_domain r W) (inr refl) (subst (Every (is_on H)) (root_is r W) (every_on_shards H (root_domain r W))))

  apart : AreDifferent H
  apart = different H (distinct_numbers (length W))

  entry_first : (v : Val) → entry_told A1 H n v ≡ entry_on (over_places r W) t no_nodes H D (offering (over_places r W) t no_nodes H D v) v
  entry_first v =
      let counts = map_alike (λ i. unwrap_or (count_told A1 n v i) 0) (λ i. cond (offers v i) (length (part i (value_places t v Y))) 0) H
      (λ i m. ap (λ o. unwrap_or o 0) (count_is r W n f t top at one heard_one v i) ∙ unwrap_found (list_any (λ s. (s.shard == i) && tells v s) one) (count_there r W n f t top at i v)
      ∙ ap (λ b. cond b (count_there r W n f t top at i v) 0) (told_first_at v i m) ∙ ap (λ k. cond (offers v i) k 0) (sym (ap length (part_of_value r W t H D apart on_all v i)))) in
      let same = ap sum counts ∙ sum_of_some (offers v) (λ i. length (part i (value_places t v Y))) H
      ∙ sum_of_parts (filter (offers v) H) (value_places t v Y) (different (filter (offers v) H) (distinct-filter (offers v) H (distinct_numbers (length W)))) in
      (λ x. record { val = v; stats = record { count = same x; values = [] } })

  entries_first : entries_told A1 H n ≡ candidate_entries (over_places r W) t no_nodes H D
  entries_first =
      ap (map (entry_told A1 H n)) values_first
      ∙ map_alike (entry_told A1 H n) (λ v. entry_on (over_places r W) t no_nodes H D (offering (over_places r W) t no_nodes H D v) v) (candidates (over_places r W) t no_nodes H D) (λ v m. entry_first v)

  -- ---- what is listed next

  abbrev least : ℕ
  least = least_in (over_places r W) t H D

  least_is : number_at n (leasts r (length W) A1) ≡ least
  least_is =
      number-leasts_from A1 H r.nodes 0 n (record { name = f.name; change = f.change; kind = terms t }) no_nodes top at ∙ ap (λ j. least_asked A1 H j (terms t)) (let j : 0 + n ≡ n = omega arith in j)
      ∙ ap (least_count (length H) (top_bound t)) entries_first

  abbrev lists : Val → ℕ → Bool
  lists v i = has_val v (values_from t least Y i)

  list_is : (v : Val) (i : ℕ) → has_val v (values_of r W n f t top at (exact_least (leasts r (length W) A1)) i) ≡ lists v i
  list_is v i = ap (λ c. has_val v (values_from t c Y i)) least_is

  told_second : (v : Val) → list_any (tells v) two ≡ true → list_any (lists v) H ≡ true
  told_second v h =
      let i = tells_in (λ i. exact_least (leasts r (length W) A1)) (λ i. true) two second v h in
      any_by_member (lists v) H i.0 i.1 (sym (list_is v i.0) ∙ i.2)

  told_second_at : (v : Val) (i : ℕ) → Member i H → lists v i ≡ true → list_any (λ s. (s.shard == i) && tells v s) two ≡ true
  told_second_at v i m h = told_at (λ i. exact_least (leasts r (length W) A1)) (λ i. true) two second v i m refl (list_is v i ∙ h)

  -- some shard tells of a value, where one that is named does
  some_tells : (v : Val) (i : ℕ) (sent : List ExactSent) → list_any (λ s. (s.shard == i) && tells v s) sent ≡ true → list_any (tells v) sent ≡ true
  some_tells v i sent h = let s = passing_member (λ s. (s.shard == i) && tells v s) sent h in any_by_member (tells v) sent s.0 s.1 (and_parts ((s.0).shard == i) (tells v s.0) s.2).1

  abbrev by : Val → ℕ → Bool
  by v i = has_val v (listed_by r W t H D i)

  by_either : (v : Val) (i : ℕ) → by v i ≡ (offers v i || lists v i)
  by_either v i = list_any-append (same_val v) (offered t no_nodes Y i) (values_from t least Y i)

  -- after two rounds the listed values are told
  told_twice : (v : Val) → list_any (tells v) (one ++ two) ≡ list_any (by v) H
  told_twice v = list_any-append (tells v) one two ∙ same_tests _ _ forth back
    where
      forth : (list_any (tells v) one || list_any (tells v) two) ≡ true → list_any (by v) H ≡ true
      forth h = elim (or_cases (list_any (tells v) one) (list_any (tells v) two) h) [
        | inl a ↦ (let i = passing_member (offers v) H (sym (told_first v) ∙ a) in any_by_member (by v) H i.0 i.1 (by_either v i.0 ∙ or_left (offers v i.0) (lists v i.0) i.2))
        | inr b ↦ (let i = passing_member (lists v) H (told_second v b) in any_by_member (by v) H i.0 i.1 (by_either v i.0 ∙ or_right (offers v i.0) (lists v i.0) i.2))
      ]

      back : list_any (by v) H ≡ true → (list_any (tells v) one || list_any (tells v) two) ≡ true
      back h =
          let i = passing_member (by v) H h in
          elim (or_cases (offers v i.0) (lists v i.0) (sym (by_either v i.0) ∙ i.2)) [
            | inl a ↦ or_left (list_any (tells v) one) (list_any (tells v) two) (told_first v ∙ any_by_member (offers v) H i.0 i.1 a)
            | inr b ↦ or_right (list_any (tells v) one) (list_any (tells v) two) (some_tells v i.0 two (told_second_at v i.0 i.1 b))
          ]

  -- ---- what is asked for in the end

  abbrev A2 : List ToldCount
  A2 = exact_told_in (one ++ two)

  heard_twice : AllByRecursion Heard (one ++ two)
  heard_twice = all_append Heard one two heard_one heard_two

  wanted_is : (i : ℕ) → wanted_of n (wants_from A2 i r.nodes 0) ≡ lacking A2 i n
  wanted_is i = subst (λ j. wanted_of j (wants_from A2 i r.nodes 0) ≡ lacking A2 i j) (let j : 0 + n ≡ n = omega arith in j) (wanted-wants_from A2 i r.nodes 0 n top (ap is_some at))

  -- it is told already by some shard
  told_third : (v : Val) → list_any (tells v) three ≡ true → list_any (tells v) (one ++ two) ≡ true
  told_third v h =
      let i = tells_in (asks_for_more r (one ++ two)) (is_asked_more r (one ++ two)) three third v h in
      let lack = sym (ap (has_val v) (wanted_is i.0)) ∙ i.2 in
      let there = (filter_member (λ v. is_none (count_told A2 n v i.0)) (values_told A2 n) v (has_member v (lacking A2 i.0 n) lack)).0 in
      sym (ap (has_val v) (values_are r W n f t top at (one ++ two) heard_twice) ∙ has_val-distinct v (flat_map vals (one ++ two)) ∙ list_any-flat_map (same_val v) vals (one ++ two)) ∙ member_has v (values_told A2 n) there

  -- where a value is told and a shard has not told of it, it does then
  told_third_at : (v : Val) (i : ℕ) → Member i H → list_any (tells v) (one ++ two) ≡ true → list_any (λ s. (s.shard == i) && tells v s) (one ++ two) ≡ false → list_any (λ s. (s.shard == i) && tells v s) three ≡ true
  told_third_at v i m there none =
      let value = has_member v (values_told A2 n) (ap (has_val v) (values_are r W n f t top at (one ++ two) heard_twice) ∙ has_val-distinct v (flat_map vals (one ++ two)) ∙ list_any-flat_map (same_val v) vals (one ++ two) ∙ there) in
      let absent = ap is_none (count_is r W n f t top at (one ++ two) heard_twice v i ∙ ap (λ b. found_in r W n f t top at b i v) none) in
      let wanted = ap (has_val v) (wanted_is i) ∙ member_has v (lacking A2 i n) (member_of_filter (λ v. is_none (count_told A2 n v i)) (values_told A2 n) v value absent) in
      told_at (asks_for_more r (one ++ two)) (is_asked_more r (one ++ two)) three third v i m (some_wants v (wants_from A2 i r.nodes 0) wanted) wanted
    where
      some_wants : (v : Val) (ws : List Want) → has_val v (wanted_of n ws) ≡ true → not (is_empty ws) ≡ true
      some_wants v [] h = absurd (false≢true h)
      some_wants v (w ∷ ws) h = ap not (ne_eqb (suc (length ws)) 0 (λ e. omega arith))

  -- ---- all that is told

  abbrev all_sent : List ExactSent
  all_sent = (one ++ two) ++ three

  abbrev A : List ToldCount
  A = exact_told_in all_sent

  heard_all : AllByRecursion Heard all_sent
  heard_all = all_append Heard (one ++ two) three heard_twice heard_three

  told_all : (v : Val) → list_any (tells v) all_sent ≡ list_any (by v) H
  told_all v = list_any-append (tells v) (one ++ two) three ∙ same_tests _ _ forth (λ h. or_left (list_any (tells v) (one ++ two)) (list_any (tells v) three) h) ∙ told_twice v
    where
      forth : (list_any (tells v) (one ++ two) || list_any (tells v) three) ≡ true → list_any (tells v) (one ++ two) ≡ true
      forth h = elim (or_cases (list_any (tells v) (one ++ two)) (list_any (tells v) three) h) [ inl a ↦ a | inr b ↦ told_third v b ]

  abbrev L : List Val
  L = distinct (flat_map (listed_by r W t H D) H)

  values_all : values_told A n ≡ L
  values_all =
      values_are r W n f t top at all_sent heard_all
      ∙ same_ascending (distinct (flat_map vals all_sent)) L (distinct_ascends (flat_map vals all_sent)) (distinct_ascends (flat_map (listed_by r W t H D) H))
      (λ v. has_val-distinct v (flat_map vals all_sent) ∙ list_any-flat_map (same_val v) vals all_sent ∙ told_all v ∙ sym (has_val-distinct v (flat_map (listed_by r W t H D) H) ∙ list_any-flat_map (same_val v) (listed_by r W t H D) H))

  -- every shard has told of each
  all_told : (v : Val) (i : ℕ) → Member v L → Member i H → list_any (λ s. (s.shard == i) && tells v s) all_sent ≡ true
  all_told v i m k = list_any-append (λ s. (s.shard == i) && tells v s) (one ++ two) three ∙ go (list_any (λ s. (s.shard == i) && tells v s) (one ++ two)) refl
    where
      there : list_any (tells v) (one ++ two) ≡ true
      there = told_twice v ∙ sym (has_val-distinct v (flat_map (listed_by r W t H D) H) ∙ list_any-flat_map (same_val v) (listed_by r W t H D) H) ∙ member_has v L m

      go : (b : Bool) → list_any (λ s. (s.shard == i) && tells v s) (one ++ two) ≡ b → (b || list_any (λ s. (s.shard == i) && tells v s) three) ≡ true
      go true e = refl
      go false e = told_third_at v i k there e

  entry_all : (v : Val) → Member v L → entry_told A H n v ≡ record { val = v; stats = stats_over [] (value_places t v Y) }
  entry_all v m =
      let counts = map_alike (λ i. unwrap_or (count_told A n v i) 0) (λ i. length (value_places t v (part i Y))) H
      (λ i k. ap (λ o. unwrap_or o 0) (count_is r W n f t top at all_sent heard_all v i ∙ ap (λ b. found_in r W n f t top at b i v) (all_told v i m k))) in
      let same = ap sum counts ∙ row_sum r W t H D apart on_all v in
      (λ x. record { val = v; stats = record { count = same x; values = [] } })

  -- the values that the facet prints
  pub facet_told : (limit : ℕ) → t.sort ≡ count_first → t.limit ≡ Some limit → tops_told_of A H n (terms t) ≡ tops r W f.change t []
  facet_told limit sort limited =
      ap (printed_values t) (ap (map (entry_told A H n)) values_all ∙ map_alike (entry_told A H n) (λ v. record { val = v; stats = stats_over [] (value_places t v Y) }) L (λ v m. entry_all v m))
      ∙ tops_are_listed r W t limit H D sort limited apart on_all

-- ---- all facets

some_limit : (o : Option ℕ) → is_some o ≡ true → (l : ℕ) × (o ≡ Some l)
some_limit None h = absurd (false≢true h)
some_limit (Some l) h = (l, refl)

module _ (r : Request) (W : World) (top : AreTopNodes r.nodes) (one two three : List ExactSent)
    (first : IsExactRound r W (λ i. exact_first) (λ i. true) one)
    (second : IsExactRound r W (λ i. exact_least (leasts r (length W) (exact_told_in one))) (λ i. true) two)
    (third : IsExactRound r W (asks_for_more r (one ++ two)) (is_asked_more r (one ++ two)) three) where
  kind_told : (n : ℕ) (f : Facet) (kind : Kind) (inner : Nodes) (more : List (List Val)) → IsTopKind kind → inner ≡ no_nodes → facet_at n r.nodes ≡ Some (record { name = f.name; change = f.change; kind = kind }, no_nodes)
      → tops_told_of (exact_told_in ((one ++ two) ++ three)) (numbers_below (length W)) n kind ∷ more ≡ tops_at r W f.change (stats_of inner) kind more
  kind_told n f (terms t) inner more is none at =
      let limit = some_limit t.limit (and_parts t.exact (has_limit t) is.0).1 in
      ap (λ vs. vs ∷ more) (facet_told r W n f t top at one two three first second third limit.0 is.1 limit.1)
      ∙ sym (ap (λ b. cond b (tops r W f.change t (stats_of inner) ∷ more) more) is.0 ∙ ap (λ ns. tops r W f.change t (stats_of ns) ∷ more) none)
  kind_told n f (range g) inner more is none at = absurd is
  kind_told n f (date_range g) inner more is none at = absurd is
  kind_told n f (query q) inner more is none at = absurd is

  nodes_told : (nodes : Nodes) (k : ℕ) → AreTopNodes nodes → ((j : ℕ) → facet_at (k + j) r.nodes ≡ facet_at j nodes) → tops_told_from (exact_told_in ((one ++ two) ++ three)) (numbers_below (length W)) nodes k ≡ tops_in r W nodes
  nodes_told no_nodes k h at = refl
  nodes_told (statistic name s rest) k h at = absurd h
  nodes_told (facet f inner rest) k h at =
      let here : facet_at k r.nodes ≡ Some (f, no_nodes) = ap (λ j. facet_at j r.nodes) (let j : k ≡ k + 0 = omega arith in j) ∙ at 0 ∙ ap (λ ns. Some (f, ns)) h.1 in
      let later = nodes_told rest (suc k) h.2 (λ j. ap (λ m. facet_at m r.nodes) (let m : suc k + j ≡ k + suc j = omega arith in m) ∙ at (suc j)) in
      ap (λ vss. tops_told_of (exact_told_in ((one ++ two) ++ three)) (numbers_below (length W)) k f.kind ∷ vss) later ∙ kind_told k f f.kind inner (tops_in r W rest) h.0 h.1 here

  all_tops_told : tops_told r (length W) (exact_told_in ((one ++ two) ++ three)) ≡ tops_of r W
  all_tops_told = nodes_told r.nodes 0 top (λ j. ap (λ m. facet_at m r.nodes) (let m : 0 + j ≡ j = omega arith in m))

pub tops_are_told : TopsAreTold
tops_are_told x W one two three top first second third = all_tops_told x W top one two three first second third

-- ---- the rounds of a search

module _ (x : Request) (W : World) (ask : ℕ → ExactAsk) (is_asked : ℕ → Bool) (k : ℕ) where
  answers_of : (is : List ℕ) → ((i : ℕ) → Member i is → i < length W) → AllByRecursion (λ s. (s.message ≡ exact_answer x W s.shard s.ask) × (s.ask ≡ ask s.shard) × (s.shard < length W)) (map (λ i. exact_sent x W k i (ask i)) is)
  answers_of [] below = tt
  answers_of (i ∷ is) below = ((refl, refl, below i (inl refl)), answers_of is (λ j m. below j (inr m)))

  among_sent : (is : List ℕ) (i : ℕ) → Member i is → list_any (λ s. s.shard == i) (map (λ i. exact_sent x W k i (ask i)) is) ≡ true
  among_sent [] i m = absurd m
  among_sent (j ∷ is) i (inl e) = or_left (j == i) (list_any (λ s. s.shard == i) (map (λ i. exact_sent x W k i (ask i)) is)) (eq-eqb j i (sym e))
  among_sent (j ∷ is) i (inr m) = or_right (j == i) (list_any (λ s. s.shard == i) (map (λ i. exact_sent x W k i (ask i)) is)) (among_sent is i m)

  round_is : (is : List ℕ) → ((i : ℕ) → Member i is → i < length W) → ((i : ℕ) → i < length W → is_asked i ≡ true → Member i is) → IsExactRound x W ask is_asked (map (λ i. exact_sent x W k i (ask i)) is)
  round_is is below whole = record { answers = answers_of is below; whole = λ i h a. among_sent is i (whole i h a) }

pub rounds_tell_tops : RoundsTellTops
rounds_tell_tops x W top =
    let H = numbers_below (length W) in
    let one = offering_round x W in
    let two = least_round x W (exact_told_in one) in
    tops_are_told x W one two (lacking_round x W (exact_told_in (one ++ two))) top
    (round_is x W (λ i. exact_first) (λ i. true) 1 H (λ i m. member_below (length W) i m) (λ i h a. below_member (length W) i h))
    (round_is x W (λ i. exact_least (leasts x (length W) (exact_told_in one))) (λ i. true) 2 H (λ i m. member_below (length W) i m) (λ i h a. below_member (length W) i h))
    (round_is x W (asks_for_more x (one ++ two)) (is_asked_more x (one ++ two)) 3 (filter (is_asked_more x (one ++ two)) H)
    (λ i m. member_below (length W) i (filter_member (is_asked_more x (one ++ two)) H i m).0)
    (λ i h a. member_of_filter (is_asked_more x (one ++ two)) H i (below_member (length W) i h) a))

-- ---- exact facets alone

module _ (r : Request) (W : World) where
  only_kind : (f : Facet) (kind : Kind) (inner : Nodes) (more : Nodes) → (IsTrue (is_exact kind) → IsTopKind kind) → AreTopNodes more
      → (AreTopNodes (cond (is_exact kind) (facet (record { name = f.name; change = f.change; kind = kind }) no_nodes more) more))
      × (tops_in r W (cond (is_exact kind) (facet (record { name = f.name; change = f.change; kind = kind }) no_nodes more) more) ≡ tops_at r W f.change (stats_of inner) kind (tops_in r W more))
  only_kind f (terms t) inner more sorted top = go (is_exact (terms t)) refl
    where
      go : (b : Bool) → is_exact (terms t) ≡ b
          → (AreTopNodes (cond (is_exact (terms t)) (facet (record { name = f.name; change = f.change; kind = terms t }) no_nodes more) more))
          × (tops_in r W (cond (is_exact (terms t)) (facet (record { name = f.name; change = f.change; kind = terms t }) no_nodes more) more) ≡ tops_at r W f.change (stats_of inner) (terms t) (tops_in r W more))
      go true e =
          let is = sorted e in
          let nodes = ap (λ b. cond b (facet (record { name = f.name; change = f.change; kind = terms t }) no_nodes more) more) e in (
            subst AreTopNodes (sym nodes) (is, refl, top),
            ap (tops_in r W) nodes ∙ ap (λ b. cond b (tops r W f.change t [] ∷ tops_in r W more) (tops_in r W more)) e
                ∙ ap (λ vs. vs ∷ tops_in r W more) (sym (counts_alone t (stats_of inner) (domain r W at_root f.change (root_domain r W)) is.1))
                ∙ sym (ap (λ b. cond b (tops r W f.change t (stats_of inner) ∷ tops_in r W more) (tops_in r W more)) e),
          )
      go false e =
          let nodes = ap (λ b. cond b (facet (record { name = f.name; change = f.change; kind = terms t }) no_nodes more) more) e in
          (subst AreTopNodes (sym nodes) top, ap (tops_in r W) nodes ∙ sym (ap (λ b. cond b (tops r W f.change t (stats_of inner) ∷ tops_in r W more) (tops_in r W more)) e))
  only_kind f (range g) inner more sorted top = (top, refl)
  only_kind f (date_range g) inner more sorted top = (top, refl)
  only_kind f (query q) inner more sorted top = (top, refl)

  only_nodes : (nodes : Nodes) → SortExactByCount nodes → AreTopNodes (exact_nodes nodes) × (tops_in r W (exact_nodes nodes) ≡ tops_in r W nodes)
  only_nodes no_nodes h = (tt, refl)
  only_nodes (statistic name s rest) h = only_nodes rest h
  only_nodes (facet f inner rest) h =
      let later = only_nodes rest h.1 in
      let here = only_kind f f.kind inner (exact_nodes rest) h.0 later.0 in
      (here.0, here.1 ∙ ap (tops_at r W f.change (stats_of inner) f.kind) later.1)

pub only_exact_has_tops : OnlyExactHasTops
only_exact_has_tops r W h = only_nodes r W r.nodes h
