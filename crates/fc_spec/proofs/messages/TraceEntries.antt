-- The entries of a trace ascend, and stand in the map that they are put in.
use Rattle.std.proofs.Common.{◌≡◌, ℕ, zero, suc, ◌<◌, ◌≤◌, List, [], ◌∷◌, ◌++◌, map, length, Bool, true, false, cond, ◌&&◌, ◌==◌, Some, not, refl, ◌∙◌, ap, inl, inr, arith}
use Rattle.std.specs.List.{AllByRecursion, filter}
use Rattle.std.proofs.lemmas.Bool.{eq-eqb, ne_eqb}
use Rattle.fc_spec.specs.words.Lists.{is_empty, numbers_below}
use Rattle.fc_spec.specs.documents.World.{World}
use Rattle.fc_spec.specs.requests.Request.{Request}
use Rattle.fc_spec.specs.messages.Message.{first, more}
use Rattle.fc_spec.specs.messages.Lacks.{Lack, terms_depth}
use Rattle.fc_spec.specs.messages.Rounds.{SentMessage, told_in, next_lacks, wants_of, sent_by, first_round, later_round, rounds_from, search_rounds}
use Rattle.fc_spec.specs.messages.Trace.{Sent, entry_of, trace}
use Rattle.fc_spec.specs.messages.Lengths.{Lengths, is_of, put, put_all}
use Rattle.fc_spec.specs.laws.TraceLaws.{StandsBefore, TracesAscend, ValidTracesAreWithin, EntriesAreIn}
use Rattle.fc_spec.proofs.requests.Searchable.{searchable}
use Rattle.fc_spec.proofs.requests.ValidNodes.{valid_have_few_rounds}
use Rattle.fc_spec.proofs.words.Members.{Member, all_from_members, each_member, filter_member}
use Rattle.fc_spec.proofs.words.AlikeLists.{member_map}
use Rattle.fc_spec.proofs.words.NumbersBelow.{member_below}
use Rattle.fc_spec.proofs.words.Differing.{Differ, differ_append, differ_filter, differ_map, differ_pairs, pairs_differ, rising_range}
use Rattle.fc_spec.proofs.messages.HeldFurther.{all_append}
use Rattle.fc_spec.proofs.messages.SearchEnds.{IsRoundBefore, first_rounds, more_rounds, this_round}

-- ---- they ascend

abbrev ComesBefore : SentMessage → SentMessage → Type 0
ComesBefore s t = StandsBefore (entry_of s) (entry_of t)

-- the messages of one round, of shards whose numbers rise
one_round : (r : Request) (W : World) (round : ℕ) (all : List Lack) (is : List ℕ) → Differ (λ i j. i < j) is → Differ ComesBefore (map (λ i. sent_by r W round i (more (wants_of i all))) is)
one_round r W round all is rising = differ_map (λ i j. i < j) ComesBefore (λ i. sent_by r W round i (more (wants_of i all))) is (λ i j m n less. inr (refl, less)) rising

later_ascends : (r : Request) (W : World) (round : ℕ) (all : List Lack) → Differ ComesBefore (later_round r W round all)
later_ascends r W round all =
    one_round r W round all (filter (λ i. not (is_empty (wants_of i all))) (numbers_below (length W)))
    (differ_filter (λ i j. i < j) (λ i. not (is_empty (wants_of i all))) (numbers_below (length W)) (rising_range (length W) 0))

-- every message of a later round has its number
later_is : (r : Request) (W : World) (round : ℕ) (all : List Lack) (s : SentMessage) → Member s (later_round r W round all) → s.round ≡ round
later_is r W round all s m = let from = member_map (λ i. sent_by r W round i (more (wants_of i all))) (filter (λ i. not (is_empty (wants_of i all))) (numbers_below (length W))) s m in ap (λ (t : SentMessage). t.round) from.2

ascend_from : (r : Request) (W : World) (left round : ℕ) (sent : List SentMessage) → 1 ≤ round → AllByRecursion (IsRoundBefore round) sent → Differ ComesBefore sent → Differ ComesBefore (rounds_from r W left round sent)
ascend_from r W zero round sent low before d = d
ascend_from r W (suc left) round sent low before d = go (is_empty next) (ascend_from r W left (suc round) more_sent (omega arith) (all_append (IsRoundBefore (suc round)) sent later (more_rounds sent round (suc round) (omega arith) before) (this_round r W round next low)) longer)
  where
    next : List Lack
    next = next_lacks r (length W) (told_in r.nodes sent) (terms_depth r.nodes) 0

    later : List SentMessage
    later = later_round r W round next

    more_sent : List SentMessage
    more_sent = sent ++ later

    cross : (s t : SentMessage) → Member s sent → Member t later → ComesBefore s t
    cross s t m n = inl (let own = (each_member (IsRoundBefore round) sent s before m).1 in let at = later_is r W round next t n in omega (arith, own, at))

    longer : Differ ComesBefore more_sent
    longer = differ_append ComesBefore sent later d (later_ascends r W round next) cross

    go : (b : Bool) → Differ ComesBefore (rounds_from r W left (suc round) more_sent) → Differ ComesBefore (cond b sent (rounds_from r W left (suc round) more_sent))
    go true ih = d
    go false ih = ih

rounds_ascend : (r : Request) (W : World) → Differ ComesBefore (search_rounds r W)
rounds_ascend r W =
    ascend_from r W (terms_depth r.nodes) 2 (first_round r W) (omega arith) (first_rounds r W (numbers_below (length W)))
    (differ_map (λ i j. i < j) ComesBefore (λ i. sent_by r W 1 i first) (numbers_below (length W)) (λ i j m n less. inr (refl, less)) (rising_range (length W) 0))

pub traces_ascend : TracesAscend
traces_ascend r W = differ_pairs StandsBefore (trace r W) (differ_map ComesBefore StandsBefore entry_of (search_rounds r W) (λ s t m n before. before) (rounds_ascend r W))

-- ---- shards that are there

abbrev pub IsShard : ℕ → SentMessage → Type 0
IsShard n s = s.shard < n

shards_from : (r : Request) (W : World) (left round : ℕ) (sent : List SentMessage) → AllByRecursion (IsShard (length W)) sent → AllByRecursion (IsShard (length W)) (rounds_from r W left round sent)
shards_from r W zero round sent all = all
shards_from r W (suc left) round sent all = go (is_empty next) (shards_from r W left (suc round) (sent ++ later_round r W round next) (all_append (IsShard (length W)) sent (later_round r W round next) all here))
  where
    next : List Lack
    next = next_lacks r (length W) (told_in r.nodes sent) (terms_depth r.nodes) 0

    here : AllByRecursion (IsShard (length W)) (later_round r W round next)
    here = all_from_members (IsShard (length W)) (later_round r W round next) (λ s m.
        let from = member_map (λ i. sent_by r W round i (more (wants_of i next))) (filter (λ i. not (is_empty (wants_of i next))) (numbers_below (length W))) s m in
        let less = member_below (length W) from.0 (filter_member (λ i. not (is_empty (wants_of i next))) (numbers_below (length W)) from.0 from.1).0 in
        let at : s.shard ≡ from.0 = ap (λ (t : SentMessage). t.shard) from.2 in
        omega (arith, less, at))

    go : (b : Bool) → AllByRecursion (IsShard (length W)) (rounds_from r W left (suc round) (sent ++ later_round r W round next)) → AllByRecursion (IsShard (length W)) (cond b sent (rounds_from r W left (suc round) (sent ++ later_round r W round next)))
    go true ih = all
    go false ih = ih

pub shards_are_there : (r : Request) (W : World) → AllByRecursion (IsShard (length W)) (search_rounds r W)
shards_are_there r W =
    shards_from r W (terms_depth r.nodes) 2 (first_round r W) (all_from_members (IsShard (length W)) (first_round r W) (λ s m.
    let from = member_map (λ i. sent_by r W 1 i first) (numbers_below (length W)) s m in
    let less = member_below (length W) from.0 from.1 in
    let at : s.shard ≡ from.0 = ap (λ (t : SentMessage). t.shard) from.2 in
    omega (arith, less, at)))

both_hold : (n : ℕ) (ss : List SentMessage) → AllByRecursion (λ m. (1 ≤ m.round) × (m.round ≤ 9)) ss → AllByRecursion (IsShard n) ss → AllByRecursion (λ e. (1 ≤ e.round) × (e.round ≤ 9) × (e.shard < n)) (map entry_of ss)
both_hold n [] rounds shards = tt
both_hold n (s ∷ ss) rounds shards = ((rounds.0.0, rounds.0.1, shards.0), both_hold n ss rounds.1 shards.1)

pub valid_traces_are_within : ValidTracesAreWithin
valid_traces_are_within s r W valid = both_hold (length W) (search_rounds r W) (valid_have_few_rounds s r W (searchable s r valid)) (shards_are_there r W)

-- ---- entries that are put in

-- an entry is of its own round and shard
is_own : (e : Sent) → is_of e.round e.shard e ≡ true
is_own e = λ i. eq-eqb e.round e.round refl i && eq-eqb e.shard e.shard refl i

-- and of no later one's
is_not : (e f : Sent) → StandsBefore e f → is_of e.round e.shard f ≡ false
is_not e f (inl less) = ap (λ b. b && (f.shard == e.shard)) (ne_eqb f.round e.round (λ same. omega arith))
is_not e f (inr same) = ap (λ b. (f.round == e.round) && b) (ne_eqb f.shard e.shard (λ one. let less = same.1 in omega arith)) ∙ and_false (f.round == e.round)
  where
    and_false : (b : Bool) → (b && false) ≡ false
    and_false true = refl
    and_false false = refl

none_later : (e : Sent) (es : List Sent) → ((f : Sent) → Member f es → StandsBefore e f) → AllByRecursion (λ f. is_of e.round e.shard f ≡ false) es
none_later e es behind = all_from_members (λ f. is_of e.round e.shard f ≡ false) es (λ f m. is_not e f (behind f m))

-- what none of them is of stays
others_stay : (es : List Sent) (m : Lengths) (round shard : ℕ) → AllByRecursion (λ e. is_of round shard e ≡ false) es → put_all es m round shard ≡ m round shard
others_stay [] m round shard none = refl
others_stay (e ∷ es) m round shard none = others_stay es (put e m) round shard none.1 ∙ ap (λ b. cond b (Some e.length) (m round shard)) none.0

each_in : (es : List Sent) (m : Lengths) → Differ StandsBefore es → AllByRecursion (λ e. put_all es m e.round e.shard ≡ Some e.length) es
each_in [] m d = tt
each_in (e ∷ es) m d = (others_stay es (put e m) e.round e.shard (none_later e es d.0) ∙ ap (λ b. cond b (Some e.length) (m e.round e.shard)) (is_own e), each_in es (put e m) d.1)

pub entries_are_in : EntriesAreIn
entries_are_in es m ascend = record { each = each_in es m (pairs_differ StandsBefore es ascend); others = λ round shard none. others_stay es m round shard none }
