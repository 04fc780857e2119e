-- The entries of a search with exact facets ascend, are of at most twelve rounds, and are listed again from their map.
use Rattle.std.proofs.Common.{◌≡◌, ℕ, ◌+◌, ◌<◌, ◌≤◌, List, [], ◌∷◌, ◌++◌, map, length, Bool, true, false, cond, ap, inl, inr, arith}
use Rattle.std.specs.List.{AllByRecursion}
use Rattle.fc_spec.specs.words.Lists.{is_empty}
use Rattle.fc_spec.specs.documents.World.{World}
use Rattle.fc_spec.specs.requests.Request.{Request}
use Rattle.fc_spec.specs.requests.Shape.{no_exact}
use Rattle.fc_spec.specs.replies.Tops.{tops_of, only_exact, replaced}
use Rattle.fc_spec.specs.messages.Lacks.{terms_depth}
use Rattle.fc_spec.specs.messages.Rounds.{SentMessage, search_rounds}
use Rattle.fc_spec.specs.messages.TopRounds.{exact_told_in, offering_round, least_round, lacking_round}
use Rattle.fc_spec.specs.messages.Trace.{Sent, entry_of, trace}
use Rattle.fc_spec.specs.messages.WholeTrace.{exact_trace, exact_round_count, behind_rounds, whole_trace}
use Rattle.fc_spec.specs.laws.TraceLaws.{StandsBefore, WholeTracesAscend, ValidWholeTracesAreWithin, ValidWholeTracesAreListed}
use Rattle.fc_spec.proofs.words.Members.{Member, all_from_members, each_member}
use Rattle.fc_spec.proofs.words.AlikeLists.{member_map}
use Rattle.fc_spec.proofs.words.Differing.{Differ, differ_append, differ_map, differ_pairs, pairs_differ}
use Rattle.fc_spec.proofs.requests.Searchable.{searchable}
use Rattle.fc_spec.proofs.requests.ValidNodes.{valid_have_few_depths}
use Rattle.fc_spec.proofs.messages.HeldFurther.{all_append}
use Rattle.fc_spec.proofs.messages.SearchEnds.{rounds_are_few}
use Rattle.fc_spec.proofs.messages.ReplacedDepth.{replaced_depth}
use Rattle.fc_spec.proofs.messages.ExactEntries.{exact_ascends, exact_counted}
use Rattle.fc_spec.proofs.messages.TraceEntries.{traces_ascend, IsShard, shards_are_there}
use Rattle.fc_spec.proofs.messages.ListedTraces.{listed_again, within_more}

-- ---- behind other rounds

behind_ascends : (n : ℕ) (es : List Sent) → Differ StandsBefore es → Differ StandsBefore (map (behind_rounds n) es)
behind_ascends n es ascend = differ_map StandsBefore StandsBefore (behind_rounds n) es (λ e f m k before. later e f before) ascend
  where
    later : (e f : Sent) → StandsBefore e f → StandsBefore (behind_rounds n e) (behind_rounds n f)
    later e f (inl less) = inl (omega (arith, less))
    later e f (inr same) = inr (ap (λ k. n + k) same.0, same.1)

-- of so many rounds and shards
abbrev IsWithin : ℕ → ℕ → Sent → Type 0
IsWithin rounds shards e = (1 ≤ e.round) × (e.round ≤ rounds) × (e.shard < shards)

behind_within : (n rounds shards : ℕ) (es : List Sent) → AllByRecursion (IsWithin rounds shards) es → AllByRecursion (IsWithin (n + rounds) shards) (map (behind_rounds n) es)
behind_within n rounds shards [] h = tt
behind_within n rounds shards (e ∷ es) h = (((let low : 1 ≤ e.round = h.0.0 in omega arith), (let most : e.round ≤ rounds = h.0.1 in omega arith), h.0.2), behind_within n rounds shards es h.1)

-- ---- the trace of a request whose terms facets nest so deep

trace_within : (sent : List SentMessage) (depth shards : ℕ) → AllByRecursion (λ s. (1 ≤ s.round) × (s.round ≤ depth + 1)) sent → AllByRecursion (IsShard shards) sent → AllByRecursion (IsWithin (depth + 1) shards) (map entry_of sent)
trace_within [] depth shards few there = tt
trace_within (s ∷ ss) depth shards few there = ((few.0.0, few.0.1, there.0), trace_within ss depth shards few.1 there.1)

few_before : (x : Request) (W : World) → exact_round_count x W ≤ 3
few_before x W = go (is_empty (lacking_round x W (exact_told_in (offering_round x W ++ least_round x W (exact_told_in (offering_round x W))))))
  where
    go : (b : Bool) → cond b 2 3 ≤ 3
    go true = omega arith
    go false = omega arith

-- ---- whole

module _ (r : Request) (W : World) where
  abbrev x : Request
  x = only_exact r

  abbrev made : Request
  made = replaced r (tops_of r W)

  abbrev c : ℕ
  c = exact_round_count x W

  cross : (e f : Sent) → Member e (exact_trace x W) → Member f (map (behind_rounds c) (trace made W)) → StandsBefore e f
  cross e f m n =
      let behind = member_map (behind_rounds c) (trace made W) f n in
      let from = member_map entry_of (search_rounds made W) behind.0 behind.1 in
      let low = (each_member (λ s. (1 ≤ s.round) × (s.round ≤ terms_depth made.nodes + 1)) (search_rounds made W) from.0 (rounds_are_few made W) from.1).0 in
      let at : f.round ≡ c + (behind.0).round = ap (λ (g : Sent). g.round) behind.2 in
      let is : (behind.0).round ≡ (from.0).round = ap (λ (g : Sent). g.round) from.2 in
      let own = (exact_counted x W e m).1 in
      inl (omega (arith, low, at, is, own))

  all_ascend : (b : Bool) → Differ StandsBefore (cond b (trace r W) (exact_trace x W ++ map (behind_rounds c) (trace made W)))
  all_ascend true = pairs_differ StandsBefore (trace r W) (traces_ascend r W)
  all_ascend false =
      differ_append StandsBefore (exact_trace x W) (map (behind_rounds c) (trace made W)) (exact_ascends x W) (behind_ascends c (trace made W) (pairs_differ StandsBefore (trace made W) (traces_ascend made W))) cross

  -- of at most nine rounds
  nine : (q : Request) → terms_depth q.nodes ≤ 8 → AllByRecursion (IsWithin 9 (length W)) (trace q W)
  nine q few =
      within_more (trace q W) (terms_depth q.nodes + 1) (length W) 9 (length W) (omega (arith, few)) (omega arith)
      (trace_within (search_rounds q W) (terms_depth q.nodes) (length W) (rounds_are_few q W) (shards_are_there q W))

  found : AllByRecursion (IsWithin 12 (length W)) (exact_trace x W)
  found = all_from_members (IsWithin 12 (length W)) (exact_trace x W) (λ e m.
      let is = exact_counted x W e m in
      let most = is.1 in
      (is.0, omega (arith, most, few_before x W), is.2))

  all_within : terms_depth r.nodes ≤ 8 → (b : Bool) → AllByRecursion (IsWithin 12 (length W)) (cond b (trace r W) (exact_trace x W ++ map (behind_rounds c) (trace made W)))
  all_within few true = within_more (trace r W) 9 (length W) 12 (length W) (omega arith) (omega arith) (nine r few)
  all_within few false =
      all_append (IsWithin 12 (length W)) (exact_trace x W) (map (behind_rounds c) (trace made W)) found
      (within_more (map (behind_rounds c) (trace made W)) (c + 9) (length W) 12 (length W) (omega (arith, few_before x W)) (omega arith)
      (behind_within c 9 (length W) (trace made W) (nine made (omega (arith, few, replaced_depth r.nodes (tops_of r W))))))

pub whole_traces_ascend : WholeTracesAscend
whole_traces_ascend r W = differ_pairs StandsBefore (whole_trace r W) (all_ascend r W (no_exact r.nodes))

pub valid_whole_traces_are_within : ValidWholeTracesAreWithin
valid_whole_traces_are_within s r W valid = all_within r W (valid_have_few_depths s r (searchable s r valid)) (no_exact r.nodes)

pub valid_whole_traces_are_listed : ValidWholeTracesAreListed
valid_whole_traces_are_listed s r W rounds shards valid high near =
    listed_again (whole_trace r W) rounds shards (whole_traces_ascend r W) (within_more (whole_trace r W) 12 (length W) rounds shards high near (valid_whole_traces_are_within s r W valid))
