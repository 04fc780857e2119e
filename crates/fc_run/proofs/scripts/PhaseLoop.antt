-- What stands between two phases of a script.
use Rattle.std.proofs.Common.{◌≡◌, ℕ, ◌+◌, List, [], ◌∷◌, ◌++◌, length, map, refl, sym, ◌∙◌, ap, subst, arith}
use Rattle.std.specs.Prelude.{All}
use Rattle.std.specs.Arc.{arc_value}
use Rattle.std.specs.List.{enumerate_from}
use Rattle.std.proofs.lemmas.List.{length-map}
use Rattle.std.proofs.lemmas.List.Elements.{All-head, All-tail}
use Rattle.fc_spec.specs.replies.Replied.{replied}
use Rattle.fc_spec.specs.scripts.PinnedWorlds.{world_added}
use Rattle.fc_spec.specs.scripts.WorldLimits.{IsWithinLimits}
use Rattle.fc_spec.specs.scripts.SearchLines.{SearchLine, AreLinesOfParts, AreLinesOfAll, ArePhaseLines}
use Rattle.fc_script.specs.PartsView.{parts_view, phase_view, search_view}
use Rattle.fc_script.specs.declared.script.Phase.{Phase}
use Rattle.fc_script.specs.declared.script.Script.{Script}
use Rattle.fc_search.specs.Schemas.{AreSame}
use Rattle.fc_run.specs.Phased.{CanRun, chartered_batches, numbers_before}
use Rattle.fc_run.specs.Progress.{CanCarryAll, Progress, all_carried, all_progress_at}
use Rattle.fc_run.specs.Runnable.{AreRising, IsRunnable, IsRunnablePhase, commits_in}
use Rattle.fc_run.specs.Searches.{Shard, lists_in, shards_view}
use Rattle.fc_run.proofs.scripts.Carried.{AllFit, all_carried_is, all_fit, can_carry_all, progress_count, progress_generations, progress_numbers, progress_schemas}
use Rattle.fc_run.proofs.scripts.PhaseLines.{charters_within, same_lines, worlds_same}
use Rattle.fc_run.proofs.scripts.PhaseSteps.{lines_done, lines_more, searches_of}

zeros_same : (shards : List Shard) → map {B = ℕ} (λ shard. 0) shards ≡ map {B = ℕ} (λ batches. 0) (shards_view shards)
zeros_same [] = refl
zeros_same (s ∷ shards) = ap (λ (rest : List ℕ). 0 ∷ rest) (zeros_same shards)

-- some phases are done: the shards are those of the last one's numbers, and with the lines of the rest these are those of the script
pub record Between (s : Script) (done : ℕ) (before : List ℕ) (left : List Phase) (shards : List Progress) (lines : List SearchLine) : Type 0 where
  pub are : shards ≡ all_progress_at (arc_value s.schema) (lists_in s.batches.items) before
  pub count : length before ≡ length s.batches.items
  pub rising : AreRising before (commits_in left)
  pub runnable : All (IsRunnablePhase s) left
  pub whole : (ls : List SearchLine) → AreLinesOfAll replied (shards_view s.batches.items) before (map (phase_view s.sessions.items) (enumerate_from done left)) ls → AreLinesOfParts replied (parts_view s) (lines ++ ls)

-- the numbers of commits before any phase
abbrev pub none_yet : Script → List ℕ
none_yet s = map (λ shard. 0) s.batches.items

pub at_first : (s : Script) (shards : List Progress) → IsRunnable s → shards ≡ all_progress_at (arc_value s.schema) (lists_in s.batches.items) (none_yet s)
    → Between s 0 (none_yet s) s.phases.items shards []
at_first s shards is first = record {
  are = first;
  count = length-map s.batches.items (λ shard. 0);
  rising = is.rising;
  runnable = is.phases;
  whole = λ ls more. subst (λ zeros. AreLinesOfAll replied (shards_view s.batches.items) zeros (map (phase_view s.sessions.items) (enumerate_from 0 s.phases.items)) ls) (zeros_same s.batches.items) more;
}

-- before the next phase
module _ (s : Script) (done : ℕ) (before : List ℕ) (p : Phase) (ps : List Phase) (shards : List Progress) (lines : List SearchLine) (is : IsRunnable s) (now : Between s done before (p ∷ ps) shards lines) where
  here : IsRunnablePhase s p
  here = All-head (IsRunnablePhase s) p ps now.runnable

  lists : length (lists_in s.batches.items) ≡ length s.batches.items
  lists = length-map s.batches.items (λ shard. shard.items)

  count : length p.commits.items ≡ length s.batches.items
  count = here.commits.count ∙ lists

  fit : AllFit (arc_value s.schema) (lists_in s.batches.items) p.commits.items
  fit = all_fit (arc_value s.schema) s.batches.items p.commits.items is.shards here.commits is.within

  many : length shards ≡ length s.batches.items
  many = ap length now.are ∙ progress_count (arc_value s.schema) (lists_in s.batches.items) before (now.count ∙ sym lists) ∙ lists

  pub can_run : CanRun shards (length s.sessions.items) p
  can_run = record {
    some = (let some = is.some in omega (arith, many, some));
    few = (let few = is.few_shards in omega (arith, many, few));
    schema = subst (λ qs. AreSame (map (λ (q : Progress). q.generation.schema) qs)) (sym now.are) (arc_value s.schema, progress_schemas (arc_value s.schema) (lists_in s.batches.items) before);
    count = count ∙ sym many;
    carry = subst (λ qs. CanCarryAll qs p.commits.items) (sym now.are) (can_carry_all (arc_value s.schema) (lists_in s.batches.items) before p.commits.items fit now.rising.0);
    within = subst (λ qs. IsWithinLimits (world_added (chartered_batches qs p.commits.items))) (sym now.are)
        (charters_within (arc_value s.schema) s.batches.items before p.commits.items now.rising.0 is.within);
    searches = searches_of (arc_value s.schema) (shards_view s.batches.items) before (map (λ (q : Progress). q.generation) shards) (length s.sessions.items) p.searches.items
        (ap (map (λ (q : Progress). q.generation)) now.are ∙ progress_generations (arc_value s.schema) s.batches.items before) here.searches;
  }

  pub next : (later : List Progress) (own : List SearchLine) → later ≡ all_carried shards p.commits.items
      → ArePhaseLines replied (chartered_batches shards p.commits.items) p.commits.items (λ session. numbers_before shards) (map (search_view s.sessions.items done) p.searches.items) own
      → Between s (done + 1) p.commits.items ps later (lines ++ own)
  next later own made are = record {
    are = made ∙ ap (λ qs. all_carried qs p.commits.items) now.are
        ∙ all_carried_is (arc_value s.schema) (lists_in s.batches.items) before p.commits.items fit now.rising.0 (now.count ∙ sym lists);
    count = count;
    rising = now.rising.1;
    runnable = All-tail (IsRunnablePhase s) p ps now.runnable;
    whole = lines_more (shards_view s.batches.items) before s.sessions.items done p ps lines own (AreLinesOfParts replied (parts_view s)) over now.whole;
  }
    where
      numbers : numbers_before shards ≡ before
      numbers = ap numbers_before now.are ∙ progress_numbers (arc_value s.schema) (lists_in s.batches.items) before (now.count ∙ sym lists)

      -- over the batches of the script
      over : ArePhaseLines replied (shards_view s.batches.items) p.commits.items (λ session. before) (map (search_view s.sessions.items done) p.searches.items) own
      over =
          same_lines replied (chartered_batches (all_progress_at (arc_value s.schema) (lists_in s.batches.items) before) p.commits.items) (shards_view s.batches.items) before p.commits.items
          (λ g above below. worlds_same (arc_value s.schema) s.batches.items before p.commits.items g now.count count above below)
          (λ session. before) (map (search_view s.sessions.items done) p.searches.items) own (λ c i. omega arith)
          (subst (λ qs. ArePhaseLines replied (chartered_batches qs p.commits.items) p.commits.items (λ session. before) (map (search_view s.sessions.items done) p.searches.items) own) now.are
          (subst (λ low. ArePhaseLines replied (chartered_batches shards p.commits.items) p.commits.items (λ session. low) (map (search_view s.sessions.items done) p.searches.items) own) numbers are))

pub at_last : (s : Script) (done : ℕ) (before : List ℕ) (shards : List Progress) (lines : List SearchLine) (left : List Phase) → left ≡ [] → Between s done before left shards lines → AreLinesOfParts replied (parts_view s) lines
at_last s done before shards lines left none now =
    lines_done lines (AreLinesOfParts replied (parts_view s))
    (now.whole [] (subst (λ ps. AreLinesOfAll replied (shards_view s.batches.items) before (map (phase_view s.sessions.items) (enumerate_from done ps)) []) (sym none) refl))
