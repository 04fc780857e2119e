-- What a run has written between two phases, and how it may end there.
use Rattle.std.proofs.Common.{◌≡◌, ℕ, ◌+◌, ◌≤◌, List, [], ◌∷◌, ◌++◌, length, map, Option, Result, Ok, Err, refl, sym, ◌∙◌, ap, subst, append_assoc, arith}
use Rattle.std.proofs.KnownBytes.{Appends-trans}
use Rattle.std.specs.Arc.{arc_value}
use Rattle.std.specs.Io.KnownBytes.{Appends}
use Rattle.std.specs.Prelude.{IsErr, option_map}
use Rattle.std.proofs.lemmas.List.{length-append, length-map}
use Rattle.fc_spec.specs.documents.Val.{Text}
use Rattle.fc_spec.specs.replies.Replied.{replied}
use Rattle.fc_spec.specs.scripts.Booked.{Books, book_all}
use Rattle.fc_spec.specs.scripts.SearchLines.{SearchLine, AreLinesOfParts, ArePhaseLines, sent_for, text_of}
use Rattle.fc_script.specs.PartsView.{parts_view, search_view}
use Rattle.fc_script.specs.declared.script.Phase.{Phase}
use Rattle.fc_script.specs.declared.script.Script.{Script}
use Rattle.fc_io.specs.WriteEnd.{AppendsFront}
use Rattle.fc_run.specs.Booking.{AreBookedLines}
use Rattle.fc_run.specs.Ending.{WritesAll, WritesNext}
use Rattle.fc_run.specs.Outcome.{Wrote}
use Rattle.fc_run.specs.Phased.{chartered_batches, numbers_before}
use Rattle.fc_run.specs.Progress.{Progress, all_carried, all_progress_at}
use Rattle.fc_run.specs.Runnable.{IsRunnable, searches_in}
use Rattle.fc_run.specs.Searches.{lists_in, shards_view}
use Rattle.fc_run.specs.declared.stop.Stop.{Stop}
use Rattle.fc_run.specs.declared.stop.Stop.TheVariants.{OutOfMemory, SinkFailed}
use Rattle.fc_run.proofs.scripts.Bookings.{booked_more, booked_none, line_count, text_of-append}
use Rattle.fc_run.proofs.scripts.PhaseLoop.{Between, at_first, at_last, next, none_yet}
use Rattle.fc_run.proofs.scripts.SomeLines.{rest_there}
use Rattle.fc_run.proofs.scripts.Written.{appends_nothing}

-- some phases are done, their lines are written and booked, and the first search behind them has this number
pub record Going (s : Script) (done : ℕ) (left : List Phase) (shards : List Progress) (first : ℕ) (old new : Option (List ℕ)) (begun told : Option Books) : Type 0 where
  pub before : List ℕ
  pub lines : List SearchLine
  pub appended : Appends old new (text_of lines)
  pub between : Between s done before left shards lines
  pub numbered : first ≡ length lines
  pub few : first + length (searches_in left) ≤ 67_108_864
  pub booked : told ≡ option_map (book_all 0 (sent_for lines)) begun

-- what a run leaves that stops
abbrev pub IsFrontOf : Script → Text → Type 0
IsFrontOf s t = (rest : Text) × (ls : List SearchLine) × (t ++ rest ≡ text_of ls) × AreLinesOfParts replied (parts_view s) ls

-- the searches of a phase are few
pub few_own : (first : ℕ) (p : Phase) (ps : List Phase) → first + length (searches_in (p ∷ ps)) ≤ 67_108_864 → first + length p.searches.items ≤ 67_108_864
few_own first p ps few = let all = length-append p.searches.items (searches_in ps) in omega (arith, all, few)

few_left : (first : ℕ) (p : Phase) (ps : List Phase) → first + length (searches_in (p ∷ ps)) ≤ 67_108_864 → (first + length p.searches.items) + length (searches_in ps) ≤ 67_108_864
few_left first p ps few = let all = length-append p.searches.items (searches_in ps) in omega (arith, all, few)

module _ (s : Script) where
  pub going_first : (shards : List Progress) (old : Option (List ℕ)) (begun : Option Books) → IsRunnable s → shards ≡ all_progress_at (arc_value s.schema) (lists_in s.batches.items) (none_yet s)
      → Going s 0 s.phases.items shards 0 old old begun begun
  going_first shards old begun is first = record {
    before = none_yet s;
    lines = [];
    appended = appends_nothing old old refl;
    between = at_first s shards is first;
    numbered = refl;
    few = (let few = is.few_searches in omega (arith, few));
    booked = booked_none begun;
  }

  -- what is written is a front of some text
  pub going_front : (done : ℕ) (left : List Phase) (shards : List Progress) (first : ℕ) (old new : Option (List ℕ)) (begun told : Option Books) → Going s done left shards first old new begun told → Wrote old new (IsFrontOf s)
  going_front done left shards first old new begun told now =
      let more = rest_there replied (shards_view s.batches.items) s.sessions.items done now.before left now.between.rising in (
        text_of now.lines,
        now.appended,
        (text_of more.0, now.lines ++ more.0, sym (text_of-append now.lines more.0), now.between.whole more.0 more.1),
      )

  -- before any phase too
  pub first_front : (old : Option (List ℕ)) (begun : Option Books) → IsRunnable s → Wrote old old (IsFrontOf s)
  first_front old begun is =
      let first = all_progress_at (arc_value s.schema) (lists_in s.batches.items) (none_yet s) in
      going_front 0 s.phases.items first 0 old old begun begun (going_first first old begun is refl)

  -- a run that stopped left a front
  pub stopped : (ended : Result (Unit {0}) Stop) (old new : Option (List ℕ)) (begun told : Option Books) → IsErr ended → Wrote old new (IsFrontOf s)
      → WritesAll ended old new (AreBookedLines ended 0 begun told (AreLinesOfParts replied (parts_view s)))
  stopped (Ok u) old new begun told is front = cc
  stopped (Err stop) old new begun told is (t, appended, (rest, ls, same, are)) = (t, appended, (rest, record { lines = ls; text = same; are = are; booked = tt }))

  pub going_last : (done : ℕ) (left : List Phase) (shards : List Progress) (first : ℕ) (old new : Option (List ℕ)) (begun told : Option Books) → left ≡ [] → Going s done left shards first old new begun told
      → WritesAll (Ok tt) old new (AreBookedLines {A = Unit {0}} (Ok tt) 0 begun told (AreLinesOfParts replied (parts_view s)))
  going_last done left shards first old new begun told none now =
      (text_of now.lines, now.appended, record { lines = now.lines; text = refl; are = at_last s done now.before shards now.lines left none now.between; booked = now.booked })

  module _ (done : ℕ) (p : Phase) (ps : List Phase) (shards : List Progress) (first : ℕ) (old new later : Option (List ℕ)) (begun told after : Option Books) (is : IsRunnable s) (now : Going s done (p ∷ ps) shards first old new begun told) where
    abbrev pub Lines : List SearchLine → Type 0
    Lines own = ArePhaseLines replied (chartered_batches shards p.commits.items) p.commits.items (λ session. numbers_before shards) (map (search_view s.sessions.items done) p.searches.items) own

    -- once the lines of a phase are written
    pub going_next : {A : Type 0} (carried : A) (next_shards : List Progress) (many : ℕ) → next_shards ≡ all_carried shards p.commits.items → many ≡ length p.searches.items
        → WritesNext {A = A} (Ok carried) new later (AreBookedLines {A = A} (Ok carried) first told after Lines) → Going s (done + 1) ps next_shards (first + many) old later begun after
    going_next carried next_shards many made count (t, appended, own) = record {
      before = p.commits.items;
      lines = now.lines ++ own.lines;
      appended = subst (Appends old later) (ap (λ u. text_of now.lines ++ u) own.text ∙ sym (text_of-append now.lines own.lines)) (Appends-trans old new later (text_of now.lines) t now.appended appended);
      between = next s done now.before p ps shards now.lines is now.between next_shards own.lines made own.are;
      numbered = (let so_far = now.numbered in let all = length-append now.lines own.lines in omega (arith, so_far, all, count, own_count));
      few = subst (λ n. (first + n) + length (searches_in ps) ≤ 67_108_864) (sym count) (few_left first p ps now.few);
      booked = booked_more first now.lines own.lines begun told after now.numbered now.booked own.booked;
    }
      where
        own_count : length own.lines ≡ length p.searches.items
        own_count =
            line_count replied (chartered_batches shards p.commits.items) p.commits.items (λ session. numbers_before shards) (map (search_view s.sessions.items done) p.searches.items) own.lines own.are
            ∙ length-map p.searches.items (search_view s.sessions.items done)

    -- where a front of them is
    pub front_within : (t : Text) (own : List SearchLine) → t ≡ text_of own → AppendsFront new later t → Lines own → Wrote old later (IsFrontOf s)
    front_within t own same (rest, (part, appended, split), some) lines =
        let after = next s done now.before p ps shards now.lines is now.between (all_carried shards p.commits.items) own refl lines in
        let more = rest_there replied (shards_view s.batches.items) s.sessions.items (done + 1) p.commits.items ps after.rising in (
          text_of now.lines ++ part,
          Appends-trans old new later (text_of now.lines) part now.appended appended,
          (
            rest ++ text_of more.0,
            (now.lines ++ own) ++ more.0,
            joins (text_of now.lines) part rest t (text_of more.0) split
                ∙ ap (λ u. (text_of now.lines ++ u) ++ text_of more.0) same
                ∙ sym (text_of-append (now.lines ++ own) more.0 ∙ ap (λ u. u ++ text_of more.0) (text_of-append now.lines own)),
            after.whole more.0 more.1,
          ),
        )
      where
        joins : (a b c bc d : Text) → b ++ c ≡ bc → (a ++ b) ++ (c ++ d) ≡ (a ++ bc) ++ d
        joins a b c bc d is = sym (append_assoc (a ++ b) c d) ∙ ap (λ x. x ++ d) (append_assoc a b c) ∙ ap (λ x. (a ++ x) ++ d) is

    -- where the run stops behind this phase
    pub front_stopped : (A : Type 0) (stop : Stop) → WritesNext {A = A} (Err stop) new later (AreBookedLines {A = A} (Err stop) first told after Lines) → Wrote old later (IsFrontOf s)
    front_stopped A OutOfMemory same = subst (λ o. Wrote old o (IsFrontOf s)) (sym same) (going_front done (p ∷ ps) shards first old new begun told now)
    front_stopped A SinkFailed (t, front, own) = front_within t own.lines own.text front own.are
