-- What a unit makes of a future's progress.
use Rattle.std.proofs.Common.{◌≡◌, ℕ, ◌+◌, ◌-◌, ◌*◌, ◌<◌, List, [], length, map, sum, Option, Some, None, refl, sym, ◌∙◌, ap, subst, arith, mul_comm}
use Rattle.std.specs.Prelude.{is_none}
use Rattle.std.specs.Arc.{arc_value}
use Rattle.std.proofs.lemmas.List.{length-map}
use Rattle.std.proofs.lemmas.List.Elements.{All-nil, All-same}
use Rattle.fc_spec.specs.documents.Schema.{Schema}
use Rattle.fc_spec.specs.messages.Message.{Partials}
use Rattle.fc_spec.specs.requests.Request as definition
use Rattle.fc_partial.specs.BucketView.{bucket_view}
use Rattle.fc_partial.specs.declared.bucket.Message.{Message}
use Rattle.fc_request.specs.RequestView.{request_view}
use Rattle.fc_refine.specs.AskView.{ask_view}
use Rattle.fc_segment.specs.Segmented.{Segmented}
use Rattle.fc_answers.specs.SetAnswer.{AreWhole, Pieces, Sets, base_of, set_answer}
use Rattle.fc_jobs.specs.BasesKept.{AreBases, HasNone, IsBase}
use Rattle.fc_jobs.specs.Gathered.{AreFirst}
use Rattle.fc_jobs.specs.declared.bases.Bases.{Bases}
use Rattle.fc_levels.specs.Facets.{nested_view}
use Rattle.fc_levels.specs.Jobs.{AreCounted, left_after, opened, top_buckets, units, units_each}
use Rattle.fc_levels.specs.Levels.{put}
use Rattle.fc_levels.proofs.CountedJobs.{jobs_are_counted}
use Rattle.fc_refine.specs.Named.{NamesKeys}
use Rattle.fc_jobs.specs.Pieces.{pieces_in}
use Rattle.fc_units.specs.Asked.{FitsTop, answer_from, top_scope}
use Rattle.fc_units.specs.Built.{CanAnswer, IsBuilt, IsCountedUp, IsJob, IsTopJob, done_in, ended}
use Rattle.fc_phase.specs.FirstJobs.{FirstJobs}
use Rattle.fc_units.specs.Going.{UnitDone, ended_by}
use Rattle.fc_phase.specs.Inside.{IsSound, IsUnderWay, IsUnderWayIn, phase_in, segments_in}
use Rattle.fc_phase.specs.Phases.{Phase, TurnsTo, answer_of, left_of, one_more}
use Rattle.fc_units.specs.declared.building.Building.{Building}
use Rattle.fc_units.specs.declared.going.Gone.{Gone}
use Rattle.fc_units.specs.declared.going.Gone.TheVariants as gone
use Rattle.fc_units.specs.declared.jobs.Job.TheVariants.{Top}
use Rattle.fc_units.specs.declared.jobs.TopJob.{TopJob}
use Rattle.fc_phase.specs.declared.progress.Progress.TheInside.{Inside}
use Rattle.fc_phase.specs.declared.turn.Turn.TheVariants.{Done, Pending}
use Rattle.fc_units.proofs.Begun.{none_fits}
use Rattle.fc_units.proofs.FirstCounts.{from_first, known_from}
use Rattle.fc_units.proofs.Turning.{Shows, each_some, ends, left_less}
use Rattle.fc_phase.proofs.Underway.{answer_is, counts_on, opens_on, shows}

mul_none : (M : ℕ) → 0 ≡ M * 0 + 0
mul_none M = grind arith

module _ (p : Inside) where
  abbrev pub V : Pieces
  V = pieces_in (segments_in p)

  abbrev pub r : definition.Request
  r = request_view p.request.now

  pub answer_in : AreWhole V → answer_of (phase_in p) ≡ set_answer r V (ask_view p.ask)
  answer_in are_whole = answer_is r V (ask_view p.ask) are_whole

  count_in : length (segments_in p) ≡ length p.segments.items
  count_in = length-map p.segments.items arc_value

  pub shows_in : (b : Building) → IsUnderWay p b → Shows (length p.segments.items) (answer_of (phase_in p)) (ended_by r V (ask_view p.ask) b) p.done
  shows_in b u =
      subst (λ m. Shows m (answer_of (phase_in p)) (ended_by r V (ask_view p.ask) b) p.done) count_in
      (subst (λ a. Shows (length (segments_in p)) a (ended_by r V (ask_view p.ask) b) p.done) (sym (answer_in u.built.can.whole)) (shows u.schema (segments_in p) p.request.now (ask_view p.ask) b p.done u.built u.counted))

  -- within a job, or with a job that begins
  module _ (b after : Building) (now l : ℕ) (u : IsUnderWay p b) (is : p.building ≡ Some b) (kept : p.left ≡ left_of (phase_in p)) (based : AreBases r V p.bases)
      (unit : UnitDone u.schema (segments_in p) p.request.now (ask_view p.ask) (ended_by r V (ask_view p.ask) b) (done_in b.job) (gone.On after now))
      (less : l ≡ p.left - 1 + now * units_each (length p.segments.items)) where
    abbrev on : ℕ → Inside
    on d = record p { done = d; left = l; building = Some after }

    under_on : IsUnderWay (on (p.done + 1)) after
    under_on = record {
      schema = u.schema;
      built = unit.0;
      counted = counts_on u.schema (segments_in p) p.request.now (ask_view p.ask) b after p.done now u.counted unit.1;
      names = u.names;
    }

    shows_on : Shows (length p.segments.items) (answer_of (phase_in p)) (ended_by r V (ask_view p.ask) after) (p.done + 1)
    shows_on =
        subst (λ m. Shows m (answer_of (phase_in p)) (ended_by r V (ask_view p.ask) after) (p.done + 1)) count_in
        (subst (λ a. Shows (length (segments_in p)) a (ended_by r V (ask_view p.ask) after) (p.done + 1)) (sym (answer_in u.built.can.whole)) (shows u.schema (segments_in p) p.request.now (ask_view p.ask) after (p.done + 1) unit.0 under_on.counted))

    left_on : l ≡ left_after (length p.segments.items) (answer_of (phase_in p)) (p.done + 1)
    left_on = less ∙ left_less (length p.segments.items) (answer_of (phase_in p)) (ended_by r V (ask_view p.ask) b) (ended_by r V (ask_view p.ask) after) p.done p.left now (shows_in b u) shows_on kept (opens_on u.schema (segments_in p) p.request.now (ask_view p.ask) b after (done_in b.job) now unit.1)

    abbrev Holds : ℕ → Type 0
    Holds d = IsSound (record p { done = d; left = l; building = Some after }) × TurnsTo (phase_in p) (phase_in (record p { done = d; left = l; building = Some after })) Pending

    one_on : Holds (p.done + 1)
    one_on = (record { under_way = under_on; left = left_on; bases = based }, (shows_on.below, (λ j. record (one_more (phase_in p)) { spent = is_none (sym is j) }), shows_on.some))

    pub goes_on : (d : ℕ) → d ≡ p.done + 1 → IsSound (record p { done = d; left = l; building = Some after }) × TurnsTo (phase_in p) (phase_in (record p { done = d; left = l; building = Some after })) Pending
    goes_on d e = subst Holds (sym e) one_on

  -- the last unit
  module _ (b : Building) (m : Message) (u : IsUnderWay p b) (is : p.building ≡ Some b) (based : AreBases r V p.bases)
      (unit : UnitDone u.schema (segments_in p) p.request.now (ask_view p.ask) (ended_by r V (ask_view p.ask) b) (done_in b.job) (gone.Whole m)) where
    law : AreCounted (set_answer r V (ask_view p.ask))
    law = jobs_are_counted (set_answer r V (ask_view p.ask))

    last : (p.done + 1 ≡ units (length p.segments.items) (answer_of (phase_in p))) × (left_after (length p.segments.items) (answer_of (phase_in p)) (p.done + 1) ≡ 0)
    last =
        subst (λ k. (p.done + 1 ≡ units k (answer_of (phase_in p))) × (left_after k (answer_of (phase_in p)) (p.done + 1) ≡ 0)) count_in
        (subst (λ a. (p.done + 1 ≡ units (length (segments_in p)) a) × (left_after (length (segments_in p)) a (p.done + 1) ≡ 0)) (sym (answer_in u.built.can.whole))
        (ends (length (segments_in p)) (set_answer r V (ask_view p.ask)) (ended_by r V (ask_view p.ask) b) (done_in b.job) p.done (known_from (set_answer r V (ask_view p.ask)) law) law.all (u.counted).count unit.1 unit.2))

    abbrev Whole : ℕ → Type 0
    Whole d = IsSound (record p { done = d; left = 0; building = None }) × TurnsTo (phase_in p) (phase_in (record p { done = d; left = 0; building = None })) (Done m)

    one_whole : Whole (p.done + 1)
    one_whole = (record { under_way = tt; left = sym last.1; bases = based }, (unit.0 ∙ sym (answer_in u.built.can.whole), last.0, refl, last.1))

    pub goes_whole : (d : ℕ) → d ≡ p.done + 1 → IsSound (record p { done = d; left = 0; building = None }) × TurnsTo (phase_in p) (phase_in (record p { done = d; left = 0; building = None })) (Done m)
    goes_whole d e = subst Whole (sym e) one_whole

-- ---- what a turn does

-- no more is built, and bases are kept
pub stopped : (p : Inside) (gs : List Segmented) (bases : Bases) (rest : Option Building) → IsSound p → gs ≡ segments_in p → AreBases (request_view p.request.now) (pieces_in gs) bases → rest ≡ None → IsSound (record p { bases = bases; building = rest })
stopped p gs bases rest sound same kept none =
    subst (λ o. IsSound (record p { bases = bases; building = o })) (sym none) (record { under_way = tt; left = sound.left; bases = subst (λ g. AreBases (r p) (pieces_in g) bases) same kept })

-- what is told of a unit, over the segments
abbrev pub IsTold : Inside → List Segmented → Building → Gone → Type 0
IsTold p gs b unit =
    (s : Schema) → IsBuilt s gs p.request.now (ask_view p.ask) b → UnitDone s gs p.request.now (ask_view p.ask) (ended_by (request_view p.request.now) (pieces_in gs) (ask_view p.ask) b) (done_in b.job) unit

module _ (p : Inside) (before : Phase) (view : phase_in p ≡ before) (gs : List Segmented) (b : Building) (unit : Gone) (sound : IsSound p) (is : p.building ≡ Some b) (same : gs ≡ segments_in p) (told : IsTold p gs b unit)
    (bases : Bases) (kept : AreBases (request_view p.request.now) (pieces_in gs) bases) where
  -- with the bases that are kept now
  abbrev with_bases : Inside
  with_bases = record p { bases = bases }

  based : AreBases (r p) (V p) bases
  based = subst (λ g. AreBases (r p) (pieces_in g) bases) same kept

  under_way : IsUnderWay p b
  under_way = subst (IsUnderWayIn p) is sound.under_way

  abbrev under_with : IsUnderWay p b → IsUnderWay with_bases b
  under_with u = record { schema = u.schema; built = u.built; counted = u.counted; names = u.names }

  done_by : (u : IsUnderWay p b) → UnitDone u.schema (segments_in p) p.request.now (ask_view p.ask) (ended_by (r p) (V p) (ask_view p.ask) b) (done_in b.job) unit
  done_by u = subst (λ g. IsTold p g b unit) same told u.schema u.built

  -- there is more to do
  pub turned_on : (after : Building) (now l d : ℕ) → unit ≡ gone.On after now → l ≡ p.left - 1 + now * units_each (length p.segments.items) → d ≡ p.done + 1
      → IsSound (record p { bases = bases; done = d; left = l; building = Some after }) × TurnsTo before (phase_in (record p { bases = bases; done = d; left = l; building = Some after })) Pending
  turned_on after now l d on less up =
      let u : IsUnderWay p b = under_way in
      let both = goes_on with_bases b after now l (under_with u) is sound.left based (subst (UnitDone u.schema (segments_in p) p.request.now (ask_view p.ask) (ended_by (r p) (V p) (ask_view p.ask) b) (done_in b.job)) on (done_by u)) less d up in
      (both.0, subst (λ v. TurnsTo v (phase_in (record p { bases = bases; done = d; left = l; building = Some after })) Pending) view both.1)

  -- the answer is whole
  pub turned_whole : (m : Message) (d : ℕ) (rest : Option Building) → unit ≡ gone.Whole m → d ≡ p.done + 1 → rest ≡ None
      → IsSound (record p { bases = bases; done = d; left = 0; building = rest }) × TurnsTo before (phase_in (record p { bases = bases; done = d; left = 0; building = rest })) (Done m)
  turned_whole m d rest whole up none =
      let u : IsUnderWay p b = under_way in
      let both = goes_whole with_bases b m (under_with u) is based (subst (UnitDone u.schema (segments_in p) p.request.now (ask_view p.ask) (ended_by (r p) (V p) (ask_view p.ask) b) (done_in b.job)) whole (done_by u)) d up in
      subst (λ o. IsSound (record p { bases = bases; done = d; left = 0; building = o }) × TurnsTo before (phase_in (record p { bases = bases; done = d; left = 0; building = o })) (Done m)) (sym none)
      (both.0, subst (λ v. TurnsTo v (phase_in (record p { bases = bases; done = d; left = 0; building = None })) (Done m)) view both.1)

-- ---- nothing is done yet

-- what is told of the first top bucket's job, over its domain so far
abbrev pub IsJobToldOf : Inside → TopJob → Sets → Type 0
IsJobToldOf p job domain =
    (s : Schema) (segments : List Segmented) (roots : Sets) → CanAnswer s segments p.request.now → FitsTop (nested_view p.request.now.root) (request_view p.request.now) (pieces_in segments) (ask_view p.ask) 0 domain
    → IsTopJob s p.request.now (pieces_in segments) (ask_view p.ask) 0 roots job

module _ (s : Schema) (p : Inside) (b : Building) (job : TopJob) (jobs : ℕ) (domain : Sets) (can : CanAnswer s (segments_in p) p.request.now) (names : NamesKeys (request_view p.request.now).nodes (ask_view p.ask))
    (empty : domain ≡ []) (told : IsJobToldOf p job domain) (at : job.at ≡ 0) (roots : b.roots.items ≡ []) (buckets : b.buckets.items ≡ []) (levels : b.levels.items ≡ []) (top : b.job ≡ Top job)
    (none : p.done ≡ 0) (known : FirstJobs p.request.now (ask_view p.ask) jobs) (left : p.left ≡ jobs * units_each (length p.segments.items)) (is : p.building ≡ Some b) (unmade : HasNone p.bases) where
  is_job : IsTopJob s p.request.now (V p) (ask_view p.ask) 0 b.roots.items job
  is_job = told s (segments_in p) b.roots.items can (subst (FitsTop (nested_view p.request.now.root) (r p) (V p) (ask_view p.ask) 0) (sym empty) (none_fits (nested_view p.request.now.root) (r p) (V p) (ask_view p.ask) 0))

  built : IsBuilt s (segments_in p) p.request.now (ask_view p.ask) b
  built = record {
    can = can;
    roots = subst (AreFirst (map (base_of (r p) []) (V p))) (sym roots) refl;
    front = subst (λ bs. put (map bucket_view bs) (answer_from (r p) (V p) (ask_view p.ask) (length bs)) ≡ set_answer (r p) (V p) (ask_view p.ask)) (sym buckets) (from_first (r p) (V p) (ask_view p.ask));
    job = subst (IsJob s p.request.now (V p) (ask_view p.ask) (length b.buckets.items) b.roots.items b.levels.items) (sym top)
        (subst (λ bs. IsTopJob s p.request.now (V p) (ask_view p.ask) (length bs) b.roots.items job) (sym buckets) is_job, levels);
  }

  begins : done_in b.job ≡ 0
  begins = ap done_in top ∙ at

  none_ended : ended_by (r p) (V p) (ask_view p.ask) b ≡ []
  none_ended =
      ap (ended (top_scope (r p) (ask_view p.ask) (length b.buckets.items)) (V p) b.buckets.items b.levels.items) top
      ∙ ap (λ bs. ended (top_scope (r p) (ask_view p.ask) (length b.buckets.items)) (V p) bs b.levels.items (Top job)) buckets

  counted : IsCountedUp (segments_in p) p.request.now (ask_view p.ask) b p.done
  counted = record {
    within = subst (λ k. k < units_each (length (segments_in p))) (sym begins) (each_some (length (segments_in p)));
    count = none ∙ mul_none (units_each (length (segments_in p))) ∙ (λ j. units_each (length (segments_in p)) * length (sym none_ended j) + sym begins j);
  }

  under : IsUnderWay p b
  under = record { schema = s; built = built; counted = counted; names = names }

  known_in : jobs ≡ top_buckets (answer_of (phase_in p)) + opened (answer_of (phase_in p))
  known_in = known (V p) can.whole can.root ∙ ap (λ (a : Partials). top_buckets a + opened a) (sym (answer_in p can.whole))

  left_in : p.left ≡ left_of (phase_in p)
  left_in =
      let shown = shows_in p b under in
      let sum_none : sum (ended_by (r p) (V p) (ask_view p.ask) b) ≡ 0 = ap sum none_ended in
      let all : jobs ≡ top_buckets (answer_of (phase_in p)) + opened (answer_of (phase_in p)) + sum (ended_by (r p) (V p) (ask_view p.ask) b) = omega (arith, known_in, sum_none) in
      let product : units_each (length p.segments.items) * jobs ≡ units_each (length p.segments.items) * (top_buckets (answer_of (phase_in p)) + opened (answer_of (phase_in p)) + sum (ended_by (r p) (V p) (ask_view p.ask) b)) = ap (λ k. units_each (length p.segments.items) * k) all in
      left ∙ mul_comm jobs (units_each (length p.segments.items)) ∙ omega (arith, shown.left_is, product, none)

  pub begun : IsSound p
  begun = record { under_way = subst (IsUnderWayIn p) (sym is) under; left = left_in; bases = All-same (IsBase (r p) (V p)) p.bases.kept.items [] unmade (All-nil (IsBase (r p) (V p))) }
