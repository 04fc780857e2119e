-- What a unit makes of the progress of an answer from counts on.
use Rattle.std.proofs.Common.{◌≡◌, ℕ, ◌+◌, ◌-◌, ◌*◌, ◌^◌, ◌<◌, ◌≤◌, List, [], ◌∷◌, length, map, All, Option, Some, None, refl, sym, ◌∙◌, ap, subst, arith}
use Rattle.std.specs.Prelude.{is_none}
use Rattle.std.specs.Arc.{arc_value}
use Rattle.std.proofs.lemmas.List.{length-map}
use Rattle.std.proofs.lemmas.List.Elements.{All-nil}
use Rattle.fc_spec.specs.documents.Schema.{Schema}
use Rattle.fc_spec.specs.messages.Message.{first}
use Rattle.fc_spec.specs.requests.Request as definition
use Rattle.fc_partial.specs.declared.bucket.Message.{Message}
use Rattle.fc_request.specs.NodeView.{nodes_view}
use Rattle.fc_request.specs.RequestView.{request_view}
use Rattle.fc_request.specs.declared.request.Request.{Request}
use Rattle.fc_segment.specs.Segmented.{Segmented}
use Rattle.fc_answers.specs.SetAnswer.{AreWhole, Pieces, Sets}
use Rattle.fc_jobs.specs.BasesKept.{AreBases, HasNone, IsBase}
use Rattle.fc_jobs.specs.Pieces.{pieces_in}
use Rattle.fc_jobs.specs.declared.bases.Bases.{Bases}
use Rattle.fc_levels.specs.Facets.{facets_of, nested_view}
use Rattle.fc_levels.specs.Jobs.{left_after, units, units_each}
use Rattle.fc_units.specs.Asked.{FitsTop}
use Rattle.fc_units.specs.Built.{CanAnswer, IsTopJob}
use Rattle.fc_units.specs.LeastLists.{NestNothing, least_answer}
use Rattle.fc_units.specs.Leasts.{IsLeastBuilt, IsLeastJob, LeastUnitDone, jobs_ended, least_done, least_jobs}
use Rattle.fc_units.specs.declared.jobs.TopJob.{TopJob}
use Rattle.fc_units.specs.declared.leasts.LeastBuilding.{LeastBuilding}
use Rattle.fc_units.specs.declared.leasts.LeastBuilding.TheVariants.{Root, Facets}
use Rattle.fc_units.specs.declared.leasts.LeastGone.{LeastGone}
use Rattle.fc_units.specs.declared.leasts.LeastGone.TheVariants as gone
use Rattle.fc_units.proofs.Begun.{none_fits}
use Rattle.fc_units.proofs.LeastLists.{lists_left}
use Rattle.fc_units.proofs.Turning.{each_some}
use Rattle.fc_phase.specs.LeastInside.{IsSound, IsUnderWay, IsUnderWayIn, phase_in, segments_in}
use Rattle.fc_phase.specs.Phases.{Phase, TurnsTo, answer_of, left_of, one_more, units_of}
use Rattle.fc_phase.specs.declared.least_progress.LeastProgress.TheInside.{Inside}
use Rattle.fc_phase.specs.declared.turn.Turn.{Turn}
use Rattle.fc_phase.specs.declared.turn.Turn.TheVariants.{Done, Pending}
use Rattle.fc_phase.proofs.LeastShown.{least_answer_is, left_shown, units_shown}

-- ---- numbers

mul_none : (M : ℕ) → 0 ≡ M * 0 + 0
mul_none M = grind arith

mul_more : (M e : ℕ) → M * (e + 1) ≡ M * e + M
mul_more M e = grind arith

mul_up : (M e j : ℕ) → e ≤ j → M * e ≤ M * j
mul_up M e j h = grind arith

-- some job is left
below_all : (M e k jobs done : ℕ) → k < M → e < jobs → done ≡ M * e + k → done < M * jobs
below_all M e k jobs done within more count = omega (arith, within, count, mul_up M (e + 1) jobs (omega (arith, more)), mul_more M e)

at_end : (M e k jobs done : ℕ) → e + 1 ≡ jobs → k + 1 ≡ M → done ≡ M * e + k → done + 1 ≡ M * jobs
at_end M e k jobs done last end count = omega (arith, end, count, ap (λ n. M * n) last, mul_more M e)

-- fewer jobs have ended than there are
ended_less : (s : Schema) (segments : List Segmented) (request : Request) (ns : List ℕ) (b : LeastBuilding) → IsLeastBuilt s segments request ns b → jobs_ended b < least_jobs (request_view request)
ended_less s segments request ns (Root job) built = omega arith
ended_less s segments request ns (Facets l) built =
    let count = lists_left s (request_view request) (pieces_in segments) ns l.base.items l.stats l.done.items (nested_view l.job.node.now ∷ facets_of (nodes_view l.left.now)) (built.job).so_far in
    omega (arith, count)

module _ (p : Inside) where
  abbrev pub V : Pieces
  V = pieces_in (segments_in p)

  abbrev pub r : definition.Request
  r = request_view p.request.now

  abbrev M : ℕ
  M = units_each (length p.segments.items)

  count_in : length (segments_in p) ≡ length p.segments.items
  count_in = length-map p.segments.items arc_value

  module _ (whole : AreWhole V) (none : NestNothing r.nodes) where
    pub answer_in : answer_of (phase_in p) ≡ least_answer r V p.least.items
    answer_in = least_answer_is r V p.least.items whole none

    pub units_in : units_of (phase_in p) ≡ M * least_jobs r
    units_in = ap (units (length p.segments.items)) answer_in ∙ units_shown r V p.least.items (length p.segments.items)

    pub left_in : left_of (phase_in p) ≡ M * least_jobs r - p.done
    left_in = ap (λ a. left_after (length p.segments.items) a p.done) answer_in ∙ left_shown r V p.least.items (length p.segments.items) p.done

  -- where it is under way some units are left
  pub some_left : (b : LeastBuilding) → IsUnderWay p b → p.done < M * least_jobs r
  some_left b u =
      subst (λ n. p.done < units_each n * least_jobs r) count_in
      (below_all (units_each (length (segments_in p))) (jobs_ended b) (least_done b) (least_jobs r) p.done u.within (ended_less u.schema (segments_in p) p.request.now p.least.items b u.built) u.count)

-- what is left of it all
pub left_is : (p : Inside) → IsSound p → p.units - p.done ≡ left_of (phase_in p)
left_is p sound = ap (λ n. n - p.done) (sound.units ∙ units_in p sound.whole sound.bare) ∙ sym (left_in p sound.whole sound.bare)

-- ---- what a turn does

-- no more is built, and bases are kept
pub stopped : (p : Inside) (gs : List Segmented) (bases : Bases) (rest : Option LeastBuilding) → IsSound p → gs ≡ segments_in p → AreBases (request_view p.request.now) (pieces_in gs) bases → rest ≡ None → IsSound (record p { bases = bases; building = rest })
stopped p gs bases rest sound same kept none =
    subst (λ o. IsSound (record p { bases = bases; building = o })) (sym none) (record {
      under_way = tt;
      whole = sound.whole;
      bare = sound.bare;
      units = sound.units;
      fit = sound.fit;
      within = sound.within;
      bases = subst (λ g. AreBases (r p) (pieces_in g) bases) same kept;
    })

-- what is told of a unit, over the segments and with the counts
abbrev pub IsTold : Inside → List Segmented → List ℕ → LeastBuilding → LeastGone → Type 0
IsTold p gs ns b unit = (s : Schema) → IsLeastBuilt s gs p.request.now ns b → LeastUnitDone s gs p.request.now ns (jobs_ended b) (least_done b) unit

module _ (p : Inside) (before : Phase) (view : phase_in p ≡ before) (gs : List Segmented) (ns : List ℕ) (b : LeastBuilding) (unit : LeastGone) (sound : IsSound p) (is : p.building ≡ Some b) (same : gs ≡ segments_in p) (counts : ns ≡ p.least.items)
    (told : IsTold p gs ns b unit) (bases : Bases) (kept : AreBases (request_view p.request.now) (pieces_in gs) bases) where
  under_way : IsUnderWay p b
  under_way = subst (IsUnderWayIn p) is sound.under_way

  -- the next unit is one of them
  pub done_within : p.done < p.units
  done_within = subst (λ n. p.done < n) (sym (sound.units ∙ units_in p sound.whole sound.bare)) (some_left p b under_way)

  based : AreBases (r p) (V p) bases
  based = subst (λ g. AreBases (r p) (pieces_in g) bases) same kept

  done_by : LeastUnitDone under_way.schema (segments_in p) p.request.now p.least.items (jobs_ended b) (least_done b) unit
  done_by = subst (λ g. IsTold p g p.least.items b unit) same (subst (λ m. IsTold p gs m b unit) counts told) under_way.schema under_way.built

  -- there is more to do
  abbrev Holds : Option LeastBuilding → ℕ → Turn → Type 0
  Holds rest done turn = IsSound (record p { bases = bases; done = done; building = rest }) × TurnsTo before (phase_in (record p { bases = bases; done = done; building = rest })) turn

  pub turned_on : (after : LeastBuilding) → unit ≡ gone.On after → Holds (Some after) (p.done + 1) Pending
  turned_on after on =
      let unit_on = subst (LeastUnitDone under_way.schema (segments_in p) p.request.now p.least.items (jobs_ended b) (least_done b)) on done_by in
      let q : Inside = record p { bases = bases; done = p.done + 1; building = Some after } in
      let now : IsUnderWay q after = record {
        schema = under_way.schema;
        built = unit_on.0;
        within = unit_on.1.within;
        count = one_up p.done _ _ under_way.count unit_on.1.count;
      } in
      let room = some_left q after now in
      let all = sound.units ∙ units_in p sound.whole sound.bare in (
        record { under_way = now; whole = sound.whole; bare = sound.bare; units = sound.units; fit = sound.fit; within = up_to _ _ _ room all; bases = based },
        subst (λ v. TurnsTo v (phase_in q) Pending) view (
          subst (λ n. p.done + 1 < n) (sym (units_in p sound.whole sound.bare)) room,
          (λ j. record (one_more (phase_in p)) { spent = is_none (sym is j) }),
          subst (λ n. 0 < n) (sym (left_in q sound.whole sound.bare)) (above _ _ room),
        ),
      )
    where
      one_up : (done old new : ℕ) → done ≡ old → new ≡ old + 1 → done + 1 ≡ new
      one_up done old new e f = omega (arith, e, f)

      up_to : (done all units : ℕ) → done < all → units ≡ all → done ≤ units
      up_to done all units h e = omega (arith, h, e)

      above : (done all : ℕ) → done < all → 0 < all - done
      above done all h = omega (arith, h)

  -- the answer is whole
  pub turned_whole : (m : Message) (rest : Option LeastBuilding) → unit ≡ gone.Whole m → rest ≡ None → Holds rest (p.done + 1) (Done m)
  turned_whole m rest whole none =
      let unit_whole = subst (LeastUnitDone under_way.schema (segments_in p) p.request.now p.least.items (jobs_ended b) (least_done b)) whole done_by in
      let q : Inside = record p { bases = bases; done = p.done + 1; building = None } in
      let last : p.done + 1 ≡ units_each (length p.segments.items) * least_jobs (r p) =
      subst (λ n. p.done + 1 ≡ units_each n * least_jobs (r p)) (length-map p.segments.items arc_value)
      (at_end (units_each (length (segments_in p))) (jobs_ended b) (least_done b) (least_jobs (r p)) p.done unit_whole.1 unit_whole.2 under_way.count) in
      let all = sound.units ∙ units_in p sound.whole sound.bare in
      subst (λ o. Holds o (p.done + 1) (Done m)) (sym none) (
        record { under_way = tt; whole = sound.whole; bare = sound.bare; units = sound.units; fit = sound.fit; within = up_to _ _ _ last all; bases = based },
        subst (λ v. TurnsTo v (phase_in q) (Done m)) view (
          unit_whole.0 ∙ sym (answer_in p sound.whole sound.bare),
          last ∙ sym (units_in p sound.whole sound.bare),
          refl,
          left_in q sound.whole sound.bare ∙ nothing _ _ last,
        ),
      )
    where
      up_to : (done all units : ℕ) → done ≡ all → units ≡ all → done ≤ units
      up_to done all units h e = omega (arith, h, e)

      nothing : (done all : ℕ) → done ≡ all → all - done ≡ 0
      nothing done all h = omega (arith, h)

-- ---- nothing is done yet

-- what is told of the root's job, over its domain so far
abbrev pub IsJobToldOf : Request → TopJob → Sets → Type 0
IsJobToldOf request job domain =
    (s : Schema) (segments : List Segmented) (roots : Sets) → CanAnswer s segments request → FitsTop (nested_view request.root) (request_view request) (pieces_in segments) first 0 domain → IsTopJob s request (pieces_in segments) first 0 roots job

pub begun : (s : Schema) (p : Inside) (b : LeastBuilding) (job : TopJob) (domain : Sets) → CanAnswer s (segments_in p) p.request.now → NestNothing (request_view p.request.now).nodes → domain ≡ [] → IsJobToldOf p.request.now job domain → job.at ≡ 0
    → b ≡ Root job → p.done ≡ 0 → p.units ≡ units_each (length p.segments.items) * least_jobs (request_view p.request.now) → p.units < 2 ^ 64 → p.building ≡ Some b → HasNone p.bases → IsSound p
begun s p b job domain can none empty told at root start all fit building unmade = record {
  under_way = subst (IsUnderWayIn p) (sym building) (record {
    schema = s;
    built = record { can = can; job = subst (IsLeastJob s p.request.now (V p) p.least.items) (sym root) is };
    within = subst (λ n. n < units_each (length (segments_in p))) (sym begins) (each_some (length (segments_in p)));
    count = start ∙ mul_none (units_each (length (segments_in p))) ∙ (λ j. units_each (length (segments_in p)) * jobs_ended (sym root j) + sym begins j);
  });
  whole = can.whole;
  bare = none;
  units = all ∙ sym (units_in p can.whole none);
  fit = fit;
  within = omega (arith, start);
  bases = subst (λ l. All (IsBase (r p) (V p)) l) (sym unmade) (All-nil (IsBase (r p) (V p)));
}
  where
    is : IsTopJob s p.request.now (V p) first 0 [] job
    is = told s (segments_in p) [] can (subst (FitsTop (nested_view p.request.now.root) (r p) (V p) first 0) (sym empty) (none_fits (nested_view p.request.now.root) (r p) (V p) first 0))

    begins : least_done b ≡ 0
    begins = ap least_done root ∙ at
