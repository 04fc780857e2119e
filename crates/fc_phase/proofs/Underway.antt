-- An answer that is partly built, as its units show it.
use Rattle.std.proofs.Common.{◌≡◌, ◌⊎◌, ℕ, ◌+◌, ◌*◌, ◌<◌, List, [], ◌∷◌, ◌++◌, length, map, refl, sym, ◌∙◌, ap, subst, arith, inl, inr, length-append}
use Rattle.std.proofs.lemmas.List.{append_assoc}
use Rattle.fc_spec.specs.documents.Schema.{Schema}
use Rattle.fc_spec.specs.messages.Answer.{answer}
use Rattle.fc_spec.specs.messages.Message.{Ask, Partials}
use Rattle.fc_spec.specs.requests.Buckets.{Key}
use Rattle.fc_spec.specs.requests.Request as definition
use Rattle.fc_spec.specs.words.Lists.{joined}
use Rattle.fc_partial.specs.BucketView.{bucket_view, linked}
use Rattle.fc_partial.specs.declared.bucket.PartialBucket.{PartialBucket}
use Rattle.fc_partial.specs.View.{key_view}
use Rattle.fc_request.specs.RequestView.{request_view}
use Rattle.fc_request.specs.declared.request.Request.{Request}
use Rattle.fc_segment.specs.Segmented.{Segmented}
use Rattle.fc_answers.specs.SetAnswer.{AreWhole, Pieces, Scope, Sets, bucket_sets, inside, live_world, set_answer, set_rows}
use Rattle.fc_answers.proofs.SetAnswers.{answers_from_sets}
use Rattle.fc_levels.specs.Facets.{Nested, nested_view}
use Rattle.fc_levels.specs.Jobs.{opened, opened_in_rows, opened_inside, openings, openings_of, units_each}
use Rattle.fc_levels.specs.Levels.{ended_in, plug, put}
use Rattle.fc_levels.specs.declared.level.Level.{Level}
use Rattle.fc_levels.proofs.CountedJobs.{jobs_are_counted}
use Rattle.fc_levels.proofs.EndedFronts.{ended_is_front}
use Rattle.fc_jobs.specs.Pieces.{pieces_in}
use Rattle.fc_units.specs.Asked.{answer_from, top_bucket, top_domain, top_scope}
use Rattle.fc_units.specs.Built.{IsBuilt, IsCountedUp, IsJob, done_in, ended, row_under_way, zeroed}
use Rattle.fc_units.specs.Going.{IsFurther, IsPast, ended_by}
use Rattle.fc_units.specs.declared.building.Building.{Building}
use Rattle.fc_units.specs.declared.jobs.Job.{Job}
use Rattle.fc_units.specs.declared.jobs.Job.TheVariants.{Top, Facet}
use Rattle.fc_units.proofs.FirstCounts.{known_from}
use Rattle.fc_units.proofs.JobEnds.{some_ended}
use Rattle.fc_units.proofs.Opening.{openings-followed, openings-put, zeroed-append}
use Rattle.fc_units.proofs.Turning.{Shows, each_some, shown}

-- the answer of the live blocks, however they are cut into segments
pub answer_is : (r : definition.Request) (V : Pieces) (ask : Ask) → AreWhole V → answer r (joined (live_world V) ∷ []) 0 ask ≡ set_answer r V ask
answer_is r V ask are_whole = answers_from_sets r (joined (live_world V) ∷ []) 0 V are_whole refl ask

-- ---- the jobs that have ended are the first of the answer's, and there is a next one
abbrev HasNext : List ℕ → List ℕ → Type 0
HasNext all E = (o : ℕ) × (R : List ℕ) × (all ≡ E ++ o ∷ R)

apart : (L Z R T : List ℕ) (o : ℕ) → L ++ ((Z ++ o ∷ R) ++ T) ≡ (L ++ Z) ++ (o ∷ (R ++ T))
apart L Z R T o = ap (λ l. L ++ l) (append_assoc Z (o ∷ R) T) ∙ sym (append_assoc L Z (o ∷ (R ++ T)))

-- of one top bucket
bucket_openings : (o : Scope) (V : Pieces) (n : Nested) (k : Key) (D : Sets) → openings (top_bucket o V n k D) ≡ zeroed (openings_of (top_bucket o V n k D))
bucket_openings o V n k D = refl

in_bucket : (o : Scope) (V : Pieces) (levels : List Level) (ps : Partials) (n : Nested) (k : Key) (D : Sets) → 0 < length levels → plug o V levels ps ≡ top_bucket o V n k D
    → HasNext (openings (top_bucket o V n k D)) (zeroed (ended_in o V levels ps))
in_bucket o V levels ps n k D some e =
    let front = ended_is_front o V levels ps in (
      opened ps,
      opened_inside ps ++ front.0,
      bucket_openings o V n k D ∙ ap (λ (qs : Partials). zeroed (openings_of qs)) (sym e) ∙ ap zeroed front.1 ∙ zeroed-append (ended_in o V levels ps) (openings_of ps ++ front.0) (some_ended o V levels ps some),
    )

next_in : (s : Schema) (request : Request) (V : Pieces) (ask : Ask) (buckets : List PartialBucket) (roots : Sets) (levels : List Level) (job : Job) → IsJob s request V ask (length buckets) roots levels job
    → put (map bucket_view buckets) (answer_from (request_view request) V ask (length buckets)) ≡ set_answer (request_view request) V ask
    → HasNext (openings (set_answer (request_view request) V ask)) (ended (top_scope (request_view request) ask (length buckets)) V buckets levels job)
next_in s request V ask buckets roots levels (Top job) is front =
    let r = request_view request in
    let o = top_scope r ask (length buckets) in
    let n = nested_view job.node.now in
    let D = top_domain r V ask (length buckets) n.0 in
    let rest = answer_from r V ask (length buckets + 1) in (
      0,
      (opened_in_rows (set_rows (inside o n.0 (key_view job.key)) V n.1 (bucket_sets V n.0.kind (key_view job.key) D)) ++ []) ++ openings rest,
      sym (ap openings front) ∙ openings-put (map bucket_view buckets) (answer_from r V ask (length buckets))
          ∙ ap (λ l. openings (linked (map bucket_view buckets)) ++ l) (ap openings (is.0).top ∙ openings-followed (top_bucket o V n (key_view job.key) D) rest),
    )
next_in s request V ask buckets roots levels (Facet job) is front =
    let r = request_view request in
    let o = top_scope r ask (length buckets) in
    let under = is.1 in
    let within = in_bucket o V levels (row_under_way o V levels job) under.facet under.key (top_domain r V ask (length buckets) under.facet.0) (is.0).some under.bucket in
    let rest = openings (answer_from r V ask (length buckets + 1)) in (
      within.0,
      within.1 ++ rest,
      sym (ap openings front) ∙ openings-put (map bucket_view buckets) (answer_from r V ask (length buckets))
          ∙ ap (λ l. openings (linked (map bucket_view buckets)) ++ l) (ap openings under.top ∙ openings-followed (top_bucket o V under.facet under.key (top_domain r V ask (length buckets) under.facet.0)) (answer_from r V ask (length buckets + 1)))
          ∙ ap (λ l. openings (linked (map bucket_view buckets)) ++ (l ++ rest)) within.2
          ∙ apart (openings (linked (map bucket_view buckets))) (zeroed (ended_in o V levels (row_under_way o V levels job))) within.1 rest within.0,
    )

-- ---- what it shows
module _ (s : Schema) (segments : List Segmented) (request : Request) (ask : Ask) where
  abbrev r : definition.Request
  r = request_view request

  abbrev V : Pieces
  V = pieces_in segments

  abbrev a : Partials
  a = set_answer r V ask

  pub shows : (b : Building) (done : ℕ) → IsBuilt s segments request ask b → IsCountedUp segments request ask b done → Shows (length segments) a (ended_by r V ask b) done
  shows b done built counted =
      let law = jobs_are_counted a in
      shown (length segments) a (ended_by r V ask b) (done_in b.job) done (known_from a law) law.all (record { within = counted.within; done_is = counted.count; next = next_in s request V ask b.buckets.items b.roots.items b.levels.items b.job built.job built.front })

  further_done : (M e j k done : ℕ) → done ≡ M * e + k → j ≡ k + 1 → done + 1 ≡ M * e + j
  further_done M e j k done d h = omega (arith, d, h)

  more_up : (M e : ℕ) → M * (e + 1) ≡ M * e + M
  more_up M e = grind arith

  past_done : (M e n j k done : ℕ) → done ≡ M * e + k → k + 1 ≡ M → n ≡ e + 1 → j ≡ 0 → done + 1 ≡ M * n + j
  past_done M e n j k done d last up none = omega (arith, d, last, none, ap (λ x. M * x) up, more_up M e)

  -- one unit more is counted
  pub counts_on : (b after : Building) (done now : ℕ) → IsCountedUp segments request ask b done → IsFurther (length segments) r V ask (ended_by r V ask b) (done_in b.job) after now ⊎ IsPast (length segments) r V ask (ended_by r V ask b) (done_in b.job) after now
      → IsCountedUp segments request ask after (done + 1)
  counts_on b after done now counted h = elim h [
    | inl f ↦ record {
      within = f.within;
      count = subst (λ E. done + 1 ≡ units_each (length segments) * length E + done_in after.job) (sym f.ended) (further_done (units_each (length segments)) (length (ended_by r V ask b)) (done_in after.job) (done_in b.job) done counted.count f.done);
    }
    | inr p ↦ record {
      within = subst (λ k. k < units_each (length segments)) (sym p.begins) (each_some (length segments));
      count = subst (λ E. done + 1 ≡ units_each (length segments) * length E + done_in after.job) (sym p.ended) (past_done (units_each (length segments)) (length (ended_by r V ask b)) (length (ended_by r V ask b ++ now ∷ [])) (done_in after.job) (done_in b.job) done counted.count p.last (length-append (ended_by r V ask b) (now ∷ [])) p.begins);
    }
  ]

  pub opens_on : (b after : Building) (k now : ℕ) → IsFurther (length segments) r V ask (ended_by r V ask b) k after now ⊎ IsPast (length segments) r V ask (ended_by r V ask b) k after now
      → (ended_by r V ask after ≡ ended_by r V ask b) × (now ≡ 0) ⊎ (ended_by r V ask after ≡ ended_by r V ask b ++ now ∷ [])
  opens_on b after k now h = elim h [ inl f ↦ inl (f.ended, f.opens) | inr p ↦ inr p.ended ]
