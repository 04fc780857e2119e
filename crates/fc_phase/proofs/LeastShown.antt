-- An answer from counts on: what it is over segments, and its units.
use Rattle.std.proofs.Common.{◌≡◌, ℕ, zero, suc, ◌+◌, ◌-◌, ◌*◌, List, [], ◌∷◌, ◌++◌, length, map, sum, take, refl, sym, ◌∙◌, ap, subst, arith, append-nil}
use Rattle.std.proofs.lemmas.List.Sums.{sum_by-cons}
use Rattle.fc_spec.specs.documents.Sets.{places_at}
use Rattle.fc_spec.specs.messages.Answer.{partials_of}
use Rattle.fc_spec.specs.messages.Message.{Rows, no_rows, no_partials, partial, row}
use Rattle.fc_spec.specs.messages.TopRounds.{exact_answer, exact_least, first_number, later_numbers}
use Rattle.fc_spec.specs.requests.Buckets.{Key, bucket_places, whole}
use Rattle.fc_spec.specs.requests.Paths.{at_root}
use Rattle.fc_spec.specs.requests.Request.{Nodes, no_nodes, statistic, facet, Request, stats_of}
use Rattle.fc_spec.specs.requests.Statistics.{Stats, stats_over}
use Rattle.fc_spec.specs.words.Lists.{joined}
use Rattle.fc_partial.specs.BucketView.{bare, linked_rows}
use Rattle.fc_partial.specs.Tallied.{Entry}
use Rattle.fc_answers.specs.LeastSets.{own_least_keys, set_exact, set_least_rows}
use Rattle.fc_answers.specs.Listed.{bucket_entry}
use Rattle.fc_answers.specs.SetAnswer.{AreWhole, Pieces, bucket_sets, inside, live_world, scope_on, set_rows, whole_world}
use Rattle.fc_answers.proofs.LeastAnswers.{exact_answers_from_sets}
use Rattle.fc_levels.specs.Facets.{Nested, facet_count, facets_of}
use Rattle.fc_levels.specs.Jobs.{job_count, known, left_after, lists_in, nested_lists, opened, opened_in_rows, opened_inside, openings, row_count, units, units_each}
use Rattle.fc_units.specs.LeastLists.{NestNothing, facet_sets, least_answer, least_lists, root_sets, root_stats}
use Rattle.fc_units.specs.Leasts.{least_jobs}

-- ---- over segments

bare_partials : (stats : Key → Stats) (rows : Key → Rows) (keys : List Key) → ((k : Key) → rows k ≡ no_rows) → partials_of stats rows keys ≡ bare (map (λ k. (k, stats k)) keys)
bare_partials stats rows [] none = refl
bare_partials stats rows (k ∷ keys) none = λ j. partial k (stats k) (none k j) (bare_partials stats rows keys none j)

rows_are : (r : Request) (V : Pieces) (nodes : Nodes) (ns : List ℕ) → NestNothing nodes → set_least_rows (scope_on r at_root) V nodes ns (root_sets r V) ≡ linked_rows (least_lists r V (facets_of nodes) ns)
rows_are r V no_nodes ns none = refl
rows_are r V (statistic name s rest) ns none = rows_are r V rest ns none
rows_are r V (facet f inner rest) ns none =
    let o = scope_on r at_root in
    let D = facet_sets r V f in
    let Y = places_at (whole_world V) D in
    let list = bare_partials (λ k. stats_over (stats_of inner) (bucket_places f.kind k Y)) (λ k. set_rows (inside o f k) V inner (bucket_sets V f.kind k D)) (own_least_keys f.kind inner (first_number ns) Y)
    (λ k. ap (λ nodes. set_rows (inside o f k) V nodes (bucket_sets V f.kind k D)) none.0) in
    λ j. row (list j) (rows_are r V rest (later_numbers ns) none.1 j)

pub least_answer_is : (r : Request) (V : Pieces) (ns : List ℕ) → AreWhole V → NestNothing r.nodes → exact_answer r (joined (live_world V) ∷ []) 0 (exact_least ns) ≡ least_answer r V ns
least_answer_is r V ns are_whole none =
    exact_answers_from_sets r (joined (live_world V) ∷ []) 0 V are_whole refl (exact_least ns)
    ∙ ap (λ rows. partial whole (root_stats r V) rows no_partials) (rows_are r V r.nodes ns none)

-- ---- its jobs

bare_lists : (es : List Entry) → nested_lists (bare es) ≡ 0
bare_lists [] = refl
bare_lists (e ∷ es) = omega (arith, bare_lists es)

bare_opened : (es : List Entry) → opened (bare es) ≡ 0
bare_opened [] = refl
bare_opened (e ∷ es) = omega (arith, bare_opened es)

bare_inside : (es : List Entry) → opened_inside (bare es) ≡ []
bare_inside [] = refl
bare_inside (e ∷ es) = bare_inside es

-- of the first of the numbers none is above 0
abbrev AreNone : List ℕ → Type 0
AreNone xs = (n : ℕ) → sum (take n xs) ≡ 0

none_more : (xs : List ℕ) → AreNone xs → AreNone (0 ∷ xs)
none_more xs none zero = refl
none_more xs none (suc n) = sum_by-cons (λ m. m) 0 (take n xs) ∙ omega (arith, none n)

no_numbers : AreNone []
no_numbers zero = refl
no_numbers (suc n) = refl

-- what is listed opens none
bare_front : (es : List Entry) (xs : List ℕ) → AreNone xs → AreNone ((opened (bare es) ∷ opened_inside (bare es)) ++ xs)
bare_front es xs none = subst AreNone (λ j. (sym (bare_opened es) j ∷ sym (bare_inside es) j) ++ xs) (none_more xs none)

module _ (r : Request) (V : Pieces) where
  -- what is listed of a facet of the root
  abbrev entries : Nested → ℕ → List Entry
  entries n least = map (bucket_entry n.0.kind (stats_of n.1) (places_at (whole_world V) (facet_sets r V n.0))) (own_least_keys n.0.kind n.1 least (places_at (whole_world V) (facet_sets r V n.0)))

  lists_counted : (facets : List Nested) (ns : List ℕ) → lists_in (linked_rows (least_lists r V facets ns)) ≡ length facets
  lists_counted [] ns = refl
  lists_counted (n ∷ more) ns = let rest = lists_counted more (later_numbers ns) in omega (arith, rest, bare_lists (entries n (first_number ns)))

  rows_counted : (facets : List Nested) (ns : List ℕ) → row_count (linked_rows (least_lists r V facets ns)) ≡ length facets
  rows_counted [] ns = refl
  rows_counted (n ∷ more) ns = ap suc (rows_counted more (later_numbers ns))

  none_opened : (facets : List Nested) (ns : List ℕ) → AreNone (opened_in_rows (linked_rows (least_lists r V facets ns)))
  none_opened [] ns = no_numbers
  none_opened (n ∷ more) ns =
      bare_front (entries n (first_number ns)) (opened_in_rows (linked_rows (least_lists r V more (later_numbers ns)))) (none_opened more (later_numbers ns))

  module _ (ns : List ℕ) where
    jobs_shown : job_count (least_answer r V ns) ≡ least_jobs r
    jobs_shown = omega (arith, lists_counted (facets_of r.nodes) ns)

    none_here : AreNone (openings (least_answer r V ns))
    none_here =
        let inside_it = opened_in_rows (linked_rows (least_lists r V (facets_of r.nodes) ns)) in
        subst AreNone (ap (λ xs. 0 ∷ xs) (sym (append-nil inside_it))) (none_more inside_it (none_opened (facets_of r.nodes) ns))

    known_shown : (n : ℕ) → known (least_answer r V ns) n ≡ least_jobs r
    known_shown n = omega (arith, rows_counted (facets_of r.nodes) ns, none_here n)

    pub units_shown : (segments : ℕ) → units segments (least_answer r V ns) ≡ units_each segments * least_jobs r
    units_shown segments = ap (λ n. units_each segments * n) jobs_shown

    pub left_shown : (segments done : ℕ) → left_after segments (least_answer r V ns) done ≡ units_each segments * least_jobs r - done
    left_shown segments done = ap (λ n. units_each segments * n - done) (known_shown _)
