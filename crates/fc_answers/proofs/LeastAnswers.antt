-- A shard's answer to an ask for exact facets is made from a set of positions for each of the segments that its blocks are cut into.
use Rattle.std.proofs.Common.{◌≡◌, ℕ, List, [], ◌∷◌, ◌++◌, map, Some, refl, ◌∙◌, ap}
use Rattle.std.specs.Prelude.{nat_le}
use Rattle.std.specs.List.{filter, slice_get}
use Rattle.fc_spec.specs.words.Lists.{joined}
use Rattle.fc_spec.specs.documents.World.{World, Place, on_shards}
use Rattle.fc_spec.specs.documents.Sets.{places_on, places_at}
use Rattle.fc_spec.specs.requests.Request.{Kind, terms, range, date_range, query, Nodes, no_nodes, statistic, facet, Request, stats_of}
use Rattle.fc_spec.specs.requests.Base.{root_domain}
use Rattle.fc_spec.specs.requests.Buckets.{Key, value, missing, whole, bucket_places}
use Rattle.fc_spec.specs.requests.Paths.{at_root, into, domain}
use Rattle.fc_spec.specs.replies.Printed.{asked}
use Rattle.fc_spec.specs.replies.Values.{entries_in}
use Rattle.fc_spec.specs.messages.Message.{no_partials, partial, row, first, more}
use Rattle.fc_spec.specs.messages.Answer.{answer_domain, partials_of}
use Rattle.fc_spec.specs.messages.TopRounds.{exact_first, exact_least, exact_more, first_number, later_numbers, least_keys, least_rows}
use Rattle.fc_spec.proofs.documents.Shards.{is_on}
use Rattle.fc_spec.proofs.requests.Locality.{filter_twice}
use Rattle.fc_answers.specs.LeastSets.{ExactFromSets, own_least_keys, set_least_rows}
use Rattle.fc_answers.specs.LiveSets.{AreLive}
use Rattle.fc_answers.specs.SetAnswer.{AreWhole, Pieces, Sets, bucket_sets, domain_sets, live_world, root, whole_world}
use Rattle.fc_answers.proofs.BarePlaces.{SameBare, bare, bare_bucket, bare_entries, bare_stats}
use Rattle.fc_answers.proofs.LivePlaces.{kept}
use Rattle.fc_answers.proofs.LiveSets.{buckets_live}
use Rattle.fc_answers.proofs.SetAnswers as sets
use Rattle.fc_answers.proofs.SetAnswers.{answers_from_sets}

module _ (r : Request) (W : World) (i : ℕ) (V : Pieces) (is_whole : AreWhole V) (at : slice_get W i ≡ Some (joined (live_world V))) where
  abbrev IsOf : Sets → List Place → Type 0
  IsOf = sets.IsOf r W i V is_whole at

  -- the same keys are listed
  keys_of : (kind : Kind) (inner : Nodes) (least : ℕ) (X : Sets) (D : List Place) → AreLive V X → on_shards (i ∷ []) D ≡ D → D ≡ places_on i (joined (live_world V)) (joined (kept V X))
      → least_keys kind inner least D i ≡ own_least_keys kind inner least (places_at (whole_world V) X)
  keys_of (terms t) inner least X D are own is =
      let entries : entries_in t [] (on_shards (i ∷ []) D) ≡ entries_in t [] (places_at (whole_world V) X) =
      ap (entries_in t []) (own ∙ is)
      ∙ bare_entries (places_on i (joined (live_world V)) (joined (kept V X))) (places_at (whole_world V) X) (sets.same_places r W i V is_whole at X are) t [] in
      let rest = sets.listed_of r W i V is_whole at (terms t) inner X D (asked t.missing missing) are is in
      λ j. map value (map (λ e. e.val) (filter (λ e. nat_le least e.stats.count) (entries j))) ++ rest j
  keys_of (range g) inner least X D are own is = sets.keys_of r W i V is_whole at (range g) inner X D are own is
  keys_of (date_range g) inner least X D are own is = sets.keys_of r W i V is_whole at (date_range g) inner X D are own is
  keys_of (query q) inner least X D are own is = sets.keys_of r W i V is_whole at (query q) inner X D are own is

  rows_of : (nodes : Nodes) (ns : List ℕ) (X : Sets) (Y : List Place) → AreLive V X → IsOf X Y → least_rows r W i nodes ns Y ≡ set_least_rows (sets.on r W i V is_whole at at_root) V nodes ns X
  rows_of no_nodes ns X Y are here = refl
  rows_of (statistic name s rest) ns X Y are here = rows_of rest ns X Y are here
  rows_of (facet f inner rest) ns X Y are here =
      let D = answer_domain r W i at_root f Y in
      let sets_in = domain_sets (sets.on r W i V is_whole at at_root) V f X in
      let sets_are = sets.domain_are r W i V is_whole at at_root f X are in
      let domain_on : D ≡ places_on i (joined (live_world V)) (joined (kept V sets_in)) = sets.domain_of r W i V is_whole at at_root f X Y are here in
      let own : on_shards (i ∷ []) D ≡ D = filter_twice (is_on (i ∷ [])) (domain r W at_root f.change Y) in
      let same : SameBare D (places_at (whole_world V) sets_in) = ap bare domain_on ∙ sets.same_places r W i V is_whole at sets_in sets_are in
      let stats = λ (k : Key). bare_stats (bucket_places f.kind k D) (bucket_places f.kind k (places_at (whole_world V) sets_in)) (bare_bucket D (places_at (whole_world V) sets_in) same f.kind k) (stats_of inner) in
      let inside_it = λ (k : Key).
      sets.rows_of r W i V is_whole at (into at_root f k) inner (bucket_sets V f.kind k sets_in) (bucket_places f.kind k D) (buckets_live V f.kind k sets_in sets_are)
      (sets.bucket_of r W i V is_whole at f.kind k sets_in D sets_are (own ∙ domain_on)) in
      λ j. row (partials_of (λ k. stats k j) (λ k. inside_it k j) (keys_of f.kind inner (first_number ns) sets_in D sets_are own domain_on j)) (rows_of rest (later_numbers ns) X Y are here j)

pub exact_answers_from_sets : ExactFromSets
exact_answers_from_sets r W i V is_whole at exact_first = answers_from_sets r W i V is_whole at first
exact_answers_from_sets r W i V is_whole at (exact_more wants) = answers_from_sets r W i V is_whole at (more wants)
exact_answers_from_sets r W i V is_whole at (exact_least ns) =
    let X = on_shards (i ∷ []) (root_domain r W) in
    let at_first = (root r V).sets in
    let is = sets.is_root r W i V is_whole at in
    let same : SameBare X (places_at (whole_world V) at_first) = ap bare is.places ∙ sets.same_places r W i V is_whole at at_first is.are_live in
    let stats = bare_stats X (places_at (whole_world V) at_first) same (stats_of r.nodes) in
    let rows = rows_of r W i V is_whole at r.nodes ns at_first X is.are_live (sets.again r W i V is_whole at at_first (root_domain r W) is.places) in
    λ j. partial whole (stats j) (rows j) no_partials
