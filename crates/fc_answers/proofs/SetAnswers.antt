-- A shard's answer is made from a set of positions for each of the segments that its blocks are cut into.
use Rattle.std.proofs.Common.{◌≡◌, ℕ, ◌+◌, List, [], ◌∷◌, ◌++◌, map, length, cond, not, Option, None, Some, refl, sym, ◌∙◌, ap, subst, length-append}
use Rattle.std.specs.List.{slice_get}
use Rattle.fc_spec.specs.words.Lists.{joined}
use Rattle.fc_spec.specs.documents.Document.{Block}
use Rattle.fc_spec.specs.documents.World.{World, Place, shard_places, on_shards}
use Rattle.fc_spec.specs.documents.Totals.{document_total}
use Rattle.fc_spec.specs.documents.Sets.{AreSets, places_on, places_at}
use Rattle.fc_spec.specs.requests.Request.{Kind, terms, range, date_range, query, Facet, Nodes, no_nodes, statistic, facet, Request, stats_of}
use Rattle.fc_spec.specs.requests.Base.{meets_base}
use Rattle.fc_spec.specs.requests.Buckets.{Key, value, missing, whole, bucket_places}
use Rattle.fc_spec.specs.requests.DomainSets.{rebuilt_set}
use Rattle.fc_spec.specs.requests.Paths.{Path, at_root, into, rebuilt, domain, path_places}
use Rattle.fc_spec.specs.requests.Shape.{no_exclusions}
use Rattle.fc_spec.specs.requests.Ranks.{below_rank, offered_bound}
use Rattle.fc_spec.specs.requests.Statistics.{stats_over}
use Rattle.fc_spec.specs.replies.Printed.{asked, range_keys, date_range_keys}
use Rattle.fc_spec.specs.replies.Values.{entries_in}
use Rattle.fc_spec.specs.messages.Message.{Partials, no_partials, partial, row, Way, Want, way_of, first, more}
use Rattle.fc_spec.specs.messages.Target.{facet_at, Target, leads_nowhere, leads_to, target_path, target_nodes, target_places, target_in, target_from, target_of}
use Rattle.fc_spec.specs.messages.Answer.{listed_keys, partials_of, answer_keys, answer_domain, answer_rows, answer_bucket, answer_wants}
use Rattle.fc_spec.specs.laws.Blockwise.{IsOnShard}
use Rattle.fc_spec.proofs.documents.BlockTotals.{document_total-append}
use Rattle.fc_spec.proofs.documents.Shards.{is_on}
use Rattle.fc_spec.proofs.messages.ShardSets.{bases_of_shards, rebuilt_of_shards, changes_of_shards, buckets_of_shards}
use Rattle.fc_spec.proofs.requests.JoinedSets.{bases_join, rebuilt_join, changes_join, buckets_join}
use Rattle.fc_spec.proofs.requests.Locality.{filter_twice}
use Rattle.fc_spec.proofs.requests.SetChanges.{are_sets_again, first_is_set, rest_are_sets}
use Rattle.fc_answers.specs.SetAnswer.{Pieces, whole_world, live_world, AreWhole, Sets, Scope, scope_on, domain_sets, bucket_sets, own_keys, set_rows, Spot, root, nowhere, scope_of, spot_in, spot_from, spot_at, set_bucket, set_wants, AnswersFromSets}
use Rattle.fc_answers.specs.LiveSets.{AreLive}
use Rattle.fc_answers.proofs.KeptSets.{kept_all_passing, kept_domains, kept_buckets, kept_are_sets, nothing_there}
use Rattle.fc_answers.proofs.LivePlaces.{kept, live_places}
use Rattle.fc_answers.proofs.LiveSets.{bases_live, domains_live, buckets_live, nowhere_live}
use Rattle.fc_answers.proofs.BarePlaces.{bare, SameBare, bare_bucket, bare_stats, bare_entries, bare_not_empty, bare_sets}

-- ---- sets, joined

length-joined : (V : World) (sets : Sets) → AreSets V sets → length (joined sets) ≡ document_total (joined V)
length-joined [] [] e = refl
length-joined [] (s ∷ sets) e = absurd (cc)
length-joined (b ∷ V) [] e = absurd (cc)
length-joined (b ∷ V) (s ∷ sets) e =
    length-append s (joined sets) ∙ (λ i. first_is_set b V s sets e i + length-joined V sets (rest_are_sets b V s sets e) i) ∙ sym (document_total-append b (joined V))

-- ---- a shard

module _ (r : Request) (W : World) (i : ℕ) (V : Pieces) (is_whole : AreWhole V) (at : slice_get W i ≡ Some (joined (live_world V))) where
  abbrev pub blocks : List Block
  blocks = joined (live_world V)

  -- the shard's part of X is that of the sets, kept at the live positions
  abbrev pub IsOf : Sets → List Place → Type 0
  IsOf sets X = IsOnShard i blocks (joined (kept V sets)) X

  pub again : (sets : Sets) (X : List Place) → IsOf sets X → IsOf sets (on_shards (i ∷ []) X)
  again sets X on = filter_twice (is_on (i ∷ [])) X ∙ on

  -- the sets pick the same documents of all blocks
  pub same_places : (sets : Sets) → AreLive V sets → SameBare (places_on i blocks (joined (kept V sets))) (places_at (whole_world V) sets)
  same_places sets are = bare_sets i (live_world V) (kept V sets) ∙ sym (live_places V sets is_whole are)

  -- the scope of a path
  abbrev pub on : Path → Scope
  on path = scope_on r path

  base_on : (path : Path) (f : Facet) → IsOnShard i blocks (joined (map (rebuilt_set r path f.change.exclude) (live_world V))) (rebuilt r W path f.change.exclude)
  base_on path f = rebuilt_of_shards r path f.change.exclude W i blocks at ∙ ap (places_on i blocks) (rebuilt_join r path f.change.exclude (live_world V))

  pub domain_of : (path : Path) (f : Facet) (sets : Sets) (X : List Place) → AreLive V sets → IsOf sets X → IsOf (domain_sets (on path) V f sets) (domain r W path f.change X)
  domain_of path f sets X are here =
      let bases = map (rebuilt_set r path f.change.exclude) (live_world V) in
      let base_are = are_sets_again.rebuilt r path f.change.exclude (live_world V) in
      let kept_are = kept_are_sets V sets is_whole are in
      changes_of_shards f.change W i blocks at (rebuilt r W path f.change.exclude) X (joined bases) (joined (kept V sets)) (length-joined (live_world V) bases base_are)
      (length-joined (live_world V) (kept V sets) kept_are) (base_on path f) here
      ∙ ap (places_on i blocks) (changes_join f.change (live_world V) bases (kept V sets) base_are kept_are ∙ ap joined (sym (kept_domains (on path) V f sets is_whole are)))

  pub domain_are : (path : Path) (f : Facet) (sets : Sets) → AreLive V sets → AreLive V (domain_sets (on path) V f sets)
  domain_are path f sets are = domains_live (on path) V f sets is_whole are

  pub bucket_of : (kind : Kind) (key : Key) (sets : Sets) (D : List Place) → AreLive V sets → IsOf sets D → IsOf (bucket_sets V kind key sets) (bucket_places kind key D)
  bucket_of kind key sets D are here =
      buckets_of_shards kind key i blocks D (joined (kept V sets)) here
      ∙ ap (places_on i blocks) (buckets_join kind key (live_world V) (kept V sets) (kept_are_sets V sets is_whole are) ∙ ap joined (sym (kept_buckets V kind key sets is_whole are)))

  -- ---- what is listed

  -- the same keys are listed
  pub listed_of : (kind : Kind) (inner : Nodes) (sets : Sets) (D : List Place) (keys : List Key) → AreLive V sets → D ≡ places_on i blocks (joined (kept V sets))
      → listed_keys kind inner D keys ≡ listed_keys kind inner (places_at (whole_world V) sets) keys
  listed_of kind inner sets D keys are is =
      ap (λ Y. listed_keys kind inner Y keys) is
      ∙ ap (cond (not (no_exclusions inner)) keys) (bare_not_empty (places_on i blocks (joined (kept V sets))) (places_at (whole_world V) sets) (same_places sets are) kind keys)

  pub keys_of : (kind : Kind) (inner : Nodes) (sets : Sets) (D : List Place) → AreLive V sets → on_shards (i ∷ []) D ≡ D → D ≡ places_on i blocks (joined (kept V sets))
      → answer_keys kind inner D i ≡ own_keys kind inner (places_at (whole_world V) sets)
  keys_of (terms t) inner sets D are own is =
      let entries : entries_in t (stats_of inner) (on_shards (i ∷ []) D) ≡ entries_in t (stats_of inner) (places_at (whole_world V) sets) =
      ap (entries_in t (stats_of inner)) (own ∙ is)
      ∙ bare_entries (places_on i blocks (joined (kept V sets))) (places_at (whole_world V) sets) (same_places sets are) t (stats_of inner) in
      let rest = listed_of (terms t) inner sets D (asked t.missing missing) are is in
      λ j. map value (map (λ e. e.val) (below_rank t.sort (offered_bound t) (entries j))) ++ rest j
  keys_of (range g) inner sets D are own is = listed_of (range g) inner sets D (range_keys g) are is
  keys_of (date_range g) inner sets D are own is = listed_of (date_range g) inner sets D (date_range_keys g) are is
  keys_of (query q) inner sets D are own is = refl

  pub rows_of : (path : Path) (nodes : Nodes) (sets : Sets) (X : List Place) → AreLive V sets → IsOf sets X → answer_rows r W i path nodes X ≡ set_rows (on path) V nodes sets
  rows_of path no_nodes sets X are here = refl
  rows_of path (statistic name s rest) sets X are here = rows_of path rest sets X are here
  rows_of path (facet f inner rest) sets X are here =
      let D = answer_domain r W i path f X in
      let sets_in = domain_sets (on path) V f sets in
      let sets_are = domain_are path f sets are in
      let domain_on : D ≡ places_on i blocks (joined (kept V sets_in)) = domain_of path f sets X are here in
      let own : on_shards (i ∷ []) D ≡ D = filter_twice (is_on (i ∷ [])) (domain r W path f.change X) in
      let same : SameBare D (places_at (whole_world V) sets_in) = ap bare domain_on ∙ same_places sets_in sets_are in
      let stats = λ (k : Key). bare_stats (bucket_places f.kind k D) (bucket_places f.kind k (places_at (whole_world V) sets_in)) (bare_bucket D (places_at (whole_world V) sets_in) same f.kind k) (stats_of inner) in
      let inside_it = λ (k : Key).
      rows_of (into path f k) inner (bucket_sets V f.kind k sets_in) (bucket_places f.kind k D) (buckets_live V f.kind k sets_in sets_are)
      (bucket_of f.kind k sets_in D sets_are (own ∙ domain_on)) in
      λ j. row (partials_of (λ k. stats k j) (λ k. inside_it k j) (keys_of f.kind inner sets_in D sets_are own domain_on j)) (rows_of path rest sets X are here j)

  -- ---- where ways lead

  -- the target's path and nodes are those of the spot, and the shard's part of its places that of the spot's sets
  pub record IsSpot (t : Target) (s : Spot) : Type 0 where
    pub path : target_path t ≡ s.path
    pub nodes : target_nodes t ≡ s.nodes
    pub places : IsOf s.sets (target_places r W t)
    pub are_live : AreLive V s.sets

  is_nowhere : IsSpot leads_nowhere (nowhere V)
  is_nowhere = record { path = refl; nodes = refl; places = sym (nothing_there V (shard_places i 0 0 blocks)); are_live = nowhere_live V is_whole }

  pub is_root : IsSpot (leads_to at_root r.nodes) (root r V)
  is_root = record {
    path = refl;
    nodes = refl;
    places = bases_of_shards r [] W i blocks at ∙ ap (places_on i blocks) (bases_join r [] (live_world V) ∙ ap joined (sym (kept_all_passing (meets_base r []) V is_whole)));
    are_live = bases_live r [] V is_whole;
  }

  one_step : (key : Key) (node : ℕ) (t : Target) (s : Spot) → IsSpot t s → IsSpot (target_in key t (facet_at node (target_nodes t))) (spot_in r V key s (facet_at node s.nodes))
  one_step key node leads_nowhere s is = subst (λ nodes. IsSpot leads_nowhere (spot_in r V key s (facet_at node nodes))) is.nodes is_nowhere
  one_step key node (leads_to path nodes) s is =
      subst (λ ns. IsSpot (target_in key (leads_to path nodes) (facet_at node nodes)) (spot_in r V key s (facet_at node ns))) is.nodes (go (facet_at node nodes))
    where
      go : (o : Option (Facet × Nodes)) → IsSpot (target_in key (leads_to path nodes) o) (spot_in r V key s o)
      go None = is_nowhere
      go (Some f) =
          let X = path_places r W path in
          let sets_in = domain_sets (scope_of r s) V f.0 s.sets in
          let are = domain_are s.path f.0 s.sets is.are_live in
          record {
            path = ap (λ p. into p f.0 key) is.path;
            nodes = refl;
            places = bucket_of (f.0).kind key sets_in (domain r W path (f.0).change X) are
                (subst (λ p. IsOf (domain_sets (on p) V f.0 s.sets) (domain r W path (f.0).change X)) is.path (domain_of path f.0 s.sets X is.are_live is.places));
            are_live = buckets_live V (f.0).kind key sets_in are;
          }

  all_steps : (way : Way) (t : Target) (s : Spot) → IsSpot t s → IsSpot (target_from t way) (spot_from r V s way)
  all_steps [] t s is = is
  all_steps (step ∷ way) t s is =
      all_steps way (target_in step.key t (facet_at step.node (target_nodes t))) (spot_in r V step.key s (facet_at step.node s.nodes)) (one_step step.key step.node t s is)

  bucket_at : (way : Way) (key : Key) (a b : Partials) → a ≡ b → answer_bucket r W i way key a ≡ set_bucket r V (spot_at r V way) key b
  bucket_at way key a b e =
      let t = target_of r.nodes way in
      let s = spot_at r V way in
      let is : IsSpot t s = all_steps way (leads_to at_root r.nodes) (root r V) is_root in
      let X = on_shards (i ∷ []) (target_places r W t) in
      let stats : stats_over (stats_of (target_nodes t)) X ≡ stats_over (stats_of s.nodes) (places_at (whole_world V) s.sets) =
      (λ j. stats_over (stats_of (is.nodes j)) (is.places j))
      ∙ bare_stats (places_on i blocks (joined (kept V s.sets))) (places_at (whole_world V) s.sets) (same_places s.sets is.are_live) (stats_of s.nodes) in
      let rows : answer_rows r W i (target_path t) (target_nodes t) X ≡ set_rows (scope_of r s) V s.nodes s.sets =
      (λ j. answer_rows r W i (is.path j) (is.nodes j) X) ∙ rows_of s.path s.nodes s.sets X is.are_live (again s.sets (target_places r W t) is.places) in
      λ j. partial key (stats j) (rows j) (e j)

  wants_at : (wants : List Want) → answer_wants r W i wants ≡ set_wants r V wants
  wants_at [] = refl
  wants_at (w ∷ ws) = bucket_at (way_of w) w.key (answer_wants r W i ws) (set_wants r V ws) (wants_at ws)

pub answers_from_sets : AnswersFromSets
answers_from_sets r W i V is_whole at first = bucket_at r W i V is_whole at [] whole no_partials no_partials refl
answers_from_sets r W i V is_whole at (more wants) = wants_at r W i V is_whole at wants
