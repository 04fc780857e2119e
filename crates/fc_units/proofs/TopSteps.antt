-- One segment more of a top bucket's job.
use Rattle.std.proofs.Common.{◌≡◌, ◌≢◌, ◌⊎◌, inl, inr, ℕ, ◌+◌, ◌<◌, ◌≤◌, List, [], ◌∷◌, ◌++◌, length, map, drop, get_or, Bool, IsTrue, sym, ◌∙◌, ap, subst, arith, length-append}
use Rattle.std.proofs.lemmas.Bool.Decides.{eqb_tells}
use Rattle.fc_spec.specs.documents.Live.{HasWholeBlocks}
use Rattle.fc_spec.specs.documents.Schema.{Schema}
use Rattle.fc_spec.specs.documents.Sets.{places_on}
use Rattle.fc_spec.specs.documents.Totals.{document_total}
use Rattle.fc_spec.specs.messages.Message.{Ask}
use Rattle.fc_spec.specs.requests.Buckets.{is_key_of}
use Rattle.fc_spec.specs.requests.Combining.{combined}
use Rattle.fc_spec.specs.requests.DomainSets.{bucket_set}
use Rattle.fc_spec.specs.requests.Request as definition
use Rattle.fc_spec.specs.requests.Request.{Facet, Kind, Stat, stats_of}
use Rattle.fc_spec.specs.requests.Statistics.{stats_over}
use Rattle.fc_spec.specs.scripts.WorldLimits.{IsWithinLimits}
use Rattle.fc_base.specs.StatisticView.{stat_view}
use Rattle.fc_domain.specs.FieldsFit.{BaseFits, ChangeFits}
use Rattle.fc_partial.specs.Adding.{AddUp, HasShape}
use Rattle.fc_partial.specs.StatsView.{stats_view}
use Rattle.fc_partial.specs.View.{key_view}
use Rattle.fc_request.specs.FacetNode.{facet_view, kind_of, kind_view}
use Rattle.fc_request.specs.NodeView.{inner_view}
use Rattle.fc_request.specs.RequestView.{request_view}
use Rattle.fc_request.specs.declared.node.Node.{Node}
use Rattle.fc_request.specs.declared.request.Request.{Request}
use Rattle.fc_segment.specs.Segmented.{Segmented}
use Rattle.fc_answers.specs.SetAnswer.{Pieces, Sets, base_of}
use Rattle.fc_levels.specs.Facets.{nested_view}
use Rattle.fc_levels.specs.Steps.{IsValidNode}
use Rattle.fc_jobs.specs.FacetFits.{AllFit, FacetFits}
use Rattle.fc_jobs.specs.Gathered.{AreFirst, AreSoFar}
use Rattle.fc_jobs.specs.Pieces.{piece_of, pieces_in}
use Rattle.fc_jobs.proofs.TopBuckets.{bucket_more, bucket_shape}
use Rattle.fc_units.specs.Asked.{IsAskedFacet, IsTop, top_domain, top_set}
use Rattle.fc_units.specs.Built.{IsTopJob}
use Rattle.fc_units.specs.Stepping.{IsOneFurther, IsTopStep, StandsAtTop}
use Rattle.fc_units.specs.declared.jobs.TopJob.{TopJob}
use Rattle.fc_units.proofs.JobEnds.{top_live}
use Rattle.fc_units.proofs.Segments.{all_here, base_here, base_more, base_there, facet_here, first_at, limits_here, no_further, one_further, piece_here, top_adds_up, top_more, top_stands, whole_here, within_list}

-- ---- lists that have one more

-- one that is put behind them where it is the next
abbrev pub IsGrown : {X : Type 0} → ℕ → X → List X → List X → Type 0
IsGrown n x old new = (new ≡ old) ⊎ ((length old ≡ n) × (new ≡ old ++ x ∷ []))

pub grown : {X : Type 0} (n : ℕ) (x : X) (old new : List X) → (length old ≢ n → new ≡ old) → (length old ≡ n → new ≡ old ++ x ∷ []) → IsGrown n x old new
grown n x old new same put = elim (eqb_tells (length old) n) [ inl e ↦ inr (e.1, put e.1) | inr e ↦ inl (same e.1) ]

-- one that is there, or is put behind them
abbrev pub IsLooked : {X : Type 0} → ℕ → X → List X → List X → Type 0
IsLooked n x old new = ((n < length old) × (new ≡ old)) ⊎ ((length old ≤ n) × (new ≡ old ++ x ∷ []))

next_is : (n m : ℕ) → n ≤ m → m ≤ n → n ≡ m
next_is n m h k = omega (arith, h, k)

behind : {X : Type 0} (xs : List X) (x : X) (n : ℕ) → length xs ≡ n → n < length (xs ++ x ∷ [])
behind xs x n same = omega (arith, same, length-append xs (x ∷ []))

up_to : (n m at long : ℕ) → n < m → at ≡ n + 1 → long ≡ m → at ≤ long
up_to n m at long h e k = omega (arith, h, e, k)

-- ---- no segment is left
pub top_kept : (s : Schema) (gs : List Segmented) (request : Request) (ask : Ask) (number : ℕ) (roots : Sets) (job : TopJob) → length gs ≤ job.at → StandsAtTop s gs request ask number roots job → IsTopStep s gs request ask number roots job job
top_kept s gs request ask number roots job past st = record { stands = st; further = no_further (length gs) job.at past }

-- ---- the job at a segment
module _ (s : Schema) (gs : List Segmented) (request : Request) (ask : Ask) (number : ℕ) (roots : Sets) (job : TopJob) (g : Segmented) (rest : List Segmented) (here : drop job.at gs ≡ g ∷ rest) (st : StandsAtTop s gs request ask number roots job) where
  abbrev r : definition.Request
  r = request_view request

  abbrev V : Pieces
  V = pieces_in gs

  abbrev f : Facet
  f = facet_view job.node.now

  abbrev kind : Kind
  kind = kind_view (kind_of job.node.now)

  abbrev ss : List Stat
  ss = stats_of (inner_view job.node.now)

  abbrev D : Sets
  D = top_domain r V ask number f

  abbrev own : List Bool
  own = top_set r ask number f (piece_of g)

  pub top_base : BaseFits g.texts r
  top_base = base_here s gs request job.at g rest here st.can

  pub top_fit : AllFit g.texts r.nodes
  top_fit = all_here s gs request job.at g rest here st.can

  pub top_facet : FacetFits g.texts job.node.now
  top_facet = facet_here s gs request job.at g rest here st.can job.node.now st.is_job.node

  pub top_change : ChangeFits g.texts f.change
  top_change = top_facet.change

  pub top_limits : IsWithinLimits (g.blocks ∷ [])
  top_limits = limits_here s gs request job.at g rest here st.can

  pub top_whole : HasWholeBlocks g.blocks g.live
  top_whole = whole_here s gs request job.at g rest here st.can

  pub top_there : job.at < length roots → get_or roots job.at [] ≡ base_of r [] (piece_of g)
  top_there h = base_there s gs request job.at g rest here st.can roots [] st.based h

  pub top_key : IsTrue (is_key_of kind (key_view job.key))
  top_key = st.is_job.is_key

  -- once its domain there is known
  module _ (domain : Sets) (looked : IsLooked job.at own job.domain.items domain) where
    put : length job.domain.items ≤ job.at → AreFirst D (job.domain.items ++ own ∷ []) × (job.at < length (job.domain.items ++ own ∷ []))
    put h =
        let same = next_is (length job.domain.items) job.at h st.is_job.reached in
        (top_more s gs request job.at g rest here st.can ask number f job.domain.items st.is_job.domain same, behind job.domain.items own job.at same)

    both : AreFirst D domain × (job.at < length domain)
    both = elim looked [
      | inl e ↦ subst (λ (d : Sets). AreFirst D d × (job.at < length d)) (sym e.1) (st.is_job.domain, e.0)
      | inr e ↦ subst (λ (d : Sets). AreFirst D d × (job.at < length d)) (sym e.1) (put e.0)
    ]

    pub top_bound : job.at < length domain
    top_bound = both.1

    module _ (set : List Bool) (is : set ≡ get_or domain job.at set) where
      set_is : set ≡ own
      set_is = first_at D domain (top_domain r (pieces_in rest) ask number f) job.at own set set both.0 both.1 (top_stands s gs request job.at g rest here st.can ask number f) is

      pub top_long : length set ≡ document_total g.blocks
      top_long = ap length set_is ∙ (top_live (piece_of g) top_whole r ask number f).count

      module _ (ts : List Stat) (same : ts ≡ map stat_view job.stats.items) where
        stats_are : ts ≡ ss
        stats_are = same ∙ st.is_job.stats

        pub top_shaped : HasShape ts (stats_view job.over)
        top_shaped = subst (λ us. HasShape us (stats_view job.over)) (sym stats_are) (bucket_shape V D kind ss (key_view job.key) job.at (stats_view job.over) st.is_job.over)

        pub top_add_up : AddUp (stats_view job.over) (stats_over ts (places_on 0 g.blocks (bucket_set kind (key_view job.key) g.blocks set)))
        top_add_up =
            subst (λ us. AddUp (stats_view job.over) (stats_over us (places_on 0 g.blocks (bucket_set kind (key_view job.key) g.blocks set)))) (sym stats_are)
            (subst (λ (x : List Bool). AddUp (stats_view job.over) (stats_over ss (places_on 0 g.blocks (bucket_set kind (key_view job.key) g.blocks x)))) (sym set_is)
            (top_adds_up s gs request job.at g rest here st.can ask number f kind ss (key_view job.key) (stats_view job.over) st.is_job.over))

        -- one segment more
        module _ (roots' : Sets) (are : IsGrown job.at (base_of r [] (piece_of g)) roots roots') (after : TopJob) (node : after.node.now ≡ job.node.now) (key : after.key ≡ job.key) (at : after.at ≡ job.at + 1) (stats : after.stats ≡ job.stats) (domain_is : after.domain.items ≡ domain)
            (over : stats_view after.over ≡ combined ts (stats_view job.over) (stats_over ts (places_on 0 g.blocks (bucket_set kind (key_view job.key) g.blocks set)))) where
          based : AreFirst (map (base_of r []) V) roots'
          based = elim are [
            | inl e ↦ subst (AreFirst (map (base_of r []) V)) (sym e) st.based
            | inr e ↦ subst (AreFirst (map (base_of r []) V)) (sym e.1) (base_more s gs request job.at g rest here st.can roots st.based e.0)
          ]

          so_far : AreSoFar V D kind ss (key_view job.key) (job.at + 1) (stats_view after.over)
          so_far =
              bucket_more V (pieces_in rest) D (top_domain r (pieces_in rest) ask number f) kind ss (key_view job.key) job.at (piece_of g) own (piece_here s gs request job.at g rest here st.can)
              (top_stands s gs request job.at g rest here st.can ask number f) (stats_view job.over) (stats_view after.over) st.is_job.over
              (over ∙ (λ i. combined (stats_are i) (stats_view job.over) (stats_over (stats_are i) (places_on 0 g.blocks (bucket_set kind (key_view job.key) g.blocks (set_is i))))))

          is_job : IsTopJob s request V ask number roots' after
          is_job = record {
            node = subst (IsValidNode s) (sym node) st.is_job.node;
            asked = subst (λ (m : Node). IsAskedFacet (nested_view request.root) r ask number (nested_view m)) (sym node) st.is_job.asked;
            key = ap key_view key ∙ st.is_job.key;
            is_key = subst (λ (m : Node). IsTrue (is_key_of (kind_view (kind_of m)) (key_view after.key))) (sym node) (subst (λ k. IsTrue (is_key_of kind (key_view k))) (sym key) st.is_job.is_key);
            top = subst (λ (m : Node). IsTop r V ask number (nested_view m) (key_view after.key)) (sym node) (subst (λ k. IsTop r V ask number (nested_view job.node.now) (key_view k)) (sym key) st.is_job.top);
            domain = subst (λ (m : Node). AreFirst (top_domain r V ask number (facet_view m)) after.domain.items) (sym node) (subst (AreFirst D) (sym domain_is) both.0);
            reached = up_to job.at (length domain) after.at (length after.domain.items) both.1 at (ap length domain_is);
            stats = ap (λ v. map stat_view v.items) stats ∙ st.is_job.stats ∙ ap (λ (m : Node). stats_of (inner_view m)) (sym node);
            over = subst (λ (m : Node). AreSoFar V (top_domain r V ask number (facet_view m)) (kind_view (kind_of m)) (stats_of (inner_view m)) (key_view after.key) after.at (stats_view after.over)) (sym node)
                (subst (λ k. AreSoFar V D kind ss (key_view k) after.at (stats_view after.over)) (sym key) (subst (λ n. AreSoFar V D kind ss (key_view job.key) n (stats_view after.over)) (sym at) so_far));
          }

          pub top_stepped : IsTopStep s gs request ask number roots' job after
          top_stepped = record {
            stands = record { can = st.can; based = based; is_job = is_job };
            further = subst (λ n. IsOneFurther (length gs) job.at n) (sym at) (one_further (length gs) job.at (within_list job.at g gs rest here));
          }
