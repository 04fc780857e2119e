-- The root's job of an answer from counts on.
use Rattle.std.proofs.Common.{◌≡◌, ℕ, ◌≤◌, List, [], length, refl, sym, ◌∙◌, ap, subst}
use Rattle.fc_spec.specs.documents.Schema.{Schema}
use Rattle.fc_spec.specs.documents.Sets.{places_at}
use Rattle.fc_spec.specs.messages.Message.{first}
use Rattle.fc_spec.specs.queries.Query.{all}
use Rattle.fc_spec.specs.requests.Request as definition
use Rattle.fc_spec.specs.requests.Request.{query, stats_of}
use Rattle.fc_spec.specs.requests.Statistics.{stats_over}
use Rattle.fc_partial.specs.StatsView.{stats_view}
use Rattle.fc_request.specs.FacetNode.{kind_of, kind_view}
use Rattle.fc_request.specs.NodeView.{inner_view}
use Rattle.fc_request.specs.RequestView.{request_view}
use Rattle.fc_request.specs.declared.request.Request.{Request}
use Rattle.fc_segment.specs.Segmented.{Segmented}
use Rattle.fc_answers.specs.SetAnswer.{Pieces, Sets, bucket_sets, whole_world}
use Rattle.fc_levels.specs.Facets.{facets_of, nested_view}
use Rattle.fc_levels.specs.Steps.{AreValidFacets}
use Rattle.fc_levels.proofs.FacetLists.{valid_facets}
use Rattle.fc_jobs.specs.Pieces.{pieces_in}
use Rattle.fc_units.specs.LeastLists.{least_lists, root_sets, root_stats}
use Rattle.fc_units.specs.Leasts.{AreFirstLists}
use Rattle.fc_units.specs.Stepping.{StandsAtTop}
use Rattle.fc_units.specs.declared.jobs.TopJob.{TopJob}
use Rattle.fc_units.proofs.AskedTops.{whole_base}
use Rattle.fc_units.proofs.Begun.{root_kind}
use Rattle.fc_units.proofs.JobEnds as ends

-- bases that are kept beside play no part in it
pub forget_bases : (s : Schema) (segments : List Segmented) (request : Request) (roots : Sets) (job : TopJob) → StandsAtTop s segments request first 0 roots job → StandsAtTop s segments request first 0 [] job
forget_bases s segments request roots job st = record {
  can = st.can;
  based = refl;
  is_job = record {
    node = st.is_job.node;
    asked = st.is_job.asked;
    key = st.is_job.key;
    is_key = st.is_job.is_key;
    top = st.is_job.top;
    domain = st.is_job.domain;
    reached = st.is_job.reached;
    stats = st.is_job.stats;
    over = st.is_job.over;
  };
}

-- it is at its end
module _ (s : Schema) (segments : List Segmented) (request : Request) (job : TopJob) (st : StandsAtTop s segments request first 0 [] job) (past : length segments ≤ job.at) where
  abbrev r : definition.Request
  r = request_view request

  abbrev V : Pieces
  V = pieces_in segments

  inner : inner_view job.node.now ≡ r.nodes
  inner = ap (λ m. m.1) st.is_job.asked

  kind : kind_view (kind_of job.node.now) ≡ query all
  kind = ap (λ m. (m.0).kind) st.is_job.asked ∙ root_kind request.root st.can.root

  base : job.domain.items ≡ root_sets r V
  base = ends.whole s segments request first 0 [] job st past

  stats : stats_view job.over ≡ root_stats r V
  stats =
      ends.top_stats s segments request first 0 [] job st past
      ∙ (λ j. stats_over (stats_of (inner j)) (places_at (whole_world V) (bucket_sets V (kind j) (st.is_job.key j) (base j))))
      ∙ ap (λ D. stats_over (stats_of r.nodes) (places_at (whole_world V) D)) (whole_base r V)

  pub root_lists : (ns : List ℕ) → AreFirstLists s r V ns job.domain.items job.over [] (facets_of (inner_view job.node.now))
  root_lists ns = record { base_is = base; stats_are = stats; lists = ap (λ nodes. least_lists r V (facets_of nodes) ns) inner }

  pub root_facets : AreValidFacets s (inner_view job.node.now)
  root_facets = valid_facets s (inner_view job.node.now) st.is_job.node.inner
