-- Jobs that begin, and answers that go on with them.
use Rattle.std.proofs.Common.{◌≡◌, ℕ, zero, suc, ◌+◌, ◌<◌, List, [], ◌++◌, length, map, IsTrue, Some, refl, sym, ◌∙◌, ap, subst, arith, append-nil}
use Rattle.std.proofs.lemmas.List.{drop_all}
use Rattle.std.proofs.lemmas.Option.{same_Some}
use Rattle.fc_spec.specs.documents.Schema.{Schema}
use Rattle.fc_spec.specs.messages.Message.{Ask, first, more}
use Rattle.fc_spec.specs.messages.Target.{facet_at}
use Rattle.fc_spec.specs.queries.Query.{all}
use Rattle.fc_spec.specs.requests.Buckets.{is_key_of}
use Rattle.fc_spec.specs.requests.DomainReading.{no_change}
use Rattle.fc_spec.specs.requests.Request as definition
use Rattle.fc_spec.specs.requests.Request.{query, stats_of}
use Rattle.fc_spec.specs.requests.RequestReading as reading
use Rattle.fc_spec.specs.requests.Statistics.{stats_over}
use Rattle.fc_base.specs.StatisticView.{stat_view}
use Rattle.fc_partial.specs.StatsView.{stats_view}
use Rattle.fc_partial.specs.View.{key_view}
use Rattle.fc_facet.specs.declared.kind.Kind.{Kind}
use Rattle.fc_facet.specs.declared.kind.Kind.TheVariants as k
use Rattle.fc_request.specs.FacetNode.{facet_view, kind_of, kind_view}
use Rattle.fc_request.specs.NodeView.{inner_view, node_of}
use Rattle.fc_request.specs.RequestView.{IsRoot, request_view}
use Rattle.fc_request.specs.declared.node.Node.{Node}
use Rattle.fc_request.specs.declared.request.Request.{Request}
use Rattle.fc_request.proofs.Nodes.{node_is}
use Rattle.fc_segment.specs.Segmented.{Segmented}
use Rattle.fc_answers.specs.SetAnswer.{AreWhole, Pieces, Sets}
use Rattle.fc_levels.specs.Facets.{Nested, nested_view}
use Rattle.fc_levels.specs.Steps.{IsValidNode}
use Rattle.fc_jobs.specs.Gathered.{AreFirst, AreSoFar}
use Rattle.fc_jobs.specs.Walked.{WalksBySegment, nodes_from}
use Rattle.fc_jobs.proofs.TopBuckets.{bucket_none}
use Rattle.fc_jobs.specs.Pieces.{pieces_in}
use Rattle.fc_units.specs.Asked.{FitsTop, HasSameDomain, IsAskedFacet, IsTop, asked_count, asked_key, node_at, path_at, top_domain}
use Rattle.fc_units.specs.Built.{CanAnswer, IsTopJob}
use Rattle.fc_units.specs.declared.jobs.TopJob.{TopJob}
use Rattle.fc_units.proofs.AskedTops.{root_top, same_domain, wanted_top}

-- ---- the root is a query facet that has every document
kind_from : (c : definition.DomainChange) (kind : Kind) (n : definition.Nodes) (d : definition.DomainChange) (m : definition.Nodes) → node_of c kind n ≡ reading.of_facet d (query all) m → kind_view kind ≡ query all
kind_from c (k.Terms t) n d m e = cc
kind_from c (k.Range g) n d m e = cc
kind_from c (k.DateRange g) n d m e = cc
kind_from c (k.Query q) n d m e = cc
kind_from c (k.Stat s) n d m e = absurd (cc)

change_from : (c : definition.DomainChange) (kind : Kind) (n : definition.Nodes) (d : definition.DomainChange) (m : definition.Nodes) → node_of c kind n ≡ reading.of_facet d (query all) m → c ≡ d
change_from c (k.Terms t) n d m e = cc
change_from c (k.Range g) n d m e = cc
change_from c (k.DateRange g) n d m e = cc
change_from c (k.Query q) n d m e = cc
change_from c (k.Stat s) n d m e = absurd (cc)

pub root_change : (root : Node) → IsRoot root → (facet_view root).change ≡ no_change
root_change root is = change_from _ (kind_of root) _ _ _ (ap (λ p. p.1) (sym (node_is root) ∙ is))

pub root_kind : (root : Node) → IsRoot root → (facet_view root).kind ≡ query all
root_kind root is = kind_from _ (kind_of root) _ _ _ (ap (λ p. p.1) (sym (node_is root) ∙ is))

-- ---- the bucket with a number
pub asked_top : WalksBySegment → (request : Request) (V : Pieces) (ask : Ask) (i : ℕ) (n : Nested) → AreWhole V → IsRoot request.root → i < asked_count ask → IsAskedFacet (nested_view request.root) (request_view request) ask i n
    → IsTop (request_view request) V ask i n (asked_key ask i)
asked_top walks request V first zero n whole root h is = root_top (request_view request) V n (ap (λ m. m.1) is) (ap (λ m. (m.0).kind) is ∙ root_kind request.root root) (ap (λ m. (m.0).change) is ∙ root_change request.root root)
asked_top walks request V first (suc i) n whole root h is = absurd (omega (arith, h))
asked_top walks request V (more wants) i n whole root h is = wanted_top walks (request_view request) V wants i n whole h is

-- ---- sets that are there
pub all_first : (D : Sets) → AreFirst D D
all_first D = ap (λ l. D ++ l) (drop_all (length D) D (omega arith)) ∙ append-nil D

pub none_fits : (root : Nested) (r : definition.Request) (V : Pieces) (ask : Ask) (i : ℕ) → FitsTop root r V ask i []
none_fits root r V ask i n is = refl

-- the domain of the bucket before is that of the next one, where both are of one facet in one bucket
pub same_fits : (root : Nested) (r : definition.Request) (V : Pieces) (ask : Ask) (i : ℕ) (n : Nested) (domain : Sets) → IsAskedFacet root r ask i n → domain ≡ top_domain r V ask i n.0 → HasSameDomain ask (i + 1) → FitsTop root r V ask (i + 1) domain
same_fits root r V first i n domain is e same m next = absurd same
same_fits root r V (more wants) i n domain is e same m next = subst (λ D. AreFirst D domain) (e ∙ alike) (all_first domain)
  where
    up : i + 1 ≡ suc i
    up = omega arith

    both : HasSameDomain (more wants) (suc i)
    both = subst (HasSameDomain (more wants)) up same

    there : Some n ≡ Some m
    there = sym is ∙ (λ j. facet_at (both.1 j) (nodes_from r.nodes (both.0 j))) ∙ subst (λ v. facet_at (node_at wants v) (nodes_from r.nodes (path_at wants v)) ≡ Some m) up next

    alike : top_domain r V (more wants) i n.0 ≡ top_domain r V (more wants) (i + 1) m.0
    alike = ap (λ (p : Nested). top_domain r V (more wants) i p.0) (same_Some n m there) ∙ same_domain r V wants i (suc i) m.0 both.0 ∙ ap (λ v. top_domain r V (more wants) v m.0) (sym up)

-- ---- a top bucket's job, of which no segment is done
pub top_begun : WalksBySegment → (s : Schema) (segments : List Segmented) (request : Request) (ask : Ask) (i : ℕ) (roots : Sets) (job : TopJob) → CanAnswer s segments request → i < asked_count ask
    → IsAskedFacet (nested_view request.root) (request_view request) ask i (nested_view job.node.now) → IsValidNode s job.node.now → IsTrue (is_key_of (kind_view (kind_of job.node.now)) (asked_key ask i))
    → key_view job.key ≡ asked_key ask i → map stat_view job.stats.items ≡ stats_of (inner_view job.node.now) → stats_view job.over ≡ stats_over (map stat_view job.stats.items) [] → job.at ≡ 0
    → FitsTop (nested_view request.root) (request_view request) (pieces_in segments) ask i job.domain.items → IsTopJob s request (pieces_in segments) ask i roots job
top_begun walks s segments request ask i roots job can h is valid own key stats over at fits = record {
  node = valid;
  asked = is;
  key = key;
  is_key = subst (λ v. IsTrue (is_key_of (kind_view (kind_of job.node.now)) v)) (sym key) own;
  top = subst (IsTop (request_view request) V ask i (nested_view job.node.now)) (sym key) (asked_top walks request V ask i (nested_view job.node.now) can.whole can.root h is);
  domain = fits (nested_view job.node.now) is;
  reached = omega (arith, at);
  stats = stats;
  over = subst (λ n. AreSoFar V D kind ss (key_view job.key) n (stats_view job.over)) (sym at) (subst (AreSoFar V D kind ss (key_view job.key) 0) (sym (over ∙ ap (λ l. stats_over l []) stats)) (bucket_none V D kind ss (key_view job.key)));
}
  where
    V : Pieces
    V = pieces_in segments

    D : Sets
    D = top_domain (request_view request) V ask i (facet_view job.node.now)

    kind : definition.Kind
    kind = kind_view (kind_of job.node.now)

    ss : List definition.Stat
    ss = stats_of (inner_view job.node.now)
