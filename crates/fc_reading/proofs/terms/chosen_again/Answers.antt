use Rattle.std.proofs.Common.{◌≡◌, ◌∙◌, ap, sym, map}
use Rattle.fc_spec.specs.requests.Ranks.{Entry, below_rank, rank_bound}
use Rattle.fc_spec.specs.replies.Chosen.{offering}
use Rattle.fc_facet.specs.KindView.{terms_view}
use Rattle.fc_request.specs.NodeView.{inner_view}
use Rattle.fc_reading.specs.Terms.{candidate_vals, candidates_view, IsOn}
use Rattle.fc_refine.proofs.Among.{All-among}
use Rattle.fc_reading.proofs.Candidates.{candidates_ascend, entry_vals, first_offering, front_vals}
use Rattle.fc_reading.proofs.ValueParts.{refined_ascend}
use Rattle.fc_reading.proofs.terms.chosen_again.Goals as goal

pub below_rank-requires : goal.below_rank-requires
below_rank-requires g c = record {
  ascend = candidates_ascend (g.R.BucketReading.reading c.args.reading.now) (terms_view c.args.terms.now) (inner_view c.args.node.now) c.args.shards.now
      (g.R.BucketReading.over c.args.domain.now) g.R.BucketReading.held c.in_ok-all.all.items c.in_ok-all.ensures.vals;
}

pub returns-clause-on : goal.returns-clause-on
returns-clause-on g c =
    let R = g.R.BucketReading.reading c.args.reading.now in
    let held = g.R.BucketReading.held in
    let t = terms_view c.args.terms.now in
    let inner = inner_view c.args.node.now in
    let K = c.args.shards.now in
    let Y = g.R.BucketReading.over c.args.domain.now in
    let P = IsOn R t inner K Y held (offering R t inner K Y) in
    All-among P c.in_ok-front.front.items c.in_ok-all.all.items c.in_ok-front.ensures.among (first_offering R t inner K Y held c.requires.again c.in_ok-all.all.items c.in_ok-all.ensures.on)

pub returns-clause-vals : goal.returns-clause-vals
returns-clause-vals g c =
    let R = g.R.BucketReading.reading c.args.reading.now in
    let held = g.R.BucketReading.held in
    let t = terms_view c.args.terms.now in
    let inner = inner_view c.args.node.now in
    let K = c.args.shards.now in
    let Y = g.R.BucketReading.over c.args.domain.now in
    let all = c.in_ok-all.all.items in
    let front = c.in_ok-front.front.items in
    let is : candidate_vals front ≡ map (λ (e : Entry). e.val) (below_rank t.sort (rank_bound t.offset t.limit t.overrefine) (candidates_view all)) =
    sym (entry_vals front) ∙ ap (λ es. map (λ (e : Entry). e.val) es) c.in_ok-front.ensures.ranks
    ∙ ap (λ b. map (λ (e : Entry). e.val) (below_rank t.sort b (candidates_view all))) c.rank_bound-bound.ensures in
    front_vals R t inner K Y held c.requires.again all front c.in_ok-all.ensures.on c.in_ok-all.ensures.vals is

pub returns-clause-ascend : goal.returns-clause-ascend
returns-clause-ascend g c =
    let R = g.R.BucketReading.reading c.args.reading.now in
    let t = terms_view c.args.terms.now in
    let all = c.in_ok-all.all.items in
    let front = c.in_ok-front.front.items in
    let is : candidate_vals front ≡ map (λ (e : Entry). e.val) (below_rank t.sort (rank_bound t.offset t.limit t.overrefine) (candidates_view all)) =
    sym (entry_vals front) ∙ ap (λ es. map (λ (e : Entry). e.val) es) c.in_ok-front.ensures.ranks
    ∙ ap (λ b. map (λ (e : Entry). e.val) (below_rank t.sort b (candidates_view all))) c.rank_bound-bound.ensures in
    refined_ascend t.sort (rank_bound t.offset t.limit t.overrefine) all front is
    (candidates_ascend R t (inner_view c.args.node.now) c.args.shards.now (g.R.BucketReading.over c.args.domain.now) g.R.BucketReading.held all c.in_ok-all.ensures.vals)
