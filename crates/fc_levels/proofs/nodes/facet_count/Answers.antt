use Rattle.std.proofs.Common.{rules, ◌≡◌, sym, ◌∙◌}
use Rattle.std.specs.Prelude.{count_by}
use Rattle.fc_request.specs.FacetNode.{has_buckets, kind_of}
use Rattle.fc_levels.proofs.FacetLists.{facets_counted}
use Rattle.fc_levels.proofs.nodes.facet_count.Goals as goal

pub returns : goal.returns
returns c =
    let counted : c.count.result ≡ count_by (λ n. has_buckets (kind_of n)) c.args.nodes.now = search rules in
    counted ∙ sym (facets_counted c.args.nodes.now)
