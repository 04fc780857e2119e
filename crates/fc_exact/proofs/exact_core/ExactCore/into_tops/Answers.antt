use Rattle.std.proofs.Common.{◌≡◌, length, map, sym, ◌∙◌, ap}
use Rattle.std.specs.Prelude.{option_map}
use Rattle.std.proofs.lemmas.List.{length-map}
use Rattle.fc_request.specs.NodeView.{nodes_view}
use Rattle.fc_exact.specs.CoreView.{state_view}
use Rattle.fc_exact.specs.ToldFacets.{facets_in}
use Rattle.fc_exact.specs.ToldView.{facet_view}
use Rattle.fc_exact.specs.View.{ask_view, told_view}
use Rattle.fc_exact.proofs.NextAsks.{printed_are}
use Rattle.fc_exact.proofs.exact_core.ExactCore.into_tops.Goals as goal

pub returns : goal.returns
returns c =
    let s = state_view c.args.self in
    let shards : c.len-shards.result ≡ length s.asks = c.len-shards.ensures ∙ c.args.self.asks.ok.0 ∙ sym (length-map c.args.self.asks.items (option_map ask_view)) in
    let told = ap (map facet_view) c.deref-3.ensures.value ∙ c.in_ok-facets.ensures.facets ∙ (λ j. facets_in (map told_view (c.deref-2.ensures.value j)) (nodes_view (c.deref.ensures.value j)) 0) in
    c.in_ok-lists.ensures ∙ printed_are s c.len-shards.result (map facet_view c.deref-3.result.now) shards told
