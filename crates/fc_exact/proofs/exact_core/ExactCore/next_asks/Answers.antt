use Rattle.std.proofs.Common.{◌≡◌, Some, length, map, sym, ◌∙◌, ap}
use Rattle.std.specs.Prelude.{option_map}
use Rattle.std.proofs.lemmas.List.{length-map}
use Rattle.fc_spec.specs.messages.TopRounds.{exact_least}
use Rattle.fc_spec.specs.words.Lists.{numbers_below}
use Rattle.fc_request.specs.NodeView.{nodes_view}
use Rattle.fc_exact.specs.CoreView.{state_view}
use Rattle.fc_exact.specs.State.{asks_behind}
use Rattle.fc_exact.specs.ToldFacets.{facets_in}
use Rattle.fc_exact.specs.ToldView.{facet_view}
use Rattle.fc_exact.specs.View.{ask_view, told_view}
use Rattle.fc_exact.proofs.NextAsks.{lacking_asks_are, least_asks_are}
use Rattle.fc_exact.proofs.exact_core.ExactCore.next_asks.Goals as goal

pub returns-in-1 : goal.returns-in-1
returns-in-1 c =
    let s = state_view c.args.self.now in
    let n = c.len-shards.result in
    let shards : n ≡ length s.asks = c.len-shards.ensures ∙ c.args.self.now.asks.ok.0 ∙ sym (length-map c.args.self.now.asks.items (option_map ask_view)) in
    let told = ap (map facet_view) c.deref-in-1.ensures.value ∙ c.in_ok-facets.ensures.facets ∙ (λ j. facets_in (map told_view (c.deref-2.ensures.value j)) (nodes_view (c.deref.ensures.value j)) 0) in
    c.in_ok-asks-in-1.ensures ∙ ap (λ ns. map (λ _. Some (exact_least ns)) (numbers_below n)) (c.deref-in-1-2.ensures.value ∙ c.in_ok-leasts-in-1.ensures)
    ∙ least_asks_are s n (map facet_view c.deref-in-1.result.now) shards told ∙ ap (asks_behind s) (sym c.in-1.is)

pub returns-in-2 : goal.returns-in-2
returns-in-2 c =
    let s = state_view c.args.self.now in
    let n = c.len-shards.result in
    let shards : n ≡ length s.asks = c.len-shards.ensures ∙ c.args.self.now.asks.ok.0 ∙ sym (length-map c.args.self.now.asks.items (option_map ask_view)) in
    let told = ap (map facet_view) c.deref-in-2.ensures.value ∙ c.in_ok-facets.ensures.facets ∙ (λ j. facets_in (map told_view (c.deref-2.ensures.value j)) (nodes_view (c.deref.ensures.value j)) 0) in
    c.in_ok-asks-in-2.ensures ∙ lacking_asks_are s n (map facet_view c.deref-in-2.result.now) shards told ∙ ap (asks_behind s) (sym c.in-2.is)
