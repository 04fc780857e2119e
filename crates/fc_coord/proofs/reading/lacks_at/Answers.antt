use Rattle.std.proofs.Common.{◌≡◌, [], ◌∙◌}
use Rattle.fc_request.specs.RequestView.{request_view}
use Rattle.fc_spec.specs.words.Lists.{numbers_below}
use Rattle.fc_lacks.specs.Lacking.{lacking}
use Rattle.fc_coord.specs.TreeReading.{over_tree, has_told}
use Rattle.fc_coord.proofs.reading.lacks_at.Goals as goal

pub returns : goal.returns
returns c =
    let r = request_view c.args.request.now in
    let all : c.deref.result.now ≡ numbers_below c.args.shards = c.deref.ensures.value ∙ c.in_ok-numbers.ensures.numbers in
    c.in_ok-all.ensures ∙ (λ j. lacking over_tree has_told c.args.depth r.nodes 0 (all j) (c.new.ensures j) [])
