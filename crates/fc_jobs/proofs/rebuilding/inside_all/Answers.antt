use Rattle.std.proofs.Common.{◌≡◌, ◌∷◌, ◌+◌, drop, length, sym, ap, ◌∙◌}
use Rattle.std.proofs.lemmas.List.Elements.{All-rest}
use Rattle.fc_partial.specs.View.{key_view}
use Rattle.fc_request.specs.FacetNode.{kind_of, kind_view}
use Rattle.fc_spec.specs.requests.DomainSets.{bucket_set}
use Rattle.fc_jobs.specs.Scopes.{EnclosingFits, selected_inside}
use Rattle.fc_jobs.proofs.KeptLengths.{bucket_length}
use Rattle.fc_jobs.proofs.RebuiltScopes.{inside_from}
use Rattle.fc_jobs.proofs.rebuilding.inside_all.Goals as goal

pub loop-around-init : goal.loop-around-init
loop-around-init g c =
    let blocks = c.args.segment.now.blocks in
    let x = c.in-Some.outermost.now in
    let others = c.in-Some.others.now in
    let cut : c.args.enclosing.now ≡ x ∷ others = c.in-Some.ensures.cases.0 in
    let kind = kind_view (kind_of x.node.now) in
    let key = key_view x.key.now in
    record {
      inside = ap (selected_inside blocks others) {y = bucket_set kind key blocks c.args.docs.now} c.in_ok-set.ensures ∙ sym (ap (λ xs. selected_inside blocks xs c.args.docs.now) cut);
      long = ap length {y = bucket_set kind key blocks c.args.docs.now} c.in_ok-set.ensures ∙ bucket_length kind key blocks c.args.docs.now c.requires.docs;
      fit = All-rest (EnclosingFits c.args.segment.now.texts) x others c.args.enclosing.now cut c.requires.enclosing;
    }

pub loop-around-preserved : goal.loop-around-preserved
loop-around-preserved g c =
    let blocks = c.args.segment.now.blocks in
    let others = c.in-Some.others.now in
    let i = c.loop-around.around-index in
    let x = c.around-item.result in
    record {
      inside = ap (selected_inside blocks (drop (i + 1) others)) c.in_ok-set-2.ensures
          ∙ sym (inside_from blocks others i x c.loop-around.set c.loop-around-test.true c.around-item.is) ∙ c.loop-around.invariant.inside;
      long = ap length c.in_ok-set-2.ensures ∙ bucket_length (kind_view (kind_of x.node.now)) (key_view x.key.now) blocks c.loop-around.set c.loop-around.invariant.long;
      fit = c.loop-around.invariant.fit;
    }
