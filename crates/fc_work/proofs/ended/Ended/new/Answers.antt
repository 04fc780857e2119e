use Rattle.std.proofs.Common.{◌++◌, ◌∷◌, [], length, sym, ◌∙◌, ap, arith}
use Rattle.std.proofs.lemmas.List.{length-append, map-append}
use Rattle.fc_work.specs.SearchLineView.{line_views}
use Rattle.fc_work.specs.Woven.{lines_in}
use Rattle.fc_work.proofs.Placed.{one_more}
use Rattle.fc_work.proofs.ended.Ended.new.Goals as goal

pub loop-number-preserved : goal.loop-number-preserved
loop-number-preserved c =
    let old = c.loop-number.lines.items in
    let more = c.in_ok-push.ensures.items in
    record {
      none = ap lines_in more ∙ map-append (λ own. line_views own.items) old (c.new.result ∷ [])
          ∙ (λ i. c.loop-number.invariant.none i ++ line_views (c.new.ensures.items i) ∷ [])
          ∙ sym (one_more c.loop-number._number);
      count = (let count = c.loop-number.invariant.count in let long = ap length more ∙ length-append old (c.new.result ∷ []) in omega (arith, count, long));
    }
