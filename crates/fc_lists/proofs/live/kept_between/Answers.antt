use Rattle.std.proofs.Common.{ap, sym, ◌∙◌, ◌+◌}
use Rattle.fc_lists.proofs.KeptCounts.{bits_are}
use Rattle.fc_lists.proofs.live.kept_between.Goals as goal

pub returns : goal.returns
returns c =
    let words = c.words.result.now in
    let live = c.args.live.now in
    let are = bits_are words live c.words.ensures.bits in
    ap (λ n. n + c.count_between.result) (sym (are c.args.from)) ∙ c.count_between.ensures ∙ are c.args.to
