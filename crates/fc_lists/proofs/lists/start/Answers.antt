use Rattle.std.proofs.Common.{◌<◌, ◌+◌, length, get_or, sym, ap, ◌∙◌, arith}
use Rattle.std.proofs.lemmas.List.FromFn.{length-range_with_len, get_or-range_with_len}
use Rattle.fc_lists.specs.Starts.{starts_in}
use Rattle.fc_lists.proofs.lists.start.Goals as goal

pub returns-in-None : goal.returns-in-None
returns-in-None c =
    let count = c.args.count in
    let at = c.args.at in
    let none = c.in-None.is in
    let within = ap (λ s. length (starts_in s count)) none ∙ length-range_with_len 0 (count + 1) in
    let below : at < count + 1 = omega (arith, within, c.requires) in
    sym (ap (λ s. get_or (starts_in s count) at 0) none ∙ get_or-range_with_len 0 (count + 1) at 0 below ∙ omega arith)
