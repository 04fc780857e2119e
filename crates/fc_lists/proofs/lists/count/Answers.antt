use Rattle.std.proofs.Common.{◌+◌, length, sym, ap, ◌∙◌}
use Rattle.std.proofs.lemmas.List.FromFn.{length-range_with_len}
use Rattle.fc_lists.specs.Starts.{starts_in}
use Rattle.fc_lists.proofs.lists.count.Goals as goal

pub returns-in-None : goal.returns-in-None
returns-in-None c = sym (ap (λ starts. length (starts_in starts c.args.count)) c.in-None.is ∙ length-range_with_len 0 (c.args.count + 1))
