use Rattle.std.proofs.Common.{vec_len, subst, sym, ap}
use Rattle.fc_lists.specs.Starts.{AreStarts, cut}
use Rattle.fc_lists.proofs.Cuts.{starts_counted}
use Rattle.fc_lists.proofs.lists.Lists.new.Goals as goal

pub invariant_of-t-8 : goal.invariant_of-t-8
invariant_of-t-8 g c =
    let up = rw c.deref.ensures.value at c.if-counts_up.ensures in
    let size = vec_len c.args.items in
    subst (λ starts. AreStarts starts size) (starts_counted c.args.starts.items size c.requires up) c.requires

pub returns-then-counts_up : goal.returns-then-counts_up
returns-then-counts_up g c =
    let up = rw c.deref.ensures.value at c.if-counts_up.ensures in
    sym (ap (λ starts. cut starts c.args.items.items) (starts_counted c.args.starts.items (vec_len c.args.items) c.requires up))
