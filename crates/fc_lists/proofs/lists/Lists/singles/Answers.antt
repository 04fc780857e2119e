use Rattle.std.proofs.Common.{◌+◌, ◌∷◌, [], List, length, map, vec_len, sym, ap, ◌∙◌}
use Rattle.std.specs.List.{range_with_len}
use Rattle.fc_lists.specs.Starts.{cut, starts_in}
use Rattle.fc_lists.proofs.Cuts.{cut_singles}
use Rattle.fc_lists.proofs.lists.Lists.singles.Goals as goal

pub returns-in-None : goal.returns-in-None
returns-in-None g c =
    let items = c.self.inside.items.items in
    let size = sym c.deref.ensures.len ∙ ap length c.deref.ensures.value in
    sym c.self.view_is
    ∙ ap (λ starts. cut (starts_in starts (vec_len c.self.inside.items)) items) c.in-None.is
    ∙ ap (λ n. cut (range_with_len 0 (n + 1)) items) size
    ∙ cut_singles items ∙ ap (λ (l : List g.row.T.Denot). map (λ item. item ∷ []) l) (sym c.deref.ensures.value)
