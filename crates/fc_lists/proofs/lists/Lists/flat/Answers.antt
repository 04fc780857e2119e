use Rattle.std.proofs.Common.{vec_len, get_or, slice_range, sym, ap, ap₂, ◌∙◌}
use Rattle.fc_lists.specs.Flat.{flat}
use Rattle.fc_lists.specs.Starts.{starts_in}
use Rattle.fc_lists.proofs.Cuts.{cut_all}
use Rattle.fc_lists.proofs.lists.Lists.flat.Goals as goal

pub returns : goal.returns
returns g c =
    let inside = c.self.inside in
    let items = inside.items.items in
    let from = c.start-from.ensures ∙ ap (λ n. get_or (starts_in inside.starts n) 0 0) c.len.ensures in
    c.part.ensures
    ∙ ap (λ l. slice_range l c.start-from.result c.len-2.result) c.deref.ensures.value
    ∙ ap₂ (slice_range items) from c.len-2.ensures
    ∙ sym (cut_all (starts_in inside.starts (vec_len inside.items)) items (vec_len inside.items) c.self.invariant)
    ∙ ap flat c.self.view_is
