use Rattle.std.proofs.Common.{sym, ap, ◌∙◌, length}
use Rattle.fc_lane.proofs.BitLists.{length-first_bits}
use Rattle.fc_docset.proofs.set.DocSet.len.Goals as goal

pub returns : goal.returns
returns c = sym (length-first_bits c.self.inside.len c.self.inside.words.items) ∙ ap length c.self.view_is
