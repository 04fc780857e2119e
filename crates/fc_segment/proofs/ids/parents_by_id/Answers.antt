use Rattle.std.proofs.Common.{◌∙◌, sym}
use Rattle.fc_segment.proofs.ParentTexts.{all_in}
use Rattle.fc_segment.proofs.ids.parents_by_id.Goals as goal

pub returns-then-count-len : goal.returns-then-count-len
returns-then-count-len c = λ texts first. all_in c.args.parents.now (sym c.count.ensures ∙ c.if-count-len.true ∙ c.len.ensures)
