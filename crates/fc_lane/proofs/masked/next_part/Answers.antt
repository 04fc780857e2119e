use Rattle.std.proofs.Common.{◌∙◌, ap, take, drop}
use Rattle.fc_lane.proofs.MaskedParts.{take-min, drop-min}
use Rattle.fc_lane.proofs.masked.next_part.Goals as goal

pub returns-clause-part : goal.returns-clause-part
returns-clause-part c = c.split_at.ensures.front ∙ ap (λ n. take n c.args.values.now) c.min.ensures ∙ take-min c.args.values.now

pub returns-clause-behind : goal.returns-clause-behind
returns-clause-behind c = c.split_at.ensures.back ∙ ap (λ n. drop n c.args.values.now) c.min.ensures ∙ drop-min c.args.values.now
