use Rattle.std.proofs.Common.{◌≡◌, ◌+◌, ◌/◌, take, ap, ◌∙◌, rules}
use Rattle.fc_spec.specs.documents.Bits.{first_bits}
use Rattle.fc_lane.proofs.BitLists.{first_bits_of_front}
use Rattle.fc_docset.proofs.set.DocSet.from_mask.Goals as goal

pub returns : goal.returns
returns c =
    let len = c.args.len in
    let front : c.in_ok-words.words.items ≡ take ((len + 63) / 64) c.args.words.now = search rules in
    c.within.ensures ∙ ap (first_bits len) front ∙ first_bits_of_front len c.args.words.now
