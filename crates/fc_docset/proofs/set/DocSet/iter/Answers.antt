use Rattle.std.proofs.Common.{ap, ◌∙◌, arith}
use Rattle.fc_docset.specs.Positions.{positions}
use Rattle.fc_lane.proofs.WholeWords.{all_bits}
use Rattle.fc_docset.proofs.WordPositions.{positions_of_all}
use Rattle.fc_docset.proofs.set.DocSet.iter.Goals as goal

pub over-requires : goal.over-requires
over-requires c = omega arith

pub returns : goal.returns
returns c =
    let set = c.self.inside in
    c.over.ensures ∙ ap (λ words. positions (all_bits words)) c.deref.ensures.value
    ∙ positions_of_all set.len set.words.items _ c.self.view_is (omega arith) c.self.invariant.none_past
