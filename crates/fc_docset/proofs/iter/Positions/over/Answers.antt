use Rattle.std.proofs.Common.{◌≡◌, ◌∷◌, [], sym, ap, ◌∙◌}
use Rattle.std.proofs.lemmas.List.{nil_from_length}
use Rattle.fc_docset.specs.Positions.{positions_from}
use Rattle.fc_lane.proofs.WholeWords.{all_bits}
use Rattle.fc_docset.proofs.WordPositions.{positions_skip}
use Rattle.fc_docset.proofs.iter.Positions.over.Goals as goal

pub returns-in-None : goal.returns-in-None
returns-in-None c =
    let none : c.args.words.now ≡ [] = nil_from_length c.args.words.now c.in-None.ensures.cases in
    ap (λ words. positions_from 0 (all_bits (0 ∷ words))) none ∙ positions_skip 0 []
    ∙ sym (ap (λ words. positions_from 0 (all_bits words)) none)
