use Rattle.std.proofs.Common.{◌∙◌, sym, subst, arith}
use Rattle.std.specs.List.Sorted.{IsPermutation}
use Rattle.std.proofs.lemmas.List.Sorted.{IsPermutation-refl}
use Rattle.fc_terms.proofs.TermPostings.{term_positions}
use Rattle.fc_terms.proofs.numbers.TermSpanPostings.positions_of.Goals as goal

pub returns : goal.returns
returns c =
    let list = c.positions_of.result.now in
    let is = c.positions_of.ensures.positions ∙ term_positions c.args.self.now.column.now c.args.self.now.from c.args.number (omega (arith, c.requires.1.0, c.requires.1.1)) in
    subst (IsPermutation list) is (IsPermutation-refl list)
