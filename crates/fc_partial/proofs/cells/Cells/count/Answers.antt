use Rattle.std.proofs.Common.{◌∙◌, arith}
use Rattle.std.proofs.lemmas.List.{get_or_read}
use Rattle.fc_partial.proofs.CellParts.{counter, count_of}
use Rattle.fc_partial.proofs.cells.Cells.count.Goals as goal

pub index-requires : goal.index-requires
index-requires c = omega (arith, counter c.self.inside c.args.self.now c.self.view_is c.self.invariant c.args.number c.requires, c.self.inside.counts.ok.0)

pub returns : goal.returns
returns c =
    let i = c.self.inside in
    get_or_read i.counts.items _ _ (counter i c.args.self.now c.self.view_is c.self.invariant c.args.number c.requires) c.index.ensures 0
    ∙ count_of i c.args.self.now c.self.view_is c.self.invariant c.args.number c.requires
