use Rattle.std.proofs.Common.{sym, subst}
use Rattle.fc_column.specs.Dictionary.{term_at}
use Rattle.fc_column.proofs.PermutedPositions.{AreSingle, single_map, single_back}
use Rattle.fc_column.proofs.text.TextColumn.are_single.Goals as goal

pub returns : goal.returns
returns c =
    let column = c.self.inside in
    let f = term_at column.terms.items in (
      λ yes. subst AreSingle c.self.view_is (single_map f column.ordinals (c.are_single.ensures.0 yes)),
      λ single. c.are_single.ensures.1 (single_back f column.ordinals (subst AreSingle (sym c.self.view_is) single)),
    )
