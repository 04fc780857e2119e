use Rattle.std.proofs.Common.{◌≡◌, sym, ap, ◌∙◌, subst}
use Rattle.fc_docset.specs.Positions.{contains}
use Rattle.fc_docset.specs.Neighbours.{IsNextFrom, HasNoneFrom}
use Rattle.fc_segment.specs.Parents.{parents_in}
use Rattle.fc_segment.proofs.StoredBlocks.{parents_in-stored}
use Rattle.fc_segment.proofs.BlockMarks.{next_is_parent, some_parent}
use Rattle.fc_segment.proofs.segment_core.SegmentCore.parent_of.Goals as goal

pub unreachable-requires : goal.unreachable-requires
unreachable-requires c =
    let marks : c.self.inside.parents ≡ parents_in c.args.self.now.blocks = sym (parents_in-stored c.self.inside c.self.invariant) ∙ ap (λ s. parents_in s.blocks) c.self.view_is in
    some_parent c.args.self.now.blocks c.args.at c.requires (subst (λ set. HasNoneFrom (contains set) c.args.at) marks (λ k low. c.in-None.ensures.found k low))

pub returns : goal.returns
returns c =
    let marks : c.self.inside.parents ≡ parents_in c.args.self.now.blocks = sym (parents_in-stored c.self.inside c.self.invariant) ∙ ap (λ s. parents_in s.blocks) c.self.view_is in
    next_is_parent c.args.self.now.blocks c.args.at c.in-Some.parent c.requires (subst (λ set. IsNextFrom (contains set) c.args.at c.in-Some.parent) marks c.in-Some.ensures.found)
