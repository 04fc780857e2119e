use Rattle.std.proofs.Common.{◌≡◌, ◌-◌, sym, ap, ◌∙◌, subst, arith}
use Rattle.fc_spec.specs.documents.Totals.{document_total}
use Rattle.fc_docset.specs.Positions.{contains}
use Rattle.fc_docset.specs.Neighbours.{IsLastUpTo, HasNoneUpTo}
use Rattle.fc_segment.specs.Parents.{parents_in}
use Rattle.fc_segment.proofs.StoredBlocks.{document_total-stored, parents_in-stored}
use Rattle.fc_segment.proofs.BlockMarks.{in_block, first_behind_last, first_of_all}
use Rattle.fc_segment.proofs.segment_core.SegmentCore.first_child.Goals as goal

pub returns-then-at-eq0 : goal.returns-then-at-eq0
returns-then-at-eq0 c = let is = in_block c.args.self.now.blocks c.args.at c.requires in omega (arith, is.first)

pub last_up_to-requires : goal.last_up_to-requires
last_up_to-requires c =
    let size = document_total-stored c.self.inside c.self.invariant in
    let same = ap (λ s. document_total s.blocks) c.self.view_is in
    omega (arith, size, same)

pub returns-in-Some : goal.returns-in-Some
returns-in-Some c =
    let marks : c.self.inside.parents ≡ parents_in c.args.self.now.blocks = sym (parents_in-stored c.self.inside c.self.invariant) ∙ ap (λ s. parents_in s.blocks) c.self.view_is in
    first_behind_last c.args.self.now.blocks c.args.at c.in-Some.parent c.requires (omega arith)
    (subst (λ set. IsLastUpTo (contains set) (c.args.at - 1) c.in-Some.parent) marks c.in-Some.ensures)

pub returns-in-None : goal.returns-in-None
returns-in-None c =
    let marks : c.self.inside.parents ≡ parents_in c.args.self.now.blocks = sym (parents_in-stored c.self.inside c.self.invariant) ∙ ap (λ s. parents_in s.blocks) c.self.view_is in
    first_of_all c.args.self.now.blocks c.args.at c.requires (omega arith)
    (subst (λ set. HasNoneUpTo (contains set) (c.args.at - 1)) marks (λ k high. c.in-None.ensures k high))
