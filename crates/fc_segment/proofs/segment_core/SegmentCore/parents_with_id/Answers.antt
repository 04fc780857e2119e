use Rattle.std.proofs.Common.{◌≡◌, ◌∙◌, ◌||◌, ◌&&◌, Bool, true, false, All, List, get_or, map, take, refl, ap, sym, subst, arith}
use Rattle.std.specs.List.{list_any}
use Rattle.std.proofs.lemmas.Bool.{and_parts}
use Rattle.std.proofs.lemmas.List.{take_all, length-map}
use Rattle.std.proofs.lemmas.List.Folds.{list_any_more}
use Rattle.std.proofs.lemmas.Simd.{map-map}
use Rattle.fc_spec.specs.documents.Columns.{column_of}
use Rattle.fc_spec.specs.documents.Document.{Document, values_of}
use Rattle.fc_spec.specs.documents.Live.{blocks_where}
use Rattle.fc_spec.specs.documents.Operations.{has_id}
use Rattle.fc_spec.specs.documents.Sets.{zip_with}
use Rattle.fc_spec.specs.documents.Totals.{documents_in}
use Rattle.fc_spec.specs.documents.Val.{text, has_val}
use Rattle.fc_docset.specs.Positions.{contains, positions}
use Rattle.fc_segment.specs.BlockPositions.{is_in_block_of}
use Rattle.fc_segment.specs.Parents.{parents_in}
use Rattle.fc_segment.proofs.BlockRanges.{joined_sets, length-blocks_where, ranges_of_parents}
use Rattle.fc_segment.proofs.Cutting.{length-parents_in}
use Rattle.fc_segment.proofs.ParentTexts.{contains_both, contains_within, positions_in}
use Rattle.fc_segment.proofs.segment_core.SegmentCore.parents_with_id.Goals as goal

pub add_block-requires-clause-parent : goal.add_block-requires-clause-parent
add_block-requires-clause-parent c =
    let blocks = c.args.self.now.blocks in
    let ds = documents_in blocks in
    let having = map (has_val (text c.args.id.now)) (column_of 0 ds) in
    let set = zip_with ◌&&◌ (parents_in blocks) having in
    let all = subst (All (λ at. contains set at ≡ true)) (sym c.parents_having-parent-items.ensures) (positions_in set) in
    let at = get_or c.parents_having-parent-items.result.now c.loop-parent.parent-index 0 in
    let even = length-parents_in blocks ∙ sym (length-map (column_of 0 ds) (has_val (text c.args.id.now)) ∙ length-map ds (λ (d : Document). values_of d 0)) in
    (and_parts (contains (parents_in blocks) at) (contains having at) (sym (contains_both (parents_in blocks) having at even) ∙ all c.loop-parent.parent-index 0 c.loop-parent-test.true)).0

pub add_block-requires-clause-within : goal.add_block-requires-clause-within
add_block-requires-clause-within c =
    let blocks = c.args.self.now.blocks in
    let ds = documents_in blocks in
    let having = map (has_val (text c.args.id.now)) (column_of 0 ds) in
    let set = zip_with ◌&&◌ (parents_in blocks) having in
    let all = subst (All (λ at. contains set at ≡ true)) (sym c.parents_having-parent-items.ensures) (positions_in set) in
    let at = get_or c.parents_having-parent-items.result.now c.loop-parent.parent-index 0 in
    let even = length-parents_in blocks ∙ sym (length-map (column_of 0 ds) (has_val (text c.args.id.now)) ∙ length-map ds (λ (d : Document). values_of d 0)) in
    let parent = (and_parts (contains (parents_in blocks) at) (contains having at) (sym (contains_both (parents_in blocks) having at even) ∙ all c.loop-parent.parent-index 0 c.loop-parent-test.true)).0 in
    omega (arith, contains_within (parents_in blocks) at parent, length-parents_in blocks)

or_assoc : (a b c : Bool) → ((a || b) || c) ≡ (a || (b || c))
or_assoc true b c = refl
or_assoc false b c = refl

pub loop-parent-preserved : goal.loop-parent-preserved
loop-parent-preserved c =
    let blocks = c.args.self.now.blocks in
    let items = c.parents_having-parent-items.result.now in
    let i = c.loop-parent.parent-index in
    record {
      set = λ k.
          c.add_block.ensures.set k ∙ ap (λ b. b || is_in_block_of blocks (get_or items i 0) k) (c.loop-parent.invariant.set k)
          ∙ or_assoc (contains c.args.into.now k) (list_any (λ at. is_in_block_of blocks at k) (take i items)) (is_in_block_of blocks (get_or items i 0) k)
          ∙ ap (λ b. contains c.args.into.now k || b) (sym (list_any_more (λ at. is_in_block_of blocks at k) items i 0 c.loop-parent-test.true));
      size = c.add_block.ensures.length ∙ c.loop-parent.invariant.size;
    }

pub returns : goal.returns
returns c =
    let blocks = c.args.self.now.blocks in
    let ds = documents_in blocks in
    let id = c.args.id.now in
    let items = c.parents_having-parent-items.result.now in
    joined_sets c.args.into.now c.loop-parent.into (blocks_where (has_id id) blocks) c.loop-parent.invariant.size (length-blocks_where (has_id id) blocks ∙ sym c.requires.length)
    (λ k. c.loop-parent.invariant.set k
    ∙ ap (λ b. contains c.args.into.now k || b)
    (ap (list_any (λ at. is_in_block_of blocks at k))
    (take_all c.loop-parent.parent-index items c.loop-parent-test.false ∙ c.parents_having-parent-items.ensures
    ∙ ap (λ (set : List Bool). positions (zip_with ◌&&◌ (parents_in blocks) set)) (map-map (has_val (text id)) (λ d. values_of d 0) ds))
    ∙ ranges_of_parents (λ d. has_val (text id) (values_of d 0)) blocks k))
