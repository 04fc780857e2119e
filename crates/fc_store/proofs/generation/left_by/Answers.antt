use Rattle.std.proofs.Common.{◌≡◌, ◌∙◌, not, map, ap, sym, subst}
use Rattle.std.specs.List.{filter}
use Rattle.std.specs.Arc.{arc_value}
use Rattle.fc_spec.specs.documents.Operations.{is_named}
use Rattle.fc_base.specs.ValidSchema.{IsValidSchema}
use Rattle.fc_segment.specs.Merged.{live_blocks_of}
use Rattle.fc_store.specs.Generated.{Generated}
use Rattle.fc_store.specs.Named.{has_one_of, ops_of, texts_of}
use Rattle.fc_store.specs.Segments.{AreSegmentsOf, without}
use Rattle.fc_store.specs.Tiers.{AreTiered, sizes_of}
use Rattle.fc_store.proofs.LiveSegments.{without_blocks, without_segments, without_sizes}
use Rattle.fc_store.proofs.NextSegments.{ids_named, same_named}
use Rattle.fc_store.proofs.generation.left_by.Goals as goal

pub named-requires-clause-names : goal.named-requires-clause-names
named-requires-clause-names c =
    let valid : IsValidSchema c.args.earlier.now.schema = subst IsValidSchema (c.deref.ensures ∙ ap (λ (g : Generated). g.schema) c.earlier.view_is) c.fields-fields.ensures.valid in
    ids_named c.args.earlier.now.schema (ops_of c.args.ops.now) valid c.requires.valid

-- ---- the segments that are left

module _ (c : goal.After-drop-ids-2) where
  segments_are : AreSegmentsOf c.args.earlier.now.schema (map arc_value c.segments-segments.result.now)
  segments_are = record {
    kinds = c.segments-segments.ensures.kinds;
    valid = c.segments-segments.ensures.valid;
    limits = c.segments-segments.ensures.limits;
    whole = c.segments-segments.ensures.whole;
  }

  kept_are : map arc_value c.in_ok-kept.kept.items ≡ map (without (is_named (ops_of c.args.ops.now))) (map arc_value c.segments-segments.result.now)
  kept_are =
      c.in_ok-kept.ensures ∙ ap (λ ids. map (without (has_one_of (texts_of ids))) (map arc_value c.segments-segments.result.now)) c.deref-2.ensures.value
      ∙ same_named (texts_of c.in_ok-left.ids.items) (ops_of c.args.ops.now) (map arc_value c.segments-segments.result.now) c.in_ok-left.ensures.ids

pub returns-clause-blocks : goal.returns-clause-blocks
returns-clause-blocks c =
    let named = is_named (ops_of c.args.ops.now) in
    ap live_blocks_of (kept_are c) ∙ without_blocks named (map arc_value c.segments-segments.result.now) c.segments-segments.ensures.whole
    ∙ (λ i. filter (λ b. not (named b)) (c.segments-segments.ensures.blocks i))

pub returns-clause-kept : goal.returns-clause-kept
returns-clause-kept c =
    subst (AreSegmentsOf c.args.earlier.now.schema) (sym (kept_are c))
    (without_segments c.args.earlier.now.schema (is_named (ops_of c.args.ops.now)) (map arc_value c.segments-segments.result.now) (segments_are c))

pub returns-clause-tiers : goal.returns-clause-tiers
returns-clause-tiers c =
    subst AreTiered (sym (ap sizes_of (kept_are c) ∙ without_sizes (is_named (ops_of c.args.ops.now)) (map arc_value c.segments-segments.result.now))) c.segments-segments.ensures.tiers
