-- The segments behind operations.
use Rattle.std.proofs.Common.{◌≡◌, ◌≤◌, List, [], ◌∷◌, ◌++◌, length, map, replicate, Bool, true, false, not, count_by, All, IsTrue, refl, sym, ap, subst, ◌∙◌, arith, append-nil}
use Rattle.std.specs.List.{filter}
use Rattle.std.specs.Prelude.{sum_by}
use Rattle.std.proofs.lemmas.List.Elements.{All-cons, All-head, All-nil, All-tail}
use Rattle.std.proofs.lemmas.List.Sums.{count_by-le-length, sum_by-append}
use Rattle.fc_spec.specs.documents.Val.{Text, Val, text, long}
use Rattle.fc_spec.specs.documents.Document.{Block, values_of, Op, adding, deleting}
use Rattle.fc_spec.specs.documents.Operations.{after_ops, blocks_added, is_named, left_of}
use Rattle.fc_spec.specs.documents.Live.{left_set, live_in, parents_in_set}
use Rattle.fc_spec.specs.documents.Schema.{Schema, texts_held}
use Rattle.fc_spec.specs.documents.Totals.{document_total}
use Rattle.fc_spec.specs.documents.ValidBlocks.{IsBlockOf, is_value_of}
use Rattle.fc_spec.specs.scripts.WorldLimits.{IsWithinLimits}
use Rattle.fc_spec.proofs.documents.LeftBlocks.{after_is, after_sum, added_sum}
use Rattle.fc_spec.proofs.documents.LiveBlocks.{left_has, left_live}
use Rattle.fc_spec.proofs.scripts.WorldTotals.{fewer_within}
use Rattle.fc_spec.proofs.words.Counting.{count_by-cons}
use Rattle.fc_base.specs.ValidSchema.{IsValidSchema, id_field}
use Rattle.fc_segment.specs.Merged.{live_blocks}
use Rattle.fc_segment.specs.Segmented.{Segmented}
use Rattle.fc_store.specs.Named.{has_one_of, IsText, NamesId}
use Rattle.fc_store.specs.Segments.{AreSegmentsOf, without}
use Rattle.fc_store.proofs.LiveSegments.{full_has, full_live, kept_hold, kept_total, one_segment, part_within}

-- ---- the ids of valid blocks are texts

id_is_text : (s : Schema) (b : Block) → IsValidSchema s → IsBlockOf s b → IsText (values_of b.parent 0)
id_is_text s b valid is = go (values_of b.parent 0) is.parent.id (is.parent.values 0 id_field valid.list.id_first).of_type
  where
    go : (values : List Val) → length values ≡ 1 → All (λ v. IsTrue (is_value_of id_field.kind v)) values → IsText values
    go [] one all = absurd cc
    go (text t ∷ []) one all = tt
    go (text t ∷ v ∷ values) one all = absurd (omega arith)
    go (long n ∷ values) one all = let wrong : IsTrue (is_value_of id_field.kind (long n)) = All-head (λ v. IsTrue (is_value_of id_field.kind v)) (long n) values all in absurd cc

pub ids_named : (s : Schema) (ops : List Op) → IsValidSchema s → All (IsBlockOf s) (blocks_added ops) → All NamesId ops
ids_named s [] valid all = All-nil NamesId
ids_named s (adding b ∷ ops) valid all =
    All-cons NamesId (adding b) ops (id_is_text s b valid (All-head (IsBlockOf s) b (blocks_added ops) all)) (ids_named s ops valid (All-tail (IsBlockOf s) b (blocks_added ops) all))
ids_named s (deleting x ∷ ops) valid all = All-cons NamesId (deleting x) ops tt (ids_named s ops valid all)

-- the segments without the blocks of ids are those without what operations name
pub same_named : (ids : List Text) (ops : List Op) (gs : List Segmented) → ((b : Block) → has_one_of ids b ≡ is_named ops b) → map (without (has_one_of ids)) gs ≡ map (without (is_named ops)) gs
same_named ids ops gs same = λ i. map (without (λ b. same b i)) gs

-- ---- limits

pub after_within : (blocks : List Block) (ops : List Op) → IsWithinLimits ((blocks ++ blocks_added ops) ∷ []) → IsWithinLimits (after_ops blocks ops ∷ [])
after_within blocks ops limits =
    fewer_within (after_ops blocks ops ∷ []) ((blocks ++ blocks_added ops) ∷ []) (omega arith)
    (λ f. omega (
      arith,
      after_sum f blocks ops,
      added_sum f ops,
      sum_by-append f blocks (blocks_added ops),
      ap (sum_by f) (append-nil (after_ops blocks ops)),
      ap (sum_by f) (append-nil (blocks ++ blocks_added ops)),
    ))
    limits

pub added_within : (blocks : List Block) (ops : List Op) → IsWithinLimits ((blocks ++ blocks_added ops) ∷ []) → IsWithinLimits (blocks_added ops ∷ [])
added_within blocks ops limits = part_within blocks (blocks_added ops) limits

pub left_within : (blocks : List Block) (ops : List Op) → IsWithinLimits ((blocks ++ blocks_added ops) ∷ []) → IsWithinLimits (left_of ops ∷ [])
left_within blocks ops limits = subst (λ l. IsWithinLimits (l ∷ [])) (after_is [] ops) (after_within [] ops (added_within blocks ops limits))

pub left_valid : (s : Schema) (ops : List Op) → All (IsBlockOf s) (blocks_added ops) → All (IsBlockOf s) (left_of ops)
left_valid s ops valid = subst (All (IsBlockOf s)) (left_live ops) (kept_hold (IsBlockOf s) (parents_in_set (blocks_added ops) (left_set ops)) (blocks_added ops) valid)

-- ---- what is added

-- a segment of what operations add and leave, behind blocks: it is of the schema, and with those without what the operations name its live blocks are what they leave
pub record IsAdded (s : Schema) (blocks : List Block) (ops : List Op) (g : Segmented) : Type 0 where
  pub segment : AreSegmentsOf s (g ∷ [])
  pub left : filter (λ b. not (is_named ops b)) blocks ++ live_blocks g ≡ after_ops blocks ops

-- all that they add, with what they leave live
pub marked_added : (s : Schema) (blocks : List Block) (ops : List Op) (g : Segmented) → All (IsBlockOf s) (blocks_added ops) → IsWithinLimits ((blocks ++ blocks_added ops) ∷ [])
    → g ≡ record { texts = texts_held s.fields; blocks = blocks_added ops; live = left_set ops } → IsAdded s blocks ops g
marked_added s blocks ops g valid limits is = subst (IsAdded s blocks ops) (sym is) (record {
  segment = one_segment s (record { texts = texts_held s.fields; blocks = blocks_added ops; live = left_set ops }) refl valid (added_within blocks ops limits) (left_has ops);
  left = ap (λ (l : List Block). filter (λ b. not (is_named ops b)) blocks ++ l) (left_live ops) ∙ sym (after_is blocks ops);
})

-- of what they leave alone, all of it live
pub only_added : (s : Schema) (blocks : List Block) (ops : List Op) (g : Segmented) → All (IsBlockOf s) (blocks_added ops) → IsWithinLimits ((blocks ++ blocks_added ops) ∷ [])
    → g ≡ record { texts = texts_held s.fields; blocks = left_of ops; live = replicate (document_total (left_of ops)) true } → IsAdded s blocks ops g
only_added s blocks ops g valid limits is = subst (IsAdded s blocks ops) (sym is) (record {
  segment = one_segment s (record { texts = texts_held s.fields; blocks = left_of ops; live = replicate (document_total (left_of ops)) true }) refl (left_valid s ops valid) (left_within blocks ops limits) (full_has (left_of ops));
  left = ap (λ (l : List Block). filter (λ b. not (is_named ops b)) blocks ++ l) (full_live (left_of ops)) ∙ sym (after_is blocks ops);
})

-- ---- a batch of those blocks alone

pub added_of : (bs : List Block) → blocks_added (map adding bs) ≡ bs
added_of [] = refl
added_of (b ∷ bs) = ap (λ l. b ∷ l) (added_of bs)

pub left_alone : (ops : List Op) (set : List Bool) → set ≡ left_set ops → live_in (blocks_added ops) set ≡ left_of ops
left_alone ops set is = ap (live_in (blocks_added ops)) is ∙ left_live ops

pub left_few : (ops : List Op) → document_total (left_of ops) ≤ document_total (blocks_added ops)
left_few ops = subst (λ l. document_total l ≤ document_total (blocks_added ops)) (left_live ops) (kept_total (parents_in_set (blocks_added ops) (left_set ops)) (blocks_added ops))

-- ---- all of it

all_true : (set : List Bool) → count_by (λ here. here) set ≡ length set → set ≡ replicate (length set) true
all_true [] same = refl
all_true (true ∷ set) same = ap (λ l. true ∷ l) (all_true set (omega (arith, same, count_by-cons (λ here. here) true set)))
all_true (false ∷ set) same = absurd (omega (arith, same, count_by-cons (λ here. here) false set, count_by-le-length (λ here. here) set))

pub all_live : (blocks : List Block) (set : List Bool) → length set ≡ document_total blocks → count_by (λ here. here) set ≡ length set → live_in blocks set ≡ blocks
all_live blocks set count same = ap (live_in blocks) (all_true set same ∙ ap (λ n. replicate n true) count) ∙ full_live blocks
