-- Segments of a shard that is within the limits.
use Rattle.std.proofs.Common.{◌≡◌, ◌≤◌, ℕ, List, [], ◌∷◌, ◌++◌, length, drop, sym, ◌∙◌, ap, subst, arith, append-nil, length-append}
use Rattle.std.specs.Prelude.{nat_abs, sum_by, IsTrue, All}
use Rattle.std.specs.List.{AllByRecursion}
use Rattle.std.proofs.lemmas.List.Elements.{All-drop, All-head, All-same}
use Rattle.std.proofs.lemmas.List.Sums.{sum_by-append}
use Rattle.fc_spec.specs.words.Lists.{joined}
use Rattle.fc_spec.specs.documents.Columns.{longs_in}
use Rattle.fc_spec.specs.documents.Document.{Block, Document, values_of}
use Rattle.fc_spec.specs.documents.Totals.{documents_in, value_count}
use Rattle.fc_spec.specs.documents.World.{World}
use Rattle.fc_spec.specs.scripts.ScriptTotals.{absolute_total, are_few, script_limits}
use Rattle.fc_spec.specs.scripts.WorldLimits.{IsWithinLimits}
use Rattle.fc_spec.proofs.documents.BlockTotals.{documents_in-append}
use Rattle.fc_segment.specs.Segmented.{Segmented}

-- ---- each segment is within the limits

few_among : (before ds after : List Document) → IsTrue (are_few script_limits (before ++ (ds ++ after))) → IsTrue (are_few script_limits ds)
few_among before ds after few = grind (arith, both)
  where
    whole : (length (before ++ (ds ++ after)) ≤ 1_048_576) × (value_count (before ++ (ds ++ after)) ≤ 16_777_216)
    whole = grind (arith, few)

    total : List Document → ℕ
    total es = sum_by (λ (d : Document). sum_by (λ vs. length vs) d) es

    both : (length ds ≤ 1_048_576) × (value_count ds ≤ 16_777_216)
    both = (
      omega (arith, whole.0, length-append before (ds ++ after), length-append ds after),
      omega (arith, whole.1, sum_by-append (λ (d : Document). sum_by (λ vs. length vs) d) before (ds ++ after), sum_by-append (λ (d : Document). sum_by (λ vs. length vs) d) ds after),
    )

-- some blocks among others
pub part_within : (before blocks after : List Block) → IsWithinLimits ((before ++ (blocks ++ after)) ∷ []) → IsWithinLimits (blocks ∷ [])
part_within before blocks after limits = record {
  shards = omega arith;
  few = subst (λ ds. IsTrue (are_few script_limits ds)) (sym own) (few_among (documents_in before) (documents_in blocks) (documents_in after) (subst (λ ds. IsTrue (are_few script_limits ds)) whole limits.few));
  sums = λ field. omega (
    arith,
    ap (λ ds. absolute_total ds field) own,
    limits.sums field,
    ap (λ ds. absolute_total ds field) whole,
    sum_by-append (λ (d : Document). sum_by nat_abs (longs_in (values_of d field))) (documents_in before) (documents_in blocks ++ documents_in after),
    sum_by-append (λ (d : Document). sum_by nat_abs (longs_in (values_of d field))) (documents_in blocks) (documents_in after),
  );
}
  where
    own : documents_in (joined (blocks ∷ [])) ≡ documents_in blocks
    own = ap documents_in (append-nil blocks)

    whole : documents_in (joined ((before ++ (blocks ++ after)) ∷ [])) ≡ documents_in before ++ (documents_in blocks ++ documents_in after)
    whole = ap documents_in (append-nil (before ++ (blocks ++ after))) ∙ documents_in-append before (blocks ++ after) ∙ ap (λ ds. documents_in before ++ ds) (documents_in-append blocks after)

rest_within : (blocks : List Block) (V : World) → IsWithinLimits (joined (blocks ∷ V) ∷ []) → IsWithinLimits (joined V ∷ [])
rest_within blocks V limits = part_within blocks (joined V) [] (subst (λ l. IsWithinLimits ((blocks ++ l) ∷ [])) (sym (append-nil (joined V))) limits)

pub each_within : (V : World) → IsWithinLimits (joined V ∷ []) → AllByRecursion (λ blocks. IsWithinLimits (blocks ∷ [])) V
each_within [] limits = tt
each_within (blocks ∷ V) limits = (part_within [] blocks (joined V) limits, each_within V (rest_within blocks V limits))

-- the segment at a place
pub segment_within : (n : ℕ) (segments rest : List Segmented) (g : Segmented) → drop n segments ≡ g ∷ rest → All (λ g. IsWithinLimits (g.blocks ∷ [])) segments → IsWithinLimits (g.blocks ∷ [])
segment_within n segments rest g there all = All-head (λ g. IsWithinLimits (g.blocks ∷ [])) g rest (All-same (λ g. IsWithinLimits (g.blocks ∷ [])) (g ∷ rest) (drop n segments) (sym there) (All-drop (λ g. IsWithinLimits (g.blocks ∷ [])) n segments all))
