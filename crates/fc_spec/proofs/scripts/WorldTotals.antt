-- Each world of a script that is within the limits is within them, and so is all that its batches add.
use Rattle.std.proofs.Common.{◌≡◌, inl, inr, ℕ, ◌≤◌, List, [], ◌∷◌, length, Bool, true, false, nat_le, nat_abs, slice_index, Ok, refl, ap, arith}
use Rattle.std.specs.Prelude.{sum_by, All}
use Rattle.std.specs.List.{filter_map}
use Rattle.std.proofs.lemmas.Bool.{and_parts, and_from, leb-true, le-leb, cases_lt}
use Rattle.std.proofs.lemmas.List.{get_or_past, length-map}
use Rattle.std.proofs.lemmas.List.Elements.{All-head, All-tail}
use Rattle.std.proofs.lemmas.List.Sums.{sum_by-cons, AllPass-from_list_all}
use Rattle.std.proofs.lemmas.List.FromFn.{length-map-range_with_len}
use Rattle.fc_spec.specs.words.Lists.{joined, numbers_below}
use Rattle.fc_spec.specs.words.Walks.{◌>>=◌, unless}
use Rattle.fc_spec.specs.documents.Document.{Block, Document, values_of}
use Rattle.fc_spec.specs.documents.Operations.{blocks_added}
use Rattle.fc_spec.specs.documents.Columns.{longs_in}
use Rattle.fc_spec.specs.documents.Schema.{Schema}
use Rattle.fc_spec.specs.documents.Totals.{documents_of, documents_in, value_count}
use Rattle.fc_spec.specs.documents.ValidBlocks.{IsDocumentOf}
use Rattle.fc_spec.specs.documents.World.{World}
use Rattle.fc_spec.specs.scripts.AskedScripts.{AskedScript}
use Rattle.fc_spec.specs.scripts.PinnedWorlds.{world_added}
use Rattle.fc_spec.specs.scripts.ScriptParts.{batches}
use Rattle.fc_spec.specs.scripts.ValidScripts.{IsWithin}
use Rattle.fc_spec.specs.scripts.WorldLimits.{IsWithinLimits}
use Rattle.fc_spec.specs.scripts.Script.{generation, stream, world}
use Rattle.fc_spec.specs.scripts.ScriptTotals.{Limits, script_limits, added, documents_added, are_few, absolute_total, total_limit, sums_fit}
use Rattle.fc_spec.specs.scripts.ScriptReading.{check_documents}
use Rattle.fc_spec.specs.laws.ScriptLaws.{AddedAreWithin, WorldsAreWithin}
use Rattle.fc_spec.proofs.words.NumbersBelow.{below_all}
use Rattle.fc_spec.proofs.words.Sums.{sum_by-flat_map, sum_by-ones}
use Rattle.fc_spec.proofs.documents.BlockTotals.{valid_documents}
use Rattle.fc_spec.proofs.scripts.WorldBlocks.{all_added_sum, world_sum}

-- ---- what documents that pass the check count

passed_check : {E : Type 0} (a b : Bool) (e f : E) → (unless a e >>= λ _. unless b f) ≡ Ok tt → (a ≡ true) × (b ≡ true)
passed_check true true e f h = (refl, refl)
passed_check true false e f h = absurd cc
passed_check false b e f h = absurd cc

checked : (limits : Limits) (s : Schema) (ds : List Document) → check_documents limits s ds ≡ Ok tt → (sums_fit s ds ≡ true) × (are_few limits ds ≡ true)
checked limits s ds ok = passed_check (sums_fit s ds) (are_few limits ds) _ _ ok

-- of a field that the schema lacks there are no values
no_values : (s : Schema) (ds : List Document) (field : ℕ) → length s.fields ≤ field → All (IsDocumentOf s) ds → absolute_total ds field ≡ 0
no_values s [] field past valid = refl
no_values s (d ∷ ds) field past valid =
    let is = (All-head (IsDocumentOf s) d ds valid).lists in
    let none : values_of d field ≡ [] = get_or_past d field [] (omega arith) in
    let here = ap (λ vs. sum_by nat_abs (longs_in vs)) none in
    let rest = no_values s ds field past (All-tail (IsDocumentOf s) d ds valid) in
    let first = sum_by-cons (λ e. sum_by nat_abs (longs_in (values_of e field))) d ds in
    omega (arith, first, here, rest)

total_within : (s : Schema) (ds : List Document) (field : ℕ) → All (IsDocumentOf s) ds → sums_fit s ds ≡ true → absolute_total ds field ≤ total_limit
total_within s ds field valid fit = elim (cases_lt field (length s.fields)) [
  | inl below ↦ leb-true (absolute_total ds field) total_limit
      (below_all (λ n. nat_le (absolute_total ds n) total_limit ≡ true) (length s.fields) field (AllPass-from_list_all (λ n. nat_le (absolute_total ds n) total_limit) (numbers_below (length s.fields)) fit) below)
  | inr past ↦ (let none = no_values s ds field past valid in omega arith)
]

-- fewer documents with fewer values are within the same limits
pub few_within : (limits : Limits) (ds es : List Document) → length es ≤ length ds → value_count es ≤ value_count ds → are_few limits ds ≡ true → are_few limits es ≡ true
few_within limits ds es fewer less few =
    let parts = and_parts (nat_le (length ds) limits.documents) (nat_le (value_count ds) limits.values) few in
    let documents = leb-true (length ds) limits.documents parts.0 in
    let values = leb-true (value_count ds) limits.values parts.1 in
    and_from (nat_le (length es) limits.documents) (nat_le (value_count es) limits.values)
    (le-leb (length es) limits.documents (omega (arith, documents, fewer))) (le-leb (value_count es) limits.values (omega (arith, values, less)))

-- ---- blocks that measure no more than those that the lines of a script add

documents_sum : (f : Document → ℕ) (few many : List Block) → ((g : Block → ℕ) → sum_by g few ≤ sum_by g many) → sum_by f (documents_in few) ≤ sum_by f (documents_in many)
documents_sum f few many less =
    let block = λ (b : Block). sum_by f (documents_of b) in
    omega (arith, sum_by-flat_map f documents_of few, sum_by-flat_map f documents_of many, less block)

fewer_documents : (few many : List Block) → ((g : Block → ℕ) → sum_by g few ≤ sum_by g many) → length (documents_in few) ≤ length (documents_in many)
fewer_documents few many less = omega (arith, sum_by-ones (documents_in few), sum_by-ones (documents_in many), documents_sum (λ d. 1) few many less)

-- within the limits, where others are
pub fewer_within : (V W : World) → length V ≤ length W → ((f : Block → ℕ) → sum_by f (joined V) ≤ sum_by f (joined W)) → IsWithinLimits W → IsWithinLimits V
fewer_within V W shards less all = record {
  shards = (let few = all.shards in omega (arith, shards, few));
  few = few_within script_limits (documents_in (joined W)) (documents_in (joined V)) (fewer_documents (joined V) (joined W) less) (documents_sum (λ d. sum_by (λ vs. length vs) d) (joined V) (joined W) less) all.few;
  sums = λ field. (let most = all.sums field in let fewer = documents_sum (λ d. sum_by nat_abs (longs_in (values_of d field))) (joined V) (joined W) less in omega (arith, most, fewer));
}

-- and where a script is
script_within : (S : AskedScript) (W : World) → length W ≤ 64 → ((f : Block → ℕ) → sum_by f (joined W) ≤ sum_by f (filter_map added S.lines)) → IsWithin script_limits S → IsWithinLimits W
script_within S W few less valid = record {
  shards = few;
  few = few_within script_limits (documents_added S.lines) (documents_in (joined W)) (fewer_documents (joined W) (filter_map added S.lines) less) (documents_sum (λ d. sum_by (λ vs. length vs) d) (joined W) (filter_map added S.lines) less) now.1;
  sums = λ field. (let all = total_within S.schema (documents_added S.lines) field (valid_documents S.schema _ valid.blocks) now.0 in
      let fewer = documents_sum (λ d. sum_by nat_abs (longs_in (values_of d field))) (joined W) (filter_map added S.lines) less in omega (arith, all, fewer));
}
  where
    now : (sums_fit S.schema (documents_added S.lines) ≡ true) × (are_few script_limits (documents_added S.lines) ≡ true)
    now = checked script_limits S.schema (documents_added S.lines) valid.documents

-- ---- worlds, and all that is added

pub worlds_are_within : WorldsAreWithin
worlds_are_within S g few valid =
    let count = length-map-range_with_len (λ s. generation S.lines s (slice_index g s)) 0 S.schema.shards in
    script_within S (world S g) (omega (arith, count, few)) (λ f. world_sum f S g) valid

pub added_are_within : AddedAreWithin
added_are_within S few valid =
    let shards = length-map-range_with_len (stream S.lines) 0 S.schema.shards in
    let count = length-map (batches S) (λ bs. blocks_added (joined bs)) in
    script_within S (world_added (batches S)) (omega (arith, shards, count, few)) (λ f. all_added_sum f S) valid
