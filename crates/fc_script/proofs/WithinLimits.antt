-- A script that was read is within its limits.
use Rattle.std.proofs.Common.{◌≡◌, ◌+◌, List, length, true, refl, sym, ◌∙◌, ap, arith}
use Rattle.std.specs.Prelude.{nat_le}
use Rattle.std.specs.List.{filter_map, list_all}
use Rattle.std.proofs.lemmas.Bool.{and_from}
use Rattle.std.proofs.lemmas.Bool.Decides.{nat_tests}
use Rattle.fc_spec.specs.documents.Document.{Block}
use Rattle.fc_spec.specs.scripts.ScriptTotals.{Limits, added, documents_added, absolute_total, total_limit, sums_fit, are_few}
use Rattle.fc_spec.specs.documents.Totals.{documents_in, document_total, value_total}
use Rattle.fc_spec.specs.scripts.ValidScripts.{IsWithin}
use Rattle.fc_script.specs.Gathered.{Gathered, has_few}
use Rattle.fc_script.specs.Left.{limits_with}
use Rattle.fc_script.specs.ReadSoFar.{ReadSoFar, script_so_far}
use Rattle.fc_script.specs.ReadView.{HasRead}
use Rattle.fc_script.specs.declared.script_reader.ScriptReader.{ScriptReader}
use Rattle.fc_script.proofs.GatheredCounts.{few_commits_are, few_syncs_are}
use Rattle.fc_script.proofs.GatheredSteps.{phases_length}
use Rattle.fc_script.proofs.InRange.{all_below}
use Rattle.fc_script.proofs.ReaderAnswers.{by_lines}

few_of : (left : Limits) (blocks : List Block) → are_few (limits_with left blocks) (documents_in blocks) ≡ true
few_of left blocks = and_from (nat_le (document_total blocks) (left.documents + document_total blocks)) (nat_le (value_total blocks) (left.values + value_total blocks)) (grind (arith, nat_tests)) (grind (arith, nat_tests))

-- what a reader has read
pub is_within : (r : ScriptReader) (S : ReadSoFar) → HasRead r S → IsWithin S.limits (script_so_far S)
is_within r = by_lines r (λ S. IsWithin S.limits (script_so_far S)) (λ m ls has.
    let s = r.schema in
    let fits : sums_fit s (documents_added ls) ≡ true = all_below (λ field. nat_le (absolute_total (documents_added ls) field) total_limit) (length s.fields) (λ field below.
    let is = has.documents.sums field in let most = has.documents.within field 0 (omega (arith, has.documents.count)) in grind (arith, nat_tests)) in
    let few : are_few m (documents_added ls) ≡ true = ap (λ limits. are_few limits (documents_added ls)) has.documents.left ∙ few_of _ (filter_map added ls) in
    record {
      blocks = has.blocks;
      documents = rw (fits, few) refl;
      commits = sym (few_commits_are s ls) ∙ ap (λ (g : Gathered). list_all has_few g.shards) (sym has.gathered) ∙ r.within.commits;
      sessions = let is = ap (λ known. length known) has.sessions in let most = r.within.sessions in grind (arith, nat_tests);
      syncs = sym (few_syncs_are s ls) ∙ ap (λ (g : Gathered). nat_le (length g.phases) 4096) (sym has.gathered) ∙ (let long = phases_length r.sessions.items r.gathered.phases.items in let most = r.within.phases in grind (arith, nat_tests));
    })
