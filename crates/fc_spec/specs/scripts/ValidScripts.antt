-- What is counted over the lines of a script is within its limits.
use Rattle.std.specs.Prelude.{◌≡◌, All, IsTrue, Ok}
use Rattle.std.specs.List.{filter_map}
use Rattle.fc_spec.specs.documents.ValidBlocks.{IsBlockOf}
use Rattle.fc_spec.specs.scripts.Script.{Script}
use Rattle.fc_spec.specs.scripts.ScriptTotals.{Limits, added, documents_added, few_commits, few_sessions, few_syncs}
use Rattle.fc_spec.specs.scripts.ScriptReading.{check_documents}

-- its blocks are of its schema, and all that is counted over its lines is within its limit
pub record IsWithin {A : Type 0} (limits : Limits) (S : Script A) : Type 0 where
  pub blocks : All (IsBlockOf S.schema) (filter_map added S.lines)
  pub documents : check_documents limits S.schema (documents_added S.lines) ≡ Ok tt
  pub commits : IsTrue (few_commits S.schema S.lines)
  pub sessions : IsTrue (few_sessions S.lines)
  pub syncs : IsTrue (few_syncs S.lines)
