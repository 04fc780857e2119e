-- The script that lines add up to.
use Rattle.std.proofs.Common.{◌≡◌, List, length, IfOk, Result, Ok, Err, sym, ◌∙◌, ap, subst}
use Rattle.std.specs.Arc.{arc_value}
use Rattle.fc_spec.specs.documents.Val.{Text}
use Rattle.fc_spec.specs.scripts.AskedScripts.{Asked, AskedScript}
use Rattle.fc_spec.specs.scripts.ScriptParts.{Parts, parts_of}
use Rattle.fc_spec.specs.scripts.ScriptTotals.{Limits, sessions}
use Rattle.fc_spec.specs.scripts.ValidScripts.{IsWithin}
use Rattle.fc_base.specs.ValidSchema.{IsValidSchema}
use Rattle.fc_script.specs.Gathered as gathered
use Rattle.fc_script.specs.GatheredView.{AreSoundPhases}
use Rattle.fc_script.specs.PartsView.{parts_view}
use Rattle.fc_script.specs.ReadView.{HasParts}
use Rattle.fc_script.specs.SoundScripts.{IsSound}
use Rattle.fc_script.specs.declared.script.Script.{Script}
use Rattle.fc_script.proofs.SoundParts.{sound_parts}
use Rattle.fc_script.proofs.gathered.GatheredParts.{gathered_parts_are}

-- ---- behind all lines

module _ (S : AskedScript) (known : List Text) (is_known : known ≡ sessions S.lines) (g : gathered.Gathered) (all : g ≡ gathered.gathered S.schema S.lines) where
  parts : gathered.gathered_parts S.schema known g ≡ parts_of S
  parts = (λ i. gathered.gathered_parts S.schema (is_known i) (all i)) ∙ gathered_parts_are S

  sound_script : (script : Script) → parts_view script ≡ parts_of S → (limits : Limits) → IsWithin limits S → AreSoundPhases S.schema (length known) script → IsValidSchema S.schema → IsSound limits script
  sound_script script same limits within sound valid =
      let schema : S.schema ≡ arc_value script.schema = sym (ap (λ (p : Parts Asked). p.schema) same) in
      let number : known ≡ script.sessions.items = is_known ∙ sym (ap (λ (p : Parts Asked). p.sessions) same) in
      sound_parts script S same limits within (subst (λ s. AreSoundPhases s (length script.sessions.items) script) schema (subst (λ ts. AreSoundPhases S.schema (length ts) script) number sound)) (subst IsValidSchema schema valid)

  pub has_parts : {E : Type 0} (r : Result Script E) → IfOk r (λ script. parts_view script ≡ gathered.gathered_parts S.schema known g) → (limits : Limits) → IsWithin limits S → IfOk r (AreSoundPhases S.schema (length known)) → IsValidSchema S.schema
      → IfOk r (λ script. HasParts limits script S)
  has_parts (Ok script) is limits within sound valid = record { parts = is ∙ parts; within = within; sound = sound_script script (is ∙ parts) limits within sound valid }
  has_parts (Err e) is limits within sound valid = tt
