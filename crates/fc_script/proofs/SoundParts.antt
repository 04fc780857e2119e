-- What is known of a script by its parts.
use Rattle.std.proofs.Common.{◌≡◌, ℕ, zero, suc, ◌<◌, List, [], ◌∷◌, map, length, get_or, All, refl, sym, ◌∙◌, ap, subst, arith}
use Rattle.std.specs.Arc.{arc_value}
use Rattle.std.specs.List.{enumerate_from}
use Rattle.std.proofs.lemmas.List.{get_or-map, length-map}
use Rattle.std.proofs.lemmas.List.FromFn.{get_or-enumerate_from, length-enumerate_from, length-map-range_with_len}
use Rattle.fc_spec.specs.documents.Val.{Text}
use Rattle.fc_spec.specs.scripts.AskedScripts.{Asked, AskedScript}
use Rattle.fc_spec.specs.scripts.Phases as definition
use Rattle.fc_spec.specs.scripts.Script.{stream}
use Rattle.fc_spec.specs.scripts.ScriptParts.{Parts, parts_of}
use Rattle.fc_spec.specs.scripts.ScriptTotals.{Limits}
use Rattle.fc_spec.specs.scripts.ValidScripts.{IsWithin}
use Rattle.fc_base.specs.ValidSchema.{IsValidSchema}
use Rattle.fc_docs.specs.View.{batch_view}
use Rattle.fc_script.specs.CutBatches.{CutBatches}
use Rattle.fc_script.specs.GatheredView.{AreSoundPhases}
use Rattle.fc_script.specs.PartsView.{batches_view, parts_view, phase_view, phases_view}
use Rattle.fc_script.specs.SoundScripts.{CutLists, IsBatchOf, IsSound}
use Rattle.fc_script.specs.declared.script.Phase.{Phase}
use Rattle.fc_script.specs.declared.script.Script.{Script}
use Rattle.fc_script.proofs.GatheredSteps.{phases_length}
use Rattle.fc_script.proofs.gathered.CutBatches.{phases_cut_batches}
use Rattle.fc_script.proofs.gathered.ValidBatches.{batches_are}

-- ---- the same lists, seen or not

module _ {X Y Z : Type 0} (f : X → List Y) (see : Y → Z) where
  seen_length : (xs : List X) (i : ℕ) → length (get_or (map (λ x. map see (f x)) xs) i []) ≡ length (get_or (map f xs) i [])
  seen_length [] i = refl
  seen_length (x ∷ xs) zero = length-map (f x) see
  seen_length (x ∷ xs) (suc i) = seen_length xs i

  cut_seen : (xs : List X) (numbers : List ℕ) → CutBatches (map (λ x. map see (f x)) xs) numbers → CutLists (map f xs) numbers
  cut_seen xs numbers cut =
      let first = length-map xs (λ x. map see (f x)) in
      let second = length-map xs f in
      record {
        count = cut.lengths ∙ first ∙ sym second;
        each = λ i below. let within = cut.within i [] (omega arith) in let same = seen_length xs i in omega arith;
      }

-- ---- phases

commits_at : (sessions : List Text) (ps : List Phase) (k : ℕ) (d : Phase) → k < length ps → (get_or (phases_view sessions ps) k (phase_view sessions (0, d))).commits ≡ (get_or ps k d).commits.items
commits_at sessions ps k d below =
    let long = length-enumerate_from 0 ps in
    ap (λ (p : definition.Phase Asked). p.commits) (get_or-map (phase_view sessions) (enumerate_from 0 ps) k (0, d) (phase_view sessions (0, d)) (omega arith))
    ∙ ap (λ (n : ℕ × Phase). n.1.commits.items) (get_or-enumerate_from 0 ps k (0, d) below)

abbrev phases_cut : Parts Asked → Type 0
phases_cut parts = All (λ p. CutBatches parts.batches p.commits) parts.phases

-- ---- batches

All-unmap : {X Y : Type 0} (P : Y → Type 0) (f : X → Y) (xs : List X) → All P (map f xs) → All (λ x. P (f x)) xs
All-unmap P f xs all k d below = subst P (get_or-map f xs k d (f d) below) (all k (f d) (let long = length-map xs f in omega arith))

abbrev valid_batches : Limits → Parts Asked → Type 0
valid_batches limits parts = All (All (IsBatchOf limits parts.schema)) parts.batches

-- ---- the script

pub sound_parts : (script : Script) (S : AskedScript) → parts_view script ≡ parts_of S → (limits : Limits) → IsWithin limits S → AreSoundPhases (arc_value script.schema) (length script.sessions.items) script → IsValidSchema (arc_value script.schema)
    → IsSound limits script
sound_parts script S same limits within sound valid = record {
  schema = valid;
  shards =
      sym (length-map script.batches.items (λ b. batches_view b.items)) ∙ ap (λ (p : Parts Asked). length p.batches) same
      ∙ length-map-range_with_len (stream S.lines) 0 S.schema.shards ∙ sym (ap (λ (p : Parts Asked). p.schema.shards) same);
  batches = All-unmap (All (IsBatchOf limits (arc_value script.schema))) (λ b. batches_view b.items) script.batches.items (subst (valid_batches limits) (sym same) (batches_are limits S within));
  phases = λ k d below. record {
    commits = cut_seen (λ b. b.items) batch_view script.batches.items (get_or script.phases.items k d).commits.items
        (subst (CutBatches (map (λ b. batches_view b.items) script.batches.items)) (commits_at script.sessions.items script.phases.items k d below)
        (cut k (phase_view script.sessions.items (0, d)) (let long = phases_length script.sessions.items script.phases.items in omega arith)));
    searches = sound k d below;
  };
}
  where
    cut : phases_cut (parts_view script)
    cut = subst phases_cut (sym same) (phases_cut_batches S)
