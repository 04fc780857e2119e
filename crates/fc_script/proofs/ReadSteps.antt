-- What a reader holds with one line more.
use Rattle.std.proofs.Common.{◌≡◌, ℕ, List, [], ◌∷◌, ◌++◌, length, map, All, Option, None, refl, sym, ◌∙◌, ap, subst}
use Rattle.std.specs.List.{filter_map}
use Rattle.std.proofs.lemmas.List.Elements.{All-append, All-cons, All-nil}
use Rattle.fc_spec.specs.documents.Document.{Block, adding, deleting}
use Rattle.fc_spec.specs.documents.Val.{Text}
use Rattle.fc_spec.specs.documents.ValidBlocks.{IsBlockOf}
use Rattle.fc_spec.specs.scripts.AskedScripts.{Asked, AskedLine}
use Rattle.fc_spec.specs.scripts.Script.{add, delete, commit, sync, asks}
use Rattle.fc_spec.specs.scripts.ScriptTotals.{Limits, added}
use Rattle.fc_script.specs.DocumentCounts.{AreDocumentCounts}
use Rattle.fc_script.specs.Gathered as definition
use Rattle.fc_script.specs.GatheredView.{gathered_view, HasSoundSearches, IsSoundSoFar}
use Rattle.fc_script.specs.PartsView.{phases_view, search_view}
use Rattle.fc_script.specs.ReadView.{HasRead, Holds}
use Rattle.fc_script.specs.Sessions.{with_session}
use Rattle.fc_script.specs.ShardView.{shard_view}
use Rattle.fc_script.specs.SoundScripts.{IsSoundSearch}
use Rattle.fc_script.specs.declared.counts.documents.DocumentCounts.{DocumentCounts}
use Rattle.fc_script.specs.declared.gather.gathered.Gathered.{Gathered}
use Rattle.fc_script.specs.declared.script_reader.ScriptReader.{ScriptReader}
use Rattle.fc_script.proofs.CountedLines.{added-add, added-other, sessions-search, sessions-other}
use Rattle.fc_script.proofs.GatheredCounts.{gathered-push}
use Rattle.fc_script.proofs.MoreSessions.{gathered_with, sound_with}
use Rattle.fc_script.proofs.ReaderAnswers.{so_far, pushed}

module _ (m : Limits) (old : ScriptReader) (ls : List AskedLine) (has : HasRead old (so_far m old ls)) (counts : DocumentCounts) (names : List Text) (g : Gathered) where
  abbrev HoldsWith : AskedLine → Type 0
  HoldsWith l = Holds old.schema counts names g (pushed (so_far m old ls) l)

  -- what the lines add up to
  stepped : (l : AskedLine) → gathered_view names g ≡ definition.after (gathered_view old.sessions.items old.gathered) l → gathered_view names g ≡ definition.gathered old.schema (ls ++ l ∷ [])
  stepped l step = step ∙ ap (λ h. definition.after h l) has.gathered ∙ sym (gathered-push old.schema ls l)

  blocks_other : (l : AskedLine) → added l ≡ None → All (IsBlockOf old.schema) (filter_map added (ls ++ l ∷ []))
  blocks_other l none = subst (All (IsBlockOf old.schema)) (sym (added-other ls l none)) has.blocks

  documents_other : (l : AskedLine) → added l ≡ None → counts ≡ old.documents → AreDocumentCounts m (length old.schema.fields) (filter_map added (ls ++ l ∷ [])) counts
  documents_other l none same = subst (λ bs. AreDocumentCounts m (length old.schema.fields) bs counts) (sym (added-other ls l none)) (subst (AreDocumentCounts m (length old.schema.fields) (filter_map added ls)) (sym same) has.documents)

  -- the searches, where sessions and phases stay
  sound_same : names ≡ old.sessions.items → g.phases ≡ old.gathered.phases → g.searches ≡ old.gathered.searches → IsSoundSoFar old.schema (length names) g
  sound_same among phases searches = subst (λ ts. IsSoundSoFar old.schema (length ts) g) (sym among) (record {
    phases = subst (All (HasSoundSearches old.schema (length old.sessions.items))) (ap (λ v. v.items) (sym phases)) has.sound.phases;
    searches = subst (All (IsSoundSearch old.schema (length old.sessions.items))) (ap (λ v. v.items) (sym searches)) has.sound.searches;
  })

  -- what was gathered, where shards alone change
  shards_alone : (xs : List definition.ShardSoFar) → names ≡ old.sessions.items → map shard_view g.shards.items ≡ xs → g.phases ≡ old.gathered.phases → g.searches ≡ old.gathered.searches
      → gathered_view names g ≡ record (gathered_view old.sessions.items old.gathered) { shards = xs }
  shards_alone xs among shards phases searches = λ i. record {
    shards = shards i;
    phases = phases_view (among i) (phases i).items;
    searches = map (search_view (among i) (length (phases i).items)) (searches i).items;
  }

  -- a block
  pub with_block : (shard : ℕ) (b : Block) → IsBlockOf old.schema b → names ≡ old.sessions.items → AreDocumentCounts m (length old.schema.fields) (filter_map added ls ++ b ∷ []) counts
      → map shard_view g.shards.items ≡ definition.changed_at (definition.with_op (adding b)) shard (map shard_view old.gathered.shards.items) → g.phases ≡ old.gathered.phases → g.searches ≡ old.gathered.searches → HoldsWith (add shard b)
  with_block shard b good among documents shards phases searches = record {
    schema = refl;
    blocks = subst (All (IsBlockOf old.schema)) (sym (added-add ls shard b)) (All-append (IsBlockOf old.schema) (filter_map added ls) (b ∷ []) has.blocks (All-cons (IsBlockOf old.schema) b [] good (All-nil (IsBlockOf old.schema))));
    documents = subst (λ bs. AreDocumentCounts m (length old.schema.fields) bs counts) (sym (added-add ls shard b)) documents;
    sessions = among ∙ has.sessions ∙ sym (sessions-other ls (add shard b) refl);
    gathered = stepped (add shard b) (shards_alone _ among shards phases searches);
    sound = sound_same among phases searches;
  }

  -- an id that is deleted
  pub with_delete : (shard : ℕ) (id : Text) → names ≡ old.sessions.items → counts ≡ old.documents → map shard_view g.shards.items ≡ definition.changed_at (definition.with_op (deleting id)) shard (map shard_view old.gathered.shards.items)
      → g.phases ≡ old.gathered.phases → g.searches ≡ old.gathered.searches → HoldsWith (delete shard id)
  with_delete shard id among documents shards phases searches = record {
    schema = refl;
    blocks = blocks_other (delete shard id) refl;
    documents = documents_other (delete shard id) refl documents;
    sessions = among ∙ has.sessions ∙ sym (sessions-other ls (delete shard id) refl);
    gathered = stepped (delete shard id) (shards_alone _ among shards phases searches);
    sound = sound_same among phases searches;
  }

  -- a commit
  pub with_commit : (o : Option ℕ) → names ≡ old.sessions.items → counts ≡ old.documents → map shard_view g.shards.items ≡ definition.with_commit_of o (map shard_view old.gathered.shards.items)
      → g.phases ≡ old.gathered.phases → g.searches ≡ old.gathered.searches → HoldsWith (commit o)
  with_commit o among documents shards phases searches = record {
    schema = refl;
    blocks = blocks_other (commit o) refl;
    documents = documents_other (commit o) refl documents;
    sessions = among ∙ has.sessions ∙ sym (sessions-other ls (commit o) refl);
    gathered = stepped (commit o) (shards_alone _ among shards phases searches);
    sound = sound_same among phases searches;
  }

  -- the end of a phase
  pub with_sync : names ≡ old.sessions.items → counts ≡ old.documents → gathered_view old.sessions.items g ≡ definition.with_sync (gathered_view old.sessions.items old.gathered) → IsSoundSoFar old.schema (length old.sessions.items) g
      → HoldsWith sync
  with_sync among documents step sound = record {
    schema = refl;
    blocks = blocks_other sync refl;
    documents = documents_other sync refl documents;
    sessions = among ∙ has.sessions ∙ sym (sessions-other ls sync refl);
    gathered = stepped sync ((λ i. gathered_view (among i) g) ∙ step);
    sound = subst (λ ts. IsSoundSoFar old.schema (length ts) g) (sym among) sound;
  }

  -- a search
  pub with_search : (session : Text) (a : Asked) → names ≡ with_session old.sessions.items session → counts ≡ old.documents → gathered_view names g ≡ definition.with_search session a (gathered_view names old.gathered)
      → (IsSoundSoFar old.schema (length names) old.gathered → IsSoundSoFar old.schema (length names) g) → HoldsWith (asks session a)
  with_search session a among documents step sound = record {
    schema = refl;
    blocks = blocks_other (asks session a) refl;
    documents = documents_other (asks session a) refl documents;
    sessions = among ∙ ap (λ ts. with_session ts session) has.sessions ∙ sym (sessions-search ls session a);
    gathered = stepped (asks session a) (step ∙ ap (definition.with_search session a) ((λ i. gathered_view (among i) old.gathered) ∙ gathered_with old.schema old.sessions.items session old.gathered has.sound));
    sound = sound (subst (λ ts. IsSoundSoFar old.schema (length ts) old.gathered) (sym among) (sound_with old.schema old.sessions.items session old.gathered has.sound));
  }
