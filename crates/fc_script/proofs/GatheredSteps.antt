-- What one line does to what the lines before it add up to.
use Rattle.std.proofs.Common.{◌≡◌, ℕ, suc, ◌+◌, List, [], ◌∷◌, ◌++◌, map, length, Vec, Global, refl, sym, ◌∙◌, ap, arith}
use Rattle.std.specs.Arc.{arc_value}
use Rattle.std.specs.List.{enumerate_from}
use Rattle.std.proofs.lemmas.List.{length-map, map-append}
use Rattle.std.proofs.lemmas.List.FromFn.{length-enumerate_from}
use Rattle.fc_spec.specs.documents.Schema.{Schema}
use Rattle.fc_spec.specs.documents.Val.{Text}
use Rattle.fc_docs.specs.View.{batch_view}
use Rattle.fc_lines.specs.LineView.{asked_view}
use Rattle.fc_script.specs.Gathered as gathered
use Rattle.fc_script.specs.GatheredView.{gathered_view}
use Rattle.fc_script.specs.PartsView.{batches_view, parts_view, phase_view, phases_view, search_view, session_at}
use Rattle.fc_script.specs.ShardView.{shard_view}
use Rattle.fc_script.specs.declared.gather.gathered.Gathered.{Gathered}
use Rattle.fc_script.specs.declared.gather.shards.ShardSoFar.{ShardSoFar}
use Rattle.fc_script.specs.declared.script.Phase.{Phase}
use Rattle.fc_script.specs.declared.script.Script.{Script}
use Rattle.fc_script.specs.declared.script.Search.{Search}

-- ---- phases

numbered-push : (sessions : List Text) (n : ℕ) (ps : List Phase) (p : Phase)
    → map (phase_view sessions) (enumerate_from n (ps ++ p ∷ [])) ≡ map (phase_view sessions) (enumerate_from n ps) ++ phase_view sessions (n + length ps, p) ∷ []
numbered-push sessions n [] p = let same : n ≡ n + 0 = omega arith in ap (λ k. phase_view sessions (k, p) ∷ []) same
numbered-push sessions n (q ∷ ps) p =
    let same : n + 1 + length ps ≡ n + suc (length ps) = omega arith in
    ap (λ rest. phase_view sessions (n, q) ∷ rest) (numbered-push sessions (n + 1) ps p ∙ ap (λ k. map (phase_view sessions) (enumerate_from (n + 1) ps) ++ phase_view sessions (k, p) ∷ []) same)

-- one more phase
phases-push : (sessions : List Text) (ps : List Phase) (p : Phase) → phases_view sessions (ps ++ p ∷ []) ≡ phases_view sessions ps ++ phase_view sessions (length ps, p) ∷ []
phases-push sessions ps p =
    let same : 0 + length ps ≡ length ps = omega arith in
    numbered-push sessions 0 ps p ∙ ap (λ k. phases_view sessions ps ++ phase_view sessions (k, p) ∷ []) same

pub phases_length : (sessions : List Text) (ps : List Phase) → length (phases_view sessions ps) ≡ length ps
phases_length sessions ps = length-map (enumerate_from 0 ps) (phase_view sessions) ∙ length-enumerate_from 0 ps

commits_are : (xs : List ShardSoFar) → map (λ x. length x.batches.items) xs ≡ map (λ x. length x.batches) (map shard_view xs)
commits_are [] = refl
commits_are (x ∷ xs) = λ i. sym (length-map x.batches.items batch_view) i ∷ commits_are xs i

-- ---- the end of a phase

module _ (old new : Gathered) (p : Phase) (shards : new.shards.items ≡ old.shards.items) (phases : new.phases.items ≡ old.phases.items ++ p ∷ []) (searches : new.searches.items ≡ [])
    (commits : p.commits.items ≡ map (λ x. length x.batches.items) old.shards.items) (moved : p.searches.items ≡ old.searches.items) where
  pub synced : (sessions : List Text) → gathered_view sessions new ≡ gathered.with_sync (gathered_view sessions old)
  synced sessions =
      let last : phase_view sessions (length old.phases.items, p) ≡ gathered.open_phase (gathered_view sessions old) = λ i. record {
        commits = (commits ∙ commits_are old.shards.items) i;
        searches = map (search_view sessions (length old.phases.items)) (moved i);
      } in
      let ended : phases_view sessions new.phases.items ≡ phases_view sessions old.phases.items ++ gathered.open_phase (gathered_view sessions old) ∷ [] =
      ap (phases_view sessions) phases ∙ phases-push sessions old.phases.items p ∙ ap (λ q. phases_view sessions old.phases.items ++ q ∷ []) last in
      let none : map (search_view sessions (length new.phases.items)) new.searches.items ≡ [] = ap (map (search_view sessions (length new.phases.items))) searches in
      λ i. record { shards = map shard_view (shards i); phases = ended i; searches = none i }

-- ---- a search

module _ (old new : Gathered) (q : Search) (shards : new.shards.items ≡ old.shards.items) (phases : new.phases.items ≡ old.phases.items) (searches : new.searches.items ≡ old.searches.items ++ q ∷ []) where
  pub searched : (sessions : List Text) (session : Text) → session_at sessions q.session ≡ session → gathered_view sessions new ≡ gathered.with_search session (asked_view q.request) (gathered_view sessions old)
  searched sessions session is =
      let number : length old.phases.items ≡ length (phases_view sessions old.phases.items) = sym (phases_length sessions old.phases.items) in
      let more : map (search_view sessions (length new.phases.items)) new.searches.items
      ≡ map (search_view sessions (length old.phases.items)) old.searches.items ++ record { phase = length (phases_view sessions old.phases.items); session = session; request = asked_view q.request } ∷ [] =
      (λ i. map (search_view sessions (length (phases i))) (searches i)) ∙ map-append (search_view sessions (length old.phases.items)) old.searches.items (q ∷ [])
      ∙ (λ i. map (search_view sessions (length old.phases.items)) old.searches.items ++ record { phase = number i; session = is i; request = asked_view q.request } ∷ []) in
      λ i. record { shards = map shard_view (shards i); phases = phases_view sessions (phases i); searches = more i }

-- ---- the script

batches_are : (xs : List ShardSoFar) → map (λ x. batches_view x.batches.items) xs ≡ map (λ x. x.batches) (map shard_view xs)
batches_are [] = refl
batches_are (x ∷ xs) = ap (λ bs. batches_view x.batches.items ∷ bs) (batches_are xs)

-- where the lines end
pub finished : (s : Schema) (sessions : List Text) (old new : Gathered) (script : Script) → gathered_view sessions new ≡ gathered.with_sync (gathered_view sessions old) → new.shards ≡ old.shards → arc_value script.schema ≡ s → script.sessions.items ≡ sessions
    → map (λ b. batches_view b.items) script.batches.items ≡ map (λ x. batches_view x.batches.items) new.shards.items → script.phases.items ≡ new.phases.items
    → parts_view script ≡ gathered.gathered_parts s sessions (gathered_view sessions old)
finished s sessions old new script ended same schema among batches phases =
    let all : map (λ b. batches_view b.items) script.batches.items ≡ map (λ x. x.batches) (map shard_view old.shards.items) =
    batches ∙ ap (λ (v : Vec ShardSoFar Global). map (λ x. batches_view x.batches.items) v.items) same ∙ batches_are old.shards.items in
    let parted : phases_view script.sessions.items script.phases.items ≡ (gathered.with_sync (gathered_view sessions old)).phases =
    (λ i. phases_view (among i) (phases i)) ∙ ap (λ (g : gathered.Gathered). g.phases) ended in
    λ i. record { schema = schema i; sessions = among i; batches = all i; phases = parted i }
