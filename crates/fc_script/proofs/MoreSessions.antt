-- What was gathered stands for the same when there are more sessions behind.
use Rattle.std.proofs.Common.{◌≡◌, ℕ, suc, ◌+◌, ◌≤◌, List, [], ◌∷◌, ◌++◌, length, map, Bool, true, false, cond, All, refl, arith}
use Rattle.std.specs.List.{enumerate_from, list_any}
use Rattle.std.proofs.lemmas.List.{get_or_append_left, length-append}
use Rattle.std.proofs.lemmas.List.Elements.{All-weaker}
use Rattle.fc_spec.specs.documents.Schema.{Schema}
use Rattle.fc_spec.specs.documents.Val.{Text, same_text}
use Rattle.fc_lines.specs.LineView.{asked_view}
use Rattle.fc_script.specs.GatheredView.{gathered_view, HasSoundSearches, IsSoundSoFar}
use Rattle.fc_script.specs.PartsView.{phase_view, search_view}
use Rattle.fc_script.specs.Sessions.{with_session}
use Rattle.fc_script.specs.ShardView.{shard_view}
use Rattle.fc_script.specs.SoundScripts.{IsSoundSearch}
use Rattle.fc_script.specs.declared.gather.gathered.Gathered.{Gathered}
use Rattle.fc_script.specs.declared.script.Phase.{Phase}
use Rattle.fc_script.specs.declared.script.Search.{Search}

-- ---- the same sessions

module _ (s : Schema) (ts more : List Text) where
  search_same : (p : ℕ) (q : Search) → IsSoundSearch s (length ts) q → search_view (ts ++ more) p q ≡ search_view ts p q
  search_same p q sound = λ i. record { phase = p; session = get_or_append_left ts more [] q.session sound.session i; request = asked_view q.request }

  searches_same : (p : ℕ) (qs : List Search) → All (IsSoundSearch s (length ts)) qs → map (search_view (ts ++ more) p) qs ≡ map (search_view ts p) qs
  searches_same p [] sound = refl
  searches_same p (q ∷ qs) sound = λ i. search_same p q (sound 0 q (omega arith)) i ∷ searches_same p qs (λ k d below. sound (suc k) d (omega arith)) i

  phases_same : (n : ℕ) (ps : List Phase) → All (HasSoundSearches s (length ts)) ps → map (phase_view (ts ++ more)) (enumerate_from n ps) ≡ map (phase_view ts) (enumerate_from n ps)
  phases_same n [] sound = refl
  phases_same n (p ∷ ps) sound =
      λ i. record { commits = p.commits.items; searches = searches_same n p.searches.items (sound 0 p (omega arith)) i }
      ∷ phases_same (n + 1) ps (λ k d below. sound (suc k) d (omega arith)) i

  gathered_same : (g : Gathered) → IsSoundSoFar s (length ts) g → gathered_view (ts ++ more) g ≡ gathered_view ts g
  gathered_same g sound = λ i. record {
    shards = map shard_view g.shards.items;
    phases = phases_same 0 g.phases.items sound.phases i;
    searches = searches_same (length g.phases.items) g.searches.items sound.searches i;
  }

-- with a session, which may be there
pub gathered_with : (s : Schema) (ts : List Text) (t : Text) (g : Gathered) → IsSoundSoFar s (length ts) g → gathered_view (with_session ts t) g ≡ gathered_view ts g
gathered_with s ts t g sound = go (list_any (same_text t) ts)
  where
    go : (b : Bool) → gathered_view (cond b ts (ts ++ t ∷ [])) g ≡ gathered_view ts g
    go true = refl
    go false = gathered_same s ts (t ∷ []) g sound

-- ---- no fewer sessions

more_search : (s : Schema) (n m : ℕ) → n ≤ m → (q : Search) → IsSoundSearch s n q → IsSoundSearch s m q
more_search s n m more q sound = record { session = let below = sound.session in omega arith; request = sound.request; root = sound.root }

more_sound : (s : Schema) (n m : ℕ) → n ≤ m → (g : Gathered) → IsSoundSoFar s n g → IsSoundSoFar s m g
more_sound s n m more g sound = record {
  phases = All-weaker (HasSoundSearches s n) (HasSoundSearches s m) (λ p. All-weaker (IsSoundSearch s n) (IsSoundSearch s m) (more_search s n m more) p.searches.items) g.phases.items sound.phases;
  searches = All-weaker (IsSoundSearch s n) (IsSoundSearch s m) (more_search s n m more) g.searches.items sound.searches;
}

pub sound_with : (s : Schema) (ts : List Text) (t : Text) (g : Gathered) → IsSoundSoFar s (length ts) g → IsSoundSoFar s (length (with_session ts t)) g
sound_with s ts t g sound = go (list_any (same_text t) ts)
  where
    go : (b : Bool) → IsSoundSoFar s (length (cond b ts (ts ++ t ∷ []))) g
    go true = sound
    go false = more_sound s (length ts) (length (ts ++ t ∷ [])) (let long = length-append ts (t ∷ []) in omega arith) g sound
