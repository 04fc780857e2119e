-- Answers that tell of every root and lack nothing merge into the distributed reply.
use Rattle.std.proofs.Common.{◌≡◌, ℕ, List, [], ◌∷◌, length, true, cond, Option, None, Some, is_some, is_none, refl, inl}
use Rattle.std.specs.List.{AllByRecursion}
use Rattle.std.proofs.lemmas.Bool.{false≢true}
use Rattle.fc_spec.specs.words.Lists.{numbers_below}
use Rattle.fc_spec.specs.documents.World.{World}
use Rattle.fc_spec.specs.requests.Request.{Request}
use Rattle.fc_spec.specs.replies.Reply.{bucket}
use Rattle.fc_spec.specs.replies.Distributed.{root_bucket, distributed}
use Rattle.fc_spec.specs.messages.Message.{way_of}
use Rattle.fc_spec.specs.messages.Held.{HeldBucket, Told, held}
use Rattle.fc_spec.specs.messages.Merged.{over_held, merged}
use Rattle.fc_spec.specs.messages.Lacks.{Lack, untold, wanted, lacks}
use Rattle.fc_spec.specs.messages.Rounds.{told_in}
use Rattle.fc_spec.specs.laws.Merging.{HasRoots, MergesIntoReply}
use Rattle.fc_spec.proofs.words.NumbersBelow.{member_below}
use Rattle.fc_spec.proofs.requests.Together.{distinct_numbers}
use Rattle.fc_spec.proofs.messages.HeldAnswers.{IsTold}
use Rattle.fc_spec.proofs.messages.HeldFurther.{answers_told}
use Rattle.fc_spec.proofs.messages.NextBuckets.{IsState, count_agrees}
use Rattle.fc_spec.proofs.messages.Merges.{AllTold, from_start, facets_merge}

-- where nothing is untold, all is told
pub all_told : (A : List Told) (all : List Lack) → untold A all ≡ [] → AllTold A all
all_told A [] h = tt
all_told A (l ∷ ls) h = go (held A l.shard (way_of l.want)) h (all_told A ls)
  where
    go : (o : Option HeldBucket) → cond (is_none o) (l ∷ untold A ls) (untold A ls) ≡ [] → (untold A ls ≡ [] → AllTold A ls) → (is_some o ≡ true) × AllTold A ls
    go None e ih = absurd (let bad : l ∷ untold A ls ≡ [] = e in cc)
    go (Some b) e ih = (refl, ih e)

-- and where all is told, nothing is untold
pub none_untold : (A : List Told) (all : List Lack) → AllTold A all → untold A all ≡ []
none_untold A [] t = refl
none_untold A (l ∷ ls) t = go (held A l.shard (way_of l.want)) t.0 (none_untold A ls t.1)
  where
    go : (o : Option HeldBucket) → is_some o ≡ true → untold A ls ≡ [] → cond (is_none o) (l ∷ untold A ls) (untold A ls) ≡ []
    go None e ih = absurd (false≢true e)
    go (Some b) e ih = ih

-- the root, over all shards
pub root_state : (r : Request) (W : World) (A : List Told) → HasRoots (length W) A → IsState r W A (numbers_below (length W)) [] (root_bucket r W)
root_state r W A roots = record {
  path = refl;
  places = refl;
  known = λ i m. inl (roots i (member_below (length W) i m));
  distinct = distinct_numbers (length W);
}

-- the same of told buckets
pub told_merge : (r : Request) (W : World) (A : List Told) → AllByRecursion (IsTold r W) A → HasRoots (length W) A → ((e : ℕ) → lacks r (length W) A e ≡ []) → merged r (length W) A ≡ distributed r W
told_merge r W A all roots none =
    let state = root_state r W A roots in
    let facets = facets_merge r W A r.nodes 0 0 (numbers_below (length W)) [] (root_bucket r W) all state (from_start r W [] r.nodes refl) (λ e. all_told A (wanted (over_held A) e r.nodes 0 (numbers_below (length W)) [] []) (none e)) in
    λ i. bucket None (count_agrees r W A (numbers_below (length W)) [] (root_bucket r W) all state i) (facets i)

pub answers_merge_into_reply : MergesIntoReply
answers_merge_into_reply r W sent answers roots none = told_merge r W (told_in r.nodes sent) (answers_told r W sent answers) roots none
