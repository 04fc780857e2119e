-- What is held below what is held, among more messages, and of a search's own answers.
use Rattle.std.proofs.Common.{◌≡◌, ℕ, List, [], ◌∷◌, ◌++◌, Bool, true, false, cond, ◌==◌, ◌&&◌, Option, None, Some, is_some, refl, sym, ◌∙◌, ap, subst, inl, inr}
use Rattle.std.specs.List.{AllByRecursion}
use Rattle.std.specs.Option.{option_and_then}
use Rattle.std.proofs.lemmas.Bool.{false≢true, eq-eqb}
use Rattle.fc_spec.specs.documents.World.{World}
use Rattle.fc_spec.specs.requests.Request.{Request}
use Rattle.fc_spec.specs.requests.Buckets.{Key}
use Rattle.fc_spec.specs.messages.KeyOrder.{same_key}
use Rattle.fc_spec.specs.messages.Message.{Way, Want, way_of, Ask, first, more}
use Rattle.fc_spec.specs.messages.Target.{target_of}
use Rattle.fc_spec.specs.messages.Answer.{answer, answer_wants}
use Rattle.fc_spec.specs.messages.Held.{HeldBucket, Told, bucket_in, descend, behind, held_in, held, or_else, told_by, told_wants}
use Rattle.fc_spec.specs.messages.Rounds.{SentMessage, told_in}
use Rattle.fc_spec.specs.laws.Merging.{IsAnswer}
use Rattle.fc_spec.proofs.words.Members.{Member}
use Rattle.fc_spec.proofs.messages.Keys.{same_key_itself}
use Rattle.fc_spec.proofs.messages.Ways.{none_not_some, descend-append, behind-append}
use Rattle.fc_spec.proofs.messages.HeldAnswers.{IsTold, answer_at}

-- a step of a way
abbrev pub step_to : ℕ → Key → Way
step_to n key = record { node = n; key = key } ∷ []

or_else_first : {A : Type 0} (a b : Option A) → is_some a ≡ true → is_some (or_else a b) ≡ true
or_else_first (Some x) b h = refl
or_else_first None b h = absurd (false≢true h)

or_else_second : {A : Type 0} (a b : Option A) → is_some b ≡ true → is_some (or_else a b) ≡ true
or_else_second None b h = h
or_else_second (Some x) b h = refl

descend_step : (n : ℕ) (key : Key) (b : HeldBucket) → descend (step_to n key) b ≡ bucket_in n key b
descend_step n key b = go (bucket_in n key b)
  where
    go : (o : Option HeldBucket) → option_and_then (descend []) o ≡ o
    go None = refl
    go (Some c) = refl

-- a message that has a bucket has those below it
held_in_below : (t : Told) (way : Way) (n : ℕ) (key : Key) (b : HeldBucket) → held_in t way ≡ Some b → is_some (bucket_in n key b) ≡ true → is_some (held_in t (way ++ step_to n key)) ≡ true
held_in_below t way n key b h k = go (behind t.way way) refl h
  where
    go : (o : Option Way) → behind t.way way ≡ o → option_and_then (λ rest. descend rest t.bucket) o ≡ Some b → is_some (held_in t (way ++ step_to n key)) ≡ true
    go None e f = absurd (none_not_some b f)
    go (Some rest) e f =
        ap (λ o. is_some (option_and_then (λ rest. descend rest t.bucket) o)) (behind-append t.way way rest (step_to n key) e)
        ∙ ap is_some (descend-append rest (step_to n key) t.bucket) ∙ ap (λ o. is_some (option_and_then (descend (step_to n key)) o)) f ∙ ap is_some (descend_step n key b) ∙ k

-- where a bucket is held, so are those below it
pub held_below : (A : List Told) (i : ℕ) (way : Way) (n : ℕ) (key : Key) (b : HeldBucket) → held A i way ≡ Some b → is_some (bucket_in n key b) ≡ true → is_some (held A i (way ++ step_to n key)) ≡ true
held_below [] i way n key b h k = absurd (none_not_some b h)
held_below (t ∷ ts) i way n key b h k = go (t.shard == i) h (λ e. held_below ts i way n key b e k)
  where
    here : (o : Option HeldBucket) → held_in t way ≡ o → or_else o (held ts i way) ≡ Some b → (held ts i way ≡ Some b → is_some (held ts i (way ++ step_to n key)) ≡ true) → is_some (or_else (held_in t (way ++ step_to n key)) (held ts i (way ++ step_to n key))) ≡ true
    here None e f ih = or_else_second (held_in t (way ++ step_to n key)) (held ts i (way ++ step_to n key)) (ih f)
    here (Some c) e f ih = or_else_first (held_in t (way ++ step_to n key)) (held ts i (way ++ step_to n key)) (held_in_below t way n key b (e ∙ f) k)

    go : (c : Bool) → or_else (cond c (held_in t way) None) (held ts i way) ≡ Some b → (held ts i way ≡ Some b → is_some (held ts i (way ++ step_to n key)) ≡ true)
        → is_some (or_else (cond c (held_in t (way ++ step_to n key)) None) (held ts i (way ++ step_to n key))) ≡ true
    go true f ih = here (held_in t way) refl f ih
    go false f ih = ih f

-- among more messages what was held still is
pub held_among_more : (A B : List Told) (i : ℕ) (way : Way) → is_some (held A i way) ≡ true → is_some (held (A ++ B) i way) ≡ true
held_among_more [] B i way h = absurd (false≢true h)
held_among_more (t ∷ ts) B i way h = go (cond (t.shard == i) (held_in t way) None) h (held_among_more ts B i way)
  where
    go : (o : Option HeldBucket) → is_some (or_else o (held ts i way)) ≡ true → (is_some (held ts i way) ≡ true → is_some (held (ts ++ B) i way) ≡ true) → is_some (or_else o (held (ts ++ B) i way)) ≡ true
    go None f ih = ih f
    go (Some c) f ih = refl

-- and what is held of the later ones
pub held_among_later : (A B : List Told) (i : ℕ) (way : Way) → is_some (held B i way) ≡ true → is_some (held (A ++ B) i way) ≡ true
held_among_later [] B i way h = h
held_among_later (t ∷ ts) B i way h = or_else_second (cond (t.shard == i) (held_in t way) None) (held (ts ++ B) i way) (held_among_later ts B i way h)

pub all_append : {X : Type 0} (P : X → Type 0) (xs ys : List X) → AllByRecursion P xs → AllByRecursion P ys → AllByRecursion P (xs ++ ys)
all_append P [] ys a b = b
all_append P (x ∷ xs) ys a b = (a.0, all_append P xs ys a.1 b)

wants_told : (r : Request) (W : World) (i : ℕ) (ws : List Want) → AllByRecursion (IsTold r W) (told_wants r.nodes i ws (answer_wants r W i ws))
wants_told r W i [] = tt
wants_told r W i (w ∷ ws) = (refl, wants_told r W i ws)

ask_told : (r : Request) (W : World) (i : ℕ) (ask : Ask) → AllByRecursion (IsTold r W) (told_by r.nodes i ask (answer r W i ask))
ask_told r W i first = (refl, tt)
ask_told r W i (more ws) = wants_told r W i ws

-- what answers tell is told
pub answers_told : (r : Request) (W : World) (sent : List SentMessage) → AllByRecursion (IsAnswer r W) sent → AllByRecursion (IsTold r W) (told_in r.nodes sent)
answers_told r W [] a = tt
answers_told r W (s ∷ ss) a =
    all_append (IsTold r W) (told_by r.nodes s.shard s.ask s.message) (told_in r.nodes ss) (subst (λ m. AllByRecursion (IsTold r W) (told_by r.nodes s.shard s.ask m)) (sym a.0) (ask_told r W s.shard s.ask)) (answers_told r W ss a.1)

pub behind_itself : (way : Way) → behind way way ≡ Some []
behind_itself [] = refl
behind_itself (s ∷ ss) =
    ap (λ b. cond (b && same_key s.key s.key) (behind ss ss) None) (eq-eqb s.node s.node refl) ∙ ap (λ b. cond b (behind ss ss) None) (same_key_itself s.key) ∙ behind_itself ss

own_held : (t : Told) → held_in t t.way ≡ Some t.bucket
own_held t = ap (option_and_then (λ rest. descend rest t.bucket)) (behind_itself t.way)

-- a told bucket is held
pub told_held : (t : Told) (ts : List Told) → is_some (held (t ∷ ts) t.shard t.way) ≡ true
told_held t ts =
    or_else_first (cond (t.shard == t.shard) (held_in t t.way) None) (held ts t.shard t.way) (ap (λ b. is_some (cond b (held_in t t.way) None)) (eq-eqb t.shard t.shard refl) ∙ ap is_some (own_held t))

-- an answer to wants holds each of them
pub wants_held : (r : Request) (W : World) (i : ℕ) (ws : List Want) (w : Want) → Member w ws → is_some (held (told_wants r.nodes i ws (answer_wants r W i ws)) i (way_of w)) ≡ true
wants_held r W i [] w m = absurd m
wants_held r W i (v ∷ ws) w (inl e) = subst (λ u. is_some (held (told_wants r.nodes i (v ∷ ws) (answer_wants r W i (v ∷ ws))) i (way_of u)) ≡ true) (sym e) (told_held (record { shard = i; way = way_of v; bucket = answer_at r W i (target_of r.nodes (way_of v)) }) (told_wants r.nodes i ws (answer_wants r W i ws)))
wants_held r W i (v ∷ ws) w (inr m) = or_else_second _ (held (told_wants r.nodes i ws (answer_wants r W i ws)) i (way_of w)) (wants_held r W i ws w m)
