-- What workers answer, in a list.
use Rattle.std.proofs.Common.{◌≡◌, ℕ, suc, List, [], ◌∷◌, map, All, true, Some, is_some, refl, sym, ap, subst, arith, Vec, Global}
use Rattle.std.specs.Prelude.{slice_get}
use Rattle.fc_spec.specs.documents.Document.{Block}
use Rattle.fc_spec.specs.documents.World.{World}
use Rattle.fc_spec.specs.laws.ShardAlone.{ExactFromItsBlocks}
use Rattle.fc_spec.specs.messages.Nesting.{Spells}
use Rattle.fc_spec.specs.messages.TopRounds.{exact_answer}
use Rattle.fc_spec.specs.requests.Request.{Request}
use Rattle.fc_round.specs.Questions.{answered}
use Rattle.fc_round.specs.QuestionView.{lent_view, question_view}
use Rattle.fc_round.specs.Slots.{AllAnswered, HasAnswer, slot_answer}
use Rattle.fc_round.specs.Spelled.{AreBytesOf}
use Rattle.fc_round.specs.declared.question.Question.{Question}
use Rattle.fc_round.specs.declared.slot.Slot.{Slot}

-- ---- they are made

-- what the shard of a question answers, from its blocks
pub own_answer : (r : Request) (W : World) (q : Question) (blocks : List Block) → ExactFromItsBlocks → slice_get W q.shard ≡ Some blocks
    → record { shard = q.shard; message = exact_answer r (blocks ∷ []) 0 (lent_view q.ask) } ≡ answered r W (question_view q)
own_answer r W q blocks alone there = λ j. record { shard = q.shard; message = alone r (blocks ∷ []) W 0 q.shard (sym there) (lent_view q.ask) j }

-- ---- they are answered

-- the same answers are theirs
pub answers_same : (r : Request) (before after : List Slot) → AllAnswered r before after → map (slot_answer r) after ≡ map (slot_answer r) before
answers_same r [] [] are = refl
answers_same r [] (s ∷ after) are = let count = are.count in absurd (omega arith)
answers_same r (s ∷ before) [] are = let count = are.count in absurd (omega arith)
answers_same r (s ∷ before) (t ∷ after) are =
    let count = are.count in
    let rest = answers_same r before after (record { count = omega (arith, count); each = λ k d below. are.each (suc k) d (omega (arith, below)) }) in
    λ i. (are.each 0 s (omega arith)).answer i ∷ rest i

-- bytes that are there are those of the answers
abbrev pub TellsIfThere : Request → Slot → Type 0
TellsIfThere r slot = is_some slot.bytes ≡ true → HasAnswer r slot

pub each_tells : (r : Request) (before after : List Slot) → AllAnswered r before after → All (TellsIfThere r) after
each_tells r before after are = λ k d below. (are.each k d (let count = are.count in omega (arith, count, below))).told

-- those of one of them
pub slot_tells : (r : Request) (slot : Slot) (bytes : Vec ℕ Global) → TellsIfThere r slot → slot.bytes ≡ Some bytes → Spells bytes.items (slot_answer r slot).message
slot_tells r slot bytes tells is = subst (λ o. AreBytesOf o (slot_answer r slot).message) is (tells (ap is_some is))
