-- What the coordinator asks, as what a round can ask.
use Rattle.std.proofs.Common.{◌≡◌, ℕ, zero, suc, List, [], ◌∷◌, map, length, All, Option, None, Some, is_some, refl, sym, ◌∙◌, ap, subst, arith}
use Rattle.std.specs.Prelude.{option_map}
use Rattle.std.proofs.lemmas.List.{length-map}
use Rattle.fc_spec.specs.documents.World.{World}
use Rattle.fc_spec.specs.requests.Request.{Request}
use Rattle.fc_spec.specs.messages.Message.{Ask}
use Rattle.fc_spec.specs.messages.TopRounds.{ExactAsk}
use Rattle.fc_spec.proofs.messages.Ways.{none_not_some, some_exact}
use Rattle.fc_coord.specs.State as coord
use Rattle.fc_exact.specs.State as core
use Rattle.fc_round.specs.QuestionView.{question_view}
use Rattle.fc_round.specs.Questions.{CanBeAsked, answered, exact_of}
use Rattle.fc_round.specs.declared.question.Question.{Question}
use Rattle.fc_round.proofs.Asks.{answer_of_ask, can_ask}
use Rattle.fc_tops.specs.Asked.{questions_from}
use Rattle.fc_tops.proofs.Asked.{all_questions}
use Rattle.fc_search.specs.Asked.{exact_asks}
use Rattle.fc_search.specs.Hearing.{IsHearing, answers_from}
use Rattle.fc_search.proofs.Awaited.{asked_there}
use Rattle.fc_search.proofs.Told.{asked_well, asks_there}

-- the answers to the questions are those that are awaited
pub answers_are : (r : Request) (W : World) (from : ℕ) (asks : List (Option Ask)) → map (answered r W) (questions_from from (exact_asks asks)) ≡ answers_from r W from asks
answers_are r W from [] = refl
answers_are r W from (None ∷ asks) = answers_are r W (suc from) asks
answers_are r W from (Some ask ∷ asks) = λ j. record { shard = from; message = answer_of_ask r W from ask j } ∷ answers_are r W (suc from) asks j

pub exact_at : (asks : List (Option Ask)) (i : ℕ) → core.ask_at (exact_asks asks) i ≡ option_map exact_of (coord.ask_at asks i)
exact_at [] i = refl
exact_at (None ∷ asks) zero = refl
exact_at (Some ask ∷ asks) zero = refl
exact_at (o ∷ asks) (suc i) = exact_at asks i

pub exact_there : (asks : List (Option Ask)) (i : ℕ) → is_some (core.ask_at (exact_asks asks) i) ≡ is_some (coord.ask_at asks i)
exact_there asks i = ap is_some (exact_at asks i) ∙ go (coord.ask_at asks i)
  where
    go : (o : Option Ask) → is_some (option_map exact_of o) ≡ is_some o
    go None = refl
    go (Some ask) = refl

pub length-exact : (asks : List (Option Ask)) → length (exact_asks asks) ≡ length asks
length-exact asks = length-map asks (option_map exact_of)

-- whoever is awaited can be asked what it is asked
can_be_asked : (r : Request) (W : World) (s : coord.State) (n : ℕ) → IsHearing r W s → length W ≡ n → (k : ℕ) (ask : ExactAsk) → core.ask_at (exact_asks s.asks) k ≡ Some ask → CanBeAsked r n (record { shard = k; ask = ask })
can_be_asked r W s n hearing shards k ask e = go (coord.ask_at s.asks k) refl (sym (exact_at s.asks k) ∙ e)
  where
    go : (o : Option Ask) → coord.ask_at s.asks k ≡ o → option_map exact_of o ≡ Some ask → CanBeAsked r n (record { shard = k; ask = ask })
    go None h f = absurd (none_not_some ask f)
    go (Some a) h f =
        let well = asked_well r W s k a hearing h in
        let below = asked_there s.asks k a h in
        let asks = asks_there r W s hearing in
        subst (λ b. CanBeAsked r n (record { shard = k; ask = b })) (some_exact (exact_of a) ask f) (omega (arith, below, asks, shards), can_ask r a well.0 well.1)

pub all_can_be_asked : (r : Request) (W : World) (s : coord.State) (n : ℕ) (questions : List Question) → IsHearing r W s → length W ≡ n → map question_view questions ≡ questions_from 0 (exact_asks s.asks) → All (λ q. CanBeAsked r n (question_view q)) questions
all_can_be_asked r W s n questions hearing shards are = all_questions (CanBeAsked r n) (exact_asks s.asks) questions are (can_be_asked r W s n hearing shards)
