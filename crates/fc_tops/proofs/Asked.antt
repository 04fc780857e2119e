-- What is asked, one shard after another; and that it can be asked.
use Rattle.std.proofs.Common.{◌≡◌, ℕ, zero, suc, ◌+◌, ◌<◌, List, [], ◌∷◌, ◌++◌, append_assoc, append-nil, length, drop, map, All, false, Option, None, Some, is_some, refl, sym, ◌∙◌, ap, subst, arith}
use Rattle.std.proofs.lemmas.Bool.{false≢true}
use Rattle.std.proofs.lemmas.List.{drop_all, get_or-map, length-map, map-append}
use Rattle.fc_spec.specs.documents.World.{World}
use Rattle.fc_spec.specs.requests.Request.{Request}
use Rattle.fc_spec.specs.messages.TopRounds.{ExactAsk}
use Rattle.fc_spec.specs.laws.TopRoundsLaw.{AreTopNodes}
use Rattle.fc_spec.proofs.messages.Ways.{none_not_some, some_exact}
use Rattle.fc_exact.specs.State.{State, ask_at}
use Rattle.fc_exact.proofs.Heard.{within_asks}
use Rattle.fc_round.specs.QuestionView.{question_view}
use Rattle.fc_round.specs.Questions.{CanBeAsked, ShardAsk}
use Rattle.fc_round.specs.declared.question.Question.{Question}
use Rattle.fc_round.proofs.Asks.{can_ask_exact}
use Rattle.fc_tops.specs.Asked.{questions_from}
use Rattle.fc_tops.specs.FindingLaws.{AreFindingLaws}
use Rattle.fc_tops.specs.Hearing.{IsHearing}

-- ---- from one shard to the next

asked_step : (from : ℕ) (asks : List (Option ExactAsk)) (k : ℕ) (ask : ExactAsk) → ask_at asks k ≡ Some ask → questions_from from (drop k asks) ≡ record { shard = from; ask = ask } ∷ questions_from (suc from) (drop (suc k) asks)
asked_step from [] k ask e = absurd (none_not_some ask e)
asked_step from (None ∷ asks) zero ask e = absurd (none_not_some ask e)
asked_step from (Some own ∷ asks) zero ask e = ap (λ a. record { shard = from; ask = a } ∷ questions_from (suc from) asks) (some_exact own ask e)
asked_step from (o ∷ asks) (suc k) ask e = asked_step from asks k ask e

passed_step : (from : ℕ) (asks : List (Option ExactAsk)) (k : ℕ) → k < length asks → is_some (ask_at asks k) ≡ false → questions_from from (drop k asks) ≡ questions_from (suc from) (drop (suc k) asks)
passed_step from [] k less e = absurd (omega arith)
passed_step from (None ∷ asks) zero less e = refl
passed_step from (Some own ∷ asks) zero less e = absurd (false≢true (sym e))
passed_step from (o ∷ asks) (suc k) less e = passed_step from asks k (omega (arith, less)) e

-- the shard with this number is asked
pub question_more : (asks : List (Option ExactAsk)) (i : ℕ) (ask : ExactAsk) (questions : List Question) (q : Question) (all : List ShardAsk) → ask_at asks i ≡ Some ask → question_view q ≡ record { shard = i; ask = ask }
    → map question_view questions ++ questions_from i (drop i asks) ≡ all → map question_view (questions ++ q ∷ []) ++ questions_from (i + 1) (drop (i + 1) asks) ≡ all
question_more asks i ask questions q all asked own was =
    let rest = questions_from (i + 1) (drop (i + 1) asks) in
    let next : suc i ≡ i + 1 = omega arith in
    ap (λ qs. qs ++ rest) (map-append question_view questions (q ∷ [])) ∙ append_assoc (map question_view questions) (question_view q ∷ []) rest ∙ ap (λ a. map question_view questions ++ a ∷ rest) own
    ∙ ap (λ others. map question_view questions ++ others) (sym (asked_step i asks i ask asked ∙ ap (λ k. record { shard = i; ask = ask } ∷ questions_from k (drop k asks)) next)) ∙ was

-- or not
pub question_none : (asks : List (Option ExactAsk)) (i : ℕ) (questions : List Question) (all : List ShardAsk) → i < length asks → is_some (ask_at asks i) ≡ false
    → map question_view questions ++ questions_from i (drop i asks) ≡ all → map question_view questions ++ questions_from (i + 1) (drop (i + 1) asks) ≡ all
question_none asks i questions all less none was =
    let next : suc i ≡ i + 1 = omega arith in
    ap (λ others. map question_view questions ++ others) (sym (passed_step i asks i less none ∙ ap (λ k. questions_from k (drop k asks)) next)) ∙ was

-- all shards have theirs
pub questions_whole : (asks : List (Option ExactAsk)) (i : ℕ) (questions : List Question) (all : List ShardAsk) → length asks ≡ i → map question_view questions ++ questions_from i (drop i asks) ≡ all → map question_view questions ≡ all
questions_whole asks i questions all whole was =
    sym (append-nil (map question_view questions)) ∙ ap (λ others. map question_view questions ++ questions_from i others) (sym (drop_all i asks (omega (arith, whole)))) ∙ was

-- ---- what is asked can be asked

-- what holds of each ask and its number holds of each question
each_asked : (P : ShardAsk → Type 0) (from : ℕ) (asks : List (Option ExactAsk)) → ((k : ℕ) (ask : ExactAsk) → ask_at asks k ≡ Some ask → P (record { shard = from + k; ask = ask })) → All P (questions_from from asks)
each_asked P from [] each k d below = absurd (omega (arith, below))
each_asked P from (None ∷ asks) each k d below = each_asked P (suc from) asks (λ j ask e. subst (λ n. P (record { shard = n; ask = ask })) (let same : from + suc j ≡ suc from + j = omega arith in same) (each (suc j) ask e)) k d below
each_asked P from (Some ask ∷ asks) each zero d below = subst (λ n. P (record { shard = n; ask = ask })) (let same : from + 0 ≡ from = omega arith in same) (each 0 ask refl)
each_asked P from (Some ask ∷ asks) each (suc k) d below =
    each_asked P (suc from) asks (λ j a e. subst (λ n. P (record { shard = n; ask = a })) (let same : from + suc j ≡ suc from + j = omega arith in same) (each (suc j) a e)) k d (omega (arith, below))

pub all_questions : (P : ShardAsk → Type 0) (asks : List (Option ExactAsk)) (questions : List Question) → map question_view questions ≡ questions_from 0 asks → ((k : ℕ) (ask : ExactAsk) → ask_at asks k ≡ Some ask → P (record { shard = k; ask = ask }))
    → All (λ q. P (question_view q)) questions
all_questions P asks questions are each = λ k d below. subst P (get_or-map question_view questions k d (question_view d) below) (all k (question_view d) (let long = length-map questions question_view in omega (arith, long, below)))
  where
    all : All P (map question_view questions)
    all = subst (All P) (sym are) (each_asked P 0 asks (λ k ask e. subst (λ n. P (record { shard = n; ask = ask })) (let same : k ≡ 0 + k = omega arith in same) (each k ask e)))

pub all_can_be_asked : (laws : AreFindingLaws) (x : Request) (W : World) (s : State) (n : ℕ) (questions : List Question) → IsHearing x W s → s.ready ≡ false → AreTopNodes x.nodes → length W ≡ n → map question_view questions ≡ questions_from 0 s.asks
    → All (λ q. CanBeAsked x n (question_view q)) questions
all_can_be_asked laws x W s n questions (sent, told) unready top shards are = all_questions (CanBeAsked x n) s.asks questions are each
  where
    each : (k : ℕ) (ask : ExactAsk) → ask_at s.asks k ≡ Some ask → CanBeAsked x n (record { shard = k; ask = ask })
    each k ask e =
        let within = within_asks s.asks k ask e in
        let asks = told.shards in
        (omega (arith, within, asks, shards), can_ask_exact x ask top (laws.askable x W s sent k ask top told unready e))

-- there is an ask for each shard
pub asks_there : (x : Request) (W : World) (s : State) → IsHearing x W s → length s.asks ≡ length W
asks_there x W s (sent, told) = told.shards
