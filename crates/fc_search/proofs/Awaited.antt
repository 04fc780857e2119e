-- The answers that are awaited, one after another.
use Rattle.std.proofs.Common.{◌≡◌, ℕ, zero, suc, ◌+◌, ◌<◌, List, [], ◌∷◌, length, false, true, Option, None, Some, is_some, refl, ap, subst, arith}
use Rattle.std.specs.Prelude.{slice_set}
use Rattle.std.specs.List.{list_any}
use Rattle.fc_spec.specs.documents.World.{World}
use Rattle.fc_spec.specs.requests.Request.{Request}
use Rattle.fc_spec.specs.messages.Message.{Ask}
use Rattle.fc_spec.specs.messages.Answer.{answer}
use Rattle.fc_spec.proofs.messages.Ways.{none_not_some}
use Rattle.fc_coord.specs.State.{ask_at}
use Rattle.fc_spec.specs.messages.Rounds.{sent_by}
use Rattle.fc_round.specs.Questions.{ShardAnswer}
use Rattle.fc_search.specs.Hearing.{answers_from, messages_from}

-- an answer is that of a shard that is asked; once it is heard, the rest are awaited
pub record IsFirst (r : Request) (W : World) (from : ℕ) (asks : List (Option Ask)) (a : ShardAnswer) (rest : List ShardAnswer) : Type 0 where
  pub place : ℕ
  pub shard : a.shard ≡ from + place
  pub ask : Ask
  pub asked : ask_at asks place ≡ Some ask
  pub message : a.message ≡ answer r W a.shard ask
  pub others : answers_from r W from (slice_set asks place None) ≡ rest
  pub messages : (round : ℕ) → messages_from r W round from asks ≡ sent_by r W round a.shard ask ∷ messages_from r W round from (slice_set asks place None)

pub first_awaited : (r : Request) (W : World) (from : ℕ) (asks : List (Option Ask)) (a : ShardAnswer) (rest : List ShardAnswer) → answers_from r W from asks ≡ a ∷ rest → IsFirst r W from asks a rest
first_awaited r W from [] a rest e = absurd (cc)
first_awaited r W from (None ∷ asks) a rest e =
    let later = first_awaited r W (suc from) asks a rest e in
    record { place = suc later.place; shard = (let own = later.shard in omega (arith, own)); ask = later.ask; asked = later.asked; message = later.message; others = later.others; messages = later.messages }
first_awaited r W from (Some ask ∷ asks) a rest e =
    let own : record { shard = from; message = answer r W from ask } ≡ a = cc in
    let others : answers_from r W (suc from) asks ≡ rest = cc in
    let shard : from ≡ a.shard = ap (λ (x : ShardAnswer). x.shard) own in
    record { place = zero; shard = omega (arith, shard); ask = ask; asked = refl; message = subst (λ (x : ShardAnswer). x.message ≡ answer r W x.shard ask) own refl; others = others; messages = λ round. ap (λ i. sent_by r W round i ask ∷ messages_from r W round (suc from) asks) shard }

-- no message either, where no answer is
pub no_messages : (r : Request) (W : World) (round from : ℕ) (asks : List (Option Ask)) → answers_from r W from asks ≡ [] → messages_from r W round from asks ≡ []
no_messages r W round from [] e = refl
no_messages r W round from (None ∷ asks) e = no_messages r W round (suc from) asks e
no_messages r W round from (Some ask ∷ asks) e = absurd (cc)

-- who is asked is there
pub asked_there : (asks : List (Option Ask)) (i : ℕ) (ask : Ask) → ask_at asks i ≡ Some ask → i < length asks
asked_there [] i ask e = absurd (none_not_some ask e)
asked_there (x ∷ asks) zero ask e = omega arith
asked_there (x ∷ asks) (suc i) ask e = let below = asked_there asks i ask e in omega (arith, below)

pub none_awaited : (r : Request) (W : World) (from : ℕ) (asks : List (Option Ask)) → answers_from r W from asks ≡ [] → list_any is_some asks ≡ false
none_awaited r W from [] e = refl
none_awaited r W from (None ∷ asks) e = none_awaited r W (suc from) asks e
none_awaited r W from (Some ask ∷ asks) e = absurd (cc)

pub some_awaited : (r : Request) (W : World) (from : ℕ) (asks : List (Option Ask)) (a : ShardAnswer) (rest : List ShardAnswer) → answers_from r W from asks ≡ a ∷ rest → list_any is_some asks ≡ true
some_awaited r W from [] a rest e = absurd (cc)
some_awaited r W from (None ∷ asks) a rest e = some_awaited r W (suc from) asks a rest e
some_awaited r W from (Some ask ∷ asks) a rest e = refl
