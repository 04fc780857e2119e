-- The shards that are awaited, and the first of them.
use Rattle.std.proofs.Common.{◌≡◌, ℕ, zero, suc, ◌+◌, List, [], ◌∷◌, false, true, Option, None, Some, is_some, refl, ap, arith}
use Rattle.std.specs.Prelude.{slice_set}
use Rattle.std.specs.List.{list_any}
use Rattle.fc_spec.specs.messages.TopRounds.{ExactAsk}
use Rattle.fc_exact.specs.Rounds.{IsFirstAwaited}
use Rattle.fc_round.specs.Questions.{ShardAsk}
use Rattle.fc_tops.specs.Asked.{questions_from}

-- it is that of the first shard that is awaited; once that is heard, the rest are left
pub record IsFirst (from : ℕ) (asks : List (Option ExactAsk)) (q : ShardAsk) (rest : List ShardAsk) : Type 0 where
  pub place : ℕ
  pub shard : q.shard ≡ from + place
  pub first : IsFirstAwaited asks place q.ask
  pub others : questions_from from (slice_set asks place None) ≡ rest

pub first_question : (from : ℕ) (asks : List (Option ExactAsk)) (q : ShardAsk) (rest : List ShardAsk) → questions_from from asks ≡ q ∷ rest → IsFirst from asks q rest
first_question from [] q rest e = absurd (cc)
first_question from (None ∷ asks) q rest e =
    let later = first_question (suc from) asks q rest e in
    record { place = suc later.place; shard = (let own = later.shard in omega (arith, own)); first = (refl, later.first); others = later.others }
first_question from (Some ask ∷ asks) q rest e =
    let own : record { shard = from; ask = ask } ≡ q = cc in
    let others : questions_from (suc from) asks ≡ rest = cc in
    let shard : from ≡ q.shard = ap (λ (x : ShardAsk). x.shard) own in
    record { place = zero; shard = omega (arith, shard); first = ap (λ (x : ShardAsk). Some x.ask) own; others = others }

pub none_asked : (from : ℕ) (asks : List (Option ExactAsk)) → questions_from from asks ≡ [] → list_any is_some asks ≡ false
none_asked from [] e = refl
none_asked from (None ∷ asks) e = none_asked (suc from) asks e
none_asked from (Some ask ∷ asks) e = absurd (cc)

pub some_asked : (from : ℕ) (asks : List (Option ExactAsk)) (q : ShardAsk) (rest : List ShardAsk) → questions_from from asks ≡ q ∷ rest → list_any is_some asks ≡ true
some_asked from [] q rest e = absurd (cc)
some_asked from (None ∷ asks) q rest e = some_asked (suc from) asks q rest e
some_asked from (Some ask ∷ asks) q rest e = refl
