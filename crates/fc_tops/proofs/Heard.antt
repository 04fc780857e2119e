-- A round so far: what the probe was told since it began, and the questions whose answers are awaited.
use Rattle.std.proofs.Common.{◌≡◌, List, [], ◌∷◌, ◌++◌, append_assoc, append-nil, map, false, Option, refl, sym, subst}
use Rattle.std.specs.Prelude.{option_map}
use Rattle.fc_spec.specs.documents.World.{World}
use Rattle.fc_spec.specs.requests.Request.{Request}
use Rattle.fc_spec.specs.messages.Trace.{Sent}
use Rattle.fc_spec.specs.messages.Lengths.{Lengths, put, put_all}
use Rattle.fc_spec.specs.messages.WholeTrace.{exact_entry_of}
use Rattle.fc_exact.specs.Rounds.{rounds_left}
use Rattle.fc_exact.specs.State.{State}
use Rattle.fc_round.specs.Questions.{ShardAsk}
use Rattle.fc_tops.specs.Asked.{questions_from}
use Rattle.fc_tops.specs.Hearing.{HasHeard, HeardSince, IsHearing, IsTraced}
use Rattle.fc_tops.proofs.Puts.{nothing_put, put_both, put_more}
use Rattle.fc_tops.proofs.Told.{IsUnderWay, round_begins, round_over}

-- whatever was heard before the round, it was heard with these entries, which the map has
pub record IsSoFar (x : Request) (W : World) (start s : State) (old now : Option Lengths) (rest : List ShardAsk) : Type 0 where
  pub entries : List Sent
  pub put : now ≡ option_map (put_all entries) old
  pub under_way : (es : List Sent) → HasHeard x W start es → IsUnderWay x W (rounds_left start) s (es ++ entries) rest

pub so_far_none : (x : Request) (W : World) (s : State) (o : Option Lengths) → s.ready ≡ false → IsSoFar x W s s o o (questions_from 0 s.asks)
so_far_none x W s o unready = record {
  entries = [];
  put = nothing_put o;
  under_way = λ es heard. subst (λ fs. IsUnderWay x W (rounds_left s) s fs (questions_from 0 s.asks)) (sym (append-nil es)) (round_begins x W s es heard unready);
}

-- something was heard before
some_heard : (x : Request) (W : World) (s : State) → IsHearing x W s → (es : List Sent) × HasHeard x W s es
some_heard x W s (sent, told) = (map exact_entry_of sent, (sent, told, refl))

pub under_way_now : (x : Request) (W : World) (start s : State) (old now : Option Lengths) (rest : List ShardAsk) → IsHearing x W start → IsSoFar x W start s old now rest → (es : List Sent) × IsUnderWay x W (rounds_left start) s es rest
under_way_now x W start s old now rest hearing so_far =
    let heard = some_heard x W start hearing in
    (heard.0 ++ so_far.entries, so_far.under_way heard.0 heard.1)

-- one message more
pub so_far_more : (x : Request) (W : World) (start s new : State) (old now then : Option Lengths) (e : Sent) (q : ShardAsk) (rest : List ShardAsk) → IsSoFar x W start s old now (q ∷ rest) → then ≡ option_map (put e) now
    → ((es : List Sent) → IsUnderWay x W (rounds_left start) s es (q ∷ rest) → IsUnderWay x W (rounds_left start) new (es ++ e ∷ []) rest) → IsSoFar x W start new old then rest
so_far_more x W start s new old now then e q rest so_far is more = record {
  entries = so_far.entries ++ e ∷ [];
  put = put_more so_far.entries e old now then so_far.put is;
  under_way = λ es heard. subst (λ fs. IsUnderWay x W (rounds_left start) new fs rest) (append_assoc es so_far.entries (e ∷ [])) (more (es ++ so_far.entries) (so_far.under_way es heard));
}

-- the round is over
pub heard_since : (x : Request) (W : World) (start s : State) (old now : Option Lengths) → IsSoFar x W start s old now [] → HeardSince x W start s old now
heard_since x W start s old now so_far = record {
  entries = so_far.entries;
  put = so_far.put;
  heard = λ es heard. (round_over x W (rounds_left start) s (es ++ so_far.entries) (so_far.under_way es heard)).0;
}

-- a round more is traced
pub traced_more : (x : Request) (W : World) (s t : State) (old now then : Option Lengths) → IsTraced x W s old now → HeardSince x W s t now then → IsTraced x W t old then
traced_more x W s t old now then traced since = record {
  entries = traced.entries ++ since.entries;
  put = put_both traced.entries since.entries old now then traced.put since.put;
  heard = since.heard traced.entries traced.heard;
}

pub traced_none : (x : Request) (W : World) (s : State) (o : Option Lengths) → HasHeard x W s [] → IsTraced x W s o o
traced_none x W s o heard = record { entries = []; put = nothing_put o; heard = heard }

pub traced_hears : (x : Request) (W : World) (s : State) (old now : Option Lengths) → IsTraced x W s old now → IsHearing x W s
traced_hears x W s old now traced = go traced.heard
  where
    go : HasHeard x W s traced.entries → IsHearing x W s
    go (sent, told, entries) = (sent, told)

pub since_hears : (x : Request) (W : World) (s t : State) (old now : Option Lengths) → IsHearing x W s → HeardSince x W s t old now → IsHearing x W t
since_hears x W s t old now hearing since = go (since.heard (some_heard x W s hearing).0 (some_heard x W s hearing).1)
  where
    go : {es : List Sent} → HasHeard x W t es → IsHearing x W t
    go (sent, told, entries) = (sent, told)
