-- A round so far: what the probe was told since it began, and the answers that are awaited.
use Rattle.std.proofs.Common.{◌≡◌, ℕ, List, [], ◌∷◌, ◌++◌, append_assoc, append-nil, map, false, Option, refl, sym, ◌∙◌, ap, subst}
use Rattle.std.specs.Prelude.{option_map}
use Rattle.std.proofs.lemmas.List.{map-append}
use Rattle.fc_spec.specs.documents.World.{World}
use Rattle.fc_spec.specs.requests.Request.{Request}
use Rattle.fc_spec.specs.messages.Trace.{Sent, entry_of}
use Rattle.fc_spec.specs.messages.Lengths.{Lengths, put, put_all}
use Rattle.fc_spec.specs.messages.WholeTrace.{behind_rounds}
use Rattle.fc_coord.specs.State.{State}
use Rattle.fc_round.specs.Questions.{ShardAnswer}
use Rattle.fc_search.specs.Hearing.{HasHeard, HeardSince, IsHearing, IsTraced, awaited_answers, rounds_left}
use Rattle.fc_search.proofs.Told.{IsUnderWay, round_begins, round_over}
use Rattle.fc_tops.proofs.Puts.{nothing_put, put_both, put_more}

-- whatever was heard before the round, it was heard with these entries, which the map has
pub record IsSoFar (r : Request) (W : World) (behind : ℕ) (start s : State) (old now : Option Lengths) (rest : List ShardAnswer) : Type 0 where
  pub entries : List Sent
  pub put : now ≡ option_map (put_all (map (behind_rounds behind) entries)) old
  pub under_way : (es : List Sent) → HasHeard r W start es → IsUnderWay r W (rounds_left start) s (es ++ entries) rest

pub so_far_none : (r : Request) (W : World) (behind : ℕ) (s : State) (o : Option Lengths) → s.ready ≡ false → IsSoFar r W behind s s o o (awaited_answers r W s)
so_far_none r W behind s o unready = record {
  entries = [];
  put = nothing_put o;
  under_way = λ es heard. subst (λ fs. IsUnderWay r W (rounds_left s) s fs (awaited_answers r W s)) (sym (append-nil es)) (round_begins r W s es heard unready);
}

-- something was heard before
pub some_heard : (r : Request) (W : World) (s : State) → IsHearing r W s → (es : List Sent) × HasHeard r W s es
some_heard r W s (sent, told) = (map entry_of sent, (sent, told, refl))

pub under_way_now : (r : Request) (W : World) (behind : ℕ) (start s : State) (old now : Option Lengths) (rest : List ShardAnswer) → IsHearing r W start → IsSoFar r W behind start s old now rest → (es : List Sent) × IsUnderWay r W (rounds_left start) s es rest
under_way_now r W behind start s old now rest hearing so_far =
    let heard = some_heard r W start hearing in
    (heard.0 ++ so_far.entries, so_far.under_way heard.0 heard.1)

-- one message more
pub so_far_more : (r : Request) (W : World) (behind : ℕ) (start s new : State) (old now then : Option Lengths) (e : Sent) (a : ShardAnswer) (rest : List ShardAnswer) → IsSoFar r W behind start s old now (a ∷ rest) → then ≡ option_map (put (behind_rounds behind e)) now
    → ((es : List Sent) → IsUnderWay r W (rounds_left start) s es (a ∷ rest) → IsUnderWay r W (rounds_left start) new (es ++ e ∷ []) rest) → IsSoFar r W behind start new old then rest
so_far_more r W behind start s new old now then e a rest so_far is more = record {
  entries = so_far.entries ++ e ∷ [];
  put = put_more (map (behind_rounds behind) so_far.entries) (behind_rounds behind e) old now then so_far.put is ∙ ap (λ fs. option_map (put_all fs) old) (sym (map-append (behind_rounds behind) so_far.entries (e ∷ [])));
  under_way = λ es heard. subst (λ fs. IsUnderWay r W (rounds_left start) new fs rest) (append_assoc es so_far.entries (e ∷ [])) (more (es ++ so_far.entries) (so_far.under_way es heard));
}

-- the round is over
pub heard_since : (r : Request) (W : World) (behind : ℕ) (start s : State) (old now : Option Lengths) → IsSoFar r W behind start s old now [] → HeardSince r W behind start s old now
heard_since r W behind start s old now so_far = record {
  entries = so_far.entries;
  put = so_far.put;
  heard = λ es heard. (round_over r W (rounds_left start) s (es ++ so_far.entries) (so_far.under_way es heard)).0;
}

-- a round more is traced
pub traced_more : (r : Request) (W : World) (behind : ℕ) (s t : State) (old now then : Option Lengths) → IsTraced r W behind s old now → HeardSince r W behind s t now then → IsTraced r W behind t old then
traced_more r W behind s t old now then traced since = record {
  entries = traced.entries ++ since.entries;
  put = put_both (map (behind_rounds behind) traced.entries) (map (behind_rounds behind) since.entries) old now then traced.put since.put ∙ ap (λ fs. option_map (put_all fs) old) (sym (map-append (behind_rounds behind) traced.entries since.entries));
  heard = since.heard traced.entries traced.heard;
}

pub traced_none : (r : Request) (W : World) (behind : ℕ) (s : State) (o : Option Lengths) → HasHeard r W s [] → IsTraced r W behind s o o
traced_none r W behind s o heard = record { entries = []; put = nothing_put o; heard = heard }

pub traced_hears : (r : Request) (W : World) (behind : ℕ) (s : State) (old now : Option Lengths) → IsTraced r W behind s old now → IsHearing r W s
traced_hears r W behind s old now traced = go traced.heard
  where
    go : HasHeard r W s traced.entries → IsHearing r W s
    go (sent, told, entries) = (sent, told)

pub since_hears : (r : Request) (W : World) (behind : ℕ) (s t : State) (old now : Option Lengths) → IsHearing r W s → HeardSince r W behind s t old now → IsHearing r W t
since_hears r W behind s t old now hearing since = go (since.heard (some_heard r W s hearing).0 (some_heard r W s hearing).1)
  where
    go : {es : List Sent} → HasHeard r W t es → IsHearing r W t
    go (sent, told, entries) = (sent, told)
