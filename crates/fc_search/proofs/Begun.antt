-- The coordinator as it begins, and its rounds.
use Rattle.std.proofs.Common.{◌≡◌, ℕ, zero, suc, ◌+◌, ◌-◌, ◌<◌, ◌≤◌, List, [], ◌∷◌, map, length, true, false, cond, Some, is_some, refl, sym, ◌∙◌, ap, subst, arith}
use Rattle.std.specs.List.{list_any}
use Rattle.std.proofs.lemmas.Bool.{ne_eqb}
use Rattle.std.proofs.lemmas.List.{length-map}
use Rattle.std.proofs.lemmas.List.FromFn.{length-range_with_len}
use Rattle.fc_spec.specs.words.Lists.{numbers_below}
use Rattle.fc_spec.specs.documents.World.{World}
use Rattle.fc_spec.specs.requests.Request.{Request}
use Rattle.fc_spec.specs.messages.Message.{first}
use Rattle.fc_spec.specs.messages.Rounds.{rounds_from}
use Rattle.fc_spec.specs.messages.Held.{Told}
use Rattle.fc_spec.specs.messages.Lacks.{Lack, terms_depth}
use Rattle.fc_spec.proofs.messages.Ways.{some_exact}
use Rattle.fc_coord.specs.State.{State, at_start, begun, lacks_next}
use Rattle.fc_coord.specs.Keeps.{Keeps}
use Rattle.fc_coord.proofs.Beginning.{HasBegun, has_begun}
use Rattle.fc_units.specs.Asked.{asked_count}
use Rattle.fc_search.specs.Hearing.{HasHeard, WasTold, rounds_left}
use Rattle.fc_search.proofs.AskedAgain.{made_asked}
use Rattle.fc_search.proofs.TraceRounds.{at_first}

-- at the start every shard is awaited
first_awaited : (n : ℕ) → 1 ≤ n → list_any is_some (map (λ i. Some first) (numbers_below n)) ≡ true
first_awaited zero some = absurd (omega (arith, some))
first_awaited (suc n) some = refl

told_at_start : (r : Request) (W : World) (n : ℕ) → n ≡ length W → 1 ≤ n → Keeps (at_start r n) [] → WasTold r W (at_start r n) []
told_at_start r W n shards some kept = record {
  request = refl;
  shards = length-map (numbers_below n) (λ i. Some first) ∙ length-range_with_len 0 n ∙ shards;
  kept = kept;
  answers = tt;
  fresh = refl;
  asks = made_asked (λ ask. 0 < asked_count ask) (λ i. Some first) (λ i ask e. subst (λ a. 0 < asked_count a) (some_exact first ask e) (omega arith)) (numbers_below n);
  goes_on = λ unready. first_awaited n some;
  rounds = λ j. rounds_from r W (all_left j) 2 (at_first r W n shards j);
  counted = (omega arith, omega arith);
}
  where
    all_left : terms_depth r.nodes + 1 - 1 ≡ terms_depth r.nodes
    all_left = omega arith

pub hearing_at_start : (r : Request) (W : World) (n : ℕ) (s : State) → n ≡ length W → 1 ≤ n → s ≡ at_start r n → Keeps s [] → HasHeard r W s []
hearing_at_start r W n s shards some is kept = subst (λ x. Keeps x [] → HasHeard r W x []) (sym is) (λ k. ([], told_at_start r W n shards some k, refl)) kept

-- ---- behind a round fewer are left

left_open : (s : State) → s.ready ≡ false → rounds_left s ≡ suc (terms_depth s.request.nodes + 1 - s.round)
left_open s unready = ap (λ b. cond b 0 (suc (terms_depth s.request.nodes + 1 - s.round))) unready

pub fewer_begun : (s : State) (A : List Told) → Keeps s A → list_any is_some s.asks ≡ false → s.ready ≡ false → rounds_left (begun s (lacks_next s A)) < rounds_left s
fewer_begun s A k none unready = go (lacks_next s A) (has_begun s A k none)
  where
    go : (all : List Lack) → HasBegun s A all → rounds_left (begun s all) < rounds_left s
    go [] b = let left = left_open s unready in omega (arith, left)
    go (l ∷ ls) b =
        let counted : s.round ≤ terms_depth s.request.nodes = b.counted (ne_eqb (suc (length ls)) 0 (λ e. omega arith)) in
        let before = left_open s unready in
        let after = left_open (begun s (l ∷ ls)) unready in
        omega (arith, counted, before, after)
