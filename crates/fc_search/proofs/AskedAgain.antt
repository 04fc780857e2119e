-- Who is asked, once a shard was heard and once a round begins.
use Rattle.std.proofs.Common.{◌≡◌, ℕ, zero, suc, ◌<◌, List, [], ◌∷◌, map, length, true, Option, None, Some, is_some, refl, sym, ◌∙◌, ap, subst, inl, inr, arith}
use Rattle.std.specs.Prelude.{slice_set}
use Rattle.std.specs.List.{AllByRecursion, list_any}
use Rattle.std.proofs.lemmas.Bool.{or_left, or_right}
use Rattle.fc_spec.specs.words.Lists.{numbers_below}
use Rattle.fc_spec.specs.requests.Ranks.{offered_bound}
use Rattle.fc_spec.specs.messages.Message.{Want, Ask, more}
use Rattle.fc_spec.specs.messages.Lacks.{Lack, lacks, terms_depth}
use Rattle.fc_spec.specs.messages.Held.{Told}
use Rattle.fc_spec.specs.messages.Rounds.{wants_of}
use Rattle.fc_spec.specs.laws.LacksLaws.{IsThere}
use Rattle.fc_spec.proofs.words.Members.{Member}
use Rattle.fc_spec.proofs.messages.LacksThere.{lacks_are_there}
use Rattle.fc_spec.proofs.messages.SearchEnds.{IsNext, next_is, number_is_below}
use Rattle.fc_spec.proofs.messages.Ways.{none_not_some, some_exact}
use Rattle.fc_coord.specs.State.{State, ask_at, ask_for, asks_for, lacks_next}
use Rattle.fc_coord.specs.Keeps.{Keeps}
use Rattle.fc_coord.proofs.Hearing.{want_there}
use Rattle.fc_units.specs.Asked.{asked_count}

-- what holds of all asks holds of those that are left
pub kept_asked : (P : Ask → Type 0) (asks : List (Option Ask)) (i : ℕ) → ((j : ℕ) (ask : Ask) → ask_at asks j ≡ Some ask → P ask) → (j : ℕ) (ask : Ask) → ask_at (slice_set asks i None) j ≡ Some ask → P ask
kept_asked P [] i each j ask e = absurd (none_not_some ask e)
kept_asked P (x ∷ asks) zero each zero ask e = absurd (none_not_some ask e)
kept_asked P (x ∷ asks) zero each (suc j) ask e = each (suc j) ask e
kept_asked P (x ∷ asks) (suc i) each zero ask e = each zero ask e
kept_asked P (x ∷ asks) (suc i) each (suc j) ask e = kept_asked P asks i (λ k a f. each (suc k) a f) j ask e

-- and of each that is made
pub made_asked : (P : Ask → Type 0) (g : ℕ → Option Ask) → ((i : ℕ) (ask : Ask) → g i ≡ Some ask → P ask) → (is : List ℕ) (j : ℕ) (ask : Ask) → ask_at (map g is) j ≡ Some ask → P ask
made_asked P g each [] j ask e = absurd (none_not_some ask e)
made_asked P g each (i ∷ is) zero ask e = go (g i) refl e
  where
    go : (o : Option Ask) → g i ≡ o → ask_at (o ∷ map g is) zero ≡ Some ask → P ask
    go None h f = absurd (none_not_some ask f)
    go (Some a) h f = each i ask (h ∙ ap Some (some_exact a ask f))
made_asked P g each (i ∷ is) (suc j) ask e = made_asked P g each is j ask e

-- an ask for wants has some
pub some_wanted : (ws : List Want) (ask : Ask) → ask_for ws ≡ Some ask → 0 < asked_count ask
some_wanted [] ask e = absurd (none_not_some ask e)
some_wanted (w ∷ ws) ask e = subst (λ a. 0 < asked_count a) (some_exact (more (w ∷ ws)) ask e) (let some : 0 < suc (length ws) = omega arith in some)

-- ---- in a round that begins some shard is asked

any_made : (g : ℕ → Option Ask) (is : List ℕ) (i : ℕ) → Member i is → is_some (g i) ≡ true → list_any is_some (map g is) ≡ true
any_made g [] i m e = absurd m
any_made g (k ∷ ks) i (inl h) e = or_left (is_some (g k)) (list_any is_some (map g ks)) (ap (λ n. is_some (g n)) (sym h) ∙ e)
any_made g (k ∷ ks) i (inr m) e = or_right (is_some (g k)) (list_any is_some (map g ks)) (any_made g ks i m e)

asked_for : (ws : List Want) (w : Want) → Member w ws → is_some (ask_for ws) ≡ true
asked_for [] w m = absurd m
asked_for (v ∷ ws) w m = refl

-- what lacks next lacks at a shard that is there
next_there : (s : State) (A : List Told) (l : Lack) (ls : List Lack) → Keeps s A → lacks_next s A ≡ l ∷ ls → l.shard < length s.asks
next_there s A l ls k e = go (next_is s.request (length s.asks) A (terms_depth s.request.nodes) 0)
  where
    go : IsNext s.request (length s.asks) A (terms_depth s.request.nodes) 0 (lacks_next s A) → l.shard < length s.asks
    go (inl nothing) = absurd (let none = sym nothing.0 ∙ e in cc)
    go (inr some) =
        let at : lacks s.request (length s.asks) A some.0 ≡ l ∷ ls = sym some.1 ∙ e in
        let all : AllByRecursion (IsThere s.request (length s.asks)) (l ∷ ls) = subst (AllByRecursion (IsThere s.request (length s.asks))) at (lacks_are_there offered_bound s.request (length s.asks) A some.0 k.fitting) in
        (all.0).shard

pub round_asks : (s : State) (A : List Told) (l : Lack) (ls : List Lack) → Keeps s A → lacks_next s A ≡ l ∷ ls → list_any is_some (asks_for (length s.asks) (l ∷ ls)) ≡ true
round_asks s A l ls k e =
    let n = length s.asks in
    let there = next_there s A l ls k e in
    any_made (λ i. ask_for (wants_of i (l ∷ ls))) (numbers_below n) l.shard (number_is_below n 0 l.shard (omega arith) (omega (arith, there)))
    (asked_for (wants_of l.shard (l ∷ ls)) l.want (want_there l.shard (l ∷ ls) l (inl refl) refl))
