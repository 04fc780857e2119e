-- What shards are asked they can be asked: wants name values of their facets.
use Rattle.std.proofs.Common.{◌≡◌, ℕ, zero, suc, ◌+◌, ◌<◌, List, [], ◌∷◌, ◌++◌, map, length, Bool, true, false, not, ◌&&◌, Option, None, Some, is_none, refl, sym, ◌∙◌, ap, subst, arith, inl, inr}
use Rattle.std.specs.Prelude.{nat_le}
use Rattle.std.specs.List.{AllByRecursion, filter, flat_map}
use Rattle.std.proofs.lemmas.Bool.{false≢true, and_from, and_parts}
use Rattle.fc_spec.specs.documents.Val.{Val, same_val, has_val, distinct}
use Rattle.fc_spec.specs.documents.World.{World, Place, on_shards}
use Rattle.fc_spec.specs.words.Lists.{is_below_bound, is_empty, numbers_below}
use Rattle.fc_spec.specs.requests.Base.{root_domain}
use Rattle.fc_spec.specs.requests.Paths.{at_root, domain}
use Rattle.fc_spec.specs.requests.Buckets.{value, has_prefix, in_bucket, is_key_of}
use Rattle.fc_spec.specs.documents.Document.{values_of}
use Rattle.fc_spec.specs.requests.Ranks.{Entry, rank, offered_bound}
use Rattle.fc_spec.specs.requests.Request.{Stat, Terms, Kind, terms, range, date_range, query, Facet, Nodes, no_nodes, statistic, facet, Request, stats_of}
use Rattle.fc_spec.specs.requests.Statistics.{stats_over, pair_values}
use Rattle.fc_spec.specs.replies.Values.{value_places, values_in, entries_in}
use Rattle.fc_spec.specs.replies.Reading.{offered}
use Rattle.fc_spec.specs.replies.Tops.{values_from}
use Rattle.fc_spec.specs.messages.Message.{Want, way_of}
use Rattle.fc_spec.specs.messages.Target.{facet_at}
use Rattle.fc_spec.specs.messages.TopRounds.{ToldCount, ExactAsk, exact_first, exact_least, exact_more, exact_answer, ExactSent, exact_sent, exact_told_in, values_told, count_told, leasts, wants_at, wants_from, offering_round, least_round, lacking_round, exact_rounds}
use Rattle.fc_spec.specs.laws.LacksLaws.{has_key, names_keys}
use Rattle.fc_spec.specs.laws.TopRoundsLaw.{IsTopKind, AreTopNodes}
use Rattle.fc_spec.proofs.words.AlikeLists.{member_map}
use Rattle.fc_spec.proofs.words.Members.{Member, all_from_members, each_member, filter_member, list_any-flat_map, passing_member}
use Rattle.fc_spec.proofs.documents.Ascending.{has_val-distinct}
use Rattle.fc_spec.proofs.messages.HeldFurther.{all_append}
use Rattle.fc_spec.proofs.messages.ToldCounts.{IsHeard, IsPlainAsk, number_at, values_of as told_values, values_are}
use Rattle.fc_spec.proofs.messages.Ways.{none_not_some, some_exact}
use Rattle.fc_spec.proofs.replies.TopValues.{has_member, member_has}
use Rattle.fc_exact.specs.State.{State, ask_at}
use Rattle.fc_exact.specs.Rounds.{AreAskable, IsAskable, WasTold, awaited_messages, messages_from, rounds_until}

-- ---- values

a_member : {X : Type 0} (xs : List X) → not (is_empty xs) ≡ true → (x : X) × Member x xs
a_member [] h = absurd (false≢true h)
a_member (x ∷ xs) h = (x, inl refl)

module _ (t : Terms) where
  -- those that have a place begin with the prefix
  prefix_of : (Y : List Place) (v : Val) → Member v (values_in t Y) → has_prefix t.prefix v ≡ true
  prefix_of Y v m =
      let some = (filter_member (λ w. not (is_empty (value_places t w Y))) (distinct (pair_values t.field Y)) v m).1 in
      let p = a_member (value_places t v Y) some in
      let inside = (filter_member (λ (q : Place). in_bucket (terms t) (value v) q.document) Y p.0 p.1).1 in
      (and_parts (has_val v (values_of (p.0).document t.field)) (has_prefix t.prefix v) inside).1

  -- so do those of some entries
  prefix_of_entry : (ss : List Stat) (Y : List Place) (q : Entry → Bool) (v : Val) → Member v (map (λ e. e.val) (filter q (entries_in t ss Y))) → has_prefix t.prefix v ≡ true
  prefix_of_entry ss Y q v m =
      let e = member_map (λ (e : Entry). e.val) (filter q (entries_in t ss Y)) v m in
      let w = member_map (λ w. record { val = w; stats = stats_over ss (value_places t w Y) }) (values_in t Y) e.0 (filter_member q (entries_in t ss Y) e.0 e.1).0 in
      subst (λ u. has_prefix t.prefix u ≡ true) (sym (e.2 ∙ ap (λ (x : Entry). x.val) w.2)) (prefix_of Y w.0 w.1)

  offered_prefix : (inner : Nodes) (Y : List Place) (i : ℕ) (v : Val) → Member v (offered t inner Y i) → has_prefix t.prefix v ≡ true
  offered_prefix inner Y i v m =
      let P = on_shards (i ∷ []) Y in
      prefix_of_entry (stats_of inner) P (λ e. is_below_bound (offered_bound t) (rank t.sort (entries_in t (stats_of inner) P) e)) v m

  from_prefix : (least : ℕ) (Y : List Place) (i : ℕ) (v : Val) → Member v (values_from t least Y i) → has_prefix t.prefix v ≡ true
  from_prefix least Y i v m = prefix_of_entry [] (on_shards (i ∷ []) Y) (λ e. nat_le least e.stats.count) v m

-- ---- what is told before the third round

abbrev IsEarly : ExactAsk → Type 0
IsEarly (exact_more wants) = ⊥
IsEarly _ = Unit {0}

abbrev WasEarly : Request → World → ExactSent → Type 0
WasEarly x W s = (s.message ≡ exact_answer x W s.shard s.ask) × IsEarly s.ask

module _ (x : Request) (W : World) (n : ℕ) (f : Facet) (t : Terms) (top : AreTopNodes x.nodes) (at : facet_at n x.nodes ≡ Some (record { name = f.name; change = f.change; kind = terms t }, no_nodes)) where
  abbrev told_by : ExactAsk → ℕ → List Val
  told_by ask i = told_values x W n f t top at ask i

  early_plain : (ask : ExactAsk) → IsEarly ask → IsPlainAsk x W n f t top at ask
  early_plain exact_first early = tt
  early_plain (exact_least ns) early = tt
  early_plain (exact_more ws) early = absurd early

  all_heard : (sent : List ExactSent) → AllByRecursion (WasEarly x W) sent → AllByRecursion (IsHeard x W n f t top at) sent
  all_heard [] h = tt
  all_heard (s ∷ ss) h = ((h.0.0, early_plain s.ask h.0.1), all_heard ss h.1)

  answered_prefix : (ask : ExactAsk) (i : ℕ) (v : Val) → IsEarly ask → Member v (told_by ask i) → has_prefix t.prefix v ≡ true
  answered_prefix exact_first i v early m = offered_prefix t no_nodes (domain x W at_root f.change (root_domain x W)) i v m
  answered_prefix (exact_least ns) i v early m = from_prefix t (number_at n ns) (domain x W at_root f.change (root_domain x W)) i v m
  answered_prefix (exact_more ws) i v early m = absurd early

  told_prefix : (sent : List ExactSent) → AllByRecursion (WasEarly x W) sent → (v : Val) → Member v (values_told (exact_told_in sent) n) → has_prefix t.prefix v ≡ true
  told_prefix sent early v m =
      let all = flat_map (λ (s : ExactSent). told_by s.ask s.shard) sent in
      let told : has_val v all ≡ true = sym (has_val-distinct v all) ∙ ap (has_val v) (sym (values_are x W n f t top at sent (all_heard sent early))) ∙ member_has v (values_told (exact_told_in sent) n) m in
      let s = passing_member (λ (s : ExactSent). has_val v (told_by s.ask s.shard)) sent (sym (list_any-flat_map (same_val v) (λ (s : ExactSent). told_by s.ask s.shard) sent) ∙ told) in
      let own = each_member (WasEarly x W) sent s.0 early s.1 in
      answered_prefix (s.0).ask (s.0).shard v own.1 (has_member v (told_by (s.0).ask (s.0).shard) s.2)

-- ---- wants

module _ (x : Request) (W : World) (top : AreTopNodes x.nodes) (sent : List ExactSent) (early : AllByRecursion (WasEarly x W) sent) (i : ℕ) where
  abbrev A : List ToldCount
  A = exact_told_in sent

  abbrev Names : Want → Type 0
  Names w = names_keys x.nodes (way_of w) ≡ true

  -- of one facet
  named_at : (f : Facet) (kind : Kind) (k : ℕ) → IsTopKind kind → facet_at k x.nodes ≡ Some (record { name = f.name; change = f.change; kind = kind }, no_nodes) → AllByRecursion Names (wants_at A i k)
  named_at f (terms t) k is at = all_from_members Names (wants_at A i k) (λ w m.
      let lacking = filter (λ v. is_none (count_told A k v i)) (values_told A k) in
      let u = member_map (λ v. record { path = []; node = k; key = value v }) lacking w m in
      let prefix = told_prefix x W k f t top at sent early u.0 (filter_member (λ v. is_none (count_told A k v i)) (values_told A k) u.0 u.1).0 in
      let key : has_key (facet_at k x.nodes) (value u.0) ≡ true = ap (λ o. has_key o (value u.0)) at ∙ prefix in
      subst Names (sym u.2) (and_from (has_key (facet_at k x.nodes) (value u.0)) true key refl))
  named_at f (range g) k is at = absurd is
  named_at f (date_range g) k is at = absurd is
  named_at f (query q) k is at = absurd is

  -- of the facets from some place on
  named_from : (rest : Nodes) (k : ℕ) → AreTopNodes rest → ((m : ℕ) → facet_at (k + m) x.nodes ≡ facet_at m rest) → AllByRecursion Names (wants_from A i rest k)
  named_from no_nodes k tops at = tt
  named_from (statistic name s rest) k tops at = absurd tops
  named_from (facet f inner rest) k tops at =
      let here : facet_at k x.nodes ≡ Some (f, inner) = ap (λ j. facet_at j x.nodes) (let e : k ≡ k + 0 = omega arith in e) ∙ at 0 in
      all_append Names (wants_at A i k) (wants_from A i rest (suc k)) (named_at f f.kind k tops.0 (here ∙ ap (λ nodes. Some (f, nodes)) tops.1))
      (named_from rest (suc k) tops.2 (λ m. ap (λ j. facet_at j x.nodes) (let e : suc k + m ≡ k + suc m = omega arith in e) ∙ at (suc m)))

  named : AllByRecursion Names (wants_from A i x.nodes 0)
  named = named_from x.nodes 0 top (λ m. ap (λ j. facet_at j x.nodes) (let e : 0 + m ≡ m = omega arith in e))

-- ---- the rounds

some_length : {X : Type 0} (xs : List X) → not (is_empty xs) ≡ true → 0 < length xs
some_length [] h = absurd (false≢true h)
some_length (x ∷ xs) h = omega arith

module _ (x : Request) (W : World) (top : AreTopNodes x.nodes) where
  abbrev H : List ℕ
  H = numbers_below (length W)

  abbrev one : List ExactSent
  one = offering_round x W

  abbrev two : List ExactSent
  two = one ++ least_round x W (exact_told_in one)

  abbrev IsSound : ExactSent → Type 0
  IsSound m = IsAskable x m.ask

  one_early : AllByRecursion (WasEarly x W) one
  one_early = all_from_members (WasEarly x W) one (λ m mm. let u = member_map (λ i. exact_sent x W 1 i exact_first) H m mm in subst (WasEarly x W) (sym u.2) (refl, tt))

  abbrev least : ExactAsk
  least = exact_least (leasts x (length W) (exact_told_in one))

  least_early : AllByRecursion (WasEarly x W) (least_round x W (exact_told_in one))
  least_early = all_from_members (WasEarly x W) (least_round x W (exact_told_in one)) (λ m mm. let u = member_map (λ i. exact_sent x W 2 i least) H m mm in subst (WasEarly x W) (sym u.2) (refl, tt))

  two_early : AllByRecursion (WasEarly x W) two
  two_early = all_append (WasEarly x W) one (least_round x W (exact_told_in one)) one_early least_early

  sound_early : (ask : ExactAsk) → IsEarly ask → IsAskable x ask
  sound_early exact_first early = tt
  sound_early (exact_least ns) early = tt
  sound_early (exact_more ws) early = absurd early

  early_sound : (sent : List ExactSent) → AllByRecursion (WasEarly x W) sent → AllByRecursion IsSound sent
  early_sound [] h = tt
  early_sound (s ∷ ss) h = (sound_early s.ask h.0.1, early_sound ss h.1)

  abbrev wants : ℕ → List Want
  wants i = wants_from (exact_told_in two) i x.nodes 0

  third_sound : AllByRecursion IsSound (lacking_round x W (exact_told_in two))
  third_sound = all_from_members IsSound (lacking_round x W (exact_told_in two)) (λ m mm.
      let asked = filter (λ i. not (is_empty (wants i))) H in
      let u = member_map (λ i. exact_sent x W 3 i (exact_more (wants i))) asked m mm in
      let some = (filter_member (λ i. not (is_empty (wants i))) H u.0 u.1).1 in
      subst IsSound (sym u.2) (some_length (wants u.0) some, named x W top two two_early u.0))

  all_sound : AllByRecursion IsSound (exact_rounds x W)
  all_sound = all_append IsSound two (lacking_round x W (exact_told_in two)) (early_sound two two_early) third_sound

  sound_until : (k : ℕ) → AllByRecursion IsSound (rounds_until x W k)
  sound_until zero = all_sound
  sound_until (suc zero) = early_sound one one_early
  sound_until (suc (suc zero)) = early_sound two two_early
  sound_until (suc (suc (suc k))) = all_sound

-- ---- who is awaited

behind : {X : Type 0} (xs ys : List X) (y : X) → Member y ys → Member y (xs ++ ys)
behind [] ys y m = m
behind (x ∷ xs) ys y m = inr (behind xs ys y m)

awaited_member : (x : Request) (W : World) (round n i : ℕ) (asks : List (Option ExactAsk)) (ask : ExactAsk) → ask_at asks i ≡ Some ask → Member (exact_sent x W round (n + i) ask) (messages_from x W round n asks)
awaited_member x W round n i [] ask e = absurd (none_not_some ask e)
awaited_member x W round n zero (None ∷ asks) ask e = absurd (none_not_some ask e)
awaited_member x W round n zero (Some a ∷ asks) ask e = inl (λ j. exact_sent x W round ((let k : n + 0 ≡ n = omega arith in k) j) (sym (some_exact a ask e) j))
awaited_member x W round n (suc i) (None ∷ asks) ask e =
    subst (λ k. Member (exact_sent x W round k ask) (messages_from x W round (suc n) asks)) (let k : suc n + i ≡ n + suc i = omega arith in k) (awaited_member x W round (suc n) i asks ask e)
awaited_member x W round n (suc i) (Some a ∷ asks) ask e =
    inr (subst (λ k. Member (exact_sent x W round k ask) (messages_from x W round (suc n) asks)) (let k : suc n + i ≡ n + suc i = omega arith in k) (awaited_member x W round (suc n) i asks ask e))

pub are_askable : AreAskable
are_askable x W s sent i ask top was unready e =
    let m = exact_sent x W s.round (0 + i) ask in
    each_member (λ (u : ExactSent). IsAskable x u.ask) (rounds_until x W s.round) m (sound_until x W top s.round)
    (subst (Member m) (was.messages unready) (behind sent (awaited_messages x W s) m (awaited_member x W s.round 0 i s.asks ask e)))
