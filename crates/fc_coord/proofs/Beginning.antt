-- The next round begins, or the reply can be made.
use Rattle.std.proofs.Common.{◌≡◌, ℕ, zero, suc, ◌+◌, ◌<◌, ◌≤◌, List, [], ◌∷◌, ◌++◌, append-nil, map, length, true, false, ◌||◌, Option, Some, is_some, is_none, IsTrue, refl, sym, ◌∙◌, ap, subst, inl, inr, arith}
use Rattle.std.specs.List.{AllByRecursion, list_any, range_with_len}
use Rattle.std.proofs.lemmas.Bool.{false≢true, cases_lt}
use Rattle.std.proofs.lemmas.List.{length-map}
use Rattle.std.proofs.lemmas.List.FromFn.{length-range_with_len}
use Rattle.fc_spec.specs.words.Lists.{is_empty, numbers_below}
use Rattle.fc_spec.specs.requests.Request.{Request}
use Rattle.fc_spec.specs.messages.Message.{Want, way_of, Ask, first, more}
use Rattle.fc_spec.specs.messages.Held.{Told, held}
use Rattle.fc_spec.specs.messages.Merged.{over_held}
use Rattle.fc_spec.specs.messages.Lacks.{Lack, wanted, lacks, untold, terms_depth}
use Rattle.fc_spec.specs.messages.Rounds.{wants_of}
use Rattle.fc_spec.specs.laws.LacksLaws.{way_depth, AreWithinDepth}
use Rattle.fc_spec.specs.laws.Merging.{HasRoots, LacksNothing}
use Rattle.fc_told.specs.Trees.{nothing}
use Rattle.fc_told.specs.Telling.{Tells}
use Rattle.fc_spec.proofs.words.NumbersBelow.{member_below}
use Rattle.fc_spec.proofs.words.Members.{Member, filter_member, all_from_members, each_member}
use Rattle.fc_spec.proofs.messages.HeldFurther.{all_append}
use Rattle.fc_spec.proofs.messages.Beyond.{wanted_beyond, wanted_among}
use Rattle.fc_spec.proofs.messages.SearchEnds.{IsNext, next_is}
use Rattle.fc_spec.proofs.messages.Ways.{none_not_some, some_exact}
use Rattle.fc_coord.specs.State.{State, ask_at, at_start, ask_for, asks_for, begun, lacks_next, goes_on}
use Rattle.fc_coord.specs.Keeps.{Round, roots, lacking_at, depth_of, ask_in, Begins, IsAnswered, AreAnswered, IsRooted, HasEnded, Keeps}
use Rattle.fc_coord.specs.View.{KeepsAt}
use Rattle.fc_coord.proofs.Hearing.{none_asked, want_there}
use Rattle.fc_coord.proofs.Rising.{nothing_lacks_down_to}

-- ---- at the start

first_asked : (xs : List ℕ) (i : ℕ) (ask : Ask) → ask_at (map (λ _. Some first) xs) i ≡ Some ask → ask ≡ first
first_asked [] i ask e = absurd (none_not_some ask e)
first_asked (x ∷ xs) zero ask e = sym (some_exact first ask e)
first_asked (x ∷ xs) (suc i) ask e = first_asked xs i ask e

start_awaited : (xs : List ℕ) (i : ℕ) → i < length (map (λ _. Some first) xs) → is_some (ask_at (map (λ _. Some first) xs) i) ≡ true
start_awaited [] i less = absurd (omega arith)
start_awaited (x ∷ xs) zero less = refl
start_awaited (x ∷ xs) (suc i) less = start_awaited xs i (omega arith)

pub start_keeps : (r : Request) (n : ℕ) → Tells nothing [] → KeepsAt (at_start r n) [] 0
start_keeps r n tells = (
  record {
    before = [];
    here = [];
    asking = roots;
    told = refl;
    tree = tells;
    fitting = tt;
    sums = record { counts = λ way. omega arith; sizes = λ m way. omega arith };
    once = λ i j d before within. absurd (omega arith);
    begins = refl;
    depths = tt;
    asked = λ i ask e. record { own = first_asked (numbers_below n) i ask e; untold = tt };
    answered = tt;
    rounds = omega arith;
    rooted = λ i less. ap (λ b. b || false) (start_awaited (numbers_below n) i less);
    ended = λ ready. absurd (false≢true ready);
  },
  refl,
)

-- ---- a round has ended

-- down to the depth of the round nothing lacks
nothing_down : (r : Request) (n : ℕ) (before here : List Told) (round : Round) (asks : List (Option Ask)) → list_any is_some asks ≡ false → Begins r n before round → AllByRecursion (λ t. way_depth r.nodes t.way ≡ depth_of round) here
    → AreAnswered r n before round asks here → (d : ℕ) → d < depth_of round → lacks r n (before ++ here) d ≡ []
nothing_down r n before here roots asks none begins depths answered d less = absurd (omega arith)
nothing_down r n before here (lacking_at e) asks none begins depths answered d less =
    nothing_lacks_down_to r n e before here begins.1
    (all_from_members (λ t. e < way_depth r.nodes t.way) here (λ t there. let own : way_depth r.nodes t.way ≡ suc e = each_member (λ x. way_depth r.nodes x.way ≡ suc e) here t depths there in omega arith))
    (λ l there. ap (λ b. b || is_some (held here l.shard (way_of l.want))) (sym (none_asked asks l.shard none)) ∙ each_member (IsAnswered asks here) (lacks r n before e) l answered there)
    d less

-- nor was anything told of deeper buckets
within_down : (r : Request) (n f : ℕ) (before here : List Told) (round : Round) → depth_of round ≤ f → Begins r n before round → AllByRecursion (λ t. way_depth r.nodes t.way ≡ depth_of round) here → AreWithinDepth r.nodes f (before ++ here)
within_down r n f before here round le begins depths =
    all_append (λ t. way_depth r.nodes t.way ≤ f) before here (earlier round le begins)
    (all_from_members (λ t. way_depth r.nodes t.way ≤ f) here (λ t there. let own = each_member (λ x. way_depth r.nodes x.way ≡ depth_of round) here t depths there in omega arith))
  where
    earlier : (q : Round) → depth_of q ≤ f → Begins r n before q → AreWithinDepth r.nodes f before
    earlier roots le b = subst (AreWithinDepth r.nodes f) (sym b) tt
    earlier (lacking_at e) le b = all_from_members (λ t. way_depth r.nodes t.way ≤ f) before (λ t there. let own = each_member (λ x. way_depth r.nodes x.way ≤ e) before t b.0 there in let z : suc e ≤ f = le in omega arith)

-- ---- the asks of the next round

made_is : (g : ℕ → Option Ask) (n from i : ℕ) (ask : Ask) → ask_at (map g (range_with_len from n)) i ≡ Some ask → g (from + i) ≡ Some ask
made_is g zero from i ask e = absurd (none_not_some ask e)
made_is g (suc n) from zero ask e = ap g (omega arith) ∙ e
made_is g (suc n) from (suc i) ask e = ap g (omega arith) ∙ made_is g n (from + 1) i ask e

made_at : (g : ℕ → Option Ask) (n from i : ℕ) → i < n → ask_at (map g (range_with_len from n)) i ≡ g (from + i)
made_at g zero from i less = absurd (omega arith)
made_at g (suc n) from zero less = ap g (omega arith)
made_at g (suc n) from (suc i) less = made_at g n (from + 1) i (omega arith) ∙ ap g (omega arith)

wants_asked : (ws : List Want) (ask : Ask) → ask_for ws ≡ Some ask → ask ≡ more ws
wants_asked [] ask e = absurd (none_not_some ask e)
wants_asked (w ∷ ws) ask e = sym (some_exact (more (w ∷ ws)) ask e)

some_wants : (ws : List Want) (w : Want) → Member w ws → is_some (ask_for ws) ≡ true
some_wants [] w m = absurd m
some_wants (v ∷ ws) w m = refl

pub length-asks_for : (n : ℕ) (all : List Lack) → length (asks_for n all) ≡ n
length-asks_for n all = length-map (numbers_below n) (λ i. ask_for (wants_of i all)) ∙ length-range_with_len 0 n

lack_asked : (r : Request) (n : ℕ) (A : List Told) (f : ℕ) (l : Lack) → Member l (lacks r n A f) → is_some (ask_at (asks_for n (lacks r n A f)) l.shard) ≡ true
lack_asked r n A f l m =
    let all = wanted (over_held A) f r.nodes 0 (numbers_below n) [] [] in
    let there = wanted_among (over_held A) r.nodes f 0 (numbers_below n) [] [] l (filter_member (λ k. is_none (held A k.shard (way_of k.want))) all l m).0 in
    ap is_some (made_at (λ i. ask_for (wants_of i (lacks r n A f))) n 0 l.shard (member_below n l.shard there) ∙ ap (λ i. ask_for (wants_of i (lacks r n A f))) (omega arith))
    ∙ some_wants (wants_of l.shard (lacks r n A f)) l.want (want_there l.shard (lacks r n A f) l m refl)

-- ---- what is kept, and how many rounds there are

-- each shard has told its root
root_is_told : (round : Round) (asks : List (Option Ask)) (A : List Told) (i : ℕ) → list_any is_some asks ≡ false → IsRooted round asks A i → IsTrue (is_some (held A i []))
root_is_told roots asks A i none h = sym (ap (λ b. b || is_some (held A i [])) (none_asked asks i none)) ∙ h
root_is_told (lacking_at e) asks A i none h = h

roots_told : (s : State) (A : List Told) → Keeps s A → list_any is_some s.asks ≡ false → HasRoots (length s.asks) A
roots_told s A k none i less = root_is_told k.asking s.asks A i none (k.rooted i less)

-- what lacks at no depth of the request's terms facets lacks nowhere
nowhere_beyond : (r : Request) (n : ℕ) (A : List Told) → ((d : ℕ) → d < terms_depth r.nodes → lacks r n A d ≡ []) → LacksNothing r n A
nowhere_beyond r n A none e = elim (cases_lt e (terms_depth r.nodes)) [ inl low ↦ none e low | inr high ↦ ap (untold A) (wanted_beyond (over_held A) r.nodes e 0 (numbers_below n) [] [] high) ]

-- whatever lacks at a depth of the request's terms facets
depth_bound : (r : Request) (n : ℕ) (A : List Told) (f : ℕ) → is_empty (lacks r n A f) ≡ false → f < terms_depth r.nodes
depth_bound r n A f some = elim (cases_lt f (terms_depth r.nodes)) [
  | inl low ↦ low
  | inr high ↦ absurd (false≢true (sym some ∙ ap (λ all. is_empty (untold A all)) (wanted_beyond (over_held A) r.nodes f 0 (numbers_below n) [] [] high)))
]

-- a state that begins a round for all of this, and may count it
pub record HasBegun (s : State) (A : List Told) (all : List Lack) : Type 0 where
  pub keeps : Keeps (begun s all) A
  pub counted : is_empty all ≡ false → s.round ≤ terms_depth s.request.nodes

begun_again : (s : State) (A : List Told) (all : List Lack) (f : ℕ) → Keeps s A → HasRoots (length s.asks) A → all ≡ lacks s.request (length s.asks) A f → is_empty all ≡ false → AreWithinDepth s.request.nodes f A → ((d : ℕ) → d < f → lacks s.request (length s.asks) A d ≡ []) → s.round ≤ f + 1
    → KeepsAt (begun s all) A (suc f)
begun_again s A [] f k told is some within none rounds = absurd (false≢true (sym some))
begun_again s A (l ∷ ls) f k told is some within none rounds =
    let r = s.request in
    let n = length s.asks in
    let len = sym (length-asks_for n (l ∷ ls)) in
    let asked : (i : ℕ) (ask : Ask) → ask_at (asks_for n (l ∷ ls)) i ≡ Some ask → ask ≡ ask_in r n A (lacking_at f) i = λ i ask e.
    wants_asked (wants_of i (l ∷ ls)) ask (ap (λ j. ask_for (wants_of j (l ∷ ls))) (omega arith) ∙ made_is (λ j. ask_for (wants_of j (l ∷ ls))) n 0 i ask e) ∙ ap (λ all. more (wants_of i all)) is in
    let answered : AreAnswered r n A (lacking_at f) (asks_for n (l ∷ ls)) [] =
    all_from_members (IsAnswered (asks_for n (l ∷ ls)) []) (lacks r n A f)
    (λ x m. ap (λ b. b || false) (ap (λ all. is_some (ask_at (asks_for n all) x.shard)) is ∙ lack_asked r n A f x m)) in (
      record {
        before = A;
        here = [];
        asking = lacking_at f;
        told = sym (append-nil A);
        tree = k.tree;
        fitting = k.fitting;
        sums = k.sums;
        once = k.once;
        begins = subst (λ z. Begins r z A (lacking_at f)) len (within, none);
        depths = tt;
        asked = λ i ask e. record { own = asked i ask e ∙ ap (λ z. ask_in r z A (lacking_at f) i) len; untold = tt };
        answered = subst (λ z. AreAnswered r z A (lacking_at f) (asks_for n (l ∷ ls)) []) len answered;
        rounds = omega arith;
        rooted = λ i less. told i (let same = length-asks_for n (l ∷ ls) in omega arith);
        ended = λ ready. absurd (false≢true (sym some ∙ ap is_empty (is ∙ (k.ended ready).2 f)));
      },
      refl,
    )

ready_keeps : (s : State) (A : List Told) (k : Keeps s A) → HasEnded s A → KeepsAt (record s { ready = true }) A (depth_of k.asking)
ready_keeps s A k over = (
  record {
    before = k.before;
    here = k.here;
    asking = k.asking;
    told = k.told;
    tree = k.tree;
    fitting = k.fitting;
    sums = k.sums;
    once = k.once;
    begins = k.begins;
    depths = k.depths;
    asked = k.asked;
    answered = k.answered;
    rounds = k.rounds;
    rooted = k.rooted;
    ended = λ ready. over;
  },
  refl,
)

-- nothing lacks
pub ready_at_end : (s : State) (A : List Told) (k : Keeps s A) → list_any is_some s.asks ≡ false → ((d : ℕ) → d < terms_depth s.request.nodes → lacks s.request (length s.asks) A d ≡ []) → KeepsAt (record s { ready = true }) A (depth_of k.asking)
ready_at_end s A k none nowhere = ready_keeps s A k (none, roots_told s A k none, nowhere_beyond s.request (length s.asks) A nowhere)

module _ (s : State) (A : List Told) (k : Keeps s A) (none : list_any is_some s.asks ≡ false) where
  -- down to the depth of the round nothing lacks
  pub down : (d : ℕ) → d < depth_of k.asking → lacks s.request (length s.asks) A d ≡ []
  down d less = subst (λ T. lacks s.request (length s.asks) T d ≡ []) (sym k.told) (nothing_down s.request (length s.asks) k.before k.here k.asking s.asks none k.begins k.depths k.answered d less)

  -- what lacks at a depth, and nothing at less
  module _ (all : List Lack) (f : ℕ) (is : all ≡ lacks s.request (length s.asks) A f) (some : is_empty all ≡ false) (below : (d : ℕ) → d < f → lacks s.request (length s.asks) A d ≡ []) where
    full : is_empty (lacks s.request (length s.asks) A f) ≡ false
    full = ap is_empty (sym is) ∙ some

    deeper : depth_of k.asking ≤ f
    deeper = elim (cases_lt f (depth_of k.asking)) [ inl low ↦ absurd (false≢true (sym full ∙ ap is_empty (down f low))) | inr high ↦ high ]

    pub begun_at : KeepsAt (begun s all) A (suc f)
    begun_at =
        begun_again s A all f k (roots_told s A k none) is some
        (subst (AreWithinDepth s.request.nodes f) (sym k.told) (within_down s.request (length s.asks) f k.before k.here k.asking deeper k.begins k.depths)) below (let a = k.rounds in let b = deeper in omega arith)

    pub round_counted : s.round ≤ terms_depth s.request.nodes
    round_counted = let a = k.rounds in let b = deeper in let c = depth_bound s.request (length s.asks) A f full in omega arith

pub has_begun : (s : State) (A : List Told) → Keeps s A → list_any is_some s.asks ≡ false → HasBegun s A (lacks_next s A)
has_begun s A k none = go (lacks_next s A) (next_is s.request (length s.asks) A (terms_depth s.request.nodes) 0)
  where
    go : (all : List Lack) → IsNext s.request (length s.asks) A (terms_depth s.request.nodes) 0 all → HasBegun s A all
    go all (inl ended) =
        subst (HasBegun s A) (sym ended.0) (record { keeps = (ready_at_end s A k none (λ d less. ended.1 d (omega arith) (omega arith))).0; counted = λ e. absurd (false≢true (sym e)) })
    go all (inr goes_on) =
        let below = λ (d : ℕ) (less : d < goes_on.0). goes_on.3 d (omega arith) less in
        record { keeps = (begun_at s A k none all goes_on.0 goes_on.1 goes_on.2 below).0; counted = λ e. round_counted s A k none all goes_on.0 goes_on.1 goes_on.2 below }
