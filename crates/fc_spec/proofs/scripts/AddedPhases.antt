-- The lines of all phases are an output of the script, with what was sent for them.
use Rattle.std.proofs.Common.{◌≡◌, ℕ, zero, suc, ◌+◌, ◌<◌, ◌≤◌, List, [], ◌∷◌, ◌++◌, length, map, take, Bool, true, false, ◌&&◌, ◌==◌, nat_le, count_by, slice_index, Some, Ok, Err, refl, sym, ◌∙◌, ap, subst, append-nil, add-one, arith}
use Rattle.std.specs.Prelude.{All}
use Rattle.std.specs.List.{filter, list_all, range_with_len, AllByRecursion}
use Rattle.std.proofs.lemmas.Bool.{and_from, le-leb, eq-eqb, eqb-true}
use Rattle.std.proofs.lemmas.List.Elements.{All-nil, All-map, All-filter, All-push, All-weaker}
use Rattle.std.proofs.lemmas.List.Sums.{list_all-from_AllPass}
use Rattle.std.proofs.lemmas.List.FromFn.{fill_by_all, length-map-range_with_len}
use Rattle.fc_spec.specs.documents.Document.{Batch}
use Rattle.fc_spec.specs.documents.Operations.{after_ops}
use Rattle.fc_spec.specs.documents.Val.{Text, same_text}
use Rattle.fc_spec.specs.messages.WholeTrace.{whole_trace}
use Rattle.fc_spec.specs.laws.PhaseLaws.{PhasesAddUp}
use Rattle.fc_spec.specs.words.Lists.{joined, numbers_below}
use Rattle.fc_spec.specs.scripts.AskedScripts.{Asked, AskedScript}
use Rattle.fc_spec.specs.scripts.Lines.{reply_line}
use Rattle.fc_spec.specs.scripts.Outputs.{legal_on, legal, Seen, shown_to, Replies}
use Rattle.fc_spec.specs.scripts.Phases.{Search, numbers_at_end, phase, searches}
use Rattle.fc_spec.specs.scripts.PinnedWorlds.{world_at, AreBetween}
use Rattle.fc_spec.specs.scripts.SearchLines.{least_after, SearchLine, IsLineOver, ArePhaseLines, AreLinesOfAll, sent_for, text_of}
use Rattle.fc_spec.specs.scripts.Booked.{Books, IsBookedLineThen, AreBooked, book, book_if, book_all}
use Rattle.fc_spec.specs.scripts.Script.{commits_before, commits_up_to, is_sync, stream, world}
use Rattle.fc_spec.specs.scripts.ScriptParts.{batches}
use Rattle.fc_spec.proofs.words.NumbersBelow.{all_below, at_number}
use Rattle.fc_spec.proofs.words.Texts.{differs, equal, same_itself}
use Rattle.fc_spec.proofs.scripts.CommitOrder.{commits_before_end}
use Rattle.fc_spec.proofs.scripts.PhaseSearches.{stand_by_phase}

-- ---- the world

world_zip : (f : ℕ → List Batch) (h : ℕ → ℕ) (ns : List ℕ) → world_at (map f ns) (map h ns) ≡ map (λ s. after_ops [] (joined (take (h s) (f s)))) ns
world_zip f h [] = refl
world_zip f h (n ∷ ns) = ap (λ rest. after_ops [] (joined (take (h n) (f n))) ∷ rest) (world_zip f h ns)

-- what the first batches of each shard leave is its generations
pub world_is : (S : AskedScript) (g : List ℕ) → length g ≡ S.schema.shards → world_at (batches S) g ≡ world S g
world_is S g count =
    ap (world_at (batches S)) (fill_by_all (λ s. slice_index g s) g S.schema.shards 0 count (λ s below. refl))
    ∙ world_zip (stream S.lines) (λ s. slice_index g s) (numbers_below S.schema.shards)

-- ---- what is booked

-- the lines are booked from a number on, with what was sent for them
abbrev AreBookedFrom : Replies → AskedScript → List Seen → (k : ℕ) → List (Search Asked) → List SearchLine → Books → Type 0
AreBookedFrom reply S seen k qs ls before = AreBooked reply S seen k qs (text_of ls) before (book_all k (sent_for ls) before)

-- the first of the lines is booked of what a session asks in a phase, and the others of the searches behind it
abbrev IsBookedFrom : Replies → AskedScript → List Seen → (k phase : ℕ) → (session : Text) → Asked → List (Search Asked) → List SearchLine → Books → Type 0
IsBookedFrom reply S seen k phase session a qs ls before =
    IsBookedLineThen reply S seen phase session a (λ now es t. AreBooked reply S now (suc k) qs t (book k es before) (book_all k (sent_for ls) before))
    (λ now t. AreBooked reply S now (suc k) qs t before (book_all k (sent_for ls) before)) (text_of ls)

-- ---- legal numbers

-- no number passes those of a list
abbrev IsUpTo : AskedScript → List ℕ → List ℕ → Type 0
IsUpTo S high g = (s : ℕ) → s < S.schema.shards → slice_index g s ≤ slice_index high s

-- what was shown to each session passes none of the numbers that it has at least
abbrev AreSeen : AskedScript → (Text → List ℕ) → List Seen → Type 0
AreSeen S least seen = (session : Text) → All (IsUpTo S (least session)) (shown_to session seen)

-- nothing that was shown passes these numbers
abbrev AreUpTo : AskedScript → List ℕ → List Seen → Type 0
AreUpTo S high seen = All (λ x. IsUpTo S high x.1) seen

seen_from : (S : AskedScript) (high : List ℕ) (seen : List Seen) → AreUpTo S high seen → AreSeen S (λ session. high) seen
seen_from S high seen up session = All-map (IsUpTo S high) (λ x. x.1) (filter (λ x. same_text session x.0) seen) (All-filter (λ x. same_text session x.0) (λ x. IsUpTo S high x.1) seen up)

shown_more : (session own : Text) (g : List ℕ) (seen : List Seen) → shown_to session (seen ++ (own, g) ∷ []) ≡ shown_to session seen ++ shown_to session ((own, g) ∷ [])
shown_more session own g [] = refl
shown_more session own g (x ∷ seen) = go (same_text session x.0) refl (shown_more session own g seen)
  where
    go : (b : Bool) → same_text session x.0 ≡ b → shown_to session (seen ++ (own, g) ∷ []) ≡ shown_to session seen ++ shown_to session ((own, g) ∷ [])
        → shown_to session ((x ∷ seen) ++ (own, g) ∷ []) ≡ shown_to session (x ∷ seen) ++ shown_to session ((own, g) ∷ [])
    go true e rest = rw e (ap (λ more. x.1 ∷ more) rest)
    go false e rest = rw e rest

-- the beginning, and the end of a phase
module _ (S : AskedScript) (p : ℕ) where
  end_number : (s : ℕ) → s < S.schema.shards → slice_index (numbers_at_end S p) s ≡ commits_up_to S.lines s p
  end_number s = at_number (λ t. commits_up_to S.lines t p) S.schema.shards s

  pub end_count : length (numbers_at_end S p) ≡ S.schema.shards
  end_count = length-map-range_with_len (λ s. commits_up_to S.lines s p) 0 S.schema.shards

  -- the numbers are no less than those before the phase
  abbrev IsFrom : List ℕ → Type 0
  IsFrom g = (s : ℕ) → s < S.schema.shards → commits_before S.lines s p ≤ slice_index g s

  legal_number : (earlier : List (List ℕ)) (low g : List ℕ) → IsFrom low → AreBetween low (numbers_at_end S p) g → All (IsUpTo S low) earlier → (s : ℕ) → s < S.schema.shards → legal_on S earlier p g s ≡ true
  legal_number earlier low g from between up s below =
      let n = slice_index g s in
      let above = between.above s in
      let least = le-leb (commits_before S.lines s p) n (let first = from s below in omega (arith, first, above)) in
      let most = le-leb n (commits_up_to S.lines s p) (let last = between.below s in let is = end_number s below in omega (arith, last, is)) in
      let behind = list_all-from_AllPass (λ e. nat_le (slice_index e s) n) earlier
      (All-weaker (IsUpTo S low) (λ e. nat_le (slice_index e s) n ≡ true) (λ e h. le-leb (slice_index e s) n (let here = h s below in omega (arith, here, above))) earlier up) in
      and_from (nat_le (commits_before S.lines s p) n && nat_le n (commits_up_to S.lines s p)) (list_all (λ e. nat_le (slice_index e s) n) earlier)
      (and_from (nat_le (commits_before S.lines s p) n) (nat_le n (commits_up_to S.lines s p)) least most) behind

  legal_between : (earlier : List (List ℕ)) (low g : List ℕ) → IsFrom low → AreBetween low (numbers_at_end S p) g → All (IsUpTo S low) earlier → legal S earlier p g ≡ true
  legal_between earlier low g from between up =
      and_from (length g == S.schema.shards) (list_all (legal_on S earlier p g) (numbers_below S.schema.shards))
      (eq-eqb (length g) S.schema.shards (between.count ∙ end_count))
      (list_all-from_AllPass (legal_on S earlier p g) (numbers_below S.schema.shards) (all_below (λ s. legal_on S earlier p g s ≡ true) S.schema.shards (legal_number earlier low g from between up)))

  -- ---- line by line

  -- what is known while the lines of the phase are written
  record IsOpen (least : Text → List ℕ) (seen : List Seen) : Type 0 where
    pub from : (session : Text) → IsFrom (least session)
    pub each : AreSeen S least seen
    pub all : AreUpTo S (numbers_at_end S p) seen

  -- once a session was shown some numbers
  module _ (least : Text → List ℕ) (own : Text) (seen : List Seen) (g : List ℕ) (was : IsOpen least seen) (between : AreBetween (least own) (numbers_at_end S p) g) where
    from_more : (session : Text) → IsFrom (least_after least own g session)
    from_more session = go (same_text own session) refl
      where
        go : (b : Bool) → same_text own session ≡ b → IsFrom (least_after least own g session)
        go true e = rw e (λ s below. let first = was.from own s below in let above = between.above s in omega (arith, first, above))
        go false e = rw e (was.from session)

    up_to_more : All (IsUpTo S g) (shown_to own seen)
    up_to_more = All-weaker (IsUpTo S (least own)) (IsUpTo S g) (λ e h s below. let here = h s below in let above = between.above s in omega (arith, here, above)) (shown_to own seen) (was.each own)

    each_more : AreSeen S (least_after least own g) (seen ++ (own, g) ∷ [])
    each_more session = subst (All (IsUpTo S (least_after least own g session))) (sym (shown_more session own g seen)) (go (same_text session own) refl)
      where
        same : same_text session own ≡ true → own ≡ session
        same e = sym (equal session own e)

        go : (b : Bool) → same_text session own ≡ b → All (IsUpTo S (least_after least own g session)) (shown_to session seen ++ shown_to session ((own, g) ∷ []))
        go true e =
            let here = subst (λ c. same_text c own ≡ true) (sym (same e)) e in
            let now : least_after least own g session ≡ g = subst (λ c. least_after least own g c ≡ g) (same e) (rw here refl) in
            rw e
            (subst (λ high. All (IsUpTo S high) (shown_to session seen ++ g ∷ [])) (sym now)
            (All-push (IsUpTo S g) (shown_to session seen) g (subst (λ c. All (IsUpTo S g) (shown_to c seen)) (same e) up_to_more) (λ s below. omega arith)))
        go false e =
            let now : least_after least own g session ≡ least session = rw (other e) refl in
            rw e
            (subst (All (IsUpTo S (least_after least own g session))) (sym (append-nil (shown_to session seen)))
            (subst (λ high. All (IsUpTo S high) (shown_to session seen)) (sym now) (was.each session)))
          where
            other : same_text session own ≡ false → same_text own session ≡ false
            other f = differs own session (λ e. let same_then : same_text session own ≡ true = subst (λ c. same_text c own ≡ true) e (same_itself own) in (cc))

    open_more : IsOpen (least_after least own g) (seen ++ (own, g) ∷ [])
    open_more = record {
      from = from_more;
      each = each_more;
      all = All-push (λ x. IsUpTo S (numbers_at_end S p) x.1) seen (own, g) was.all (λ s below. between.below s);
    }

  -- a session that was shown its own numbers again
  open_same : (least : Text → List ℕ) (own : Text) (seen : List Seen) → IsOpen least seen → IsOpen (least_after least own (least own)) seen
  open_same least own seen was = record {
    from = λ session. subst IsFrom (sym (same session)) (was.from session);
    each = λ session. subst (λ high. All (IsUpTo S high) (shown_to session seen)) (sym (same session)) (was.each session);
    all = was.all;
  }
    where
      same : (session : Text) → least_after least own (least own) session ≡ least session
      same session = go (same_text own session) refl
        where
          go : (b : Bool) → same_text own session ≡ b → least_after least own (least own) session ≡ least session
          go true e = rw e (ap least (equal own session e))
          go false e = rw e refl

  -- what is to be behind the phase, whatever was shown in it
  abbrev Goes : Replies → (k : ℕ) → List (Search Asked) → List SearchLine → Books → Type 0
  Goes reply k more ls before = (seen : List Seen) → AreUpTo S (numbers_at_end S p) seen → AreBookedFrom reply S seen k more ls before

  line_then : (reply : Replies) (least : Text → List ℕ) (seen : List Seen) (own : Text) (a : Asked) (k : ℕ) (qs : List (Search Asked)) (Then : List ℕ → Type 0) (l : SearchLine) (ls : List SearchLine) (before : Books)
      → IsOpen least seen → ((after : List Seen) (g : List ℕ) (m : Books) → IsOpen (least_after least own g) after → Then g → AreBookedFrom reply S after (suc k) qs ls m)
      → IsLineOver reply (batches S) (least own) (numbers_at_end S p) own a Then l → IsBookedFrom reply S seen k p own a qs (l ∷ ls) before
  line_then reply least seen own (Ok r) k qs Then l ls before was next (g, between, is, sent, has) =
      let here = world_is S g (between.count ∙ end_count) in (
        g,
        text_of ls,
        legal_between (shown_to own seen) (least own) g (was.from own) between (was.each own),
        ap (λ t. t ++ text_of ls) (is ∙ ap (λ W. reply_line (reply r W) g own) here),
        subst (λ o. AreBooked reply S (seen ++ (own, g) ∷ []) (suc k) qs (text_of ls) (book k (whole_trace r (world S g)) before) (book_all (suc k) (sent_for ls) (book_if k o before)))
            (sym (sent ∙ ap (λ W. Some (whole_trace r W)) here))
            (next (seen ++ (own, g) ∷ []) g (book k (whole_trace r (world S g)) before) (open_more least own seen g was between) has),
      )
  line_then reply least seen own (Err f) k qs Then l ls before was next (is, sent, has) = (
    text_of ls,
    ap (λ t. t ++ text_of ls) is,
    subst (λ o. AreBooked reply S seen (suc k) qs (text_of ls) before (book_all (suc k) (sent_for ls) (book_if k o before))) (sym sent)
        (next seen (least own) before (open_same least own seen was) has),
  )

  phase_then : (reply : Replies) (least : Text → List ℕ) (seen : List Seen) (k : ℕ) (qs more : List (Search Asked)) (own rest : List SearchLine) (before : Books)
      → AllByRecursion (λ q. q.phase ≡ p) qs → IsOpen least seen → ((j : ℕ) (m : Books) → Goes reply j more rest m)
      → ArePhaseLines reply (batches S) (numbers_at_end S p) least qs own → AreBookedFrom reply S seen k (qs ++ more) (own ++ rest) before
  phase_then reply least seen k [] more [] rest before here was goes are = goes k before seen was.all
  phase_then reply least seen k [] more (l ∷ own) rest before here was goes are = absurd are
  phase_then reply least seen k (q ∷ qs) more [] rest before here was goes are = absurd are
  phase_then reply least seen k (q ∷ qs) more (l ∷ own) rest before here was goes are =
      subst (λ n. IsBookedFrom reply S seen k n q.session q.request (qs ++ more) (l ∷ own ++ rest) before) (sym here.0)
      (line_then reply least seen q.session q.request k (qs ++ more) (λ g. ArePhaseLines reply (batches S) (numbers_at_end S p) (least_after least q.session g) qs own) l (own ++ rest) before was
      (λ after g m open_now has. phase_then reply (least_after least q.session g) after (suc k) qs more own rest m here.1 open_now goes has) are)

-- ---- phase by phase

-- the searches of a phase are of it
in_phase : (p : ℕ) (qs : List (Search Asked)) → AllByRecursion (λ q. q.phase ≡ p) (filter (λ q. q.phase == p) qs)
in_phase p [] = tt
in_phase p (q ∷ qs) = go (q.phase == p) refl (in_phase p qs)
  where
    go : (b : Bool) → (q.phase == p) ≡ b → AllByRecursion (λ q. q.phase ≡ p) (filter (λ q. q.phase == p) qs) → AllByRecursion (λ q. q.phase ≡ p) (filter (λ q. q.phase == p) (q ∷ qs))
    go true e rest = rw e (eqb-true q.phase p e, rest)
    go false e rest = rw e rest

-- the numbers of commits before a phase
abbrev AreBefore : AskedScript → ℕ → List ℕ → Type 0
AreBefore S p before = (s : ℕ) → s < S.schema.shards → slice_index before s ≡ commits_before S.lines s p

phases_then : (reply : Replies) (S : AskedScript) (n p : ℕ) (low : List ℕ) (seen : List Seen) (k : ℕ) (ls : List SearchLine) (before : Books) → AreBefore S p low → AreUpTo S low seen
    → AreLinesOfAll reply (batches S) low (map (phase S) (range_with_len p n)) ls → AreBookedFrom reply S seen k (joined (map (λ q. q.searches) (map (phase S) (range_with_len p n)))) ls before
phases_then reply S zero p low seen k ls before are up is = subst (λ here. AreBookedFrom reply S seen k [] here before) (sym is) (refl, refl)
phases_then reply S (suc n) p low seen k ls before are up (own, rest, split, lines, more) =
    subst (λ here. AreBookedFrom reply S seen k ((phase S p).searches ++ later) here before) (sym split)
    (phase_then S p reply (λ session. low) seen k (phase S p).searches later own rest before (in_phase p (searches S.lines)) opened
    (λ j m now up_now. phases_then reply S n (p + 1) (numbers_at_end S p) now j rest m next up_now more) lines)
  where
    later : List (Search Asked)
    later = joined (map (λ q. q.searches) (map (phase S) (range_with_len (p + 1) n)))

    next : AreBefore S (p + 1) (numbers_at_end S p)
    next s below = rw add-one (end_number S p s below)

    ends : (s : ℕ) → s < S.schema.shards → slice_index low s ≤ slice_index (numbers_at_end S p) s
    ends s below = let first = are s below in let last = end_number S p s below in let order = commits_before_end S s p in omega (arith, first, last, order)

    opened : IsOpen S p (λ session. low) seen
    opened = record {
      from = λ session s below. let is = are s below in omega (arith, is);
      each = seen_from S low seen up;
      all = All-weaker (λ x. IsUpTo S low x.1) (λ x. IsUpTo S (numbers_at_end S p) x.1) (λ x h s below. let here = h s below in let end = ends s below in omega (arith, here, end)) seen up;
    }

-- at first no shard has a commit
none_is : {X : Type 0} (xs : List X) (s : ℕ) → slice_index (map (λ x. 0) xs) s ≡ 0
none_is [] s = refl
none_is (x ∷ xs) zero = refl
none_is (x ∷ xs) (suc s) = none_is xs s

pub phases_add_up : PhasesAddUp
phases_add_up reply S ls before are =
    subst (λ qs. AreBookedFrom reply S [] 0 qs ls before) (stand_by_phase S)
    (phases_then reply S (count_by is_sync S.lines + 1) 0 (map (λ bs. 0) (batches S)) [] 0 ls before
    (λ s below. none_is (batches S) s) (All-nil (λ x. IsUpTo S (map (λ bs. 0) (batches S)) x.1)) are)
