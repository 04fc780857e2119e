-- Runs of one number, added one after another.
use Rattle.std.proofs.Common.{◌≡◌, ℕ, ℤ, ◌<◌, Bool, true, false, cond, List, [], ◌∷◌, ◌++◌, length, map, Option, Some, refl, sym, ap, ap₂, subst, ◌∙◌, arith, append-nil}
use Rattle.std.specs.List.{filter, All}
use Rattle.std.specs.Option.{ForSome}
use Rattle.std.specs.Ordering.{int_eq}
use Rattle.std.proofs.lemmas.Bool.{false≢true}
use Rattle.std.proofs.lemmas.Bool.Decides.{Decides-int_eq}
use Rattle.std.proofs.lemmas.List.Elements.{All-head, All-tail, filter-append}
use Rattle.fc_spec.specs.documents.Document.{Block}
use Rattle.fc_spec.specs.documents.World.{Place}
use Rattle.fc_spec.specs.messages.KeyOrder.{same_key}
use Rattle.fc_spec.specs.requests.Buckets.{Key}
use Rattle.fc_spec.specs.requests.Request.{Stat}
use Rattle.fc_spec.specs.requests.Statistics.{Stats, stats_over}
use Rattle.fc_spec.specs.words.Lists.{is_empty}
use Rattle.fc_domain.proofs.GroupAnswers.{some_member}
use Rattle.fc_partial.specs.Adding.{AddUp}
use Rattle.fc_partial.specs.Fitting.{StatisticsFit}
use Rattle.fc_partial.specs.Tallied.{Tallied}
use Rattle.fc_partial.specs.Tallied as Tallies
use Rattle.fc_partial.specs.Tallying.{AddsTo, entry_at, with_more}
use Rattle.fc_kind.specs.PlaceAt.{place_at}
use Rattle.fc_count.specs.Counting.{Counting}
use Rattle.fc_count.specs.declared.countings.Entry.{Entry}
use Rattle.fc_count.specs.Rows.{entries_of}
use Rattle.fc_count.specs.Runs.{AddsRuns, NumbersAddUp, NumbersApart, NumbersFit, of_number, places_of, positions_of}
use Rattle.fc_count.proofs.RowPlaces.{number_places, number_places-append, place_of, row_places}

-- ---- filters that keep all, and none
pub keeps_all : {X : Type 0} (p : X → Bool) (xs : List X) → All (λ x. p x ≡ true) xs → filter p xs ≡ xs
keeps_all p [] h = refl
keeps_all p (x ∷ xs) h =
    ap (λ b. cond b (x ∷ filter p xs) (filter p xs)) (All-head (λ y. p y ≡ true) x xs h) ∙ ap (λ l. x ∷ l) (keeps_all p xs (All-tail (λ y. p y ≡ true) x xs h))

pub keeps_none : {X : Type 0} (p : X → Bool) (xs : List X) → All (λ x. p x ≡ false) xs → filter p xs ≡ []
keeps_none p [] h = refl
keeps_none p (x ∷ xs) h =
    ap (λ b. cond b (x ∷ filter p xs) (filter p xs)) (All-head (λ y. p y ≡ false) x xs h) ∙ keeps_none p xs (All-tail (λ y. p y ≡ false) x xs h)

-- ---- the places of a number
some_places : (blocks : List Block) (ps : List ℕ) (cs : List Entry) → 0 < length cs → is_empty (row_places blocks ps cs) ≡ false
some_places blocks ps [] h = absurd (omega arith)
some_places blocks ps (e ∷ es) h = some_member (place_of blocks ps e) (row_places blocks ps es)

-- what holds of each number there holds of one that has a place
some_filtered : {X : Type 0} (P : ℤ → Type 0) (number : X → ℤ) (xs : List X) (n : ℤ) → All (λ x. P (number x)) xs → is_empty (filter (λ x. int_eq (number x) n) xs) ≡ false → P n
some_filtered P number [] n all some = absurd (false≢true (sym some))
some_filtered P number (x ∷ xs) n all some = go (int_eq (number x) n) refl some (some_filtered P number xs n (All-tail (λ y. P (number y)) x xs all))
  where
    go : (b : Bool) → int_eq (number x) n ≡ b → is_empty (cond b (x ∷ filter (λ y. int_eq (number y) n) xs) (filter (λ y. int_eq (number y) n) xs)) ≡ false
        → (is_empty (filter (λ y. int_eq (number y) n) xs) ≡ false → P n) → P n
    go true e h rest = subst P ((Decides-int_eq (number x) n).0 e) (All-head (λ y. P (number y)) x xs all)
    go false e h rest = rest h

empty_map : {X Y : Type 0} (f : X → Y) (xs : List X) → is_empty xs ≡ is_empty (map f xs)
empty_map f [] = refl
empty_map f (x ∷ xs) = some_member x xs ∙ sym (some_member (f x) (map f xs))

pub holds_of_some : (P : ℤ → Type 0) (blocks : List Block) (cs : List Counting) (n : ℤ) → All (λ c. P c.number) cs → is_empty (places_of blocks cs n) ≡ false → P n
holds_of_some P blocks cs n all some =
    some_filtered P (λ (c : Counting). c.number) cs n all (empty_map (λ (c : Counting). c.at) (of_number n cs) ∙ empty_map (place_at blocks) (positions_of cs n) ∙ some)

holds_of_entry : (P : ℤ → Type 0) (blocks : List Block) (ps : List ℕ) (es : List Entry) (n : ℤ) → All (λ e. P e.number) es → is_empty (number_places blocks ps es n) ≡ false → P n
holds_of_entry P blocks ps es n all some =
    some_filtered P (λ (e : Entry). e.number) es n all (empty_map (place_of blocks ps) (entries_of n es) ∙ some)

-- ---- what was added so far, where these are left
pub record IsAdded (blocks : List Block) (ps : List ℕ) (key : ℤ → Key) (all rest : List Entry) (old now : Tallied) : Type 0 where
  pub stats : now.stats ≡ old.stats
  pub whole : (n : ℤ) → is_empty (number_places blocks ps rest n) ≡ false → number_places blocks ps rest n ≡ number_places blocks ps all n
  pub ahead : (n : ℤ) → is_empty (number_places blocks ps rest n) ≡ false → entry_at now.entries (key n) ≡ entry_at old.entries (key n)
  pub done : (n : ℤ) → is_empty (number_places blocks ps all n) ≡ false → is_empty (number_places blocks ps rest n) ≡ true
      → entry_at now.entries (key n) ≡ Some (with_more old.stats (entry_at old.entries (key n)) (stats_over old.stats (number_places blocks ps all n)))
  pub others : (k : Key) → ((n : ℤ) → is_empty (number_places blocks ps all n) ≡ false → same_key k (key n) ≡ false) → entry_at now.entries k ≡ entry_at old.entries k

pub none_added : (blocks : List Block) (ps : List ℕ) (key : ℤ → Key) (all : List Entry) (t : Tallied) → IsAdded blocks ps key all all t t
none_added blocks ps key all t = record {
  stats = refl;
  whole = λ n some. refl;
  ahead = λ n some. refl;
  done = λ n some none. absurd (false≢true (sym some ∙ none));
  others = λ k apart. refl;
}

pub all_added : (blocks : List Block) (ps : List ℕ) (key : ℤ → Key) (all : List Entry) (old now : Tallied) → IsAdded blocks ps key all [] old now
    → (cs : List Counting) → ((n : ℤ) → number_places blocks ps all n ≡ places_of blocks cs n) → AddsRuns blocks old.stats key cs old now
all_added blocks ps key all old now a cs same = record {
  stats = a.stats;
  grown = λ n some. a.done n (ap is_empty (same n) ∙ some) refl ∙ ap (λ X. Some (with_more old.stats (entry_at old.entries (key n)) (stats_over old.stats X))) (same n);
  others = λ k none. a.others k (λ n some. none n (ap is_empty (sym (same n)) ∙ some));
}

-- the statistics of the places of each number fit, and add up with those of its key
abbrev pub EntriesFit : List Block → List ℕ → List Entry → Type 0
EntriesFit blocks ps es = (n : ℤ) → is_empty (number_places blocks ps es n) ≡ false → StatisticsFit (number_places blocks ps es n)

abbrev pub EntriesAddUp : List Block → List ℕ → List Stat → (ℤ → Key) → List Entry → List Tallies.Entry → Type 0
EntriesAddUp blocks ps ss key es ts =
    (n : ℤ) → is_empty (number_places blocks ps es n) ≡ false → ForSome (entry_at ts (key n)) (λ there. AddUp there (stats_over ss (number_places blocks ps es n)))

pub entries_fit : (blocks : List Block) (ps : List ℕ) (es : List Entry) (cs : List Counting) → ((n : ℤ) → number_places blocks ps es n ≡ places_of blocks cs n) → NumbersFit blocks cs → EntriesFit blocks ps es
entries_fit blocks ps es cs same fit n some = subst StatisticsFit (sym (same n)) (fit n (ap is_empty (sym (same n)) ∙ some))

pub entries_add_up : (blocks : List Block) (ps : List ℕ) (ss : List Stat) (key : ℤ → Key) (es : List Entry) (cs : List Counting) (ts : List Tallies.Entry) → ((n : ℤ) → number_places blocks ps es n ≡ places_of blocks cs n)
    → NumbersAddUp blocks ss key cs ts → EntriesAddUp blocks ps ss key es ts
entries_add_up blocks ps ss key es cs ts same add_up n some =
    subst (λ (X : List Place). ForSome (entry_at ts (key n)) (λ there. AddUp there (stats_over ss X))) (sym (same n)) (add_up n (ap is_empty (sym (same n)) ∙ some))

-- ---- a run of the number m, and those behind it
module _ (blocks : List Block) (ps : List ℕ) (has_key : ℤ → Type 0) (key : ℤ → Key) (apart : NumbersApart has_key key) (all run behind : List Entry) (m : ℤ)
    (has : All (λ c. has_key c.number) all) (some : 0 < length run)
    (same : All (λ c. int_eq c.number m ≡ true) run) (past : All (λ c. int_eq c.number m ≡ false) behind) where
  run_places : number_places blocks ps (run ++ behind) m ≡ row_places blocks ps run
  run_places =
      ap (row_places blocks ps) (filter-append (λ c. int_eq c.number m) run behind
      ∙ ap₂ (λ a b. a ++ b) (keeps_all (λ c. int_eq c.number m) run same) (keeps_none (λ c. int_eq c.number m) behind past)
      ∙ append-nil run)

  some_here : is_empty (number_places blocks ps (run ++ behind) m) ≡ false
  some_here = ap is_empty run_places ∙ some_places blocks ps run some

  none_behind : number_places blocks ps behind m ≡ []
  none_behind = ap (row_places blocks ps) (keeps_none (λ c. int_eq c.number m) behind past)

  -- another number has no place in the run
  other_run : (n : ℤ) → int_eq m n ≡ false → number_places blocks ps (run ++ behind) n ≡ number_places blocks ps behind n
  other_run n e =
      number_places-append blocks ps run behind n
      ∙ ap (λ l. row_places blocks ps l ++ number_places blocks ps behind n)
      (keeps_none (λ c. int_eq c.number n) run (λ k d inside. subst (λ x. int_eq x n ≡ false) (sym ((Decides-int_eq _ m).0 (same k d inside))) e))

  -- a number that has a place behind is another
  other_behind : (n : ℤ) → is_empty (number_places blocks ps behind n) ≡ false → int_eq m n ≡ false
  other_behind n h = go (int_eq m n) refl
    where
      go : (b : Bool) → int_eq m n ≡ b → int_eq m n ≡ false
      go false e = e
      go true e =
          let is : m ≡ n = (Decides-int_eq m n).0 e in
          absurd (false≢true (sym h ∙ ap is_empty (ap (number_places blocks ps behind) (sym is) ∙ none_behind)))

  module _ (old now : Tallied) (so_far : IsAdded blocks ps key all (run ++ behind) old now) where
    whole_run : number_places blocks ps all m ≡ row_places blocks ps run
    whole_run = sym (so_far.whole m some_here) ∙ run_places

    some_of_all : is_empty (number_places blocks ps all m) ≡ false
    some_of_all = ap is_empty whole_run ∙ some_places blocks ps run some

    pub run_has_key : has_key m
    run_has_key = holds_of_entry has_key blocks ps all m has some_of_all

    pub run_fits : EntriesFit blocks ps all → StatisticsFit (row_places blocks ps run)
    run_fits fit = subst StatisticsFit whole_run (fit m some_of_all)

    pub run_adds_up : (ss : List Stat) → EntriesAddUp blocks ps ss key all old.entries → ForSome (entry_at now.entries (key m)) (λ there. AddUp there (stats_over ss (row_places blocks ps run)))
    run_adds_up ss add_up =
        subst (λ (o : Option Stats). ForSome o (λ there. AddUp there (stats_over ss (row_places blocks ps run)))) (sym (so_far.ahead m some_here))
        (subst (λ (X : List Place). ForSome (entry_at old.entries (key m)) (λ there. AddUp there (stats_over ss X))) whole_run (add_up m some_of_all))

    -- the keys of other numbers are others
    other_key : (n : ℤ) → is_empty (number_places blocks ps all n) ≡ false → int_eq m n ≡ false → same_key (key n) (key m) ≡ false
    other_key n h e = go (same_key (key n) (key m)) refl
      where
        go : (b : Bool) → same_key (key n) (key m) ≡ b → same_key (key n) (key m) ≡ false
        go false k = k
        go true k =
            let is_m : n ≡ m = apart n m (holds_of_entry has_key blocks ps all n has h) run_has_key k in
            absurd (false≢true (sym e ∙ (Decides-int_eq m n).1 (sym is_m)))

    -- a number that has a place behind has it in all
    in_all : (n : ℤ) → is_empty (number_places blocks ps behind n) ≡ false → is_empty (number_places blocks ps all n) ≡ false
    in_all n h =
        let here = ap is_empty (other_run n (other_behind n h)) ∙ h in
        ap is_empty (sym (so_far.whole n here)) ∙ here

    module _ (new : Tallied) (more : Stats) (is : more ≡ stats_over old.stats (row_places blocks ps run)) (stays : new.stats ≡ now.stats) (adds : AddsTo now new (key m) more) where
      done_now : (n : ℤ) → is_empty (number_places blocks ps all n) ≡ false → is_empty (number_places blocks ps behind n) ≡ true
          → entry_at new.entries (key n) ≡ Some (with_more old.stats (entry_at old.entries (key n)) (stats_over old.stats (number_places blocks ps all n)))
      done_now n h none = go (int_eq m n) refl
        where
          go : (b : Bool) → int_eq m n ≡ b
              → entry_at new.entries (key n) ≡ Some (with_more old.stats (entry_at old.entries (key n)) (stats_over old.stats (number_places blocks ps all n)))
          go false e = adds.others (key n) (other_key n h e) ∙ so_far.done n h (ap is_empty (other_run n e) ∙ none)
          go true e =
              let same_number : m ≡ n = (Decides-int_eq m n).0 e in
              subst (λ x. entry_at new.entries (key x) ≡ Some (with_more old.stats (entry_at old.entries (key x)) (stats_over old.stats (number_places blocks ps all x)))) same_number
              (adds.there
              ∙ ap (λ (ss : List Stat). Some (with_more ss (entry_at now.entries (key m)) more)) so_far.stats
              ∙ ap₂ (λ there X. Some (with_more old.stats there X)) (so_far.ahead m some_here) (is ∙ ap (stats_over old.stats) (sym whole_run)))

      pub run_added : IsAdded blocks ps key all behind old new
      run_added = record {
        stats = stays ∙ so_far.stats;
        whole = λ n h. let here = ap is_empty (other_run n (other_behind n h)) ∙ h in sym (other_run n (other_behind n h)) ∙ so_far.whole n here;
        ahead = λ n h. let here = ap is_empty (other_run n (other_behind n h)) ∙ h in
            adds.others (key n) (other_key n (in_all n h) (other_behind n h)) ∙ so_far.ahead n here;
        done = done_now;
        others = λ k h. adds.others k (h m some_of_all) ∙ so_far.others k h;
      }
