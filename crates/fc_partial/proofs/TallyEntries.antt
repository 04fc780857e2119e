-- The entries of a tally: integers, then texts, then the other keys.
use Rattle.std.proofs.Common.{◌≡◌, ℤ, List, [], ◌∷◌, ◌++◌, map, Bor, cond, Option, Some, None, option_map, refl, sym, ◌∙◌, ap, subst}
use Rattle.std.specs.Prelude.{All}
use Rattle.std.specs.BTreeMap.{BTreeMap, insert_entry, is_at}
use Rattle.std.specs.Cmp.{tied_itself}
use Rattle.std.specs.List.{AllByRecursion}
use Rattle.std.specs.List.Sorted.{IsStrictlySortedBy}
use Rattle.std.specs.Map.{lookup, keys_of, values_of}
use Rattle.std.specs.Option.{option_copied}
use Rattle.std.specs.Ordering.{int_cmp, on, is_eq, match_ordering}
use Rattle.std.specs.declared.cmp.Ordering.{Ordering}
use Rattle.std.specs.declared.cmp.Ordering.TheVariants.{Less, Equal, Greater}
use Rattle.std.proofs.lemmas.List.{map-append}
use Rattle.std.proofs.lemmas.List.Elements.{All-append}
use Rattle.fc_spec.specs.documents.Val.{Text, Val, text, long, text_cmp}
use Rattle.fc_spec.specs.requests.Request as definition
use Rattle.fc_spec.specs.requests.Buckets as buckets
use Rattle.fc_spec.specs.requests.Statistics as statistics
use Rattle.fc_spec.specs.messages.KeyOrder.{key_cmp, same_key}
use Rattle.fc_base.specs.StatisticView.{stat_view}
use Rattle.fc_base.specs.declared.value.Val as code
use Rattle.fc_partial.specs.declared.key.Key.{Key}
use Rattle.fc_partial.specs.declared.key.Key.TheVariants.{Value, Missing, Gap, Before, Between, After, Whole}
use Rattle.fc_partial.specs.declared.statistics.Stats.{Stats}
use Rattle.fc_partial.specs.declared.tally.Tally.TheInside.{Inside}
use Rattle.fc_partial.specs.View.{key_view}
use Rattle.fc_partial.specs.StatsView.{stats_view}
use Rattle.fc_partial.specs.KeyLaws.{key_cmp_total}
use Rattle.fc_partial.specs.Adding.{HasShape}
use Rattle.fc_partial.specs.Tallied.{Entry, Tallied}
use Rattle.fc_partial.specs.Tallying.{entry_at, with_more, with_added, added, AddsTo, IsTally}
use Rattle.fc_partial.specs.TallyParts.{IsBeyond, keyed, long_key, put_more, seen_at, text_key}
use Rattle.fc_partial.specs.TallyView.{IsSound, entries_view, tally_view}
use Rattle.fc_partial.proofs.PartEntries.{seen_in}
use Rattle.fc_partial.proofs.ViewedEntries.{lookup-seen, keys_of-seen, insert_entry-seen, sorted_seen, lookup-insert_entry}

-- ---- one list of entries before another

module _ {K X : Type 0} (cmp : K → K → Ordering) (k : K) where
  -- the key stands before the entry, or behind it
  abbrev pub Precedes : K × X → Type 0
  Precedes e = cmp k e.0 ≡ Less

  abbrev pub Follows : K × X → Type 0
  Follows e = cmp k e.0 ≡ Greater

  lookup-none : (fs : List (K × X)) → AllByRecursion Precedes fs → lookup (is_at (cmp k)) fs ≡ None
  lookup-none [] h = refl
  lookup-none (f ∷ fs) h = rw h.0 (lookup-none fs h.1)

  pub lookup-front : (es fs : List (K × X)) → AllByRecursion Precedes fs → lookup (is_at (cmp k)) (es ++ fs) ≡ lookup (is_at (cmp k)) es
  lookup-front [] fs h = lookup-none fs h
  lookup-front (e ∷ es) fs h = ap (λ o. cond (is_eq (cmp k e.0)) (Some e.1) o) (lookup-front es fs h)

  pub lookup-behind : (es fs : List (K × X)) → AllByRecursion Follows es → lookup (is_at (cmp k)) (es ++ fs) ≡ lookup (is_at (cmp k)) fs
  lookup-behind [] fs h = refl
  lookup-behind (e ∷ es) fs h = rw h.0 (lookup-behind es fs h.1)

  insert_entry-first : (fs : List (K × X)) (v : X) → AllByRecursion Precedes fs → insert_entry cmp fs k v ≡ (k, v) ∷ fs
  insert_entry-first [] v h = refl
  insert_entry-first (f ∷ fs) v h = rw h.0 refl

  pub insert_entry-front : (es fs : List (K × X)) (v : X) → AllByRecursion Precedes fs → insert_entry cmp (es ++ fs) k v ≡ insert_entry cmp es k v ++ fs
  insert_entry-front [] fs v h = insert_entry-first fs v h
  insert_entry-front (e ∷ es) fs v h = go (cmp k e.0) (insert_entry-front es fs v h)
    where
      go : (o : Ordering) → insert_entry cmp (es ++ fs) k v ≡ insert_entry cmp es k v ++ fs
          → match_ordering o ((k, v) ∷ e ∷ (es ++ fs)) ((e.0, v) ∷ (es ++ fs)) (e ∷ insert_entry cmp (es ++ fs) k v)
          ≡ match_ordering o ((k, v) ∷ e ∷ es) ((e.0, v) ∷ es) (e ∷ insert_entry cmp es k v) ++ fs
      go Less ih = refl
      go Equal ih = refl
      go Greater ih = ap (λ l. e ∷ l) ih

  pub insert_entry-behind : (es fs : List (K × X)) (v : X) → AllByRecursion Follows es → insert_entry cmp (es ++ fs) k v ≡ es ++ insert_entry cmp fs k v
  insert_entry-behind [] fs v h = refl
  insert_entry-behind (e ∷ es) fs v h = rw h.0 (ap (λ l. e ∷ l) (insert_entry-behind es fs v h.1))

-- the key is put into the first list, or into the second
pub with_added-front : (ss : List definition.Stat) (es fs : List Entry) (k : buckets.Key) (more : statistics.Stats)
    → AllByRecursion (Precedes key_cmp k) fs → with_added ss (es ++ fs) k more ≡ with_added ss es k more ++ fs
with_added-front ss es fs k more h =
    ap (λ o. insert_entry key_cmp (es ++ fs) k (with_more ss o more)) (lookup-front key_cmp k es fs h) ∙ insert_entry-front key_cmp k es fs _ h

pub with_added-behind : (ss : List definition.Stat) (es fs : List Entry) (k : buckets.Key) (more : statistics.Stats)
    → AllByRecursion (Follows key_cmp k) es → with_added ss (es ++ fs) k more ≡ es ++ with_added ss fs k more
with_added-behind ss es fs k more h =
    ap (λ o. insert_entry key_cmp (es ++ fs) k (with_more ss o more)) (lookup-behind key_cmp k es fs h) ∙ insert_entry-behind key_cmp k es fs _ h

-- ---- the order of the kinds

-- entries with what their keys and statistics stand for
abbrev pub seen_as : {K : Type 0} → (K → buckets.Key) → List (K × Stats) → List Entry
seen_as see es = map (λ e. (see e.0, stats_view e.1)) es

every-append : {X : Type 0} (P : X → Type 0) (xs ys : List X) → AllByRecursion P xs → AllByRecursion P ys → AllByRecursion P (xs ++ ys)
every-append P [] ys h g = g
every-append P (x ∷ xs) ys h g = (h.0, every-append P xs ys h.1 g)

abbrev AreBeyond : List Entry → Type 0
AreBeyond es = AllByRecursion (λ e. IsBeyond e.0) es

-- a key that is none of a value
pub beyond_from : (k : Key) → ((v : code.Val) → k ≡ Value v → ⊥) → IsBeyond (key_view k)
beyond_from (Value v) h = h v refl
beyond_from Missing h = tt
beyond_from (Gap i) h = tt
beyond_from Before h = tt
beyond_from Between h = tt
beyond_from After h = tt
beyond_from Whole h = tt

-- every other key stands behind a value
before_others : (v : Val) (es : List Entry) → AreBeyond es → AllByRecursion (Precedes key_cmp (buckets.value v)) es
before_others v [] h = tt
before_others v (e ∷ es) h = (go e.0 h.0, before_others v es h.1)
  where
    go : (k : buckets.Key) → IsBeyond k → key_cmp (buckets.value v) k ≡ Less
    go (buckets.value w) b = elim b [ ]
    go buckets.missing b = refl
    go (buckets.gap i) b = refl
    go buckets.before b = refl
    go buckets.between b = refl
    go buckets.after b = refl
    go buckets.whole b = refl

before_texts : (n : ℤ) (es : List (Text × Stats)) → AllByRecursion (Precedes key_cmp (long_key n)) (seen_as text_key es)
before_texts n [] = tt
before_texts n (e ∷ es) = (refl, before_texts n es)

behind_longs : (t : Text) (es : List (ℤ × Stats)) → AllByRecursion (Follows key_cmp (text_key t)) (seen_as long_key es)
behind_longs t [] = tt
behind_longs t (e ∷ es) = (refl, behind_longs t es)

behind_values : {K : Type 0} (f : K → Val) (k : buckets.Key) → IsBeyond k → (es : List (K × Stats)) → AllByRecursion (Follows key_cmp k) (seen_as (λ q. buckets.value (f q)) es)
behind_values f k b [] = tt
behind_values f k b (e ∷ es) = (go k b, behind_values f k b es)
  where
    go : (k : buckets.Key) → IsBeyond k → key_cmp k (buckets.value (f e.0)) ≡ Greater
    go (buckets.value w) b = elim b [ ]
    go buckets.missing b = refl
    go (buckets.gap i) b = refl
    go buckets.before b = refl
    go buckets.between b = refl
    go buckets.after b = refl
    go buckets.whole b = refl

-- ---- what stands at a key

module _ {K : Type 0} (see : K → buckets.Key) where
  keyed-seen : (es : List (K × Stats)) → seen_as see es ≡ map (λ e. (see e.0, e.1)) (seen_in es)
  keyed-seen [] = refl
  keyed-seen (e ∷ es) = ap (λ l. (see e.0, stats_view e.1) ∷ l) (keyed-seen es)

  own : {X : Type 0} (o : Option X) → option_map (λ x. x) o ≡ o
  own None = refl
  own (Some x) = refl

  entry_at-keyed : (es : List (K × Stats)) (k : K) → entry_at (seen_as see es) (see k) ≡ lookup (is_at (on see key_cmp k)) (seen_in es)
  entry_at-keyed es k =
      ap (lookup (same_key (see k))) (keyed-seen es) ∙ lookup-seen see (λ s. s) (same_key (see k)) (seen_in es) ∙ own _

  keyed-put : (ss : List definition.Stat) (es new : List (K × Stats)) (k : K) (more : statistics.Stats)
      → seen_in new ≡ put_more (on see key_cmp) ss (seen_in es) k more → seen_as see new ≡ with_added ss (seen_as see es) (see k) more
  keyed-put ss es new k more is =
      keyed-seen new ∙ ap (map (λ (e : K × statistics.Stats). (see e.0, e.1))) is
      ∙ insert_entry-seen see (λ s. s) key_cmp (seen_in es) k _
      ∙ sym (λ i. insert_entry key_cmp (keyed-seen es i) (see k) (with_more ss (entry_at-keyed es k i) more))

-- ---- adding to one kind of key

module _ (ss : List definition.Stat) (longs : BTreeMap ℤ Stats) (texts : BTreeMap Text Stats) (others : BTreeMap Key Stats) (beyond : AreBeyond (keyed key_view others)) where
  behind_long : (n : ℤ) → AllByRecursion (Precedes key_cmp (long_key n)) (keyed text_key texts ++ keyed key_view others)
  behind_long n = every-append _ (keyed text_key texts) (keyed key_view others) (before_texts n texts.entries) (before_others (long n) (keyed key_view others) beyond)

  pub entry_at-long : (n : ℤ) → entry_at (entries_view longs texts others) (long_key n) ≡ lookup (is_at (int_cmp n)) (seen_at longs)
  entry_at-long n = lookup-front key_cmp (long_key n) (keyed long_key longs) _ (behind_long n) ∙ entry_at-keyed long_key longs.entries n

  pub added-long : (new : BTreeMap ℤ Stats) (n : ℤ) (more : statistics.Stats) → seen_at new ≡ put_more int_cmp ss (seen_at longs) n more
      → entries_view new texts others ≡ with_added ss (entries_view longs texts others) (long_key n) more
  added-long new n more is =
      ap (λ l. l ++ (keyed text_key texts ++ keyed key_view others)) (keyed-put long_key ss longs.entries new.entries n more is)
      ∙ sym (with_added-front ss (keyed long_key longs) _ (long_key n) more (behind_long n))

  pub entry_at-text : (t : Text) → entry_at (entries_view longs texts others) (text_key t) ≡ lookup (is_at (text_cmp t)) (seen_at texts)
  entry_at-text t =
      lookup-behind key_cmp (text_key t) (keyed long_key longs) _ (behind_longs t longs.entries)
      ∙ lookup-front key_cmp (text_key t) (keyed text_key texts) _ (before_others (text t) (keyed key_view others) beyond) ∙ entry_at-keyed text_key texts.entries t

  pub added-text : (new : BTreeMap Text Stats) (t : Text) (more : statistics.Stats) → seen_at new ≡ put_more text_cmp ss (seen_at texts) t more
      → entries_view longs new others ≡ with_added ss (entries_view longs texts others) (text_key t) more
  added-text new t more is =
      ap (λ l. keyed long_key longs ++ (l ++ keyed key_view others)) (keyed-put text_key ss texts.entries new.entries t more is)
      ∙ ap (λ l. keyed long_key longs ++ l) (sym (with_added-front ss (keyed text_key texts) _ (text_key t) more (before_others (text t) (keyed key_view others) beyond)))
      ∙ sym (with_added-behind ss (keyed long_key longs) _ (text_key t) more (behind_longs t longs.entries))

  pub entry_at-other : (k : Key) → IsBeyond (key_view k) → entry_at (entries_view longs texts others) (key_view k) ≡ lookup (is_at (on key_view key_cmp k)) (seen_at others)
  entry_at-other k b =
      lookup-behind key_cmp (key_view k) (keyed long_key longs) _ (behind_values long (key_view k) b longs.entries)
      ∙ lookup-behind key_cmp (key_view k) (keyed text_key texts) _ (behind_values text (key_view k) b texts.entries) ∙ entry_at-keyed key_view others.entries k

  pub added-other : (new : BTreeMap Key Stats) (k : Key) (more : statistics.Stats) → IsBeyond (key_view k) → seen_at new ≡ put_more (on key_view key_cmp) ss (seen_at others) k more
      → entries_view longs texts new ≡ with_added ss (entries_view longs texts others) (key_view k) more
  added-other new k more b is =
      ap (λ l. keyed long_key longs ++ (keyed text_key texts ++ l)) (keyed-put key_view ss others.entries new.entries k more is)
      ∙ ap (λ l. keyed long_key longs ++ l) (sym (with_added-behind ss (keyed text_key texts) _ (key_view k) more (behind_values text (key_view k) b texts.entries)))
      ∙ sym (with_added-behind ss (keyed long_key longs) _ (key_view k) more (behind_values long (key_view k) b longs.entries))

-- the other keys stay such keys
beyond-insert_entry : (es : List Entry) (k : buckets.Key) (s : statistics.Stats) → IsBeyond k → AreBeyond es → AreBeyond (insert_entry key_cmp es k s)
beyond-insert_entry [] k s b h = (b, tt)
beyond-insert_entry (e ∷ es) k s b h = go (key_cmp k e.0) (beyond-insert_entry es k s b h.1)
  where
    go : (o : Ordering) → AreBeyond (insert_entry key_cmp es k s) → AreBeyond (match_ordering o ((k, s) ∷ e ∷ es) ((e.0, s) ∷ es) (e ∷ insert_entry key_cmp es k s))
    go Less ih = (b, h)
    go Equal ih = h
    go Greater ih = (h.0, ih)

pub still_beyond : (ss : List definition.Stat) (others new : BTreeMap Key Stats) (k : Key) (more : statistics.Stats) → IsBeyond (key_view k)
    → seen_at new ≡ put_more (on key_view key_cmp) ss (seen_at others) k more → AreBeyond (keyed key_view others) → AreBeyond (keyed key_view new)
still_beyond ss others new k more b is h =
    subst AreBeyond (sym (keyed-put key_view ss others.entries new.entries k more is)) (beyond-insert_entry (keyed key_view others) (key_view k) _ b h)

-- ---- the same of the tally

pub at_long : (t : Inside) → IsSound t → (n m : ℤ) → m ≡ n → entry_at (tally_view t).entries (long_key n) ≡ lookup (is_at (int_cmp m)) (seen_at t.longs)
at_long t s n m same = entry_at-long (map stat_view t.stats.items) t.longs t.texts t.others s.beyond n ∙ ap (λ k. lookup (is_at (int_cmp k)) (seen_at t.longs)) (sym same)

pub at_text : (t : Inside) → IsSound t → (n : Text) → entry_at (tally_view t).entries (text_key n) ≡ lookup (is_at (text_cmp n)) (seen_at t.texts)
at_text t s n = entry_at-text (map stat_view t.stats.items) t.longs t.texts t.others s.beyond n

pub at_other : (t : Inside) → IsSound t → (k : Key) → IsBeyond (key_view k) → entry_at (tally_view t).entries (key_view k) ≡ lookup (is_at (on key_view key_cmp k)) (seen_at t.others)
at_other t s k b = entry_at-other (map stat_view t.stats.items) t.longs t.texts t.others s.beyond k b

module _ (t : Inside) (s : IsSound t) (more : statistics.Stats) where
  with_entries : List Entry → Tallied
  with_entries es = record { stats = map stat_view t.stats.items; entries = es }

  pub with_long : (new : BTreeMap ℤ Stats) (n m : ℤ) → m ≡ n → seen_at new ≡ put_more int_cmp (map stat_view t.stats.items) (seen_at t.longs) m more
      → tally_view (record t { longs = new }) ≡ added (tally_view t) (long_key n) more
  unfolding with_entries
  with_long new n m same is =
      ap with_entries (added-long (map stat_view t.stats.items) t.longs t.texts t.others s.beyond new n more
      (is ∙ ap (λ k. put_more int_cmp (map stat_view t.stats.items) (seen_at t.longs) k more) same))

  pub with_text : (new : BTreeMap Text Stats) (n : Text) → seen_at new ≡ put_more text_cmp (map stat_view t.stats.items) (seen_at t.texts) n more
      → tally_view (record t { texts = new }) ≡ added (tally_view t) (text_key n) more
  unfolding with_entries
  with_text new n is = ap with_entries (added-text (map stat_view t.stats.items) t.longs t.texts t.others s.beyond new n more is)

  pub with_other : (new : BTreeMap Key Stats) (k : Key) → IsBeyond (key_view k) → seen_at new ≡ put_more (on key_view key_cmp) (map stat_view t.stats.items) (seen_at t.others) k more
      → tally_view (record t { others = new }) ≡ added (tally_view t) (key_view k) more
  unfolding with_entries
  with_other new k b is = ap with_entries (added-other (map stat_view t.stats.items) t.longs t.texts t.others s.beyond new k more b is)

-- ---- what is kept is a tally

-- entries in order, each before those of a list in order
sorted-append : (es fs : List Entry) → IsStrictlySortedBy key_cmp (keys_of es) → IsStrictlySortedBy key_cmp (keys_of fs)
    → AllByRecursion (λ (e : Entry). AllByRecursion (Precedes key_cmp e.0) fs) es → IsStrictlySortedBy key_cmp (keys_of (es ++ fs))
unfolding IsStrictlySortedBy
sorted-append [] fs h k a = k
sorted-append (e ∷ es) fs h k a = (go es h.0, sorted-append es fs h.1 k a.1)
  where
    behind : (gs : List Entry) → AllByRecursion (Precedes key_cmp e.0) gs → AllByRecursion (λ q. key_cmp e.0 q ≡ Less) (keys_of gs)
    behind [] p = tt
    behind (g ∷ gs) p = (p.0, behind gs p.1)

    go : (gs : List Entry) → AllByRecursion (λ q. key_cmp e.0 q ≡ Less) (keys_of gs) → AllByRecursion (λ q. key_cmp e.0 q ≡ Less) (keys_of (gs ++ fs))
    go [] p = behind fs a.0
    go (g ∷ gs) p = (p.0, go gs p.1)

keyed-sorted : {K : Type 0} (see : K → buckets.Key) (es : List (K × Stats)) → IsStrictlySortedBy (on see key_cmp) (keys_of es) → IsStrictlySortedBy key_cmp (keys_of (seen_as see es))
keyed-sorted see es h = subst (IsStrictlySortedBy key_cmp) (sym (keys_of-seen see stats_view es)) (sorted_seen see key_cmp (keys_of es) h)

keyed-shaped : {K : Type 0} (see : K → buckets.Key) (ss : List definition.Stat) (es : List (K × Stats)) → All (HasShape ss) (values_of (seen_in es)) → All (HasShape ss) (values_of (seen_as see es))
keyed-shaped {K} see ss es h = subst (All (HasShape ss)) (same es) h
  where
    same : (gs : List (K × Stats)) → values_of (seen_in gs) ≡ values_of (seen_as see gs)
    same [] = refl
    same (g ∷ gs) = ap (λ l. stats_view g.1 ∷ l) (same gs)

values_of-append : (es fs : List Entry) → values_of (es ++ fs) ≡ values_of es ++ values_of fs
values_of-append es fs = map-append _ es fs

both_shaped : (ss : List definition.Stat) (es fs : List Entry) → All (HasShape ss) (values_of es) → All (HasShape ss) (values_of fs) → All (HasShape ss) (values_of (es ++ fs))
both_shaped ss es fs h k = subst (All (HasShape ss)) (sym (values_of-append es fs)) (All-append (HasShape ss) (values_of es) (values_of fs) h k)

pub is_tally : (t : Inside) → IsSound t → IsTally (tally_view t)
is_tally t s = record {
  ascend = sorted-append (keyed long_key t.longs) (keyed text_key t.texts ++ keyed key_view t.others) (keyed-sorted long_key t.longs.entries s.longs.ordered)
      (sorted-append (keyed text_key t.texts) (keyed key_view t.others) (keyed-sorted text_key t.texts.entries s.texts.ordered) (keyed-sorted key_view t.others.entries s.others.ordered) (text_first t.texts.entries))
      (long_first t.longs.entries);
  shaped = both_shaped _ (keyed long_key t.longs) _ (keyed-shaped long_key _ t.longs.entries s.longs.shaped)
      (both_shaped _ (keyed text_key t.texts) _ (keyed-shaped text_key _ t.texts.entries s.texts.shaped) (keyed-shaped key_view _ t.others.entries s.others.shaped));
}
  where
    text_first : (es : List (Text × Stats)) → AllByRecursion (λ (e : Entry). AllByRecursion (Precedes key_cmp e.0) (keyed key_view t.others)) (seen_as text_key es)
    text_first [] = tt
    text_first (e ∷ es) = (before_others (text e.0) (keyed key_view t.others) s.beyond, text_first es)

    long_first : (es : List (ℤ × Stats)) → AllByRecursion (λ (e : Entry). AllByRecursion (Precedes key_cmp e.0) (keyed text_key t.texts ++ keyed key_view t.others)) (seen_as long_key es)
    long_first [] = tt
    long_first (e ∷ es) = (behind_long (map stat_view t.stats.items) t.longs t.texts t.others s.beyond e.0, long_first es)

-- ---- the clauses of adding

pub adds_to : (old : Tallied) (k : buckets.Key) (more : statistics.Stats) → AddsTo old (added old k more) k more
adds_to old k more =
    let at : (q : buckets.Key) → entry_at (with_added old.stats old.entries k more) q ≡ cond (same_key q k) (Some (with_more old.stats (entry_at old.entries k) more)) (entry_at old.entries q) =
    lookup-insert_entry key_cmp_total old.entries k (with_more old.stats (entry_at old.entries k) more) in
    record {
      there = at k ∙ ap (λ o. cond (is_eq o) (Some (with_more old.stats (entry_at old.entries k) more)) (entry_at old.entries k)) (tied_itself key_cmp_total k);
      others = λ q h. at q ∙ ap (λ b. cond b (Some (with_more old.stats (entry_at old.entries k) more)) (entry_at old.entries q)) h;
    }

pub adds_when : (old new : Tallied) (k : buckets.Key) (more : statistics.Stats) → new ≡ added old k more → AddsTo old new k more
adds_when old new k more is = subst (λ (t : Tallied). AddsTo old t k more) (sym is) (adds_to old k more)

-- ---- what is found

-- what a reference points to, seen
pub seen_copied : (r : Option (Bor Stats)) → option_map (λ (s : Bor Stats). stats_view s.now) r ≡ option_map stats_view (option_copied r)
seen_copied None = refl
seen_copied (Some s) = refl
