-- What a shard lists of a tally is what its answer lists.
use Rattle.std.proofs.Common.{◌≡◌, List, [], ◌∷◌, ◌++◌, map, Bool, true, false, cond, ◌||◌, ◌&&◌, not, None, Some, unwrap_or, refl, sym, ◌∙◌, ap, subst}
use Rattle.std.specs.List.{filter, list_any, AllByRecursion}
use Rattle.std.specs.List.Sorted.{IsStrictlySortedBy}
use Rattle.std.specs.Map.{keys_of}
use Rattle.std.specs.Ordering.{is_eq, ordering_reverse}
use Rattle.std.specs.declared.cmp.Ordering.{Ordering}
use Rattle.std.specs.declared.cmp.Ordering.TheVariants.{Less, Equal, Greater}
use Rattle.std.proofs.lemmas.List.{map-append}
use Rattle.std.proofs.lemmas.Option.{same_Some}
use Rattle.fc_spec.specs.documents.Val.{Val}
use Rattle.fc_spec.specs.documents.World.{Place}
use Rattle.fc_spec.specs.words.Lists.{is_empty}
use Rattle.fc_spec.specs.requests.Request.{Stat, Terms, Kind, terms, range, date_range, query, Nodes, stats_of}
use Rattle.fc_spec.specs.requests.Shape.{no_exclusions}
use Rattle.fc_spec.specs.requests.Buckets.{Key, value, missing, whole, bucket_places, is_key_of}
use Rattle.fc_spec.specs.requests.Ranks as ranks
use Rattle.fc_spec.specs.requests.Ranks.{below_rank, offered_bound}
use Rattle.fc_spec.specs.requests.Statistics.{Stats, stats_over}
use Rattle.fc_spec.specs.replies.Printed.{asked, range_keys, date_range_keys}
use Rattle.fc_spec.specs.replies.Values.{value_places, values_in, entries_in}
use Rattle.fc_spec.specs.messages.KeyOrder.{key_cmp, same_key}
use Rattle.fc_spec.specs.messages.Answer.{not_empty}
use Rattle.fc_spec.proofs.words.Members.{Every, every_from_members}
use Rattle.fc_spec.proofs.replies.PrintedKeys.{every_asked}
use Rattle.fc_spec.proofs.words.MappedLists.{filter-map}
use Rattle.fc_spec.proofs.messages.Keys.{same_key_exact, same_key_itself}
use Rattle.fc_spec.proofs.messages.PrintedKnown.{nothing_is_empty}
use Rattle.fc_partial.specs.KeyLaws.{key_cmp_total}
use Rattle.fc_partial.specs.Tallied.{Entry}
use Rattle.fc_partial.specs.Tallying.{entry_at}
use Rattle.fc_refine.specs.Tops.{values_of_tally, others_of_tally, of_entry}
use Rattle.fc_answers.specs.Listed.{AreOfBuckets, bucket_entry, entry_or_none, TalliesList}
use Rattle.fc_answers.proofs.AscendingKeys.{AreAllKeys, terms_keys_in, terms_keys_up, terms_keys_are, range_keys_all, date_range_keys_all, kept_up, kept_are, is_found}

-- ---- entries in the order of their keys

-- the key stands before each of the list
abbrev IsBefore : Key → List Key → Type 0
IsBefore k ls = AllByRecursion (λ l. key_cmp k l ≡ Less) ls

before_all : (j k : Key) (ls : List Key) → key_cmp j k ≡ Less → IsBefore k ls → IsBefore j ls
before_all j k [] h below = tt
before_all j k (l ∷ ls) h below = (key_cmp_total.trans j k l h below.0, before_all j k ls h below.1)

not_among : (k : Key) (ls : List Key) → IsBefore k ls → list_any (same_key k) ls ≡ false
not_among k [] below = refl
not_among k (l ∷ ls) below = ap (λ o. is_eq o || list_any (same_key k) ls) below.0 ∙ not_among k ls below.1

no_entry : (k : Key) (es : List Entry) → IsBefore k (keys_of es) → entry_at es k ≡ None
no_entry k [] below = refl
no_entry k (e ∷ es) below = ap (λ o. cond (is_eq o) (Some e.1) (entry_at es k)) below.0 ∙ no_entry k es below.1

module _ (stats : Key → Stats) where
  -- these keys have entries, and no others
  abbrev HaveEntries : List Key → List Entry → Type 0
  HaveEntries ks es = (k : Key) → entry_at es k ≡ cond (list_any (same_key k) ks) (Some (stats k)) None

  -- without a first key that is before both
  rest_have : (k : Key) (s : Stats) (ks : List Key) (es : List Entry) → IsBefore k ks → IsBefore k (keys_of es) → HaveEntries (k ∷ ks) ((k, s) ∷ es) → HaveEntries ks es
  rest_have k s ks es low below have q = go (same_key q k) refl (have q)
    where
      go : (b : Bool) → same_key q k ≡ b → cond b (Some s) (entry_at es q) ≡ cond (b || list_any (same_key q) ks) (Some (stats q)) None → entry_at es q ≡ cond (list_any (same_key q) ks) (Some (stats q)) None
      go true e h =
          subst (λ j. entry_at es j ≡ cond (list_any (same_key j) ks) (Some (stats j)) None) (sym (same_key_exact q k e))
          (no_entry k es below ∙ sym (ap (λ b. cond b (Some (stats k)) None) (not_among k ks low)))
      go false e h = h

  first_is : (k : Key) (s : Stats) (ks : List Key) (es : List Entry) → HaveEntries (k ∷ ks) ((k, s) ∷ es) → s ≡ stats k
  first_is k s ks es have = same_Some s (stats k) (
      sym (ap (λ b. cond b (Some s) (entry_at es k)) (same_key_itself k)) ∙ have k ∙ ap (λ b. cond (b || list_any (same_key k) ks) (Some (stats k)) None) (same_key_itself k))

  -- so the entries are those of the keys
  entries_of : (ks : List Key) (es : List Entry) → IsStrictlySortedBy key_cmp ks → IsStrictlySortedBy key_cmp (keys_of es) → HaveEntries ks es → es ≡ map (λ k. (k, stats k)) ks
  unfolding IsStrictlySortedBy
  entries_of [] [] up ascend have = refl
  entries_of [] (e ∷ es) up ascend have =
      let there = sym (ap (λ b. cond b (Some e.1) (entry_at es e.0)) (same_key_itself e.0)) ∙ have e.0 in absurd (cc)
  entries_of (k ∷ ks) [] up ascend have =
      let there = have k ∙ ap (λ b. cond (b || list_any (same_key k) ks) (Some (stats k)) None) (same_key_itself k) in absurd (cc)
  entries_of (k ∷ ks) (e ∷ es) up ascend have = go (key_cmp e.0 k) refl (λ h. entries_of ks es up.1 ascend.1 h)
    where
      go : (o : Ordering) → key_cmp e.0 k ≡ o → (HaveEntries ks es → es ≡ map (λ k. (k, stats k)) ks) → e ∷ es ≡ (k, stats k) ∷ map (λ k. (k, stats k)) ks
      go Less h rest =
          let there =
          sym (ap (λ b. cond b (Some e.1) (entry_at es e.0)) (same_key_itself e.0)) ∙ have e.0
          ∙ ap (λ b. cond b (Some (stats e.0)) None) (not_among e.0 (k ∷ ks) (h, before_all e.0 k ks h up.0)) in
          absurd (cc)
      go Equal h rest =
          let same = same_key_exact e.0 k (ap is_eq h) in
          let mine = subst (λ j. HaveEntries (k ∷ ks) ((j, e.1) ∷ es)) same have in
          let others = rest_have k e.1 ks es up.0 (subst (λ j. IsBefore j (keys_of es)) same ascend.0) mine in
          λ i. (same i, first_is k e.1 ks es mine i) ∷ rest others i
      go Greater h rest =
          let less : key_cmp k e.0 ≡ Less = key_cmp_total.antisymm k e.0 ∙ ap ordering_reverse h in
          let there =
          sym (no_entry k (e ∷ es) (less, before_all k e.0 (keys_of es) less ascend.0)) ∙ have k
          ∙ ap (λ b. cond (b || list_any (same_key k) ks) (Some (stats k)) None) (same_key_itself k) in
          absurd (cc)

-- ---- what is listed

module _ (kind : Kind) (ss : List Stat) (Y : List Place) (es : List Entry) (ascend : IsStrictlySortedBy key_cmp (keys_of es)) (of : AreOfBuckets kind ss Y es) where
  pub buckets_of : (ks : List Key) → IsStrictlySortedBy key_cmp ks → ((k : Key) → list_any (same_key k) ks ≡ is_found kind Y k) → es ≡ map (bucket_entry kind ss Y) ks
  buckets_of ks up are = entries_of (λ k. stats_over ss (bucket_places kind k Y)) ks es up ascend (λ k. of k ∙ ap (λ b. cond b (Some (stats_over ss (bucket_places kind k Y))) None) (sym (are k)))

module _ (t : Terms) (ss : List Stat) (Y : List Place) where
  -- an entry of a value
  abbrev made : Val → ranks.Entry
  made v = record { val = v; stats = stats_over ss (value_places t v Y) }

  -- the entry of missing, where it is asked for and not empty
  abbrev pub lacking : List Entry
  lacking = map (bucket_entry (terms t) ss Y) (not_empty (terms t) Y (asked t.missing missing))

  no_values : (b : Bool) → values_of_tally (map (bucket_entry (terms t) ss Y) (not_empty (terms t) Y (asked b missing))) ≡ []
  no_values false = refl
  no_values true = go (not (is_empty (bucket_places (terms t) missing Y)))
    where
      go : (c : Bool) → values_of_tally (map (bucket_entry (terms t) ss Y) (cond c (missing ∷ []) [])) ≡ []
      go true = refl
      go false = refl

  all_others : (b : Bool) → others_of_tally (map (bucket_entry (terms t) ss Y) (not_empty (terms t) Y (asked b missing))) ≡ map (bucket_entry (terms t) ss Y) (not_empty (terms t) Y (asked b missing))
  all_others false = refl
  all_others true = go (not (is_empty (bucket_places (terms t) missing Y)))
    where
      go : (c : Bool) → others_of_tally (map (bucket_entry (terms t) ss Y) (cond c (missing ∷ []) [])) ≡ map (bucket_entry (terms t) ss Y) (cond c (missing ∷ []) [])
      go true = refl
      go false = refl

  values_back : (vs : List Val) → values_of_tally (map (bucket_entry (terms t) ss Y) (map value vs) ++ lacking) ≡ map made vs
  values_back [] = no_values t.missing
  values_back (v ∷ vs) = ap (λ es. made v ∷ es) (values_back vs)

  others_back : (vs : List Val) → others_of_tally (map (bucket_entry (terms t) ss Y) (map value vs) ++ lacking) ≡ lacking
  others_back [] = all_others t.missing
  others_back (v ∷ vs) = others_back vs

  -- values with what they have in the tally
  as_entries : (vs : List Val) → map of_entry (map made vs) ≡ map (bucket_entry (terms t) ss Y) (map value (map (λ e. e.val) (map made vs)))
  as_entries [] = refl
  as_entries (v ∷ vs) = ap (λ es. (value v, stats_over ss (value_places t v Y)) ∷ es) (as_entries vs)

  kept_entries : (keep : ranks.Entry → Bool) → map of_entry (filter keep (entries_in t ss Y)) ≡ map (bucket_entry (terms t) ss Y) (map value (map (λ e. e.val) (filter keep (entries_in t ss Y))))
  kept_entries keep =
      let cut : filter keep (entries_in t ss Y) ≡ map made (filter (λ v. keep (made v)) (values_in t Y)) =
      filter-map made (λ v. true) keep (λ v. keep (made v)) (values_in t Y) (λ v h. refl) (every_from_members (λ v. true) (values_in t Y) (λ v m. refl)) in
      ap (map of_entry) cut ∙ as_entries (filter (λ v. keep (made v)) (values_in t Y)) ∙ sym (ap (λ es. map (bucket_entry (terms t) ss Y) (map value (map (λ e. e.val) es))) cut)

-- an entry of a key of the facet, or that of no place, has the statistics of the key's bucket
module _ (kind : Kind) (ss : List Stat) (Y : List Place) (es : List Entry) (of : AreOfBuckets kind ss Y es) where
  pub filled_entry : (k : Key) → is_key_of kind k ≡ true → entry_or_none ss es k ≡ bucket_entry kind ss Y k
  filled_entry k own = ap (λ s. (k, s)) (ap (λ o. unwrap_or o (stats_over ss [])) (of k ∙ ap (λ b. cond (b && not (is_empty (bucket_places kind k Y))) (Some (stats_over ss (bucket_places kind k Y))) None) own) ∙ go (is_empty (bucket_places kind k Y)) refl)
    where
      go : (b : Bool) → is_empty (bucket_places kind k Y) ≡ b → unwrap_or (cond (not b) (Some (stats_over ss (bucket_places kind k Y))) None) (stats_over ss []) ≡ stats_over ss (bucket_places kind k Y)
      go true e = ap (stats_over ss) (sym (nothing_is_empty (bucket_places kind k Y) e))
      go false e = refl

  filled_entries : (ks : List Key) → Every (is_key_of kind) ks → map (entry_or_none ss es) ks ≡ map (bucket_entry kind ss Y) ks
  filled_entries [] own = refl
  filled_entries (k ∷ ks) own = λ i. filled_entry k own.0 i ∷ filled_entries ks own.1 i

-- of all keys of a facet each is listed, or each whose bucket is not empty
all_listed : (kind : Kind) (inner : Nodes) (Y : List Place) (es : List Entry) (keys : List Key) → AreAllKeys kind keys → IsStrictlySortedBy key_cmp (keys_of es) → AreOfBuckets kind (stats_of inner) Y es → (none : Bool)
    → cond (not none) (map (entry_or_none (stats_of inner) es) keys) es ≡ map (bucket_entry kind (stats_of inner) Y) (cond (not none) keys (not_empty kind Y keys))
all_listed kind inner Y es keys all ascend of true = buckets_of kind (stats_of inner) Y es ascend of (not_empty kind Y keys) (kept_up kind Y keys all) (kept_are kind Y keys all)
all_listed kind inner Y es keys all ascend of false = filled_entries kind (stats_of inner) Y es of keys all.own

pub tallies_list : TalliesList
tallies_list (terms t) inner Y es ascend of =
    let ss = stats_of inner in
    let bound = offered_bound t in
    let entry = bucket_entry (terms t) ss Y in
    let all : es ≡ map entry (map value (values_in t Y)) ++ lacking t ss Y =
    buckets_of (terms t) ss Y es ascend of (terms_keys_in t Y) (terms_keys_up t Y) (terms_keys_are t Y) ∙ map-append entry (map value (values_in t Y)) (not_empty (terms t) Y (asked t.missing missing)) in
    let values = ap values_of_tally all ∙ values_back t ss Y (values_in t Y) in
    let others = ap others_of_tally all ∙ others_back t ss Y (values_in t Y) in
    let offered = map value (map (λ e. e.val) (below_rank t.sort bound (entries_in t ss Y))) in
    let top = ap (λ vs. map of_entry (below_rank t.sort bound vs)) values ∙ kept_entries t ss Y _ in
    go t inner Y es offered (map of_entry (below_rank t.sort bound (values_of_tally es))) (others_of_tally es) top others (filled_entries (terms t) ss Y es of (asked t.missing missing) (every_asked (is_key_of (terms t)) t.missing missing refl)) (no_exclusions inner)
  where
    go : (t : Terms) (inner : Nodes) (Y : List Place) (es : List Entry) (offered : List Key) (top rest : List Entry) → top ≡ map (bucket_entry (terms t) (stats_of inner) Y) offered → rest ≡ lacking t (stats_of inner) Y
        → map (entry_or_none (stats_of inner) es) (asked t.missing missing) ≡ map (bucket_entry (terms t) (stats_of inner) Y) (asked t.missing missing) → (none : Bool)
        → cond (not none) (top ++ map (entry_or_none (stats_of inner) es) (asked t.missing missing)) (top ++ rest)
        ≡ map (bucket_entry (terms t) (stats_of inner) Y) (offered ++ cond (not none) (asked t.missing missing) (not_empty (terms t) Y (asked t.missing missing)))
    go t inner Y es offered top rest e f h true = (λ i. e i ++ f i) ∙ sym (map-append (bucket_entry (terms t) (stats_of inner) Y) offered (not_empty (terms t) Y (asked t.missing missing)))
    go t inner Y es offered top rest e f h false = (λ i. e i ++ h i) ∙ sym (map-append (bucket_entry (terms t) (stats_of inner) Y) offered (asked t.missing missing))
tallies_list (range g) inner Y es ascend of = all_listed (range g) inner Y es (range_keys g) (range_keys_all g) ascend of (no_exclusions inner)
tallies_list (date_range g) inner Y es ascend of = all_listed (date_range g) inner Y es (date_range_keys g) (date_range_keys_all g) ascend of (no_exclusions inner)
tallies_list (query q) inner Y es ascend of = ap (λ e. e ∷ []) (filled_entry (query q) (stats_of inner) Y es of whole refl)
