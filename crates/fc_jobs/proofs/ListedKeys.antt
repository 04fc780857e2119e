-- The keys of what is listed of a tally.
use Rattle.std.proofs.Common.{◌≡◌, List, [], ◌∷◌, ◌++◌, map, All, Bool, true, false, cond, ◌&&◌, not, Some, None, IsTrue, refl, sym, ◌∙◌, ap}
use Rattle.std.specs.Map.{keys_of}
use Rattle.std.proofs.lemmas.Bool.{false≢true}
use Rattle.std.proofs.lemmas.List.Elements.{All-nil, All-cons, All-head, All-tail}
use Rattle.fc_spec.specs.documents.Sets.{AreSets, places_at}
use Rattle.fc_spec.specs.documents.World.{Place}
use Rattle.fc_spec.specs.words.Lists.{is_empty}
use Rattle.fc_spec.specs.requests.Buckets.{Key, value, missing, gap, before, between, after, whole, bucket_places, is_key_of}
use Rattle.fc_spec.specs.requests.Ranks.{offered_bound}
use Rattle.fc_spec.specs.requests.Request.{Stat, Terms, Kind, terms, range, date_range, query, Nodes, stats_of}
use Rattle.fc_spec.specs.requests.Shape.{no_exclusions}
use Rattle.fc_spec.specs.requests.Statistics.{stats_over}
use Rattle.fc_spec.specs.replies.Printed.{asked, range_keys, date_range_keys}
use Rattle.fc_spec.proofs.replies.PrintedKeys.{every_asked, every_range_key, every_date_range_key}
use Rattle.fc_spec.specs.messages.KeyOrder.{same_key}
use Rattle.fc_spec.proofs.messages.Keys.{same_key_itself}
use Rattle.fc_spec.proofs.words.Members.{Every, every_append, every_filter, every_map}
use Rattle.fc_partial.specs.BucketView.{bare, bucket_view, buckets_view}
use Rattle.fc_partial.specs.Tallied.{Entry, Tallied}
use Rattle.fc_partial.specs.Tallying.{IsTally, entry_at}
use Rattle.fc_partial.specs.declared.bucket.PartialBucket.{PartialBucket}
use Rattle.fc_refine.specs.Tops.{is_value_or_missing, of_entry, others_of_tally, top_of, values_of_tally}
use Rattle.fc_kind.specs.Tallies.{IsTallyOf}
use Rattle.fc_answers.specs.Listed.{bucket_entry, entry_or_none, listed_of, top_values}
use Rattle.fc_answers.specs.SetAnswer.{Pieces, Sets, own_keys, whole_world}
use Rattle.fc_answers.proofs.ListedTallies.{tallies_list}
use Rattle.fc_jobs.specs.Gathered.{IsCountedSoFar, gathered}
use Rattle.fc_jobs.proofs.CountedTallies.{counted_all}

-- ---- keys of a tally

-- each key is the facet's
abbrev pub HaveKeysOf : Kind → List Entry → Type 0
HaveKeysOf kind es = Every (λ e. is_key_of kind e.0) es

pub have_keys : (kind : Kind) (es : List Entry) → All (λ key. IsTrue (is_key_of kind key)) (keys_of es) → HaveKeysOf kind es
have_keys kind [] all = tt
have_keys kind (e ∷ es) all = (All-head (λ key. IsTrue (is_key_of kind key)) e.0 (keys_of es) all, have_keys kind es (All-tail (λ key. IsTrue (is_key_of kind key)) e.0 (keys_of es) all))

pub all_keys : (p : Key → Bool) (es : List Entry) → Every (λ e. p e.0) es → All (λ key. IsTrue (p key)) (keys_of es)
all_keys p [] own = All-nil (λ key. IsTrue (p key))
all_keys p (e ∷ es) own = All-cons (λ key. IsTrue (p key)) e.0 (keys_of es) own.0 (all_keys p es own.1)

-- a test that fails only at keys without an entry passes at each that has one
passes : (p : Key → Bool) (es : List Entry) → ((k : Key) → p k ≡ false → entry_at es k ≡ None) → Every (λ e. p e.0) es
passes p [] misses = tt
passes p (e ∷ es) misses = (head (p e.0) refl, passes p es rest)
  where
    head : (b : Bool) → p e.0 ≡ b → p e.0 ≡ true
    head true h = h
    head false h = let none = sym (ap (λ c. cond c (Some e.1) (entry_at es e.0)) (same_key_itself e.0)) ∙ misses e.0 h in absurd (cc)

    at : (k : Key) (b : Bool) → cond b (Some e.1) (entry_at es k) ≡ None → entry_at es k ≡ None
    at k true h = absurd (cc)
    at k false h = h

    rest : (k : Key) → p k ≡ false → entry_at es k ≡ None
    rest k h = at k (same_key k e.0) (misses k h)

pub keys_own : (kind : Kind) (ss : List Stat) (X : List Place) (t : Tallied) → IsTallyOf kind ss X t → HaveKeysOf kind t.entries
keys_own kind ss X t of = passes (is_key_of kind) t.entries (λ k h. of.entries k ∙ (λ i. cond (h i && not (is_empty (bucket_places kind k X))) (Some (stats_over ss (bucket_places kind k X))) None))

-- ---- the end of a facet's job

-- what is listed are the buckets of the keys that the answer lists
pub listed_all : (V : Pieces) (D : Sets) (kind : Kind) (inner : Nodes) (t : Tallied) → AreSets (whole_world V) D → IsTally t → IsCountedSoFar V D kind (stats_of inner) D t
    → listed_of kind inner t.entries ≡ map (bucket_entry kind (stats_of inner) (places_at (whole_world V) D)) (own_keys kind inner (places_at (whole_world V) D))
listed_all V D kind inner t are tally so_far = tallies_list kind inner (places_at (whole_world V) D) t.entries tally.ascend (counted_all V D kind (stats_of inner) t are so_far).entries

-- and the keys of the tally are the facet's
pub counted_keys : (V : Pieces) (D domain : Sets) (kind : Kind) (ss : List Stat) (t : Tallied) → IsCountedSoFar V D kind ss domain t → All (λ key. IsTrue (is_key_of kind key)) (keys_of t.entries)
counted_keys V D domain kind ss t so_far = all_keys (is_key_of kind) t.entries (keys_own kind ss (gathered (whole_world V) domain) t so_far.tally)

-- ---- what is listed

-- of a terms facet they are values, or missing
pub terms_keys : (t : Terms) (es : List Entry) → HaveKeysOf (terms t) es → Every (λ e. is_value_or_missing e.0) es
terms_keys t [] own = tt
terms_keys t (e ∷ es) own = (at e.0 own.0, terms_keys t es own.1)
  where
    at : (k : Key) → is_key_of (terms t) k ≡ true → is_value_or_missing k ≡ true
    at (value v) h = refl
    at missing h = refl
    at (gap i) h = absurd (false≢true h)
    at before h = absurd (false≢true h)
    at between h = absurd (false≢true h)
    at after h = absurd (false≢true h)
    at whole h = absurd (false≢true h)

values_own : (p : Key → Bool) (es : List Entry) → Every (λ e. p e.0) es → Every (λ e. p (of_entry e).0) (values_of_tally es)
values_own p [] own = tt
values_own p ((value v, s) ∷ es) own = (own.0, values_own p es own.1)
values_own p ((missing, s) ∷ es) own = values_own p es own.1
values_own p ((gap i, s) ∷ es) own = values_own p es own.1
values_own p ((before, s) ∷ es) own = values_own p es own.1
values_own p ((between, s) ∷ es) own = values_own p es own.1
values_own p ((after, s) ∷ es) own = values_own p es own.1
values_own p ((whole, s) ∷ es) own = values_own p es own.1

-- of a range facet they are all of its keys, or those of the tally
all_listed : (kind : Kind) (inner : Nodes) (es : List Entry) (keys : List Key) → Every (is_key_of kind) keys → HaveKeysOf kind es → (none : Bool) → HaveKeysOf kind (cond (not none) (map (entry_or_none (stats_of inner) es) keys) es)
all_listed kind inner es keys all own true = own
all_listed kind inner es keys all own false = every_map (λ e. is_key_of kind e.0) (entry_or_none (stats_of inner) es) keys all

-- what is listed has keys of the tally, or others of the facet
pub listed_keys : (kind : Kind) (inner : Nodes) (es : List Entry) → HaveKeysOf kind es → HaveKeysOf kind (listed_of kind inner es)
listed_keys (terms t) inner es own = go (no_exclusions inner)
  where
    values : Every (λ e. is_key_of (terms t) e.0) (top_values t es)
    values = every_map (λ e. is_key_of (terms t) e.0) of_entry _ (every_filter (λ e. is_key_of (terms t) (of_entry e).0) _ (values_of_tally es) (values_own (is_key_of (terms t)) es own))

    go : (none : Bool) → Every (λ e. is_key_of (terms t) e.0) (cond (not none) (top_values t es ++ map (entry_or_none (stats_of inner) es) (asked t.missing missing)) (top_of t.sort (offered_bound t) es))
    go true = every_append (λ e. is_key_of (terms t) e.0) (top_values t es) (others_of_tally es) values (every_filter (λ e. is_key_of (terms t) e.0) _ es own)
    go false =
        every_append (λ e. is_key_of (terms t) e.0) (top_values t es) (map (entry_or_none (stats_of inner) es) (asked t.missing missing)) values
        (every_map (λ e. is_key_of (terms t) e.0) (entry_or_none (stats_of inner) es) (asked t.missing missing) (every_asked (is_key_of (terms t)) t.missing missing refl))
listed_keys (range g) inner es own = all_listed (range g) inner es (range_keys g) (every_range_key g) own (no_exclusions inner)
listed_keys (date_range g) inner es own = all_listed (date_range g) inner es (date_range_keys g) (every_date_range_key g) own (no_exclusions inner)
listed_keys (query q) inner es own = (refl, tt)

-- buckets have the keys of the entries that they are of
pub bucket_keys : (p : Key → Bool) (bs : List PartialBucket) (es : List Entry) → buckets_view bs ≡ bare es → Every (λ e. p e.0) es → All (λ b. IsTrue (p (bucket_view b).key)) bs
bucket_keys p [] es same own = All-nil (λ b. IsTrue (p (bucket_view b).key))
bucket_keys p (b ∷ bs) [] same own = absurd (cc)
bucket_keys p (b ∷ bs) (e ∷ es) same own =
    let key : (bucket_view b).key ≡ e.0 = cc in
    let rest : buckets_view bs ≡ bare es = cc in
    All-cons (λ b. IsTrue (p (bucket_view b).key)) b bs (ap p key ∙ own.0) (bucket_keys p bs es rest own.1)

-- so what is listed has keys of the facet
pub keys_listed : (kind : Kind) (inner : Nodes) (es : List Entry) (bs : List PartialBucket) → All (λ key. IsTrue (is_key_of kind key)) (keys_of es) → buckets_view bs ≡ bare (listed_of kind inner es)
    → All (λ b. IsTrue (is_key_of kind (bucket_view b).key)) bs
keys_listed kind inner es bs all same = bucket_keys (is_key_of kind) bs (listed_of kind inner es) same (listed_keys kind inner es (have_keys kind es all))
