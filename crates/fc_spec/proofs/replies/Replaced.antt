-- Query facets in the place of exact ones have their buckets: node by node of the request's outermost nodes.
use Rattle.std.proofs.Common.{◌≡◌, ℤ, ℕ, suc, List, [], ◌∷◌, ◌++◌, map, length, Bool, true, false, cond, not, ◌&&◌, ◌||◌, ◌==◌, Option, None, Some, refl, sym, ◌∙◌, ap, subst, inr}
use Rattle.std.proofs.lemmas.Bool.{false≢true, and_from, or_parts}
use Rattle.std.proofs.lemmas.List.Elements.{filter_agree}
use Rattle.fc_spec.specs.documents.Val.{Text, same_text, Val, has_val}
use Rattle.fc_spec.specs.documents.Document.{Document, values_of}
use Rattle.fc_spec.specs.words.Lists.{is_empty, numbers_below}
use Rattle.fc_spec.specs.documents.World.{World, Place, on_shards}
use Rattle.fc_spec.specs.queries.Matching.{matches}
use Rattle.fc_spec.specs.requests.Request.{Terms, Kind, terms, range, date_range, query, DomainChange, Facet, Nodes, no_nodes, statistic, facet, Request, stats_of}
use Rattle.fc_spec.specs.requests.Base.{root_domain}
use Rattle.fc_spec.specs.requests.Paths.{Path, at_root, into, domain}
use Rattle.fc_spec.specs.requests.Buckets.{Key, value, missing, gap, before, between, after, whole, in_terms, is_terms_key, bucket_places}
use Rattle.fc_spec.specs.requests.Shape.{is_exact, no_exact}
use Rattle.fc_spec.specs.requests.Ranks.{Entry}
use Rattle.fc_spec.specs.requests.Statistics.{shown, value_over}
use Rattle.fc_spec.specs.replies.Reply.{bucket, Facets, Row, row_of, spot_of, val_of, part, number, one, many, with_buckets}
use Rattle.fc_spec.specs.replies.Printed.{statistic_part, asked, terms_keys}
use Rattle.fc_spec.specs.replies.Values.{entries_in}
use Rattle.fc_spec.specs.replies.Exact.{exact_keys}
use Rattle.fc_spec.specs.replies.Reading.{over_places}
use Rattle.fc_spec.specs.replies.Distributed.{carried, printed_keys, distributed}
use Rattle.fc_spec.specs.replies.WithTops.{root_buckets, root_facets, with_tops}
use Rattle.fc_spec.specs.replies.Tops.{tops, tops_in, tops_of, printed_values, key_query, key_nodes, top_keys, first_list, lists_after, replaced_facet, replaced_nodes, replaced}
use Rattle.fc_spec.specs.replies.Restored.{after_first, with_first, is_number_of, row_from, after_keys, restored_facets, restored}
use Rattle.fc_spec.specs.laws.ReplacedLaw.{has_statistic, AreNamedApart, RestoresReply, Front, nothing, a_number, a_bucket, a_row, put_front, put_ones, put_replaced, AreReplaced, IsReplacedReply, HasTopBuckets, ReplacedHaveNoExact}
use Rattle.fc_spec.proofs.words.Members.{Every}
use Rattle.fc_spec.proofs.words.Texts.{same_itself}
use Rattle.fc_spec.proofs.replies.PrintedKeys.{every_exact_key}
use Rattle.fc_spec.proofs.replies.ByOffers.{root_inside, exact_root, offered_root, made_by_offers}
use Rattle.fc_spec.proofs.replies.Carried.{domain_is}
use Rattle.fc_spec.proofs.replies.PathBuckets.{in_path}
use Rattle.fc_spec.proofs.replies.ExactPaths.{on_all, root_is, dist_domain, facets_on}
use Rattle.fc_spec.proofs.replies.AlikePaths.{AreAlike, into_alike, facets_alike}

and_true : (b : Bool) → b && true ≡ b
and_true true = refl
and_true false = refl

not_none : (b : Bool) → (not (not b || false) && true) ≡ b
not_none true = refl
not_none false = refl

-- the query of a key of the facet matches the documents in its bucket
key_query_matches : (t : Terms) (k : Key) (d : Document) → is_terms_key t k ≡ true → matches (key_query t k) d ≡ in_terms t k (values_of d t.field)
key_query_matches t (value v) d h = sym (ap (λ b. has_val v (values_of d t.field) && b) h ∙ and_true (has_val v (values_of d t.field)))
key_query_matches t missing d h = not_none (is_empty (values_of d t.field))
key_query_matches t (gap i) d h = absurd (false≢true h)
key_query_matches t before d h = absurd (false≢true h)
key_query_matches t between d h = absurd (false≢true h)
key_query_matches t after d h = absurd (false≢true h)
key_query_matches t whole d h = absurd (false≢true h)

key_query_places : (t : Terms) (k : Key) (Y : List Place) → is_terms_key t k ≡ true → bucket_places (query (key_query t k)) whole Y ≡ bucket_places (terms t) k Y
key_query_places t k Y h = filter_agree (λ p. matches (key_query t k) p.document) (λ p. in_terms t k (values_of p.document t.field)) (λ p. key_query_matches t k p.document h) Y

-- the printed keys are those of the top values
map_twice : (xs : List Entry) → map (λ e. value e.val) xs ≡ map value (map (λ e. e.val) xs)
map_twice [] = refl
map_twice (x ∷ xs) = ap (λ ks. value x.val ∷ ks) (map_twice xs)

pub terms_keys-printed : (t : Terms) (entries : List Entry) → terms_keys t entries ≡ top_keys t (printed_values t entries)
terms_keys-printed t entries = ap (λ ks. ks ++ asked t.missing missing) (map_twice _)

-- what a node prints
front_number : (empty : Bool) → Option ℤ → Front
front_number true n = nothing
front_number false None = nothing
front_number false (Some n) = a_number n

statistic_front : (empty : Bool) (name : Text) (n : Option ℤ) (more : Facets) → statistic_part empty name n more ≡ put_front name (front_number empty n) more
unfolding front_number
statistic_front true name n more = refl
statistic_front false name None more = refl
statistic_front false name (Some n) more = refl

front_buckets : Kind → (Key → ℕ) → (Key → Facets) → List Key → Front
front_buckets (terms t) count inside keys = a_row (row_of (terms t) count inside keys)
front_buckets (range g) count inside keys = a_row (row_of (range g) count inside keys)
front_buckets (date_range g) count inside keys = a_row (row_of (date_range g) count inside keys)
front_buckets (query q) count inside keys = a_bucket (bucket None (count whole) (inside whole))

buckets_front : (name : Text) (kind : Kind) (count : Key → ℕ) (inside : Key → Facets) (keys : List Key) (more : Facets) → with_buckets name kind count inside keys more ≡ put_front name (front_buckets kind count inside keys) more
unfolding front_buckets
buckets_front name (terms t) count inside keys more = refl
buckets_front name (range g) count inside keys more = refl
buckets_front name (date_range g) count inside keys more = refl
buckets_front name (query q) count inside keys more = refl

-- not printed, or printed
part_front : (b : Bool) (name : Text) (x : Front) (printed more : Facets) → printed ≡ put_front name x more → cond b more printed ≡ put_front name (cond b nothing x) more
part_front true name x printed more e = refl
part_front false name x printed more e = e

part_replaced : (b : Bool) (name : Text) (row : Row) (printed more : Facets) → printed ≡ put_ones name row more → cond b more printed ≡ put_replaced true name (cond b nothing (a_row row)) more
part_replaced true name row printed more e = refl
part_replaced false name row printed more e = e

put_replaced-not : (name : Text) (x : Front) (more : Facets) → put_replaced false name x more ≡ put_front name x more
put_replaced-not name nothing more = refl
put_replaced-not name (a_number n) more = refl
put_replaced-not name (a_bucket b) more = refl
put_replaced-not name (a_row row) more = refl

pub lists_after-not : (vss : List (List Val)) → lists_after false vss ≡ vss
lists_after-not [] = refl
lists_after-not (vs ∷ vss) = refl

cond-same : (b : Bool) (A : Facets) → A ≡ cond b A A
cond-same true A = refl
cond-same false A = refl

module _ (r : Request) (W : World) (N : Nodes) where
  abbrev H : List ℕ
  H = numbers_below (length W)

  abbrev X : List Place
  X = root_domain r W

  -- a request with other nodes
  abbrev other : Request
  other = record r { nodes = N }

  abbrev is_nothing : Bool
  is_nothing = length (on_shards H X) == 0

  -- the facets of the bucket of a key of an exact facet
  abbrev key_path : Facet → Terms → Key → Path
  key_path f t k = into at_root (record f { kind = terms t }) k

  abbrev inside_of : Facet → Terms → Nodes → Key → List Place → Facets
  inside_of f t inner k P = facets_on r W inner 0 0 H (key_path f t k) P

  -- the path through a query facet in its place is alike
  abbrev query_path : Facet → Terms → Key → Path
  query_path f t k = into at_root (record f { kind = query (key_query t k) }) whole

  query_alike : (f : Facet) (t : Terms) (k : Key) → is_terms_key t k ≡ true → AreAlike (query_path f t k) (key_path f t k)
  query_alike f t k h = into_alike at_root at_root (record f { kind = query (key_query t k) }) (record f { kind = terms t }) whole k (record { excluded = refl; met = λ d. refl }) refl (λ d. key_query_matches t k d h)

  -- the bucket of a query facet in the place of a key
  query_bucket : (f : Facet) (t : Terms) (inner : Nodes) (k : Key) (n : ℕ) (more : Facets) → is_terms_key t k ≡ true
      → root_buckets other W n (record f { kind = query (key_query t k) }) inner (root_inside other W inner) more
      ≡ one f.name (bucket None (length (bucket_places (terms t) k (domain r W at_root f.change X))) (inside_of f t inner k (bucket_places (terms t) k (domain r W at_root f.change X)))) more
  query_bucket f t inner k n more h =
      let Y = on_shards H (domain r W at_root f.change (on_shards H X)) in
      let P = bucket_places (terms t) k (domain r W at_root f.change X) in
      let same : bucket_places (query (key_query t k)) whole Y ≡ P = key_query_places t k Y h ∙ ap (bucket_places (terms t) k) (domain_is r W at_root f.change H X X (inr refl) (root_is r W)) in
      let all : on_shards H P ≡ P = on_all r W (record f { kind = terms t }) k in
      ap (λ Q. one f.name (bucket None (length (on_shards H Q)) (facets_on r W inner 0 0 H (query_path f t k) Q)) more) same
      ∙ (λ i. one f.name (bucket None (length (all i)) (facets_alike r W inner (query_path f t k) (key_path f t k) (query_alike f t k h) 0 0 H P i)) more)

  -- the query facets in the place of the keys
  keys_replaced : (f : Facet) (t : Terms) (inner : Nodes) (ks : List Key) (rest : Nodes) (n m : ℕ) → Every (is_terms_key t) ks
      → (j : ℕ) × (root_facets other W (key_nodes f t inner ks rest) n m
      ≡ cond (is_nothing && is_empty f.change.exclude) (root_facets other W rest j m)
      (put_ones f.name (row_of (terms t) (λ k. length (bucket_places (terms t) k (domain r W at_root f.change X))) (λ k. inside_of f t inner k (bucket_places (terms t) k (domain r W at_root f.change X))) ks) (root_facets other W rest j m)))
  keys_replaced f t inner [] rest n m every = (n, cond-same (is_nothing && is_empty f.change.exclude) (root_facets other W rest n m))
  keys_replaced f t inner (k ∷ ks) rest n m every =
      let later = keys_replaced f t inner ks rest (suc n) m every.1 in
      (later.0, go later.0 (is_nothing && is_empty f.change.exclude) later.1)
    where
      go : (j : ℕ) (b : Bool)
          → root_facets other W (key_nodes f t inner ks rest) (suc n) m ≡ cond b (root_facets other W rest j m)
          (put_ones f.name (row_of (terms t) (λ k. length (bucket_places (terms t) k (domain r W at_root f.change X))) (λ k. inside_of f t inner k (bucket_places (terms t) k (domain r W at_root f.change X))) ks) (root_facets other W rest j m))
          → cond b (root_facets other W (key_nodes f t inner ks rest) (suc n) m) (root_buckets other W n (record f { kind = query (key_query t k) }) inner (root_inside other W inner) (root_facets other W (key_nodes f t inner ks rest) (suc n) m))
          ≡ cond b (root_facets other W rest j m)
          (put_ones f.name (row_of (terms t) (λ k. length (bucket_places (terms t) k (domain r W at_root f.change X))) (λ k. inside_of f t inner k (bucket_places (terms t) k (domain r W at_root f.change X))) (k ∷ ks)) (root_facets other W rest j m))
      go j true e = e
      go j false e =
          query_bucket f t inner k n (root_facets other W (key_nodes f t inner ks rest) (suc n) m) every.0
          ∙ ap (λ more. one f.name (bucket None (length (bucket_places (terms t) k (domain r W at_root f.change X))) (inside_of f t inner k (bucket_places (terms t) k (domain r W at_root f.change X)))) more) e

  -- what is to be shown of some nodes
  abbrev Goal : Nodes → Type 0
  Goal nodes = (vss : List (List Val)) (n m k l : ℕ) → vss ≡ tops_in r W nodes → AreReplaced nodes (root_facets r W nodes n m) (root_facets other W (replaced_nodes nodes vss) k l)

  -- a facet that is not exact
  other_facet : (f : Facet) (inner rest : Nodes) (vss : List (List Val)) (n m k l : ℕ) → is_exact f.kind ≡ false → vss ≡ tops_in r W rest → Goal rest
      → AreReplaced (facet f inner rest) (root_facets r W (facet f inner rest) n m) (root_facets other W (facet f inner (replaced_nodes rest vss)) k l)
  other_facet f inner rest vss n m k l e same goal =
      let Y = in_path at_root f (dist_domain r W at_root f H X) in
      let b = is_nothing && is_empty f.change.exclude in
      let count = λ (key : Key). length (on_shards (carried (over_places r W) f.kind inner H Y key) (bucket_places f.kind key Y.places)) in
      let inside = λ (key : Key). facets_on r W inner 0 0 (carried (over_places r W) f.kind inner H Y key) (into at_root f key) (bucket_places f.kind key Y.places) in
      let x = front_buckets f.kind count inside (printed_keys (over_places r W) f.kind inner H Y) in
      let P = root_facets r W rest (suc n) m in
      let Q = root_facets other W (replaced_nodes rest vss) (suc k) l in (
        cond b nothing x,
        P,
        Q,
        part_front b f.name x (root_buckets r W n f inner (root_inside r W inner) P) P (offered_root r W n f inner (root_inside r W inner) P e ∙ buckets_front f.name f.kind count inside (printed_keys (over_places r W) f.kind inner H Y) P),
        part_front b f.name x (root_buckets other W k f inner (root_inside other W inner) Q) Q (offered_root other W k f inner (root_inside other W inner) Q e ∙ buckets_front f.name f.kind count inside (printed_keys (over_places r W) f.kind inner H Y) Q)
            ∙ sym (ap (λ exact. put_replaced exact f.name (cond b nothing x) Q) e ∙ put_replaced-not f.name (cond b nothing x) Q),
        goal vss (suc n) m (suc k) l same,
      )

  -- one that is
  exact_facet : (name : Text) (change : DomainChange) (t : Terms) (inner rest : Nodes) (vss : List (List Val)) (n m k l : ℕ) → is_exact (terms t) ≡ true → vss ≡ tops_in r W rest → Goal rest
      → AreReplaced (facet (record { name = name; change = change; kind = terms t }) inner rest) (root_facets r W (facet (record { name = name; change = change; kind = terms t }) inner rest) n m)
      (root_facets other W (key_nodes (record { name = name; change = change; kind = terms t }) t inner (top_keys t (tops r W change t (stats_of inner))) (replaced_nodes rest vss)) k l)
  exact_facet name change t inner rest vss n m k l e same goal =
      let f : Facet = record { name = name; change = change; kind = terms t } in
      let Y = domain r W at_root change X in
      let b = is_nothing && is_empty change.exclude in
      let keys = top_keys t (tops r W change t (stats_of inner)) in
      let keys_are : exact_keys (terms t) (stats_of inner) Y ≡ keys = terms_keys-printed t (entries_in t (stats_of inner) Y) in
      let row = row_of (terms t) (λ key. length (bucket_places (terms t) key Y)) (λ key. inside_of f t inner key (bucket_places (terms t) key Y)) keys in
      let P = root_facets r W rest (suc n) m in
      let these = keys_replaced f t inner keys (replaced_nodes rest vss) k l (subst (Every (is_terms_key t)) keys_are (every_exact_key (terms t) (stats_of inner) Y)) in
      let Q = root_facets other W (replaced_nodes rest vss) these.0 l in (
        cond b nothing (a_row row),
        P,
        Q,
        part_front b name (a_row row) (root_buckets r W n f inner (root_inside r W inner) P) P
            (exact_root r W n f inner (root_inside r W inner) P e ∙ ap (λ ks. with_buckets name (terms t) (λ key. length (bucket_places (terms t) key Y)) (λ key. inside_of f t inner key (bucket_places (terms t) key Y)) ks P) keys_are),
        these.1 ∙ part_replaced b name row (put_ones name row Q) Q refl ∙ sym (ap (λ exact. put_replaced exact name (cond b nothing (a_row row)) Q) e),
        goal vss (suc n) m these.0 l same,
      )

  -- the nodes in the place of a terms facet, which is exact or not, and of those after it
  abbrev made : Facet → Terms → (inner rest : Nodes) → Bool → List (List Val) → Nodes
  made f t inner rest b us = cond b (key_nodes f t inner (top_keys t (first_list us)) (replaced_nodes rest (lists_after b us))) (facet f inner (replaced_nodes rest (lists_after b us)))

  -- a facet of any kind
  facet_replaced : (name : Text) (change : DomainChange) (kind : Kind) (inner rest : Nodes) → Goal rest → Goal (facet (record { name = name; change = change; kind = kind }) inner rest)
  facet_replaced name change (terms t) inner rest goal vss n m k l same = go (is_exact (terms t)) refl
    where
      tops_are : (b : Bool) → is_exact (terms t) ≡ b → vss ≡ cond b (tops r W change t (stats_of inner) ∷ tops_in r W rest) (tops_in r W rest)
      tops_are b e = same ∙ ap (λ c. cond c (tops r W change t (stats_of inner) ∷ tops_in r W rest) (tops_in r W rest)) e

      go : (b : Bool) → is_exact (terms t) ≡ b
          → AreReplaced (facet (record { name = name; change = change; kind = terms t }) inner rest) (root_facets r W (facet (record { name = name; change = change; kind = terms t }) inner rest) n m)
          (root_facets other W (replaced_nodes (facet (record { name = name; change = change; kind = terms t }) inner rest) vss) k l)
      go true e =
          let f : Facet = record { name = name; change = change; kind = terms t } in
          subst (λ nodes. AreReplaced (facet f inner rest) (root_facets r W (facet f inner rest) n m) (root_facets other W nodes k l))
          (sym (ap (λ c. made f t inner rest c vss) e ∙ ap (made f t inner rest true) (tops_are true e)))
          (exact_facet name change t inner rest (tops_in r W rest) n m k l e refl goal)
      go false e =
          let f : Facet = record { name = name; change = change; kind = terms t } in
          subst (λ nodes. AreReplaced (facet f inner rest) (root_facets r W (facet f inner rest) n m) (root_facets other W nodes k l))
          (sym (ap (λ c. made f t inner rest c vss) e ∙ ap (λ us. facet f inner (replaced_nodes rest us)) (lists_after-not vss)))
          (other_facet f inner rest vss n m k l e (tops_are false e) goal)
  facet_replaced name change (range g) inner rest goal vss n m k l same =
      let f : Facet = record { name = name; change = change; kind = range g } in
      subst (λ us. AreReplaced (facet f inner rest) (root_facets r W (facet f inner rest) n m) (root_facets other W (facet f inner (replaced_nodes rest us)) k l)) (sym (lists_after-not vss))
      (other_facet f inner rest vss n m k l refl same goal)
  facet_replaced name change (date_range g) inner rest goal vss n m k l same =
      let f : Facet = record { name = name; change = change; kind = date_range g } in
      subst (λ us. AreReplaced (facet f inner rest) (root_facets r W (facet f inner rest) n m) (root_facets other W (facet f inner (replaced_nodes rest us)) k l)) (sym (lists_after-not vss))
      (other_facet f inner rest vss n m k l refl same goal)
  facet_replaced name change (query q) inner rest goal vss n m k l same =
      let f : Facet = record { name = name; change = change; kind = query q } in
      subst (λ us. AreReplaced (facet f inner rest) (root_facets r W (facet f inner rest) n m) (root_facets other W (facet f inner (replaced_nodes rest us)) k l)) (sym (lists_after-not vss))
      (other_facet f inner rest vss n m k l refl same goal)

  nodes_replaced : (nodes : Nodes) → Goal nodes
  nodes_replaced no_nodes vss n m k l same = (refl, refl)
  nodes_replaced (statistic name s rest) vss n m k l same =
      let x = front_number is_nothing (shown (value_over s (on_shards H X))) in
      let P = root_facets r W rest (suc n) (suc m) in
      let Q = root_facets other W (replaced_nodes rest vss) (suc k) (suc l) in
      (x, P, Q, statistic_front is_nothing name (shown (value_over s (on_shards H X))) P, statistic_front is_nothing name (shown (value_over s (on_shards H X))) Q, nodes_replaced rest vss (suc n) (suc m) (suc k) (suc l) same)
  nodes_replaced (facet f inner rest) vss n m k l same = facet_replaced f.name f.change f.kind inner rest (nodes_replaced rest) vss n m k l same

  -- ---- put together again

  abbrev again : Nodes → List (List Val) → Facets → Facets
  again nodes vss printed = restored_facets nodes vss is_nothing printed

  -- a number of a name does not come first, where no statistic has it
  number_of_keys : (name : Text) (f : Facet) (t : Terms) (inner : Nodes) (ks : List Key) (rest : Nodes) (k l : ℕ) → ((j : ℕ) → is_number_of name (root_facets other W rest j l) ≡ false)
      → is_number_of name (root_facets other W (key_nodes f t inner ks rest) k l) ≡ false
  number_of_keys name f t inner [] rest k l h = h k
  number_of_keys name f t inner (key ∷ ks) rest k l h = go (is_nothing && is_empty f.change.exclude) (number_of_keys name f t inner ks rest (suc k) l h)
    where
      go : (b : Bool) → is_number_of name (root_facets other W (key_nodes f t inner ks rest) (suc k) l) ≡ false
          → is_number_of name (cond b (root_facets other W (key_nodes f t inner ks rest) (suc k) l) (root_buckets other W k (record f { kind = query (key_query t key) }) inner (root_inside other W inner) (root_facets other W (key_nodes f t inner ks rest) (suc k) l))) ≡ false
      go true e = e
      go false e = refl

  number_of_facet : (name : Text) (f : Facet) (kind : Kind) (inner rest : Nodes) (k l : ℕ) → is_number_of name (root_facets other W rest (suc k) l) ≡ false
      → is_number_of name (root_facets other W (facet (record { name = f.name; change = f.change; kind = kind }) inner rest) k l) ≡ false
  number_of_facet name f kind inner rest k l h = go kind (is_nothing && is_empty f.change.exclude)
    where
      either : (c : Bool) (A B : Row) (more : Facets) → is_number_of name (cond c (many f.name A more) (many f.name B more)) ≡ false
      either true A B more = refl
      either false A B more = refl

      go : (kind : Kind) (b : Bool) → is_number_of name (cond b (root_facets other W rest (suc k) l) (root_buckets other W k (record { name = f.name; change = f.change; kind = kind }) inner (root_inside other W inner) (root_facets other W rest (suc k) l))) ≡ false
      go kind true = h
      go (terms t) false = either (is_exact (terms t)) _ _ _
      go (range g) false = refl
      go (date_range g) false = refl
      go (query q) false = refl

  number_of_replaced : (name : Text) (f : Facet) (kind : Kind) (inner : Nodes) (vs : List Val) (rest : Nodes) (k l : ℕ) → ((j : ℕ) → is_number_of name (root_facets other W rest j l) ≡ false)
      → is_number_of name (root_facets other W (replaced_facet kind (record { name = f.name; change = f.change; kind = kind }) inner vs rest) k l) ≡ false
  number_of_replaced name f (terms t) inner vs rest k l h = go (is_exact (terms t))
    where
      go : (c : Bool) → is_number_of name (root_facets other W (cond c (key_nodes (record { name = f.name; change = f.change; kind = terms t }) t inner (top_keys t vs) rest) (facet (record { name = f.name; change = f.change; kind = terms t }) inner rest)) k l) ≡ false
      go true = number_of_keys name (record { name = f.name; change = f.change; kind = terms t }) t inner (top_keys t vs) rest k l h
      go false = number_of_facet name f (terms t) inner rest k l (h (suc k))
  number_of_replaced name f (range g) inner vs rest k l h = number_of_facet name f (range g) inner rest k l (h (suc k))
  number_of_replaced name f (date_range g) inner vs rest k l h = number_of_facet name f (date_range g) inner rest k l (h (suc k))
  number_of_replaced name f (query q) inner vs rest k l h = number_of_facet name f (query q) inner rest k l (h (suc k))

  number_of_nodes : (name : Text) (nodes : Nodes) (vss : List (List Val)) (k l : ℕ) → has_statistic name nodes ≡ false → is_number_of name (root_facets other W (replaced_nodes nodes vss) k l) ≡ false
  number_of_nodes name no_nodes vss k l h = refl
  number_of_nodes name (statistic other_name s rest) vss k l h =
      let parts = or_parts (same_text name other_name) (has_statistic name rest) h in
      go is_nothing (shown (value_over s (on_shards H X))) (root_facets other W (replaced_nodes rest vss) (suc k) (suc l)) parts.0 (number_of_nodes name rest vss (suc k) (suc l) parts.1)
    where
      go : (b : Bool) (x : Option ℤ) (more : Facets) → same_text name other_name ≡ false → is_number_of name more ≡ false → is_number_of name (statistic_part b other_name x more) ≡ false
      go true x more e h = h
      go false None more e h = h
      go false (Some n) more e h = e
  number_of_nodes name (facet f inner rest) vss k l h =
      number_of_replaced name f f.kind inner (first_list vss) (replaced_nodes rest (lists_after (is_exact f.kind) vss)) k l (λ j. number_of_nodes name rest (lists_after (is_exact f.kind) vss) j l h)

  -- a statistic
  statistic_again : (name : Text) (empty : Bool) (x : Option ℤ) (last all : Facets) (k : Facets → Facets) → is_number_of name last ≡ false → k last ≡ all
      → cond (is_number_of name (statistic_part empty name x last)) (with_first (statistic_part empty name x last) (k (cond (is_number_of name (statistic_part empty name x last)) (after_first (statistic_part empty name x last)) (statistic_part empty name x last))))
      (k (cond (is_number_of name (statistic_part empty name x last)) (after_first (statistic_part empty name x last)) (statistic_part empty name x last)))
      ≡ statistic_part empty name x all
  statistic_again name true x last all k none e = ap (λ b. cond b (with_first last (k (cond b (after_first last) last))) (k (cond b (after_first last) last))) none ∙ e
  statistic_again name false None last all k none e = ap (λ b. cond b (with_first last (k (cond b (after_first last) last))) (k (cond b (after_first last) last))) none ∙ e
  statistic_again name false (Some n) last all k none e =
      ap (λ b. cond b (number name n (k (cond b last (number name n last)))) (k (cond b last (number name n last)))) (same_itself name) ∙ ap (number name n) e

  -- the front of a facet that is not exact
  front_again : (name : Text) (kind : Kind) (count : Key → ℕ) (inside : Key → Facets) (keys : List Key) (last more : Facets) → with_first (with_buckets name kind count inside keys last) more ≡ with_buckets name kind count inside keys more
  front_again name (terms t) count inside keys last more = refl
  front_again name (range g) count inside keys last more = refl
  front_again name (date_range g) count inside keys last more = refl
  front_again name (query q) count inside keys last more = refl

  behind_front : (name : Text) (kind : Kind) (count : Key → ℕ) (inside : Key → Facets) (keys : List Key) (last : Facets) → after_first (with_buckets name kind count inside keys last) ≡ last
  behind_front name (terms t) count inside keys last = refl
  behind_front name (range g) count inside keys last = refl
  behind_front name (date_range g) count inside keys last = refl
  behind_front name (query q) count inside keys last = refl

  -- the row of an exact one
  row_again : (name : Text) (t : Terms) (count : Key → ℕ) (inside : Key → Facets) (keys : List Key) (last : Facets) → row_from t keys (put_ones name (row_of (terms t) count inside keys) last) ≡ row_of (terms t) count inside keys
  row_again name t count inside [] last = refl
  row_again name t count inside (k ∷ ks) last = ap (part (spot_of k) (bucket (val_of (terms t) k) (count k) (inside k))) (row_again name t count inside ks last)

  behind_row : (name : Text) (t : Terms) (count : Key → ℕ) (inside : Key → Facets) (keys : List Key) (last : Facets) → after_keys keys (put_ones name (row_of (terms t) count inside keys) last) ≡ last
  behind_row name t count inside [] last = refl
  behind_row name t count inside (k ∷ ks) last = behind_row name t count inside ks last

  abbrev Again : Nodes → Type 0
  Again nodes = (vss : List (List Val)) (n m k l : ℕ) → vss ≡ tops_in r W nodes → again nodes vss (root_facets other W (replaced_nodes nodes vss) k l) ≡ root_facets r W nodes n m

  -- what is restored of a facet, in F, from its front before what is behind; D is behind the front, and G is made of it
  facet_again : (b : Bool) (F all : Facets) (k D : Facets → Facets) (G : Facets → Facets → Facets) (last : Facets) (front made : Facets → Facets)
      → F ≡ cond b last (front last) → D (front last) ≡ last → ((more : Facets) → G (front last) more ≡ made more) → k last ≡ all
      → cond b (k (cond b F (D F))) (G F (k (cond b F (D F)))) ≡ cond b all (made all)
  facet_again true F all k D G last front made e d g h = ap k e ∙ h
  facet_again false F all k D G last front made e d g h = ap (λ F. G F (k (D F))) e ∙ ap (λ P. G (front last) (k P)) d ∙ g (k last) ∙ ap made h

  -- a facet that is not exact, in the place of itself
  same_again : (f : Facet) (inner rest : Nodes) (vss : List (List Val)) (n m k l : ℕ) → is_exact f.kind ≡ false → vss ≡ tops_in r W rest → Again rest
      → cond (is_nothing && is_empty f.change.exclude)
      (again rest vss (cond (is_nothing && is_empty f.change.exclude) (root_facets other W (facet f inner (replaced_nodes rest vss)) k l) (after_first (root_facets other W (facet f inner (replaced_nodes rest vss)) k l))))
      (with_first (root_facets other W (facet f inner (replaced_nodes rest vss)) k l)
      (again rest vss (cond (is_nothing && is_empty f.change.exclude) (root_facets other W (facet f inner (replaced_nodes rest vss)) k l) (after_first (root_facets other W (facet f inner (replaced_nodes rest vss)) k l)))))
      ≡ root_facets r W (facet f inner rest) n m
  same_again f inner rest vss n m k l e same goal =
      let Y = in_path at_root f (dist_domain r W at_root f H X) in
      let b = is_nothing && is_empty f.change.exclude in
      let count = λ (key : Key). length (on_shards (carried (over_places r W) f.kind inner H Y key) (bucket_places f.kind key Y.places)) in
      let inside = λ (key : Key). facets_on r W inner 0 0 (carried (over_places r W) f.kind inner H Y key) (into at_root f key) (bucket_places f.kind key Y.places) in
      let keys = printed_keys (over_places r W) f.kind inner H Y in
      let front = λ (more : Facets). with_buckets f.name f.kind count inside keys more in
      let last = root_facets other W (replaced_nodes rest vss) (suc k) l in
      let all = root_facets r W rest (suc n) m in
      facet_again b (root_facets other W (facet f inner (replaced_nodes rest vss)) k l) all (again rest vss) after_first with_first last front front
      (ap (cond b last) (offered_root other W k f inner (root_inside other W inner) last e)) (behind_front f.name f.kind count inside keys last) (λ more. front_again f.name f.kind count inside keys last more) (goal vss (suc n) m (suc k) l same)
      ∙ ap (cond b all) (sym (offered_root r W n f inner (root_inside r W inner) all e))

  -- one that is, in the place of its query facets
  exact_again : (name : Text) (change : DomainChange) (t : Terms) (inner rest : Nodes) (vss : List (List Val)) (n m k l : ℕ) → is_exact (terms t) ≡ true → vss ≡ tops_in r W rest → Again rest
      → (let keys = top_keys t (tops r W change t (stats_of inner)) in
      let F = root_facets other W (key_nodes (record { name = name; change = change; kind = terms t }) t inner keys (replaced_nodes rest vss)) k l in
      cond (is_nothing && is_empty change.exclude) (again rest vss (cond (is_nothing && is_empty change.exclude) F (after_keys keys F)))
      (many name (row_from t keys F) (again rest vss (cond (is_nothing && is_empty change.exclude) F (after_keys keys F))))
      ≡ root_facets r W (facet (record { name = name; change = change; kind = terms t }) inner rest) n m)
  exact_again name change t inner rest vss n m k l e same goal =
      let f : Facet = record { name = name; change = change; kind = terms t } in
      let Y = domain r W at_root change X in
      let b = is_nothing && is_empty change.exclude in
      let keys = top_keys t (tops r W change t (stats_of inner)) in
      let keys_are : exact_keys (terms t) (stats_of inner) Y ≡ keys = terms_keys-printed t (entries_in t (stats_of inner) Y) in
      let count = λ (key : Key). length (bucket_places (terms t) key Y) in
      let inside = λ (key : Key). inside_of f t inner key (bucket_places (terms t) key Y) in
      let these = keys_replaced f t inner keys (replaced_nodes rest vss) k l (subst (Every (is_terms_key t)) keys_are (every_exact_key (terms t) (stats_of inner) Y)) in
      let last = root_facets other W (replaced_nodes rest vss) these.0 l in
      let all = root_facets r W rest (suc n) m in
      facet_again b (root_facets other W (key_nodes f t inner keys (replaced_nodes rest vss)) k l) all (again rest vss) (after_keys keys) (λ F more. many name (row_from t keys F) more) last
      (put_ones name (row_of (terms t) count inside keys)) (many name (row_of (terms t) count inside keys))
      these.1 (behind_row name t count inside keys last) (λ more. ap (λ row. many name row more) (row_again name t count inside keys last)) (goal vss (suc n) m these.0 l same)
      ∙ ap (cond b all) (sym (exact_root r W n f inner (root_inside r W inner) all e ∙ ap (λ ks. with_buckets name (terms t) count inside ks all) keys_are))

  -- a terms facet, exact or not, with some lists
  abbrev shape : Facet → Terms → (inner rest : Nodes) → (k l : ℕ) → Bool → List (List Val) → Facets
  shape f t inner rest k l c us =
      let b = is_nothing && is_empty f.change.exclude in
      let F = root_facets other W (made f t inner rest c us) k l in
      let more = again rest (lists_after c us) (cond b F (cond c (after_keys (top_keys t (first_list us)) F) (after_first F))) in
      cond b more (cond c (many f.name (row_from t (top_keys t (first_list us)) F) more) (with_first F more))

  -- a facet that is not exact, with some lists
  abbrev plain_shape : Facet → (inner rest : Nodes) → (k l : ℕ) → List (List Val) → Facets
  plain_shape f inner rest k l us =
      let b = is_nothing && is_empty f.change.exclude in
      let F = root_facets other W (facet f inner (replaced_nodes rest us)) k l in
      cond b (again rest us (cond b F (after_first F))) (with_first F (again rest us (cond b F (after_first F))))

  kind_again : (name : Text) (change : DomainChange) (kind : Kind) (inner rest : Nodes) → Again rest → Again (facet (record { name = name; change = change; kind = kind }) inner rest)
  kind_again name change (terms t) inner rest goal vss n m k l same = go (is_exact (terms t)) refl
    where
      tops_are : (b : Bool) → is_exact (terms t) ≡ b → vss ≡ cond b (tops r W change t (stats_of inner) ∷ tops_in r W rest) (tops_in r W rest)
      tops_are b e = same ∙ ap (λ c. cond c (tops r W change t (stats_of inner) ∷ tops_in r W rest) (tops_in r W rest)) e

      go : (b : Bool) → is_exact (terms t) ≡ b
          → shape (record { name = name; change = change; kind = terms t }) t inner rest k l (is_exact (terms t)) vss ≡ root_facets r W (facet (record { name = name; change = change; kind = terms t }) inner rest) n m
      go true e =
          let f : Facet = record { name = name; change = change; kind = terms t } in
          ap (λ c. shape f t inner rest k l c vss) e ∙ ap (shape f t inner rest k l true) (tops_are true e) ∙ exact_again name change t inner rest (tops_in r W rest) n m k l e refl goal
      go false e =
          let f : Facet = record { name = name; change = change; kind = terms t } in
          ap (λ c. shape f t inner rest k l c vss) e ∙ ap (plain_shape f inner rest k l) (lists_after-not vss) ∙ same_again f inner rest vss n m k l e (tops_are false e) goal
  kind_again name change (range g) inner rest goal vss n m k l same =
      let f : Facet = record { name = name; change = change; kind = range g } in
      ap (plain_shape f inner rest k l) (lists_after-not vss) ∙ same_again f inner rest vss n m k l refl same goal
  kind_again name change (date_range g) inner rest goal vss n m k l same =
      let f : Facet = record { name = name; change = change; kind = date_range g } in
      ap (plain_shape f inner rest k l) (lists_after-not vss) ∙ same_again f inner rest vss n m k l refl same goal
  kind_again name change (query q) inner rest goal vss n m k l same =
      let f : Facet = record { name = name; change = change; kind = query q } in
      ap (plain_shape f inner rest k l) (lists_after-not vss) ∙ same_again f inner rest vss n m k l refl same goal

  nodes_again : (nodes : Nodes) → AreNamedApart nodes → Again nodes
  nodes_again no_nodes apart vss n m k l same = refl
  nodes_again (statistic name s rest) apart vss n m k l same =
      statistic_again name is_nothing (shown (value_over s (on_shards H X))) (root_facets other W (replaced_nodes rest vss) (suc k) (suc l)) (root_facets r W rest (suc n) (suc m)) (again rest vss)
      (number_of_nodes name rest vss (suc k) (suc l) apart.0) (nodes_again rest apart.1 vss (suc n) (suc m) (suc k) (suc l) same)
  nodes_again (facet f inner rest) apart vss n m k l same = kind_again f.name f.change f.kind inner rest (nodes_again rest apart) vss n m k l same

-- ---- what is replaced is not exact

keys_offered : (f : Facet) (t : Terms) (inner : Nodes) (ks : List Key) (more : Nodes) → no_exact more ≡ true → no_exact (key_nodes f t inner ks more) ≡ true
keys_offered f t inner [] more h = h
keys_offered f t inner (k ∷ ks) more h = keys_offered f t inner ks more h

facet_offered : (name : Text) (change : DomainChange) (kind : Kind) (inner : Nodes) (vs : List Val) (more : Nodes) → no_exact more ≡ true → no_exact (replaced_facet kind (record { name = name; change = change; kind = kind }) inner vs more) ≡ true
facet_offered name change (terms t) inner vs more h = go (is_exact (terms t)) refl
  where
    go : (b : Bool) → is_exact (terms t) ≡ b
        → no_exact (cond b (key_nodes (record { name = name; change = change; kind = terms t }) t inner (top_keys t vs) more) (facet (record { name = name; change = change; kind = terms t }) inner more)) ≡ true
    go true e = keys_offered (record { name = name; change = change; kind = terms t }) t inner (top_keys t vs) more h
    go false e = and_from (not (is_exact (terms t))) (no_exact more) (ap not e) h
facet_offered name change (range g) inner vs more h = h
facet_offered name change (date_range g) inner vs more h = h
facet_offered name change (query q) inner vs more h = h

nodes_offered : (nodes : Nodes) (vss : List (List Val)) → no_exact (replaced_nodes nodes vss) ≡ true
nodes_offered no_nodes vss = refl
nodes_offered (statistic name s rest) vss = nodes_offered rest vss
nodes_offered (facet f inner rest) vss = facet_offered f.name f.change f.kind inner (first_list vss) (replaced_nodes rest (lists_after (is_exact f.kind) vss)) (nodes_offered rest (lists_after (is_exact f.kind) vss))

pub replaced_have_no_exact : ReplacedHaveNoExact
replaced_have_no_exact r vss = nodes_offered r.nodes vss

-- so its reply is the distributed one
offered_again : (r : Request) (W : World) → with_tops (replaced r (tops_of r W)) W ≡ distributed (replaced r (tops_of r W)) W
offered_again r W = made_by_offers (replaced r (tops_of r W)) W (nodes_offered r.nodes (tops_of r W))

pub restores_reply : RestoresReply
restores_reply r W apart =
    ap (restored r (tops_of r W)) (sym (offered_again r W))
    ∙ ap (bucket None (length (on_shards (numbers_below (length W)) (root_domain r W)))) (nodes_again r W (replaced_nodes r.nodes (tops_of r W)) r.nodes apart (tops_of r W) 0 0 0 0 refl)

pub has_top_buckets : HasTopBuckets
has_top_buckets r W =
    subst (IsReplacedReply r.nodes (with_tops r W)) (offered_again r W) (refl, refl, nodes_replaced r W (replaced_nodes r.nodes (tops_of r W)) r.nodes (tops_of r W) 0 0 0 0 refl)
