-- What looks at documents alone is the same over places with other numbers.
use Rattle.std.proofs.Common.{◌≡◌, List, [], ◌∷◌, ◌++◌, map, length, not, ◌==◌, refl, ◌∙◌, ap}
use Rattle.std.specs.Prelude.{ℕ, pos}
use Rattle.std.specs.List.{filter}
use Rattle.std.proofs.lemmas.List.{length-map}
use Rattle.fc_spec.specs.documents.Val.{Val, distinct}
use Rattle.fc_spec.specs.documents.Document.{values_of}
use Rattle.fc_spec.specs.words.Lists.{is_empty}
use Rattle.fc_spec.specs.documents.World.{Place}
use Rattle.fc_spec.specs.requests.Request.{StatKind, sum, min, max, countvals, missing, Stat, Terms, Kind, terms, range, date_range, query}
use Rattle.fc_spec.specs.requests.Buckets.{Key, value, in_bucket, bucket_places}
use Rattle.fc_spec.specs.documents.Columns.{longs_in}
use Rattle.fc_spec.specs.requests.Statistics.{number, extreme, pair_values, total_of, least_of, greatest_of, statistic_in, value_over, stats_over}
use Rattle.fc_spec.specs.replies.Values.{value_places, values_in, entries_in}
use Rattle.fc_spec.specs.replies.Printed.{terms_keys}
use Rattle.fc_spec.specs.replies.Exact.{exact_keys}
use Rattle.fc_spec.proofs.words.MappedLists.{count_by-map}
use Rattle.fc_spec.proofs.documents.Renumbered.{Numbers, renumbered, filter_renumbered}

-- as many places
pub length_renumbered : (n : Numbers) (X : List Place) → length (map (renumbered n) X) ≡ length X
length_renumbered n X = length-map X (renumbered n)

-- the places of a bucket are those of the bucket before, with their other numbers
pub bucket_renumbered : (n : Numbers) (kind : Kind) (k : Key) (X : List Place) → bucket_places kind k (map (renumbered n) X) ≡ map (renumbered n) (bucket_places kind k X)
bucket_renumbered n kind k X = filter_renumbered n (λ p. in_bucket kind k p.document) X (λ p. refl)

-- the values of a field
pair_values_renumbered : (n : Numbers) (field : ℕ) (X : List Place) → pair_values field (map (renumbered n) X) ≡ pair_values field X
pair_values_renumbered n field [] = refl
pair_values_renumbered n field (p ∷ ps) = ap (λ vs. values_of p.document field ++ vs) (pair_values_renumbered n field ps)

-- a statistic of a field
statistic_renumbered : (n : Numbers) (kind : StatKind) (field : ℕ) (X : List Place) → statistic_in kind field (map (renumbered n) X) ≡ statistic_in kind field X
statistic_renumbered n sum field X = ap (λ vs. number (total_of (longs_in vs))) (pair_values_renumbered n field X)
statistic_renumbered n min field X = ap (λ vs. extreme (least_of (longs_in vs))) (pair_values_renumbered n field X)
statistic_renumbered n max field X = ap (λ vs. extreme (greatest_of (longs_in vs))) (pair_values_renumbered n field X)
statistic_renumbered n countvals field X = ap (λ vs. number (pos (length vs))) (pair_values_renumbered n field X)
statistic_renumbered n missing field X = ap (λ k. number (pos k)) (count_by-map (renumbered n) (λ p. is_empty (values_of p.document field)) X)

-- a statistic of a node
pub value_renumbered : (n : Numbers) (s : Stat) (X : List Place) → value_over s (map (renumbered n) X) ≡ value_over s X
value_renumbered n s X = statistic_renumbered n s.of s.field X

-- the count and the statistics of a node
pub stats_renumbered : (n : Numbers) (ss : List Stat) (X : List Place) → stats_over ss (map (renumbered n) X) ≡ stats_over ss X
stats_renumbered n ss X = λ i. record { count = length_renumbered n X i; values = map (λ s. value_renumbered n s X i) ss }

-- the values that a terms facet finds
values_renumbered : (n : Numbers) (t : Terms) (X : List Place) → values_in t (map (renumbered n) X) ≡ values_in t X
values_renumbered n t X = λ i. filter (λ v. not (none v i)) (distinct (pair_values_renumbered n t.field X i))
  where
    none : (v : Val) → is_empty (value_places t v (map (renumbered n) X)) ≡ is_empty (value_places t v X)
    none v = (λ i. length (bucket_renumbered n (terms t) (value v) X i) == 0) ∙ (λ i. length_renumbered n (value_places t v X) i == 0)

-- each value with the statistics of its places
pub entries_renumbered : (n : Numbers) (t : Terms) (ss : List Stat) (X : List Place) → entries_in t ss (map (renumbered n) X) ≡ entries_in t ss X
entries_renumbered n t ss X = λ i. map (λ v. record { val = v; stats = same v i }) (values_renumbered n t X i)
  where
    same : (v : Val) → stats_over ss (value_places t v (map (renumbered n) X)) ≡ stats_over ss (value_places t v X)
    same v = ap (stats_over ss) (bucket_renumbered n (terms t) (value v) X) ∙ stats_renumbered n ss (value_places t v X)

-- the keys that a node prints
pub keys_renumbered : (n : Numbers) (kind : Kind) (ss : List Stat) (X : List Place) → exact_keys kind ss (map (renumbered n) X) ≡ exact_keys kind ss X
keys_renumbered n (terms t) ss X = ap (terms_keys t) (entries_renumbered n t ss X)
keys_renumbered n (range g) ss X = refl
keys_renumbered n (date_range g) ss X = refl
keys_renumbered n (query q) ss X = refl
