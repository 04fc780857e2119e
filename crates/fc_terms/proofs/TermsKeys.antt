-- The keys of a terms facet: values, and missing.
use Rattle.std.proofs.Common.{◌≡◌, Bool, true, false, ◌&&◌, ◌||◌, List, refl, sym, ap, subst, ◌∙◌}
use Rattle.std.proofs.lemmas.Bool.{false≢true}
use Rattle.std.proofs.lemmas.Simd.{map-map}
use Rattle.std.specs.Option.{ForSome}
use Rattle.fc_spec.specs.documents.Columns.{column_of}
use Rattle.fc_spec.specs.documents.Document.{Block, values_of}
use Rattle.fc_spec.specs.documents.Sets.{zip_with}
use Rattle.fc_spec.specs.documents.Totals.{documents_in}
use Rattle.fc_spec.specs.documents.Val.{Val}
use Rattle.fc_spec.specs.documents.World.{Place}
use Rattle.fc_spec.specs.messages.KeyOrder.{same_key}
use Rattle.fc_spec.specs.requests.Buckets.{Key, value, missing, gap, before, between, after, whole, bucket_places, in_terms, is_terms_key}
use Rattle.fc_spec.specs.requests.DomainSets.{bucket_set}
use Rattle.fc_spec.specs.requests.Request.{Stat, Terms, terms}
use Rattle.fc_spec.specs.requests.Statistics.{stats_over}
use Rattle.fc_partial.specs.Adding.{AddUp}
use Rattle.fc_partial.specs.Tallied.{Tallied}
use Rattle.fc_kind.specs.Collecting.{BucketsAddUp, Collects, CollectsAmong}
use Rattle.fc_kind.proofs.CollectedParts.{among_same, both_parts}
use Rattle.fc_terms.specs.AddingUp.{AddUpAmong}
use Rattle.fc_terms.specs.Selected.{where_values}
use Rattle.fc_terms.specs.Values.{is_value_key, is_missing_key}

-- those of a set whose values are in the bucket
pub bucket_where : (t : Terms) (k : Key) (blocks : List Block) (set : List Bool) (column : List (List Val)) → column ≡ column_of t.field (documents_in blocks)
    → where_values (in_terms t k) column set ≡ bucket_set (terms t) k blocks set
bucket_where t k blocks set column is =
    ap (λ l. where_values (in_terms t k) l set) is
    ∙ ap (zip_with ◌&&◌ set) (map-map (in_terms t k) (λ d. values_of d t.field) (documents_in blocks))

apart : (t : Terms) (k : Key) → is_value_key t k ≡ true → is_missing_key t k ≡ false
apart t (value v) e = refl
apart t missing e = absurd (false≢true e)
apart t (gap i) e = refl
apart t before e = refl
apart t between e = refl
apart t after e = refl
apart t whole e = refl

apart_too : (t : Terms) (k : Key) → is_missing_key t k ≡ true → is_value_key t k ≡ false
apart_too t (value v) e = absurd (false≢true e)
apart_too t missing e = refl
apart_too t (gap i) e = refl
apart_too t before e = refl
apart_too t between e = refl
apart_too t after e = refl
apart_too t whole e = refl

-- where missing is asked for, its key is the only one that is not a value's
pub only_missing : (t : Terms) → t.missing ≡ true → (k : Key) → is_missing_key t k ≡ same_key k missing
only_missing t asked (value v) = refl
only_missing t asked missing = asked
only_missing t asked (gap i) = refl
only_missing t asked before = refl
only_missing t asked between = refl
only_missing t asked after = refl
only_missing t asked whole = refl

or_false : (b : Bool) → b ≡ (b || false)
or_false true = refl
or_false false = refl

either : (t : Terms) (k : Key) → is_terms_key t k ≡ (is_value_key t k || is_missing_key t k)
either t (value v) = or_false (is_value_key t (value v))
either t missing = refl
either t (gap i) = refl
either t before = refl
either t between = refl
either t after = refl
either t whole = refl

or_right : (a b : Bool) → b ≡ true → (a || b) ≡ true
or_right true b e = refl
or_right false b e = e

module _ (t : Terms) (ss : List Stat) (Y : List Place) (old : Tallied) where
  -- that of missing, when the values were added
  pub missing_adds_up : (mid : Tallied) → BucketsAddUp (terms t) ss Y old.entries → CollectsAmong (is_value_key t) (terms t) ss Y old mid → AddUpAmong (is_missing_key t) (terms t) ss Y mid.entries
  missing_adds_up mid fits values k e =
      subst (λ there. ForSome there (λ entry. AddUp entry (stats_over ss (bucket_places (terms t) k Y)))) (sym (values.others k (apart_too t k e)))
      (fits k (either t k ∙ or_right (is_value_key t k) (is_missing_key t k) e))

  -- the values and then missing
  pub both_collected : (mid new : Tallied) → CollectsAmong (is_value_key t) (terms t) ss Y old mid → CollectsAmong (is_missing_key t) (terms t) ss Y mid new → Collects (terms t) ss Y old new
  both_collected mid new values none =
      among_same (λ k. is_value_key t k || is_missing_key t k) (is_terms_key t) (terms t) ss Y old new (either t)
      (both_parts (is_value_key t) (is_missing_key t) (terms t) ss Y old mid new (apart t) values none)
