-- Buckets that are listed though they have no document.
use Rattle.std.proofs.Common.{◌≡◌, ℕ, suc, ◌+◌, ◌-◌, ◌<◌, List, [], ◌∷◌, ◌++◌, map, Bool, true, false, cond, ◌&&◌, not, Option, None, Some, unwrap_or, is_some, refl, sym, ◌∙◌, ap, append_assoc, append-nil, arith}
use Rattle.std.specs.List.{range_with_len, AllByRecursion}
use Rattle.std.specs.List.Sorted.{IsStrictlySortedBy}
use Rattle.std.specs.Map.{keys_of}
use Rattle.std.specs.declared.cmp.Ordering.TheVariants.{Less}
use Rattle.std.proofs.lemmas.Bool.{false≢true}
use Rattle.fc_spec.specs.requests.Buckets.{Key, value, missing, gap, before, between, after, whole}
use Rattle.fc_spec.specs.requests.Ranks.{offered_bound}
use Rattle.fc_spec.specs.requests.Request.{Terms, terms, Nodes, stats_of}
use Rattle.fc_spec.specs.requests.Shape.{no_exclusions}
use Rattle.fc_spec.specs.requests.Statistics.{Stats, stats_over}
use Rattle.fc_spec.specs.replies.Printed.{asked}
use Rattle.fc_spec.specs.messages.KeyOrder.{key_cmp}
use Rattle.fc_spec.specs.messages.Message.{no_partials, partial, no_rows}
use Rattle.fc_partial.specs.BucketView.{Part, bare, bare_part, bucket_view, buckets_view}
use Rattle.fc_partial.specs.Tallied.{Entry}
use Rattle.fc_partial.specs.Tallying.{entry_at}
use Rattle.fc_partial.specs.declared.bucket.PartialBucket.{PartialBucket}
use Rattle.fc_refine.specs.Tops.{others_of_tally, top_of}
use Rattle.fc_answers.specs.Listed.{entry_or_none, listed_of, top_values}
use Rattle.fc_answers.specs.LeastListed.{adds_missing}
use Rattle.fc_jobs.proofs.ListedKeys.{HaveKeysOf}

-- ---- what is no value, in a tally of a terms facet

abbrev missing_entry : Option Stats → List Entry
missing_entry None = []
missing_entry (Some s) = (missing, s) ∷ []

-- nothing stands behind missing
behind : (t : Terms) (es : List Entry) → HaveKeysOf (terms t) es → AllByRecursion (λ l. key_cmp missing l ≡ Less) (keys_of es) → es ≡ []
behind t [] own low = refl
behind t ((value v, s) ∷ es) own low = let past = low.0 in absurd (cc)
behind t ((missing, s) ∷ es) own low = let past = low.0 in absurd (cc)
behind t ((gap i, s) ∷ es) own low = absurd (false≢true own.0)
behind t ((before, s) ∷ es) own low = absurd (false≢true own.0)
behind t ((between, s) ∷ es) own low = absurd (false≢true own.0)
behind t ((after, s) ∷ es) own low = absurd (false≢true own.0)
behind t ((whole, s) ∷ es) own low = absurd (false≢true own.0)

others_are : (t : Terms) (es : List Entry) → HaveKeysOf (terms t) es → IsStrictlySortedBy key_cmp (keys_of es) → others_of_tally es ≡ missing_entry (entry_at es missing)
unfolding IsStrictlySortedBy
others_are t [] own up = refl
others_are t ((value v, s) ∷ es) own up = others_are t es own.1 up.1
others_are t ((missing, s) ∷ es) own up = ap (λ ys. (missing, s) ∷ others_of_tally ys) (behind t es own.1 up.0)
others_are t ((gap i, s) ∷ es) own up = absurd (false≢true own.0)
others_are t ((before, s) ∷ es) own up = absurd (false≢true own.0)
others_are t ((between, s) ∷ es) own up = absurd (false≢true own.0)
others_are t ((after, s) ∷ es) own up = absurd (false≢true own.0)
others_are t ((whole, s) ∷ es) own up = absurd (false≢true own.0)

-- there is none where missing is not asked for
others_none : (t : Terms) (es : List Entry) → HaveKeysOf (terms t) es → t.missing ≡ false → others_of_tally es ≡ []
others_none t [] own none = refl
others_none t ((value v, s) ∷ es) own none = others_none t es own.1 none
others_none t ((missing, s) ∷ es) own none = absurd (false≢true (sym none ∙ own.0))
others_none t ((gap i, s) ∷ es) own none = absurd (false≢true own.0)
others_none t ((before, s) ∷ es) own none = absurd (false≢true own.0)
others_none t ((between, s) ∷ es) own none = absurd (false≢true own.0)
others_none t ((after, s) ∷ es) own none = absurd (false≢true own.0)
others_none t ((whole, s) ∷ es) own none = absurd (false≢true own.0)

-- ---- what is listed of it

module _ (top others : List Entry) (neutral : Stats) where
  abbrev put : Option Stats → Entry
  put o = (missing, unwrap_or o neutral)

  put_behind : (m none : Bool) (o : Option Stats) → others ≡ missing_entry o → (m ≡ false → others ≡ [])
      → cond (not none) (top ++ map (λ k. (k, unwrap_or o neutral)) (asked m missing)) (top ++ others) ≡ (top ++ others) ++ cond ((m && not none) && not (is_some o)) (put o ∷ []) []
  put_behind true true o is nothing = sym (append-nil (top ++ others))
  put_behind false true o is nothing = sym (append-nil (top ++ others))
  put_behind false false o is nothing = ap (λ ys. top ++ ys) (sym (nothing refl)) ∙ sym (append-nil (top ++ others))
  put_behind true false None is nothing = ap (λ ys. ys ++ put None ∷ []) (sym (append-nil top) ∙ ap (λ ys. top ++ ys) (sym is))
  put_behind true false (Some s) is nothing = ap (λ ys. top ++ ys) (sym is) ∙ sym (append-nil (top ++ others))

module _ (t : Terms) (inner : Nodes) (es : List Entry) (own : HaveKeysOf (terms t) es) (up : IsStrictlySortedBy key_cmp (keys_of es)) where
  missing_alike : (m : Bool) → map (entry_or_none (stats_of inner) es) (asked m missing) ≡ map (λ k. (k, unwrap_or (entry_at es missing) (stats_over (stats_of inner) []))) (asked m missing)
  missing_alike true = refl
  missing_alike false = refl

  pub listed_is : listed_of (terms t) inner es ≡ top_of t.sort (offered_bound t) es ++ cond (adds_missing t inner es) (entry_or_none (stats_of inner) es missing ∷ []) []
  listed_is =
      ap (λ ys. cond (not (no_exclusions inner)) (top_values t es ++ ys) (top_values t es ++ others_of_tally es)) (missing_alike t.missing)
      ∙ put_behind (top_values t es) (others_of_tally es) (stats_over (stats_of inner) []) t.missing (no_exclusions inner) (entry_at es missing) (others_are t es own up) (others_none t es own)

-- one more bucket
pub pushed : (bs : List PartialBucket) (b : PartialBucket) (es : List Entry) (e : Entry) → buckets_view bs ≡ bare es → bucket_view b ≡ bare_part e → buckets_view (bs ++ b ∷ []) ≡ bare (es ++ e ∷ [])
pushed [] b [] e same is = ap (λ (p : Part). partial p.key p.stats p.rows no_partials) is
pushed [] b (x ∷ es) e same is = absurd (cc)
pushed (x ∷ bs) b [] e same is = absurd (cc)
pushed (x ∷ bs) b (y ∷ es) e same is =
    let key : (bucket_view x).key ≡ y.0 = cc in
    let stats : (bucket_view x).stats ≡ y.1 = cc in
    let rows : (bucket_view x).rows ≡ no_rows = cc in
    let rest : buckets_view bs ≡ bare es = cc in
    λ i. partial (key i) (stats i) (rows i) (pushed bs b es e rest is i)

-- ---- keys, one after another

pub next_key : (done : List Key) (n end : ℕ) → n < end → (done ++ gap n ∷ []) ++ map gap (range_with_len (n + 1) (end - (n + 1))) ≡ done ++ map gap (range_with_len n (end - n))
next_key done n end h =
    let e : suc (end - (n + 1)) ≡ end - n = omega arith in
    append_assoc done (gap n ∷ []) (map gap (range_with_len (n + 1) (end - (n + 1))))
    ∙ ap (λ m. done ++ map gap (range_with_len n m)) e
