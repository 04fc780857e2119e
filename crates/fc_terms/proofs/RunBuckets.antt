-- Buckets whose documents were counted in runs.
use Rattle.std.proofs.Common.{◌≡◌, ℤ, Bool, true, false, List, [], ◌∷◌, Some, refl, sym, ap, subst, ◌∙◌}
use Rattle.std.specs.List.{All}
use Rattle.std.specs.Option.{ForSome}
use Rattle.std.proofs.lemmas.Bool.{false≢true}
use Rattle.fc_spec.specs.documents.Document.{Block}
use Rattle.fc_spec.specs.documents.Sets.{places_on}
use Rattle.fc_spec.specs.documents.World.{Place, shard_places}
use Rattle.fc_spec.specs.messages.KeyOrder.{same_key}
use Rattle.fc_spec.specs.requests.Buckets.{Key, bucket_places, in_bucket, is_key_of}
use Rattle.fc_spec.specs.requests.Request.{Kind, Stat}
use Rattle.fc_spec.specs.requests.Statistics.{Stats, stats_over}
use Rattle.fc_spec.specs.scripts.WorldLimits.{IsWithinLimits}
use Rattle.fc_spec.specs.words.Lists.{is_empty}
use Rattle.fc_spec.proofs.messages.Keys.{same_key_exact}
use Rattle.fc_partial.specs.Adding.{AddUp}
use Rattle.fc_partial.specs.Fitting.{StatisticsFit}
use Rattle.fc_partial.specs.Tallied.{Entry, Tallied}
use Rattle.fc_partial.specs.Tallying.{entry_at, with_more}
use Rattle.fc_partial.proofs.Fitting.{filtered_fit, picked_fit}
use Rattle.fc_kind.specs.Collecting.{BucketsAddUp, CollectsAmong}
use Rattle.fc_kind.proofs.PlaceColumns.{segment_fits}
use Rattle.fc_count.specs.Counting.{Counting}
use Rattle.fc_count.specs.Runs.{AddsRuns, NumbersAddUp, NumbersFit, places_of}
use Rattle.fc_count.proofs.RunParts.{holds_of_some}

-- each number that counts a place has the key of a bucket, with that bucket's places
module _ (kind : Kind) (blocks : List Block) (set : List Bool) (cs : List Counting) (keys : Key → Bool) (has_key : ℤ → Type 0) (key : ℤ → Key) (has : All (λ c. has_key c.number) cs)
    (own : (n : ℤ) → has_key n → keys (key n) ≡ true) (kinds : (k : Key) → keys k ≡ true → is_key_of kind k ≡ true)
    (same : (n : ℤ) → has_key n → places_of blocks cs n ≡ bucket_places kind (key n) (places_on 0 blocks set)) where
  pub runs_fit : IsWithinLimits (blocks ∷ []) → NumbersFit blocks cs
  runs_fit limits n some =
      subst StatisticsFit (sym (same n (holds_of_some has_key blocks cs n has some)))
      (filtered_fit (λ (p : Place). in_bucket kind (key n) p.document) (places_on 0 blocks set) (picked_fit set (shard_places 0 0 0 blocks) (segment_fits blocks limits)))

  pub runs_add_up : (ss : List Stat) (es : List Entry) → BucketsAddUp kind ss (places_on 0 blocks set) es → NumbersAddUp blocks ss key cs es
  runs_add_up ss es add_up n some =
      let h = holds_of_some has_key blocks cs n has some in
      subst (λ (X : List Place). ForSome (entry_at es (key n)) (λ (there : Stats). AddUp there (stats_over ss X))) (sym (same n h)) (add_up (key n) (kinds (key n) (own n h)))

  -- and each bucket that has a place has such a number
  module _ (ss : List Stat) (old new : Tallied) (adds : AddsRuns blocks ss key cs old new)
      (found : (k : Key) → keys k ≡ true → is_empty (bucket_places kind k (places_on 0 blocks set)) ≡ false → (n : ℤ) × has_key n × (key n ≡ k)) where
    abbrev pub Y : List Place
    Y = places_on 0 blocks set

    -- a key that is no number's
    no_key : (k : Key) → ((n : ℤ) → has_key n → is_empty (places_of blocks cs n) ≡ false → k ≡ key n → ⊥) → entry_at new.entries k ≡ entry_at old.entries k
    no_key k none = adds.others k (λ n some. go n some (same_key k (key n)) refl)
      where
        go : (n : ℤ) → is_empty (places_of blocks cs n) ≡ false → (b : Bool) → same_key k (key n) ≡ b → same_key k (key n) ≡ false
        go n some false e = e
        go n some true e = absurd (none n (holds_of_some has_key blocks cs n has some) some (same_key_exact k (key n) e))

    pub runs_collected : CollectsAmong keys kind ss Y old new
    runs_collected = record {
      stats = adds.stats;
      grown = λ k e some.
          let f = found k e some in
          let n = f.0 in
          let is : key n ≡ k = f.2 in
          let here : is_empty (places_of blocks cs n) ≡ false = ap is_empty (same n f.1) ∙ ap (λ q. is_empty (bucket_places kind q Y)) is ∙ some in
          subst (λ (q : Key). entry_at new.entries q ≡ Some (with_more ss (entry_at old.entries q) (stats_over ss (bucket_places kind q Y)))) is
          (adds.grown n here ∙ ap (λ (X : List Place). Some (with_more ss (entry_at old.entries (key n)) (stats_over ss X))) (same n f.1));
      empty = λ k e none. no_key k (λ n h some is.
          false≢true (sym some ∙ ap is_empty (same n h) ∙ ap (λ q. is_empty (bucket_places kind q Y)) (sym is) ∙ none));
      others = λ k e. no_key k (λ n h some is. false≢true (sym e ∙ ap keys is ∙ own n h));
    }
