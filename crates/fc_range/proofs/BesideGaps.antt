-- The buckets of the gaps, and those beside them that are asked for.
use Rattle.std.proofs.Common.{◌≡◌, ℕ, Bool, true, false, ◌&&◌, ◌||◌, List, Option, ◌∙◌, refl, sym, ap, subst}
use Rattle.std.specs.Option.{ForSome}
use Rattle.std.specs.Prelude.{nat_lt}
use Rattle.std.proofs.lemmas.Bool.{false≢true}
use Rattle.std.proofs.Math.Bool.{and-false, and-true, or-false}
use Rattle.fc_spec.specs.documents.World.{Place}
use Rattle.fc_spec.specs.messages.KeyOrder.{same_key}
use Rattle.fc_spec.specs.requests.Buckets.{Key, value, missing, gap, before, between, after, whole, bucket_places, is_key_of, is_range_key}
use Rattle.fc_spec.specs.requests.Gaps.{gap_count}
use Rattle.fc_spec.specs.requests.Request.{Kind, Range, Stat}
use Rattle.fc_spec.specs.requests.Statistics.{Stats, stats_over}
use Rattle.fc_partial.specs.Adding.{AddUp}
use Rattle.fc_partial.specs.Tallied.{Tallied}
use Rattle.fc_partial.specs.Tallying.{entry_at}
use Rattle.fc_kind.specs.Collecting.{BucketsAddUp, Collects, CollectsAmong}
use Rattle.fc_kind.proofs.CollectedParts.{among_same, both_parts}
use Rattle.fc_range.specs.GapKeys.{is_gap_below}

-- a bucket among others adds up as before
pub still_add_up : (keys : Key → Bool) (kind : Kind) (ss : List Stat) (Y : List Place) (old mid : Tallied) (k : Key) → CollectsAmong keys kind ss Y old mid → keys k ≡ false
    → ForSome (entry_at old.entries k) (λ there. AddUp there (stats_over old.stats (bucket_places kind k Y))) → ForSome (entry_at mid.entries k) (λ there. AddUp there (stats_over mid.stats (bucket_places kind k Y)))
still_add_up keys kind ss Y old mid k c other fits =
    subst (λ (l : List Stat). ForSome (entry_at mid.entries k) (λ there. AddUp there (stats_over l (bucket_places kind k Y)))) (sym c.stats)
    (subst (λ (o : Option Stats). ForSome o (λ there. AddUp there (stats_over old.stats (bucket_places kind k Y)))) (sym (c.others k other)) fits)

-- so many gaps, and which of the buckets beside them are asked for
module _ (count : ℕ) (is_before is_between is_after : Bool) where
  abbrev pub asked_before : Key → Bool
  asked_before k = is_before && same_key k before

  abbrev pub asked_between : Key → Bool
  asked_between k = is_between && same_key k between

  abbrev pub asked_after : Key → Bool
  asked_after k = is_after && same_key k after

  -- the key is that of one of these buckets
  abbrev pub is_key : Key → Bool
  is_key (gap i) = nat_lt i count
  is_key before = is_before
  is_key between = is_between
  is_key after = is_after
  is_key k = false

  all_keys : (k : Key) → is_key k ≡ (((asked_before k || asked_between k) || asked_after k) || is_gap_below count k)
  all_keys (gap i) = sym (simp (and-false))
  all_keys (value v) = sym (simp (and-false))
  all_keys missing = sym (simp (and-false))
  all_keys before = sym (simp (and-false, and-true, or-false))
  all_keys between = sym (simp (and-false, and-true, or-false))
  all_keys after = sym (simp (and-false, and-true, or-false))
  all_keys whole = sym (simp (and-false))

  -- no key is one of two of these
  no_end : (b : Bool) {P : Type 0} → (b && false) ≡ true → P
  no_end b e = absurd (false≢true (sym (and-false b) ∙ e))

  between_apart : (k : Key) → asked_before k ≡ true → asked_between k ≡ false
  between_apart (gap i) e = and-false is_between
  between_apart (value v) e = and-false is_between
  between_apart missing e = and-false is_between
  between_apart before e = and-false is_between
  between_apart between e = no_end is_before e
  between_apart after e = and-false is_between
  between_apart whole e = and-false is_between

  after_apart : (k : Key) → (asked_before k || asked_between k) ≡ true → asked_after k ≡ false
  after_apart (gap i) e = and-false is_after
  after_apart (value v) e = and-false is_after
  after_apart missing e = and-false is_after
  after_apart before e = and-false is_after
  after_apart between e = and-false is_after
  after_apart after e = absurd (false≢true (sym (ap (λ b. b || (is_between && false)) (and-false is_before) ∙ and-false is_between) ∙ e))
  after_apart whole e = and-false is_after

  gap_apart : (k : Key) → ((asked_before k || asked_between k) || asked_after k) ≡ true → is_gap_below count k ≡ false
  gap_apart (gap i) e = absurd (false≢true (sym (λ j. (and-false is_before j || and-false is_between j) || and-false is_after j) ∙ e))
  gap_apart (value v) e = refl
  gap_apart missing e = refl
  gap_apart before e = refl
  gap_apart between e = refl
  gap_apart after e = refl
  gap_apart whole e = refl

  -- the key of a gap is not beside the gaps
  gap_is_other : (k : Key) → is_gap_below count k ≡ true → ((asked_before k || asked_between k) || asked_after k) ≡ false
  gap_is_other (gap i) e = λ j. (and-false is_before j || and-false is_between j) || and-false is_after j
  gap_is_other (value v) e = absurd (false≢true e)
  gap_is_other missing e = absurd (false≢true e)
  gap_is_other before e = absurd (false≢true e)
  gap_is_other between e = absurd (false≢true e)
  gap_is_other after e = absurd (false≢true e)
  gap_is_other whole e = absurd (false≢true e)

  -- it is that of one of these buckets
  gap_is_own : (k : Key) → is_gap_below count k ≡ true → is_key k ≡ true
  gap_is_own (gap i) e = e
  gap_is_own (value v) e = absurd (false≢true e)
  gap_is_own missing e = absurd (false≢true e)
  gap_is_own before e = absurd (false≢true e)
  gap_is_own between e = absurd (false≢true e)
  gap_is_own after e = absurd (false≢true e)
  gap_is_own whole e = absurd (false≢true e)

  -- where these are the buckets of a facet, they are collected one after another, and the gaps last
  module _ (kind : Kind) (own : (k : Key) → is_key_of kind k ≡ is_key k) (Y : List Place) (old : Tallied) (fits : BucketsAddUp kind old.stats Y old.entries) where
    abbrev pub AddsUp : Tallied → Key → Type 0
    AddsUp mid k = ForSome (entry_at mid.entries k) (λ there. AddUp there (stats_over mid.stats (bucket_places kind k Y)))

    pub before_fits : is_before ≡ true → AddsUp old before
    before_fits asked = fits before (own before ∙ asked)

    module _ (one : Tallied) (first : CollectsAmong asked_before kind old.stats Y old one) where
      pub between_fits : is_between ≡ true → AddsUp one between
      between_fits asked = still_add_up asked_before kind old.stats Y old one between first (and-false is_before) (fits between (own between ∙ asked))

      module _ (two : Tallied) (second : CollectsAmong asked_between kind one.stats Y one two) where
        both_collected : CollectsAmong (λ k. asked_before k || asked_between k) kind old.stats Y old two
        both_collected = both_parts asked_before asked_between kind old.stats Y old one two between_apart first (subst (λ (l : List Stat). CollectsAmong asked_between kind l Y one two) first.stats second)

        pub after_fits : is_after ≡ true → AddsUp two after
        after_fits asked =
            still_add_up (λ k. asked_before k || asked_between k) kind old.stats Y old two after both_collected
            (λ j. and-false is_before j || and-false is_between j) (fits after (own after ∙ asked))

        module _ (three : Tallied) (third : CollectsAmong asked_after kind two.stats Y two three) where
          beside_collected : CollectsAmong (λ k. (asked_before k || asked_between k) || asked_after k) kind old.stats Y old three
          beside_collected =
              both_parts (λ k. asked_before k || asked_between k) asked_after kind old.stats Y old two three after_apart both_collected
              (subst (λ (l : List Stat). CollectsAmong asked_after kind l Y two three) both_collected.stats third)

          pub gaps_fit : (k : Key) → is_gap_below count k ≡ true → AddsUp three k
          gaps_fit k here =
              still_add_up (λ q. (asked_before q || asked_between q) || asked_after q) kind old.stats Y old three k beside_collected (gap_is_other k here)
              (fits k (own k ∙ gap_is_own k here))

          pub buckets_collected : (new : Tallied) → CollectsAmong (is_gap_below count) kind three.stats Y three new → Collects kind old.stats Y old new
          buckets_collected new last =
              among_same (λ k. ((asked_before k || asked_between k) || asked_after k) || is_gap_below count k) (is_key_of kind) kind old.stats Y old new (λ k. own k ∙ all_keys k)
              (both_parts (λ k. (asked_before k || asked_between k) || asked_after k) (is_gap_below count) kind old.stats Y old three new gap_apart beside_collected
              (subst (λ (l : List Stat). CollectsAmong (is_gap_below count) kind l Y three new) beside_collected.stats last))

-- those of a range facet over integers
pub own_keys : (g : Range) (k : Key) → is_range_key g k ≡ is_key (gap_count g) g.before g.between g.after k
own_keys g (gap i) = refl
own_keys g (value v) = refl
own_keys g missing = refl
own_keys g before = refl
own_keys g between = refl
own_keys g after = refl
own_keys g whole = refl
