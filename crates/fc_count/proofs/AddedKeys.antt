-- What was counted by number, put into a tally key by key.
use Rattle.std.proofs.Common.{◌≡◌, ◌<◌, ◌+◌, ℕ, ℤ, pos, List, Some, refl, sym, ap₂, ap, subst, ◌∙◌, arith, below_more, eq-eqb, ne_eqb, false, length}
use Rattle.std.specs.Option.{ForSome}
use Rattle.fc_spec.specs.requests.Buckets.{Key}
use Rattle.fc_spec.specs.requests.Statistics.{Stats, stats_over}
use Rattle.fc_spec.specs.documents.World.{Place}
use Rattle.fc_spec.specs.words.Lists.{is_empty}
use Rattle.fc_partial.specs.Adding.{AddUp}
use Rattle.fc_partial.specs.Celled.{cell_at}
use Rattle.fc_partial.specs.Tallied.{Tallied}
use Rattle.fc_partial.specs.Tallying.{AddsTo, entry_at, with_more}
use Rattle.fc_kind.specs.Collecting.{GrowsBy}
use Rattle.fc_count.proofs.CountedBuckets.{not_zero}
use Rattle.fc_count.specs.Added.{AreApart, CellsAddUp, HaveAdded}

-- of no number
pub added_none : (key : ℤ → Key) (cells : List Stats) (t : Tallied) → HaveAdded key cells 0 t t
added_none key cells t = record {
  stats = refl;
  some = λ i h. absurd (omega arith);
  none = λ i h. absurd (omega arith);
  others = λ q h. refl;
}

module _ (key : ℤ → Key) (cells : List Stats) (bound n : ℕ) (below : n < bound) (apart : AreApart key bound) (old mid : Tallied) (h : HaveAdded key cells n old mid) where
  -- the next number's key has what it had
  next_before : entry_at mid.entries (key (pos n)) ≡ entry_at old.entries (key (pos n))
  next_before = h.others (key (pos n)) (λ i here. apart n i below (omega arith) (λ e. omega arith))

  -- and that adds up
  pub next_adds_up : CellsAddUp key cells bound old.entries → 0 < (cell_at cells n).count → ForSome (entry_at mid.entries (key (pos n))) (λ there. AddUp there (cell_at cells n))
  next_adds_up fits some = subst (λ o. ForSome o (λ there. AddUp there (cell_at cells n))) (sym next_before) (fits n below some)

  -- one more number, without a document
  pub added_same : (cell_at cells n).count ≡ 0 → HaveAdded key cells (n + 1) old mid
  added_same empty = record {
    stats = h.stats;
    some = below_more
        (λ i. 0 < (cell_at cells i).count → entry_at mid.entries (key (pos i)) ≡ Some (with_more old.stats (entry_at old.entries (key (pos i))) (cell_at cells i))) n h.some
        (λ some. absurd (omega (arith, some, empty)));
    none = below_more (λ i. (cell_at cells i).count ≡ 0 → entry_at mid.entries (key (pos i)) ≡ entry_at old.entries (key (pos i))) n h.none (λ none. next_before);
    others = λ q away. h.others q (λ i here. away i (omega arith));
  }

  -- and with one
  pub added_more : (new : Tallied) → 0 < (cell_at cells n).count → new.stats ≡ mid.stats → AddsTo mid new (key (pos n)) (cell_at cells n) → HaveAdded key cells (n + 1) old new
  added_more new full same adds = record {
    stats = same ∙ h.stats;
    some = below_more
        (λ i. 0 < (cell_at cells i).count → entry_at new.entries (key (pos i)) ≡ Some (with_more old.stats (entry_at old.entries (key (pos i))) (cell_at cells i))) n
        (λ i here some. adds.others (key (pos i)) (apart i n (omega arith) below (λ e. omega arith)) ∙ h.some i here some)
        (λ some. adds.there ∙ ap₂ (λ l o. Some (with_more l o (cell_at cells n))) h.stats next_before);
    none = below_more (λ i. (cell_at cells i).count ≡ 0 → entry_at new.entries (key (pos i)) ≡ entry_at old.entries (key (pos i))) n
        (λ i here none. adds.others (key (pos i)) (apart i n (omega arith) below (λ e. omega arith)) ∙ h.none i here none)
        (λ none. absurd (omega (arith, full, none)));
    others = λ q away. adds.others q (away n (omega arith)) ∙ h.others q (λ i here. away i (omega arith));
  }

  -- one more number, with the statistics of places
  module _ (X : List Place) (is : cell_at cells n ≡ stats_over old.stats X) where
    pub next_grows : CellsAddUp key cells bound old.entries → is_empty X ≡ false → ForSome (entry_at mid.entries (key (pos n))) (λ there. AddUp there (stats_over mid.stats X))
    next_grows fits some =
        subst (λ (s : Stats). ForSome (entry_at mid.entries (key (pos n))) (λ there. AddUp there s)) (is ∙ ap (λ ss. stats_over ss X) (sym h.stats))
        (next_adds_up fits (subst (λ (s : Stats). 0 < s.count) (sym is) (not_zero (length X) some)))

    pub grown_more : (new : Tallied) → GrowsBy (key (pos n)) X mid new → HaveAdded key cells (n + 1) old new
    grown_more new g = record {
      stats = g.stats ∙ h.stats;
      some = below_more
          (λ i. 0 < (cell_at cells i).count → entry_at new.entries (key (pos i)) ≡ Some (with_more old.stats (entry_at old.entries (key (pos i))) (cell_at cells i))) n
          (λ i here some. g.others (key (pos i)) (apart i n (omega arith) below (λ e. omega arith)) ∙ h.some i here some)
          (λ some.
          g.some (ne_eqb (length X) 0 (λ e. omega (arith, some, e, ap (λ (s : Stats). s.count) is)))
          ∙ ap₂ (λ l o. Some (with_more l o (stats_over l X))) h.stats next_before
          ∙ ap (λ s. Some (with_more old.stats (entry_at old.entries (key (pos n))) s)) (sym is));
      none = below_more (λ i. (cell_at cells i).count ≡ 0 → entry_at new.entries (key (pos i)) ≡ entry_at old.entries (key (pos i))) n
          (λ i here none. g.others (key (pos i)) (apart i n (omega arith) below (λ e. omega arith)) ∙ h.none i here none)
          (λ none. g.none (eq-eqb (length X) 0 (sym (ap (λ (s : Stats). s.count) is) ∙ none)) ∙ next_before);
      others = λ q away. g.others q (away n (omega arith)) ∙ h.others q (λ i here. away i (omega arith));
    }
