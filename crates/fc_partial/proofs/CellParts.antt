-- The part of one number in the cells.
use Rattle.std.proofs.Common.{◌≡◌, ◌<◌, ◌≤◌, ◌+◌, ◌*◌, ◌++◌, ◌∙◌, ℕ, List, [], take, drop, length, map, get_or, set, sym, ap, subst, arith, IsTrue}
use Rattle.std.specs.Vec.{vec_len}
use Rattle.std.proofs.lemmas.List.{length-map}
use borrow.Rule.Slice.PartMut.{put_mid}
use Rattle.fc_base.specs.StatisticView.{stat_view}
use Rattle.fc_spec.specs.requests.Statistics.{StatValue}
use Rattle.fc_spec.specs.requests.Combining.{combined, combined_values}
use Rattle.fc_spec.specs.messages.MessageShape.{values_fit}
use Rattle.fc_partial.specs.declared.cells.Cells.TheInside.{Inside}
use Rattle.fc_partial.specs.declared.statistics.StatValue as code
use Rattle.fc_partial.specs.Adding.{HasShape}
use Rattle.fc_partial.specs.Celled.{Celled, cell_at, of_one}
use Rattle.fc_partial.specs.CellsView.{cells_view, IsEven, rows_of}
use Rattle.fc_partial.specs.View.{stat_value_view}
use Rattle.fc_partial.proofs.CellRows.{every_at, length-put_mid, length-rows, refilled, part_put, part_values, part_within, row_at}
use Rattle.fc_partial.proofs.CombiningSoFar.{length_from_shape}

module _ (i : Inside) (self : Celled) (is : cells_view i ≡ self) (even : IsEven i) (n : ℕ) (there : n < length self.cells) where
  pub counter : n < length i.counts.items
  counter = omega (arith, there, ap (λ (t : Celled). length t.cells) is, length-rows (length i.stats.items) i.counts.items (map stat_value_view i.values.items))

  pub count_of : get_or i.counts.items n 0 ≡ (cell_at self.cells n).count
  count_of = sym (ap (λ s. s.count) (row_at (length i.stats.items) i.counts.items (map stat_value_view i.values.items) n _ counter)) ∙ ap (λ (t : Celled). (cell_at t.cells n).count) is

  module _ (w : ℕ) (wide : w ≡ vec_len i.stats) where
    pub width : w ≡ length i.stats.items
    width = omega (arith, wide, i.stats.ok.0)

    whole : length i.values.items ≡ length i.counts.items * w
    whole = even.whole ∙ ap (λ k. length i.counts.items * k) (sym width)

    pub within : n * w + w ≤ length i.values.items
    within = part_within stat_value_view w i.counts.items i.values.items n counter whole

    pub values_at : (k : ℕ) (xs : List code.StatValue) → k ≡ w → xs ≡ i.values.items → map stat_value_view (take k (drop (n * w) xs)) ≡ (cell_at self.cells n).values
    values_at k xs e of =
        ap (λ l. map stat_value_view (take k (drop (n * w) l))) of
        ∙ part_values stat_value_view w i.counts.items i.values.items n counter whole k (record { count = 0; values = [] }) e
        ∙ ap (λ v. (get_or (rows_of v i.counts.items (map stat_value_view i.values.items)) n (record { count = 0; values = [] })).values) width
        ∙ ap (λ (t : Celled). (cell_at t.cells n).values) is

    pub shaped_at : HasShape self.stats (cell_at self.cells n)
    shaped_at = subst (λ (t : Celled). HasShape t.stats (cell_at t.cells n)) is
        (every_at (HasShape (map stat_view i.stats.items)) _ n _ even.shaped (omega (arith, counter, length-rows (length i.stats.items) i.counts.items (map stat_value_view i.values.items))))

    -- the cells when one part was written and its counter raised
    pub put : (k : ℕ) (ys all : List code.StatValue) (zs : List StatValue) (c : ℕ) → k ≡ w → length ys ≡ w → map stat_value_view ys ≡ zs → all ≡ put_mid (n * w) k i.values.items ys
        → rows_of (length i.stats.items) (set i.counts.items n c) (map stat_value_view all) ≡ set (rows_of (length i.stats.items) i.counts.items (map stat_value_view i.values.items)) n (record { count = c; values = zs })
    put k ys all zs c e l v of =
        ap (λ h. rows_of h (set i.counts.items n c) (map stat_value_view all)) (sym width)
        ∙ part_put stat_value_view w i.counts.items i.values.items n counter whole k c ys all zs e l v of
        ∙ ap (λ h. set (rows_of h i.counts.items (map stat_value_view i.values.items)) n (record { count = c; values = zs })) width

    -- what a vector has when one part was written through a loan of all of it
    pub written : (k : ℕ) (base ys : List code.StatValue) → k ≡ w → length ys ≡ w → base ≡ i.values.items
        → take i.values.len (put_mid (n * w) k base ys ++ drop (length (put_mid (n * w) k base ys)) i.values.items) ≡ put_mid (n * w) k i.values.items ys
    written k base ys e l of =
        let size : length (put_mid (n * w) k i.values.items ys) ≡ length i.values.items = length-put_mid (n * w) k i.values.items ys (omega (arith, within, e)) (l ∙ sym e) in
        ap (λ b. take i.values.len (put_mid (n * w) k b ys ++ drop (length (put_mid (n * w) k b ys)) i.values.items)) of ∙ refilled i.values.items (put_mid (n * w) k i.values.items ys) i.values.len i.values.ok.0 size

    -- the count and the values of the number are combined with those of one document
    module _ (old : ℕ) (was : old ≡ get_or i.counts.items n 0) (others : List StatValue) (k : ℕ) (base ys : List code.StatValue) (e : k ≡ w) (of : base ≡ i.values.items)
        (made : map stat_value_view ys ≡ combined_values self.stats (cell_at self.cells n).values others) (fit : IsTrue (values_fit self.stats (combined self.stats (cell_at self.cells n) (of_one others)).values)) where
      long : length ys ≡ w
      long = sym (length-map ys stat_value_view) ∙ ap length made ∙ length_from_shape self.stats _ fit ∙ sym (ap (λ (t : Celled). length t.stats) is) ∙ length-map i.stats.items stat_view ∙ sym width

      pub rows_after : rows_of (length i.stats.items) (set i.counts.items n (old + 1)) (map stat_value_view (take i.values.len (put_mid (n * w) k base ys ++ drop (length (put_mid (n * w) k base ys)) i.values.items)))
          ≡ set (rows_of (length i.stats.items) i.counts.items (map stat_value_view i.values.items)) n (combined self.stats (cell_at self.cells n) (of_one others))
      rows_after =
          put k ys _ (combined_values self.stats (cell_at self.cells n).values others) (old + 1) e long made (written k base ys e long of)
          ∙ ap (λ m. set (rows_of (length i.stats.items) i.counts.items (map stat_value_view i.values.items)) n (record { count = m + 1; values = combined_values self.stats (cell_at self.cells n).values others })) (was ∙ count_of)

      pub size_after : length (take i.values.len (put_mid (n * w) k base ys ++ drop (length (put_mid (n * w) k base ys)) i.values.items)) ≡ length i.values.items
      size_after = ap length (written k base ys e long of) ∙ length-put_mid (n * w) k i.values.items ys (omega (arith, within, e)) (long ∙ sym e)
