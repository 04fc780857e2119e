-- Numbers that count one document, one after another.
use Rattle.std.proofs.Common.{◌≡◌, ◌<◌, ◌≢◌, ◌⊎◌, inl, inr, ℕ, Bool, true, false, cond, ◌||◌, ◌==◌, List, length, refl, sym, ap, ap₂, ◌∙◌, arith, eq-eqb, ne_eqb, get_or-set_same, get_or-set_other}
use Rattle.std.proofs.lemmas.Bool.{cases_eq, or_right}
use Rattle.std.proofs.lemmas.List.{length-set}
use Rattle.fc_spec.specs.requests.Combining.{combined}
use Rattle.fc_spec.specs.requests.Statistics.{StatValue}
use Rattle.fc_partial.specs.Celled.{Celled, cell_at, counted, of_one}
use Rattle.fc_count.specs.Counted.{HaveCounted}

or_false : (b : Bool) → (b || false) ≡ b
or_false true = refl
or_false false = refl

-- where none counts it
pub counted_none : (values : List StatValue) (c : Celled) → HaveCounted (λ i. false) values c c
counted_none values c = record { stats = refl; size = refl; each = λ i h. refl }

-- where the same ones count it
pub counted_same : (one other : ℕ → Bool) (values : List StatValue) (old new : Celled) → ((i : ℕ) → i < length old.cells → other i ≡ one i)
    → HaveCounted one values old new → HaveCounted other values old new
counted_same one other values old new e c = record {
  stats = c.stats;
  size = c.size;
  each = λ i h. c.each i h ∙ ap (λ b. cond b (combined old.stats (cell_at old.cells i) (of_one values)) (cell_at old.cells i)) (sym (e i h));
}

-- one more number
module _ (holds : ℕ → Bool) (values : List StatValue) (old mid : Celled) (k : ℕ) (c : HaveCounted holds values old mid) (fresh : holds k ≡ false) (here : k < length old.cells) where
  -- which has what it had
  pub counted_before : cell_at mid.cells k ≡ cell_at old.cells k
  counted_before = c.each k here ∙ ap (λ b. cond b (combined old.stats (cell_at old.cells k) (of_one values)) (cell_at old.cells k)) fresh

  at : (i : ℕ) → i < length old.cells → ((i ≡ k) ⊎ (i ≢ k)) → cell_at (counted mid k values).cells i
      ≡ cond (holds i || i == k) (combined old.stats (cell_at old.cells i) (of_one values)) (cell_at old.cells i)
  at i h (inl e) =
      ap (cell_at (counted mid k values).cells) e ∙ get_or-set_same mid.cells k (combined mid.stats (cell_at mid.cells k) (of_one values)) _ (omega (arith, here, c.size))
      ∙ ap₂ (λ l s. combined l s (of_one values)) c.stats counted_before ∙ ap (λ j. combined old.stats (cell_at old.cells j) (of_one values)) (sym e)
      ∙ ap (λ b. cond b (combined old.stats (cell_at old.cells i) (of_one values)) (cell_at old.cells i)) (sym (or_right (holds i) (i == k) (eq-eqb i k e)))
  at i h (inr ne) =
      get_or-set_other mid.cells k i (combined mid.stats (cell_at mid.cells k) (of_one values)) _ ne ∙ c.each i h
      ∙ ap (λ b. cond b (combined old.stats (cell_at old.cells i) (of_one values)) (cell_at old.cells i)) (sym (ap (λ b. holds i || b) (ne_eqb i k ne) ∙ or_false (holds i)))

  pub counted_more : HaveCounted (λ i. holds i || i == k) values old (counted mid k values)
  counted_more = record {
    stats = c.stats;
    size = length-set mid.cells k _ ∙ c.size;
    each = λ i h. at i h (cases_eq i k);
  }
