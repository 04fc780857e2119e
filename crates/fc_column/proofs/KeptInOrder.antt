-- The integers of a column in ascending order, those alone whose positions are in a set.
use Rattle.std.proofs.Common.{◌≡◌, ℕ, ℤ, zero, suc, ◌+◌, ◌-◌, ◌<◌, ◌≤◌, ◌⊎◌, inl, inr, Bool, true, false, cond, ◌&&◌, ◌==◌, List, [], ◌∷◌, ◌++◌, length, get_or, drop, Some, None, count_by, refl, sym, ap, ap₂, ◌∙◌, arith, zero-add, eq-eqb, ne_eqb, eqb-true}
use Rattle.std.specs.List.{items_where_true, zip}
use Rattle.std.proofs.lemmas.Bool.{cases_lt, false_from_ne_true}
use Rattle.std.proofs.Math.Seq.{drop-cons}
use Rattle.std.proofs.lemmas.List.{get_or_past, drop_all}
use Rattle.std.proofs.lemmas.List.Sums.{sum_by-append}
use Rattle.fc_spec.proofs.words.Counting.{count_by-cons}
use Rattle.fc_docset.specs.Positions.{contains}
use Rattle.fc_lists.specs.Kept.{kept_before}
use Rattle.fc_column.specs.LongMerger.{count_entries, MovesWith}
use Rattle.fc_lists.specs.Ordered.{AreInOrder, count_beside}
use Rattle.fc_lists.specs.declared.entries.Entry.{Entry}
use Rattle.fc_lists.proofs.KeptCounts.{came_from, kept_apart, kept_at, kept_before-less, length-items_where_true}

-- each with the position that it gets, from one on
abbrev pub kept_entries : List Bool → ℕ → List ℤ → List ℕ → List (Entry ℤ)
kept_entries live first [] positions = []
kept_entries live first (v ∷ values) [] = []
kept_entries live first (v ∷ values) (at ∷ positions) =
    cond (contains live at) (record { at = first + kept_before live at; item = v } ∷ kept_entries live first values positions) (kept_entries live first values positions)

not_one : (b : Bool) → cond (b && false) 1 0 ≡ zero
not_one true = refl
not_one false = refl

module _ (live : List Bool) (first : ℕ) (passes : ℤ → Bool) (at : ℕ) where
  -- what one integer adds to a count
  one_more : (v : ℤ) (p : ℕ) (values : List ℤ) (positions : List ℕ)
      → count_entries passes at (kept_entries live first (v ∷ values) (p ∷ positions))
      ≡ cond (contains live p) (cond (passes v && ((first + kept_before live p) == at)) 1 0) 0 + count_entries passes at (kept_entries live first values positions)
  one_more v p values positions = go (contains live p)
    where
      go : (b : Bool) → count_entries passes at (cond b (record { at = first + kept_before live p; item = v } ∷ kept_entries live first values positions) (kept_entries live first values positions))
          ≡ cond b (cond (passes v && ((first + kept_before live p) == at)) 1 0) 0 + count_entries passes at (kept_entries live first values positions)
      go true = count_by-cons (λ (e : Entry ℤ). passes e.item && (e.at == at)) (record { at = first + kept_before live p; item = v }) (kept_entries live first values positions)
      go false = omega arith

  -- none goes to a place to which no position goes
  none_there : ((p : ℕ) → contains live p ≡ true → ((first + kept_before live p) == at) ≡ false) → (values : List ℤ) (positions : List ℕ) → count_entries passes at (kept_entries live first values positions) ≡ 0
  none_there none [] positions = refl
  none_there none (v ∷ values) [] = refl
  none_there none (v ∷ values) (p ∷ positions) = one_more v p values positions ∙ ap (λ n. n + count_entries passes at (kept_entries live first values positions)) (go (contains live p) refl) ∙ zero-add (count_entries passes at (kept_entries live first values positions)) ∙ none_there none values positions
    where
      go : (b : Bool) → contains live p ≡ b → ◌≡◌ {A = ℕ} (cond b (cond (passes v && ((first + kept_before live p) == at)) 1 0) 0) 0
      go true here = ap (λ t. cond {A = ℕ} (passes v && t) 1 0) (none p here) ∙ not_one (passes v)
      go false here = refl

  -- those of the one position that goes there
  all_from : (from : ℕ) → contains live from ≡ true → first + kept_before live from ≡ at → (values : List ℤ) (positions : List ℕ)
      → count_entries passes at (kept_entries live first values positions) ≡ count_beside passes from values positions
  all_from from here is [] positions = refl
  all_from from here is (v ∷ values) [] = refl
  all_from from here is (v ∷ values) (p ∷ positions) =
      one_more v p values positions ∙ ap₂ (λ a b. a + b) (go (contains live p) refl) (all_from from here is values positions)
      ∙ sym (count_by-cons (λ (pair : ℤ × ℕ). passes pair.0 && (pair.1 == from)) (v, p) (zip values positions))
    where
      same : contains live p ≡ true → ((first + kept_before live p) == at) ≡ (p == from)
      same there = by_test (p == from) refl
        where
          by_test : (b : Bool) → (p == from) ≡ b → ((first + kept_before live p) == at) ≡ b
          by_test true e = let q : p ≡ from = eqb-true p from e in eq-eqb (first + kept_before live p) at (ap (λ n. first + kept_before live n) q ∙ is)
          by_test false e = false_from_ne_true _ (λ t. let q : p ≡ from = kept_apart live p from there here (let s = eqb-true (first + kept_before live p) at t in omega (arith, s, is)) in
              let yes = eq-eqb p from q in cc)

      go : (b : Bool) → contains live p ≡ b → ◌≡◌ {A = ℕ} (cond b (cond (passes v && ((first + kept_before live p) == at)) 1 0) 0) (cond (passes v && (p == from)) 1 0)
      go true there = ap (λ t. cond {A = ℕ} (passes v && t) 1 0) (same there)
      go false there = sym (ap (λ t. cond {A = ℕ} (passes v && t) 1 0) (ne_eqb p from (λ q. let no = sym there ∙ ap (contains live) q ∙ here in cc)) ∙ not_one (passes v))

-- all integers of the kept rows
pub moved : (column : List (List ℤ)) (live : List Bool) (first : ℕ) (values : List ℤ) (positions : List ℕ) (old new : List (Entry ℤ)) → AreInOrder values positions column → length live ≡ length column
    → new ≡ old ++ kept_entries live first values positions → MovesWith column live first old new
moved column live first values positions old new order long is passes at = (early, late)
  where
    whole : count_entries passes at new ≡ count_entries passes at old + count_entries passes at (kept_entries live first values positions)
    whole = ap (count_entries passes at) is ∙ sum_by-append (λ (e : Entry ℤ). cond (passes e.item && (e.at == at)) 1 0) old (kept_entries live first values positions)

    early : at < first → count_entries passes at new ≡ count_entries passes at old
    early before =
        let none = none_there live first passes at (λ p here. ne_eqb (first + kept_before live p) at (λ e. omega arith)) values positions in
        omega (arith, whole, none)

    late : first ≤ at → count_entries passes at new ≡ count_entries passes at old + count_by passes (get_or (items_where_true live column) (at - first) [])
    late behind = whole ∙ ap (λ n. count_entries passes at old + n) (go (cases_lt (at - first) (count_by (λ here. here) live)))
      where
        go : ((at - first < count_by (λ here. here) live) ⊎ (count_by (λ here. here) live ≤ at - first))
            → count_entries passes at (kept_entries live first values positions) ≡ count_by passes (get_or (items_where_true live column) (at - first) [])
        go (inl less) =
            let one = came_from live (at - first) less in
            all_from live first passes at one.from one.here (omega (arith, one.is)) values positions ∙ order.same passes one.from
            ∙ ap (count_by passes) (sym (kept_at live column one.from [] long one.here) ∙ ap (λ n. get_or (items_where_true live column) n []) one.is)
        go (inr past) =
            none_there live first passes at (λ p here. ne_eqb (first + kept_before live p) at (λ e. let less = kept_before-less live p here in omega (arith, less, e, past))) values positions
            ∙ ap (count_by passes) (sym (get_or_past (items_where_true live column) (at - first) [] (omega (arith, length-items_where_true live column long, past))))

-- ---- one integer after another

pub kept_next : (live : List Bool) (first : ℕ) (values : List ℤ) (positions : List ℕ) (place : ℕ) (d : ℤ) → length positions ≡ length values → place < length values
    → kept_entries live first (drop place values) (drop place positions)
    ≡ cond (contains live (get_or positions place 0))
    (record { at = first + kept_before live (get_or positions place 0); item = get_or values place d } ∷ kept_entries live first (drop (place + 1) values) (drop (place + 1) positions))
    (kept_entries live first (drop (place + 1) values) (drop (place + 1) positions))
kept_next live first values positions place d even inside =
    let more : suc place ≡ place + 1 = omega arith in
    ap₂ (kept_entries live first) (drop-cons values place d inside ∙ ap (λ n. get_or values place d ∷ drop n values) more) (drop-cons positions place 0 (omega arith) ∙ ap (λ n. get_or positions place 0 ∷ drop n positions) more)

pub kept_end : (live : List Bool) (first : ℕ) (values : List ℤ) (positions : List ℕ) (place : ℕ) → length values ≤ place → kept_entries live first (drop place values) positions ≡ []
kept_end live first values positions place past = ap (λ l. kept_entries live first l positions) (drop_all place values past)

-- what an answer that may be none says
pub some_if : (b : Bool) (k at : ℕ) → Some at ≡ cond b (Some k) None → (b ≡ true) × (at ≡ k)
some_if true k at is = (refl, cc)
some_if false k at is = absurd cc

pub none_if : (b : Bool) (k : ℕ) → None ≡ cond b (Some k) None → b ≡ false
none_if true k is = absurd cc
none_if false k is = refl
