-- The rows at the positions of a set, where those that are empty are not looked at.
use Rattle.std.proofs.Common.{◌≡◌, ℕ, zero, suc, ◌+◌, ◌-◌, ◌<◌, ◌≤◌, ◌⊎◌, inl, inr, Bool, true, false, cond, not, ◌&&◌, List, [], ◌∷◌, ◌++◌, length, get_or, take, map, replicate, count_by, refl, sym, ap, ap₂, subst, ◌∙◌, arith, add-zero, append_assoc, ne_eqb, All}
use Rattle.std.specs.List.{items_where_true}
use Rattle.std.proofs.lemmas.Bool.{cases_lt}
use Rattle.std.proofs.lemmas.List.{append-nil, take_all, take_more, replicate_more, get_or_past, get_or-map}
use Rattle.fc_spec.specs.documents.Sets.{zip_with}
use Rattle.fc_spec.proofs.words.Counting.{count_by-cons}
use Rattle.fc_spec.specs.words.Lists.{is_empty}
use Rattle.fc_docset.specs.Positions.{contains}
use Rattle.fc_docset.specs.Neighbours.{HasNoneFrom, IsNextFrom}
use Rattle.fc_lists.specs.Kept.{kept_before}
use Rattle.fc_lists.specs.Laid.{Laid}
use Rattle.fc_lists.proofs.KeptCounts.{kept_before-all, kept_before-less, kept_before-next, kept_at, length-items_where_true}

pub contained : (set : List Bool) (at : ℕ) → contains set at ≡ true → at < length set
contained set at here = go (cases_lt at (length set))
  where
    go : ((at < length set) ⊎ (length set ≤ at)) → at < length set
    go (inl within) = within
    go (inr past) = let none = get_or_past set at false past in absurd cc

-- ---- where a position of the set is not filled, its row is empty
abbrev pub AreEmptyBeside : {T : Type 0} → List Bool → List Bool → List (List T) → Type 0
AreEmptyBeside set filled rows = (at : ℕ) → contains set at ≡ true → contains filled at ≡ false → get_or rows at [] ≡ []

both : (a b : Bool) → (a && b) ≡ true → b ≡ true
both true b e = e
both false b e = absurd cc

first_fails : (a b : Bool) → b ≡ true → (a && b) ≡ false → a ≡ false
first_fails true b here none = sym here ∙ none
first_fails false b here none = refl

empty_if : {X : Type 0} (xs : List X) → not (is_empty xs) ≡ false → xs ≡ []
empty_if [] none = refl
empty_if (x ∷ xs) none = let some = ap not (ne_eqb (length (x ∷ xs)) 0 (λ e. omega arith)) in absurd cc

beside_filled : {T : Type 0} (set : List Bool) (rows : List (List T)) → length set ≡ length rows
    → AreEmptyBeside set (zip_with ◌&&◌ (map (λ row. not (is_empty row)) rows) set) rows
beside_filled [] rows long at here none = absurd cc
beside_filled (h ∷ set) [] long at here none = absurd (omega arith)
beside_filled (h ∷ set) (row ∷ rows) long zero here none = empty_if row (first_fails (not (is_empty row)) h here none)
beside_filled (h ∷ set) (row ∷ rows) long (suc at) here none = beside_filled set rows (omega arith) at here none

pub empty_beside : {T : Type 0} (set : List Bool) (rows : List (List T)) (filled : List Bool) → length set ≡ length rows
    → filled ≡ zip_with ◌&&◌ (map (λ row. not (is_empty row)) rows) set → AreEmptyBeside set filled rows
empty_beside set rows filled long is at here none = beside_filled set rows long at here (sym (ap (λ l. contains l at) is) ∙ none)

-- so it is where each item is changed
pub beside_changed : {T U : Type 0} (f : T → U) (set filled : List Bool) (rows : List (List T)) → length set ≡ length rows
    → AreEmptyBeside set filled rows → AreEmptyBeside set filled (map (map f) rows)
beside_changed f set filled rows long empty at here none =
    get_or-map (map f) rows at [] [] (let within = contained set at here in omega arith) ∙ ap (map f) (empty at here none)

kept_there : {T : Type 0} (set : List Bool) (rows : List (List T)) (at : ℕ) → contains (zip_with ◌&&◌ (map (λ row. not (is_empty row)) rows) set) at ≡ true → contains set at ≡ true
kept_there set [] at here = absurd cc
kept_there [] (row ∷ rows) at here = absurd cc
kept_there (h ∷ set) (row ∷ rows) zero here = both (not (is_empty row)) h here
kept_there (h ∷ set) (row ∷ rows) (suc at) here = kept_there set rows at here

pub kept_if_filled : {T : Type 0} (set : List Bool) (rows : List (List T)) (filled : List Bool) → filled ≡ zip_with ◌&&◌ (map (λ row. not (is_empty row)) rows) set
    → (at : ℕ) → contains filled at ≡ true → contains set at ≡ true
kept_if_filled set rows filled is at here = kept_there set rows at (sym (ap (λ l. contains l at) is) ∙ here)

-- ---- the rows between two positions, where all of them are empty
pub record HasGap {T : Type 0} (set : List Bool) (rows : List (List T)) (from to : ℕ) : Type 0 where
  pub more : ℕ
  pub count : kept_before set to ≡ kept_before set from + more
  pub is : take (kept_before set to) (items_where_true set rows) ≡ take (kept_before set from) (items_where_true set rows) ++ replicate more []

-- ---- one filled row after another
-- behind the first rows stand those of the positions before one
pub record AreAdded {T : Type 0} (set : List Bool) (rows first : List (List T)) (now : Laid T) (from : ℕ) : Type 0 where
  pub within : from ≤ length set
  pub made : now ≡ record { rows = first ++ take (kept_before set from) (items_where_true set rows); next = [] }

pub none_added : {T : Type 0} (set : List Bool) (rows : List (List T)) (now : Laid T) → now.next ≡ [] → AreAdded set rows now.rows now 0
none_added set rows now whole = record {
  within = omega arith;
  made = ap (λ next. record { rows = now.rows; next = next }) whole ∙ ap (λ l. record { rows = l; next = [] }) (sym (append-nil now.rows));
}

-- rows behind which empty ones and one more are put
grown : {T : Type 0} (first rows reached : List (List T)) (now skipped new : Laid T) (row : List T) (width more : ℕ) → now ≡ record { rows = first ++ rows; next = [] } → width ≡ more
    → skipped ≡ record { rows = now.rows ++ replicate width []; next = [] } → new ≡ record { rows = skipped.rows ++ row ∷ []; next = [] }
    → reached ≡ (rows ++ replicate more []) ++ row ∷ [] → new ≡ record { rows = first ++ reached; next = [] }
grown first rows reached now skipped new row width more now_is width_is skipped_is new_is reached_is =
    new_is
    ∙ ap (λ l. record { rows = l.rows ++ row ∷ []; next = [] }) skipped_is
    ∙ ap₂ (λ l n. record { rows = (l.rows ++ replicate n []) ++ row ∷ []; next = [] }) now_is width_is
    ∙ ap (λ l. record { rows = l; next = [] })
    (ap (λ l. l ++ row ∷ []) (append_assoc first rows (replicate more [])) ∙ append_assoc first (rows ++ replicate more []) (row ∷ []) ∙ ap (λ l. first ++ l) (sym reached_is))

grown_empty : {T : Type 0} (first rows reached : List (List T)) (now new : Laid T) (width more : ℕ) → now ≡ record { rows = first ++ rows; next = [] } → width ≡ more
    → new ≡ record { rows = now.rows ++ replicate width []; next = [] } → reached ≡ rows ++ replicate more [] → new ≡ record { rows = first ++ reached; next = [] }
grown_empty first rows reached now new width more now_is width_is new_is reached_is =
    new_is
    ∙ ap₂ (λ l n. record { rows = l.rows ++ replicate n []; next = [] }) now_is width_is
    ∙ ap (λ l. record { rows = l; next = [] }) (append_assoc first rows (replicate more []) ∙ ap (λ l. first ++ l) (sym reached_is))

module _ {T : Type 0} (set filled : List Bool) (rows : List (List T)) (long : length set ≡ length rows) (empty : AreEmptyBeside set filled rows) where
  with_row : (at : ℕ) → contains set at ≡ true
      → take (kept_before set at + 1) (items_where_true set rows) ≡ take (kept_before set at) (items_where_true set rows) ++ get_or rows at [] ∷ []
  with_row at here =
      take_more (items_where_true set rows) (kept_before set at) [] (omega (arith, kept_before-less set at here, length-items_where_true set rows long))
      ∙ ap (λ row. take (kept_before set at) (items_where_true set rows) ++ row ∷ []) (kept_at set rows at [] long here)

  wider : (from to : ℕ) → contains filled to ≡ false → HasGap set rows from to → HasGap set rows from (suc to)
  wider from to none gap = go (contains set to) refl
    where
      nothing : List T
      nothing = []

      go : (b : Bool) → contains set to ≡ b → HasGap set rows from (suc to)
      go true here =
          let next : kept_before set (suc to) ≡ kept_before set to + 1 = kept_before-next set to ∙ ap (λ b. kept_before set to + cond b 1 0) here in
          record {
            more = gap.more + 1;
            count = omega (arith, next, gap.count);
            is = ap (λ n. take n (items_where_true set rows)) next ∙ with_row to here
                ∙ ap₂ (λ l row. l ++ row ∷ []) gap.is (empty to here none)
                ∙ append_assoc (take (kept_before set from) (items_where_true set rows)) (replicate gap.more []) ([] ∷ [])
                ∙ ap (λ l. take (kept_before set from) (items_where_true set rows) ++ l) (replicate_more gap.more []);
          }
      go false here =
          let next : kept_before set (suc to) ≡ kept_before set to = kept_before-next set to ∙ ap (λ b. kept_before set to + cond b 1 0) here ∙ add-zero (kept_before set to) in
          record {
            more = gap.more;
            count = next ∙ gap.count;
            is = ap (λ n. take n (items_where_true set rows)) next ∙ gap.is;
          }

  gap_from : (from n : ℕ) → ((k : ℕ) → from ≤ k → k < from + n → contains filled k ≡ false) → HasGap set rows from (from + n)
  gap_from from zero none = subst (HasGap set rows from) (sym (add-zero from)) (record {
    more = 0;
    count = sym (add-zero (kept_before set from));
    is = sym (append-nil (take (kept_before set from) (items_where_true set rows)));
  })
  gap_from from (suc n) none =
      let next : suc (from + n) ≡ from + suc n = omega arith in
      subst (HasGap set rows from) next
      (wider from (from + n) (none (from + n) (omega arith) (omega arith)) (gap_from from n (λ k low below. none k low (omega arith))))

  pub one_added : (first : List (List T)) (now skipped new : Laid T) (from at width : ℕ) (row : List T) → AreAdded set rows first now from
      → IsNextFrom (contains filled) from at → contains set at ≡ true → kept_before set from + width ≡ kept_before set at → row ≡ get_or rows at []
      → skipped ≡ record { rows = now.rows ++ replicate width []; next = [] } → new ≡ record { rows = skipped.rows ++ row ∷ []; next = [] }
      → AreAdded set rows first new (at + 1)
  one_added first now skipped new from at width row added next here counted row_is skipped_is new_is =
      let behind = next.behind in
      let to : from + (at - from) ≡ at = omega arith in
      let gap = subst (HasGap set rows from) to (gap_from from (at - from) (λ k low below. next.none_between k low (omega arith))) in
      let width_is : width ≡ gap.more = omega (arith, gap.count, counted) in
      let after : suc at ≡ at + 1 = omega arith in
      let more : kept_before set (at + 1) ≡ kept_before set at + 1 =
      ap (kept_before set) (sym after) ∙ kept_before-next set at ∙ ap (λ b. kept_before set at + cond b 1 0) here in
      let reached : take (kept_before set (at + 1)) (items_where_true set rows) ≡ (take (kept_before set from) (items_where_true set rows) ++ replicate gap.more []) ++ row ∷ [] =
      ap (λ n. take n (items_where_true set rows)) more ∙ with_row at here ∙ ap₂ (λ l r. l ++ r ∷ []) gap.is (sym row_is) in
      record {
        within = omega (arith, contained set at here);
        made = grown first (take (kept_before set from) (items_where_true set rows)) (take (kept_before set (at + 1)) (items_where_true set rows)) now skipped new row width gap.more
            added.made width_is skipped_is new_is reached;
      }

  pub all_added : (first : List (List T)) (now new : Laid T) (from width end : ℕ) → AreAdded set rows first now from
      → HasNoneFrom (contains filled) from → end ≡ length set → kept_before set from + width ≡ kept_before set end → new ≡ record { rows = now.rows ++ replicate width []; next = [] }
      → new ≡ record { rows = first ++ items_where_true set rows; next = [] }
  all_added first now new from width end added none end_is counted new_is =
      let low = added.within in
      let to : from + (end - from) ≡ end = omega arith in
      let gap = subst (HasGap set rows from) to (gap_from from (end - from) (λ k low below. none k low)) in
      let width_is : width ≡ gap.more = omega (arith, gap.count, counted) in
      let total = kept_before-all set end (omega arith) in
      let all : take (kept_before set end) (items_where_true set rows) ≡ items_where_true set rows =
      take_all (kept_before set end) (items_where_true set rows) (omega (arith, total, length-items_where_true set rows long)) in
      grown_empty first (take (kept_before set from) (items_where_true set rows)) (items_where_true set rows) now new width gap.more
      added.made width_is new_is (sym all ∙ gap.is)

-- where all rows are empty
pub empty_added : {T : Type 0} (set : List Bool) (rows : List (List T)) (now new : Laid T) (total : ℕ) → length set ≡ length rows → All (λ row. row ≡ []) rows
    → total ≡ count_by (λ here. here) set → new ≡ record { rows = now.rows ++ replicate total []; next = [] }
    → new ≡ record { rows = now.rows ++ items_where_true set rows; next = [] }
empty_added {T} set rows now new total long empty total_is new_is =
    new_is ∙ ap (λ l. record { rows = now.rows ++ l; next = [] }) (ap (λ n. replicate n []) total_is ∙ sym (all_empty set rows long empty))
  where
    nothing : List T
    nothing = []

    all_empty : (set : List Bool) (rows : List (List T)) → length set ≡ length rows → All (λ row. row ≡ nothing) rows → items_where_true set rows ≡ replicate (count_by (λ here. here) set) nothing
    all_empty [] rows long empty = refl
    all_empty (h ∷ set) [] long empty = absurd (omega arith)
    all_empty (true ∷ set) (row ∷ rows) long empty =
        let one : suc (count_by (λ here. here) set) ≡ count_by (λ here. here) (true ∷ set) = omega (arith, count_by-cons (λ here. here) true set) in
        ap₂ (λ r l. r ∷ l) (empty 0 row (omega arith)) (all_empty set rows (omega arith) (λ k d inside. empty (suc k) d (omega arith)))
        ∙ ap (λ n. replicate n nothing) one
    all_empty (false ∷ set) (row ∷ rows) long empty =
        let none : count_by (λ here. here) set ≡ count_by (λ here. here) (false ∷ set) = omega (arith, count_by-cons (λ here. here) false set) in
        all_empty set rows (omega arith) (λ k d inside. empty (suc k) d (omega arith)) ∙ ap (λ n. replicate n nothing) none
