-- Numbers of terms of several columns, one column behind the other.
use Rattle.std.proofs.Common.{◌≡◌, ℕ, zero, suc, ◌+◌, ◌-◌, ◌<◌, ◌≤◌, ◌⊎◌, inl, inr, Bool, true, false, cond, ◌||◌, ◌&&◌, ◌==◌, List, [], ◌∷◌, ◌++◌, length, get_or, drop, map, All, refl, sym, ap, ap₂, subst, ◌∙◌, arith, add-zero, eq-eqb, ne_eqb, eqb-true, append_assoc, length-append}
use Rattle.std.specs.List.{list_any, items_where_true, range_with_len}
use Rattle.std.proofs.lemmas.Bool.{cases_lt}
use Rattle.std.proofs.Math.Seq.{drop-cons}
use Rattle.std.proofs.lemmas.Simd.{map-map}
use Rattle.std.proofs.lemmas.List.{get_or-append-add, length-map}
use Rattle.std.proofs.lemmas.List.Elements.{All-append}
use Rattle.std.proofs.lemmas.List.Folds.{list_any-append, list_any_at}
use Rattle.std.proofs.lemmas.List.FromFn.{get_or-map-range_with_len}
use Rattle.fc_spec.specs.documents.Val.{Text, same_text}
use Rattle.fc_spec.proofs.words.WhereTrue.{items_where_true-map}
use Rattle.fc_docset.specs.Positions.{contains, positions, positions_from}
use Rattle.fc_lists.specs.Among.{is_among}
use Rattle.fc_column.specs.Dictionary.{term_at}
use Rattle.fc_column.specs.MergedTerms.{HaveOneText}
use Rattle.fc_column.specs.Terms.{has_text}
use Rattle.fc_column.specs.Numbering.{has_number, text_numbered, texts_numbered}
use Rattle.fc_column.specs.TextMerger.{numbered_terms, used_numbers}

or_true : (b : Bool) → (b || true) ≡ true
or_true true = refl
or_true false = refl

-- ---- the text of a number

-- what holds of each number with its text
pub by_number : (Q : ℕ → Text → Type 0) (texts : List (Text × ℕ)) (n : ℕ) → All (λ one. Q one.1 one.0) texts → has_number n texts ≡ true → Q n (text_numbered texts n)
by_number Q [] n all has = absurd cc
by_number Q (one ∷ texts) n all has = go (one.1 == n) refl has (by_number Q texts n (λ k d inside. all (suc k) d (omega arith)))
  where
    go : (b : Bool) → (one.1 == n) ≡ b → (b || has_number n texts) ≡ true → (has_number n texts ≡ true → Q n (text_numbered texts n)) → Q n (cond b one.0 (text_numbered texts n))
    go true same there rest = subst (λ m. Q m one.0) (eqb-true one.1 n same) (all 0 one (omega arith))
    go false other there rest = rest there

has_number-append : (n : ℕ) (xs ys : List (Text × ℕ)) → has_number n (xs ++ ys) ≡ (has_number n xs || has_number n ys)
has_number-append n xs ys = list_any-append (λ one. one.1 == n) xs ys

pub has_number-front : (n : ℕ) (xs ys : List (Text × ℕ)) → has_number n xs ≡ true → has_number n (xs ++ ys) ≡ true
has_number-front n xs ys has = has_number-append n xs ys ∙ ap (λ b. b || has_number n ys) has

pub has_number-back : (n : ℕ) (xs ys : List (Text × ℕ)) → has_number n ys ≡ true → has_number n (xs ++ ys) ≡ true
has_number-back n xs ys has = has_number-append n xs ys ∙ ap (λ b. has_number n xs || b) has ∙ or_true (has_number n xs)

text_numbered-back : (n : ℕ) (xs ys : List (Text × ℕ)) → All (λ one. one.1 < n) xs → text_numbered (xs ++ ys) n ≡ text_numbered ys n
text_numbered-back n [] ys less = refl
text_numbered-back n (one ∷ xs) ys less =
    ap (λ b. cond b one.0 (text_numbered (xs ++ ys) n)) (ne_eqb one.1 n (λ same. let before = less 0 one (omega arith) in omega arith))
    ∙ text_numbered-back n xs ys (λ k d inside. less (suc k) d (omega arith))

-- ---- the terms of one column

-- a number of a term, and its text
pub record IsOfTerm (first : ℕ) (terms : List Text) (one : Text × ℕ) : Type 0 where
  pub from : first ≤ one.1
  pub to : one.1 < first + length terms
  pub is : get_or terms (one.1 - first) [] ≡ one.0

further : (first : ℕ) (t : Text) (terms : List Text) (one : Text × ℕ) → IsOfTerm (first + 1) terms one → IsOfTerm first (t ∷ terms) one
further first t terms one is = record {
  from = omega (arith, is.from);
  to = omega (arith, is.to);
  is = let from = is.from in let more : one.1 - first ≡ suc (one.1 - (first + 1)) = omega arith in ap (λ n. get_or (t ∷ terms) n []) more ∙ is.is;
}

pub of_terms : (first : ℕ) (terms : List Text) (used : List Bool) → All (IsOfTerm first terms) (numbered_terms first terms used)
of_terms first [] used = λ k d inside. absurd (omega arith)
of_terms first (t ∷ terms) [] = λ k d inside. absurd (omega arith)
of_terms first (t ∷ terms) (true ∷ used) = go (of_terms (first + 1) terms used)
  where
    go : All (IsOfTerm (first + 1) terms) (numbered_terms (first + 1) terms used) → All (IsOfTerm first (t ∷ terms)) (numbered_terms first (t ∷ terms) (true ∷ used))
    go rest zero d inside = record { from = omega arith; to = omega arith; is = (let none : first - first ≡ 0 = omega arith in ap (λ n. get_or (t ∷ terms) n []) none) }
    go rest (suc k) d inside = further first t terms _ (rest k d (omega arith))
of_terms first (t ∷ terms) (false ∷ used) = go (of_terms (first + 1) terms used)
  where
    go : All (IsOfTerm (first + 1) terms) (numbered_terms (first + 1) terms used) → All (IsOfTerm first (t ∷ terms)) (numbered_terms first (t ∷ terms) (false ∷ used))
    go rest k d inside = further first t terms _ (rest k d inside)

-- a term that is used has its number, and no other text has it
pub used_number : (first : ℕ) (terms : List Text) (used : List Bool) (ord : ℕ) → ord < length terms → get_or used ord false ≡ true → has_number (first + ord) (numbered_terms first terms used) ≡ true
used_number first [] used ord inside is = absurd (omega arith)
used_number first (t ∷ terms) [] ord inside is = absurd cc
used_number first (t ∷ terms) (true ∷ used) zero inside is = ap (λ b. b || has_number (first + 0) (numbered_terms (first + 1) terms used)) (eq-eqb first (first + 0) (omega arith))
used_number first (t ∷ terms) (false ∷ used) zero inside is = absurd cc
used_number first (t ∷ terms) (true ∷ used) (suc ord) inside is =
    let more : first + suc ord ≡ first + 1 + ord = omega arith in
    ap (λ n. has_number n (numbered_terms first (t ∷ terms) (true ∷ used))) more
    ∙ ap (λ b. (first == (first + 1 + ord)) || b) (used_number (first + 1) terms used ord (omega arith) is) ∙ or_true (first == (first + 1 + ord))
used_number first (t ∷ terms) (false ∷ used) (suc ord) inside is =
    let more : first + suc ord ≡ first + 1 + ord = omega arith in
    ap (λ n. has_number n (numbered_terms (first + 1) terms used)) more ∙ used_number (first + 1) terms used ord (omega arith) is

pub texts_of_terms : (first : ℕ) (terms : List Text) (used : List Bool) → texts_numbered (numbered_terms first terms used) ≡ items_where_true used terms
texts_of_terms first [] [] = refl
texts_of_terms first [] (u ∷ used) = refl
texts_of_terms first (t ∷ terms) [] = refl
texts_of_terms first (t ∷ terms) (true ∷ used) = ap (λ l. t ∷ l) (texts_of_terms (first + 1) terms used)
texts_of_terms first (t ∷ terms) (false ∷ used) = texts_of_terms (first + 1) terms used

-- ---- with the terms of one more column
module _ (old : List (Text × ℕ)) (first : ℕ) (terms : List Text) (used : List Bool) (below : All (λ one. one.1 < first) old) where
  new : List (Text × ℕ)
  new = numbered_terms first terms used

  pub below_more : All (λ one. one.1 < first + length terms) (old ++ numbered_terms first terms used)
  below_more =
      All-append (λ one. one.1 < first + length terms) old (numbered_terms first terms used) (λ k d inside. let less = below k d inside in omega arith)
      (λ k d inside. (of_terms first terms used k d inside).to)

  pub one_text : HaveOneText old → HaveOneText (old ++ numbered_terms first terms used)
  one_text own =
      All-append (λ a. All (λ b. a.1 ≡ b.1 → a.0 ≡ b.0) (old ++ fresh)) old fresh
      (λ k d inside. All-append (λ b. (get_or old k d).1 ≡ b.1 → (get_or old k d).0 ≡ b.0) old fresh (own k d inside)
      (λ j e within same. let less = below k d inside in let from = (of_terms first terms used j e within).from in absurd (omega arith)))
      (λ k d inside. All-append (λ b. (get_or fresh k d).1 ≡ b.1 → (get_or fresh k d).0 ≡ b.0) old fresh
      (λ j e within same. let less = below j e within in let from = (of_terms first terms used k d inside).from in absurd (omega arith))
      (λ j e within same. sym (of_terms first terms used k d inside).is ∙ ap (λ n. get_or terms (n - first) []) same ∙ (of_terms first terms used j e within).is))
    where
      fresh : List (Text × ℕ)
      fresh = numbered_terms first terms used

  -- the text of a used term's number
  pub term_text : (ord : ℕ) → ord < length terms → get_or used ord false ≡ true → text_numbered (old ++ numbered_terms first terms used) (ord + first) ≡ term_at terms ord
  term_text ord inside is =
      let more : ord + first ≡ first + ord = omega arith in
      let place : first + ord - first ≡ ord = omega arith in
      ap (text_numbered (old ++ numbered_terms first terms used)) more
      ∙ text_numbered-back (first + ord) old (numbered_terms first terms used) (λ k d within. let less = below k d within in omega arith)
      ∙ sym (by_number (λ n t. get_or terms (n - first) [] ≡ t) (numbered_terms first terms used) (first + ord) (λ k d within. (of_terms first terms used k d within).is) (used_number first terms used ord inside is))
      ∙ ap (λ n. get_or terms n []) place

  pub term_number : (ord : ℕ) → ord < length terms → get_or used ord false ≡ true → has_number (ord + first) (old ++ numbered_terms first terms used) ≡ true
  term_number ord inside is =
      let more : ord + first ≡ first + ord = omega arith in
      ap (λ n. has_number n (old ++ numbered_terms first terms used)) more ∙ has_number-back (first + ord) old (numbered_terms first terms used) (used_number first terms used ord inside is)

-- ---- rows

row_by : (f g : ℕ → Text) (row : List ℕ) → All (λ n. f n ≡ g n) row → map f row ≡ map g row
row_by f g [] same = refl
row_by f g (n ∷ row) same = ap₂ (λ t l. t ∷ l) (same 0 n (omega arith)) (row_by f g row (λ k d inside. same (suc k) d (omega arith)))

pub rows_by : (f g : ℕ → Text) (rows : List (List ℕ)) → All (All (λ n. f n ≡ g n)) rows → map (map f) rows ≡ map (map g) rows
rows_by f g [] same = refl
rows_by f g (row ∷ rows) same = ap₂ (λ r l. r ∷ l) (row_by f g row (same 0 row (omega arith))) (rows_by f g rows (λ k d inside. same (suc k) d (omega arith)))

moved_row : (f : ℕ → Text) (more : ℕ) (row : List ℕ) → map f (map (λ n. n + more) row) ≡ map (λ n. f (n + more)) row
moved_row f more [] = refl
moved_row f more (n ∷ row) = ap (λ l. f (n + more) ∷ l) (moved_row f more row)

pub moved_rows : (f : ℕ → Text) (more : ℕ) (rows : List (List ℕ)) → map (map f) (map (map (λ n. n + more)) rows) ≡ map (map (λ n. f (n + more))) rows
moved_rows f more [] = refl
moved_rows f more (row ∷ rows) = ap₂ (λ r l. r ∷ l) (moved_row f more row) (moved_rows f more rows)

-- ---- which terms are used

any_kept : (pre live set : List Bool) → length live ≡ length set
    → list_any (contains (pre ++ live)) (positions_from (length pre) set) ≡ list_any (λ here. here) (items_where_true live set)
any_kept pre [] [] e = refl
any_kept pre [] (s ∷ set) e = absurd (omega arith)
any_kept pre (h ∷ live) [] e = absurd (omega arith)
any_kept pre (h ∷ live) (s ∷ set) e = go s (rest (any_kept (pre ++ h ∷ []) live set (omega arith)))
  where
    rest : list_any (contains ((pre ++ h ∷ []) ++ live)) (positions_from (length (pre ++ h ∷ [])) set) ≡ list_any (λ here. here) (items_where_true live set)
        → list_any (contains (pre ++ h ∷ live)) (items_where_true set (range_with_len (length pre + 1) (length set))) ≡ list_any (λ here. here) (items_where_true live set)
    rest is =
        ap (λ l. list_any (contains l) (items_where_true set (range_with_len (length pre + 1) (length set)))) (sym (append_assoc pre (h ∷ []) live))
        ∙ ap (λ n. list_any (contains ((pre ++ h ∷ []) ++ live)) (items_where_true set (range_with_len n (length set)))) (sym (length-append pre (h ∷ []))) ∙ is

    here : contains (pre ++ h ∷ live) (length pre) ≡ h
    here = ap (λ n. get_or (pre ++ h ∷ live) n false) (sym (add-zero (length pre))) ∙ get_or-append-add pre (h ∷ live) 0 false

    taken : (x : Bool) → (x || list_any (λ b. b) (items_where_true live set)) ≡ list_any (λ b. b) (items_where_true (x ∷ live) (true ∷ set))
    taken true = refl
    taken false = refl

    left : (x : Bool) → list_any (λ b. b) (items_where_true live set) ≡ list_any (λ b. b) (items_where_true (x ∷ live) (false ∷ set))
    left true = refl
    left false = refl

    go : (s : Bool) → list_any (contains (pre ++ h ∷ live)) (items_where_true set (range_with_len (length pre + 1) (length set))) ≡ list_any (λ b. b) (items_where_true live set)
        → list_any (contains (pre ++ h ∷ live)) (positions_from (length pre) (s ∷ set)) ≡ list_any (λ b. b) (items_where_true (h ∷ live) (s ∷ set))
    go true is = ap₂ (λ a b. a || b) here is ∙ taken h
    go false is = is ∙ left h

any_map : {X Y : Type 0} (p : Y → Bool) (f : X → Y) (xs : List X) → list_any p (map f xs) ≡ list_any (λ x. p (f x)) xs
any_map p f [] = refl
any_map p f (x ∷ xs) = ap (λ b. p (f x) || b) (any_map p f xs)

-- a number has a kept position where it is in a kept row
used_one : (live : List Bool) (rows : List (List ℕ)) (ord : ℕ) → length live ≡ length rows
    → list_any (contains live) (positions (map (is_among ord) rows)) ≡ list_any (is_among ord) (items_where_true live rows)
used_one live rows ord long =
    any_kept [] live (map (is_among ord) rows) (long ∙ sym (length-map rows (is_among ord)))
    ∙ ap (list_any (λ here. here)) (items_where_true-map (is_among ord) live rows) ∙ any_map (λ here. here) (is_among ord) (items_where_true live rows)

pub used_are : (live : List Bool) (rows : List (List ℕ)) (count : ℕ) (lists : List (List ℕ)) → length live ≡ length rows → lists ≡ map (λ ord. positions (map (is_among ord) rows)) (range_with_len 0 count)
    → map (list_any (contains live)) lists ≡ used_numbers count (items_where_true live rows)
used_are live rows count lists long is =
    ap (map (list_any (contains live))) is ∙ map-map (list_any (contains live)) (λ ord. positions (map (is_among ord) rows)) (range_with_len 0 count)
    ∙ (λ i. map (λ ord. used_one live rows ord long i) (range_with_len 0 count))

pub used_at : (count : ℕ) (rows : List (List ℕ)) (ord : ℕ) → ord < count → get_or (used_numbers count rows) ord false ≡ list_any (is_among ord) rows
used_at count rows ord inside = get_or-map-range_with_len (λ n. list_any (is_among n) rows) 0 count ord ord false inside (omega arith)

-- a number of a row is used
pub in_row : (rows : List (List ℕ)) (k : ℕ) (d : List ℕ) (j e : ℕ) → k < length rows → j < length (get_or rows k d) → list_any (is_among (get_or (get_or rows k d) j e)) rows ≡ true
in_row rows k d j e inside within =
    let row = get_or rows k d in
    list_any_at (is_among (get_or row j e)) rows k d inside (list_any_at (λ n. get_or row j e == n) row j e within (eq-eqb (get_or row j e) (get_or row j e) refl))

-- ---- the texts of used terms are those of the kept rows

any_false : {X : Type 0} (xs : List X) → list_any (λ x. false) xs ≡ false
any_false [] = refl
any_false (x ∷ xs) = any_false xs

any_either : {X : Type 0} (f g : X → Bool) (xs : List X) → list_any (λ x. f x || g x) xs ≡ (list_any f xs || list_any g xs)
any_either f g [] = refl
any_either f g (x ∷ xs) = ap (λ b. (f x || g x) || b) (any_either f g xs) ∙ swap (f x) (g x) (list_any f xs) (list_any g xs)
  where
    swap : (a b c d : Bool) → ((a || b) || (c || d)) ≡ ((a || c) || (b || d))
    swap true b c d = refl
    swap false true true d = refl
    swap false true false d = refl
    swap false false c d = refl

share : (a b q : Bool) → ((a || b) && q) ≡ ((a && q) || (b && q))
share true true true = refl
share true true false = refl
share true false true = refl
share true false false = refl
share false b q = refl

-- one number among a range
none_in_range : (q : ℕ → Bool) (r a n : ℕ) → r < a → list_any (λ o. (o == r) && q o) (range_with_len a n) ≡ false
none_in_range q r a zero past = refl
none_in_range q r a (suc n) past =
    ap₂ (λ b c. (b && q a) || c) (ne_eqb a r (λ e. omega arith)) (none_in_range q r (a + 1) n (omega arith))

one_in_range : (q : ℕ → Bool) (r a n : ℕ) → a ≤ r → r < a + n → list_any (λ o. (o == r) && q o) (range_with_len a n) ≡ q r
one_in_range q r a zero low high = absurd (omega arith)
one_in_range q r a (suc n) low high = go (cases_lt a r) (λ before. one_in_range q r (a + 1) n before (omega arith))
  where
    or_false : (b : Bool) → (b || false) ≡ b
    or_false true = refl
    or_false false = refl

    go : ((a < r) ⊎ (r ≤ a)) → (a + 1 ≤ r → list_any (λ o. (o == r) && q o) (range_with_len (a + 1) n) ≡ q r) → list_any (λ o. (o == r) && q o) (range_with_len a (suc n)) ≡ q r
    go (inl before) rest = ap₂ (λ b c. (b && q a) || c) (ne_eqb a r (λ e. omega arith)) (rest (omega arith))
    go (inr here) rest =
        let same : a ≡ r = omega arith in
        ap₂ (λ b c. (b && q a) || c) (eq-eqb a r same) (none_in_range q r (a + 1) n (omega arith)) ∙ or_false (q a) ∙ ap q same

row_in_range : (q : ℕ → Bool) (m : ℕ) (row : List ℕ) → All (λ n. n < m) row → list_any (λ o. is_among o row && q o) (range_with_len 0 m) ≡ list_any q row
row_in_range q m [] within = any_false (range_with_len 0 m)
row_in_range q m (r ∷ row) within =
    (λ i. list_any (λ o. share (o == r) (is_among o row) (q o) i) (range_with_len 0 m))
    ∙ any_either (λ o. (o == r) && q o) (λ o. is_among o row && q o) (range_with_len 0 m)
    ∙ ap₂ (λ a b. a || b) (one_in_range q r 0 m (omega arith) (let below = within 0 r (omega arith) in omega arith)) (row_in_range q m row (λ k d inside. within (suc k) d (omega arith)))

rows_in_range : (q : ℕ → Bool) (m : ℕ) (rows : List (List ℕ)) → All (All (λ n. n < m)) rows → list_any (λ o. list_any (is_among o) rows && q o) (range_with_len 0 m) ≡ list_any (list_any q) rows
rows_in_range q m [] within = any_false (range_with_len 0 m)
rows_in_range q m (row ∷ rows) within =
    (λ i. list_any (λ o. share (is_among o row) (list_any (is_among o) rows) (q o) i) (range_with_len 0 m))
    ∙ any_either (λ o. is_among o row && q o) (λ o. list_any (is_among o) rows && q o) (range_with_len 0 m)
    ∙ ap₂ (λ a b. a || b) (row_in_range q m row (within 0 row (omega arith))) (rows_in_range q m rows (λ k d inside. within (suc k) d (omega arith)))

picked_terms : (p : Text → Bool) (u : ℕ → Bool) (pre terms : List Text)
    → list_any p (items_where_true (map u (range_with_len (length pre) (length terms))) terms) ≡ list_any (λ o. u o && p (get_or (pre ++ terms) o [])) (range_with_len (length pre) (length terms))
picked_terms p u pre [] = refl
picked_terms p u pre (t ∷ terms) = go (u (length pre)) (rest (picked_terms p u (pre ++ t ∷ []) terms))
  where
    rest : list_any p (items_where_true (map u (range_with_len (length (pre ++ t ∷ [])) (length terms))) terms) ≡ list_any (λ o. u o && p (get_or ((pre ++ t ∷ []) ++ terms) o [])) (range_with_len (length (pre ++ t ∷ [])) (length terms))
        → list_any p (items_where_true (map u (range_with_len (length pre + 1) (length terms))) terms) ≡ list_any (λ o. u o && p (get_or (pre ++ t ∷ terms) o [])) (range_with_len (length pre + 1) (length terms))
    rest is =
        ap (λ n. list_any p (items_where_true (map u (range_with_len n (length terms))) terms)) (sym (length-append pre (t ∷ []))) ∙ is
        ∙ ap (λ n. list_any (λ o. u o && p (get_or ((pre ++ t ∷ []) ++ terms) o [])) (range_with_len n (length terms))) (length-append pre (t ∷ []))
        ∙ ap (λ l. list_any (λ o. u o && p (get_or l o [])) (range_with_len (length pre + 1) (length terms))) (append_assoc pre (t ∷ []) terms)

    here : get_or (pre ++ t ∷ terms) (length pre) [] ≡ t
    here = ap (λ n. get_or (pre ++ t ∷ terms) n []) (sym (add-zero (length pre))) ∙ get_or-append-add pre (t ∷ terms) 0 []

    go : (b : Bool) → list_any p (items_where_true (map u (range_with_len (length pre + 1) (length terms))) terms) ≡ list_any (λ o. u o && p (get_or (pre ++ t ∷ terms) o [])) (range_with_len (length pre + 1) (length terms))
        → list_any p (items_where_true (b ∷ map u (range_with_len (length pre + 1) (length terms))) (t ∷ terms))
        ≡ ((b && p (get_or (pre ++ t ∷ terms) (length pre) [])) || list_any (λ o. u o && p (get_or (pre ++ t ∷ terms) o [])) (range_with_len (length pre + 1) (length terms)))
    go true is = ap₂ (λ v b. p v || b) (sym here) is
    go false is = is

pub used_texts : (t : Text) (terms : List Text) (rows : List (List ℕ)) → All (All (λ n. n < length terms)) rows
    → has_text t (items_where_true (used_numbers (length terms) rows) terms) ≡ list_any (has_text t) (map (map (term_at terms)) rows)
used_texts t terms rows within =
    picked_terms (same_text t) (λ o. list_any (is_among o) rows) [] terms
    ∙ rows_in_range (λ o. same_text t (term_at terms o)) (length terms) rows within
    ∙ sym (any_map (has_text t) (map (term_at terms)) rows ∙ (λ i. list_any (λ row. any_map (same_text t) (term_at terms) row i) rows))

-- ---- one term after another

pub numbered_next : (first ord : ℕ) (terms : List Text) (used : List Bool) → length used ≡ length terms → ord < length terms
    → numbered_terms (first + ord) (drop ord terms) (drop ord used)
    ≡ cond (get_or used ord false) ((get_or terms ord [], first + ord) ∷ numbered_terms (first + (ord + 1)) (drop (ord + 1) terms) (drop (ord + 1) used))
    (numbered_terms (first + (ord + 1)) (drop (ord + 1) terms) (drop (ord + 1) used))
numbered_next first ord terms used even inside =
    let more : suc ord ≡ ord + 1 = omega arith in
    let next : first + ord + 1 ≡ first + (ord + 1) = omega arith in
    ap₂ (numbered_terms (first + ord)) (drop-cons terms ord [] inside ∙ ap (λ n. get_or terms ord [] ∷ drop n terms) more) (drop-cons used ord false (omega arith) ∙ ap (λ n. get_or used ord false ∷ drop n used) more)
    ∙ by (get_or used ord false) ∙ ap (λ n. cond (get_or used ord false) ((get_or terms ord [], first + ord) ∷ numbered_terms n (drop (ord + 1) terms) (drop (ord + 1) used)) (numbered_terms n (drop (ord + 1) terms) (drop (ord + 1) used))) next
  where
    by : (b : Bool) → numbered_terms (first + ord) (get_or terms ord [] ∷ drop (ord + 1) terms) (b ∷ drop (ord + 1) used)
        ≡ cond b ((get_or terms ord [], first + ord) ∷ numbered_terms (first + ord + 1) (drop (ord + 1) terms) (drop (ord + 1) used)) (numbered_terms (first + ord + 1) (drop (ord + 1) terms) (drop (ord + 1) used))
    by true = refl
    by false = refl
