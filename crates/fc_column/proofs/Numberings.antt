-- Texts with numbers, after a look-up and after one more.
use Rattle.std.proofs.Common.{◌≡◌, ℕ, suc, ◌+◌, ◌^◌, ◌<◌, inl, inr, Bool, true, false, true≢false, cond, ◌||◌, ◌==◌, Some, List, [], ◌∷◌, ◌++◌, length, get_or, All, refl, sym, ap, ap₂, ◌∙◌, subst, arith, eq-eqb, eqb-true, length-append}
use Rattle.std.proofs.lemmas.Bool.{or_parts, or_cases, or_right, false_from_ne_true}
use Rattle.std.proofs.lemmas.List.{map-append, get_or-map, length-map}
use Rattle.std.proofs.lemmas.List.Elements.{All-push}
use Rattle.std.proofs.lemmas.List.Folds.{list_any_at, list_any-append}
use Rattle.std.specs.Cmp.Lexicographic.{pointwise, bytes_decides}
use Rattle.std.specs.Map.{lookup}
use Rattle.fc_spec.specs.documents.Val.{Text, same_text}
use Rattle.fc_column.specs.Terms.{has_text}
use Rattle.fc_column.specs.Numbering.{has_number, text_numbered, IsNumbering, texts_numbered}

abbrev pub Entries : Type 0
Entries = List (Text × ℕ)

-- ---- a look-up that finds
pub record Found (entries : Entries) (t : Text) (n : ℕ) : Type 0 where
  pub place : ℕ
  pub inside : place < length entries
  pub is : (d : Text × ℕ) → get_or entries place d ≡ (t, n)

later_found : (entry : Text × ℕ) (entries : Entries) (t : Text) (n : ℕ) → Found entries t n → Found (entry ∷ entries) t n
later_found entry entries t n found = record { place = suc found.place; inside = omega (arith, found.inside); is = found.is }

entry_found : (entries : Entries) (t : Text) (n : ℕ) → lookup (pointwise (◌==◌) t) entries ≡ Some n → Found entries t n
entry_found [] t n gives = cc
entry_found (entry ∷ entries) t n gives = go (pointwise (◌==◌) t entry.0) refl gives (entry_found entries t n)
  where
    go : (here : Bool) → pointwise (◌==◌) t entry.0 ≡ here → cond here (Some entry.1) (lookup (pointwise (◌==◌) t) entries) ≡ Some n
        → (lookup (pointwise (◌==◌) t) entries ≡ Some n → Found entries t n) → Found (entry ∷ entries) t n
    go true same is rest =
        let number : entry.1 ≡ n = cc in
        record { place = 0; inside = omega arith; is = λ d. ap₂ (λ u m. (u, m)) (sym ((bytes_decides t entry.0).0 same)) number }
    go false other later rest = later_found entry entries t n (rest later)

-- ---- an entry behind others
-- the text of a number that is among the first
pub text_of_first : (front back : Entries) (n : ℕ) → has_number n front ≡ true → text_numbered (front ++ back) n ≡ text_numbered front n
text_of_first [] back n has = absurd (true≢false (sym has))
text_of_first (entry ∷ front) back n has = go (entry.1 == n) has (text_of_first front back n)
  where
    go : (here : Bool) → (here || has_number n front) ≡ true → (has_number n front ≡ true → text_numbered (front ++ back) n ≡ text_numbered front n)
        → cond here entry.0 (text_numbered (front ++ back) n) ≡ cond here entry.0 (text_numbered front n)
    go true has rest = refl
    go false has rest = rest has

-- the text of a number that is not
text_of_last : (front : Entries) (t : Text) (n : ℕ) → has_number n front ≡ false → text_numbered (front ++ (t, n) ∷ []) n ≡ t
text_of_last [] t n fresh = ap (λ b. cond b t []) (eq-eqb n n refl)
text_of_last (entry ∷ front) t n fresh =
    let parts = or_parts (entry.1 == n) (has_number n front) fresh in
    ap (λ b. cond b entry.0 (text_numbered (front ++ (t, n) ∷ []) n)) parts.0 ∙ text_of_last front t n parts.1

-- an entry's number is a number
pub number_of_entry : (entries : Entries) (k : ℕ) (d : Text × ℕ) → k < length entries → has_number (get_or entries k d).1 entries ≡ true
number_of_entry entries k d inside = list_any_at (λ entry. entry.1 == (get_or entries k d).1) entries k d inside (eq-eqb (get_or entries k d).1 (get_or entries k d).1 refl)

or_turned : (a b : Bool) → (a || (b || false)) ≡ (b || a)
or_turned true true = refl
or_turned true false = refl
or_turned false true = refl
or_turned false false = refl

-- ---- one more text, with the next number
module _ (old new : Entries) (t : Text) (numbering : IsNumbering old) (is : new ≡ old ++ (t, length old) ∷ []) where
  fresh : has_number (length old) old ≡ false
  fresh = false_from_ne_true (has_number (length old) old) (λ has. let less = numbering.below (length old) has in absurd (omega arith))

  size : length new ≡ length old + 1
  size = ap length is ∙ length-append old ((t, length old) ∷ [])

  numbers_more : (m : ℕ) → has_number m new ≡ ((length old == m) || has_number m old)
  numbers_more m =
      ap (has_number m) is ∙ list_any-append (λ (entry : Text × ℕ). entry.1 == m) old ((t, length old) ∷ [])
      ∙ or_turned (has_number m old) (length old == m)

  texts_more : (u : Text) → has_text u (texts_numbered new) ≡ (same_text u t || has_text u (texts_numbered old))
  texts_more u =
      ap (λ l. has_text u (texts_numbered l)) is
      ∙ ap (has_text u) (map-append (λ (entry : Text × ℕ). entry.0) old ((t, length old) ∷ []))
      ∙ list_any-append (same_text u) (texts_numbered old) (t ∷ [])
      ∙ or_turned (has_text u (texts_numbered old)) (same_text u t)

  new_has : has_number (length old) new ≡ true
  new_has = numbers_more (length old) ∙ ap (λ b. b || has_number (length old) old) (eq-eqb (length old) (length old) refl)

  new_text : text_numbered new (length old) ≡ t
  new_text = ap (λ l. text_numbered l (length old)) is ∙ text_of_last old t (length old) fresh

  other_has : (m : ℕ) → has_number m old ≡ true → has_number m new ≡ true
  other_has m has = numbers_more m ∙ or_right (length old == m) (has_number m old) has

  other_text : (m : ℕ) → has_number m old ≡ true → text_numbered new m ≡ text_numbered old m
  other_text m has = ap (λ l. text_numbered l m) is ∙ text_of_first old ((t, length old) ∷ []) m has

  numbering_more : length old + 1 < 2 ^ 32 → IsNumbering new
  numbering_more small = record {
    small = omega (arith, size);
    below = λ m has. elim (or_cases (length old == m) (has_number m old) (sym (numbers_more m) ∙ has)) [
      | inl last ↦ omega (arith, size, eqb-true (length old) m last)
      | inr before ↦ omega (arith, size, numbering.below m before)
    ];
    own = subst (All (λ entry. text_numbered new entry.1 ≡ entry.0)) (sym is)
        (All-push (λ (entry : Text × ℕ). text_numbered new entry.1 ≡ entry.0) old (t, length old)
        (λ k d inside. other_text (get_or old k d).1 (number_of_entry old k d inside) ∙ numbering.own k d inside)
        new_text);
  }

-- ---- a text that is there
module _ (entries : Entries) (t : Text) (n : ℕ) (numbering : IsNumbering entries) (found : Found entries t n) where
  found_has : has_number n entries ≡ true
  found_has = list_any_at (λ entry. entry.1 == n) entries found.place (t, n) found.inside (ap (λ entry. entry.1 == n) (found.is (t, n)) ∙ eq-eqb n n refl)

  found_text : text_numbered entries n ≡ t
  found_text =
      let here = found.is (t, n) in
      ap (λ entry. text_numbered entries entry.1) (sym here) ∙ numbering.own found.place (t, n) found.inside ∙ ap (λ entry. entry.0) here

  -- no text is new
  found_texts : (u : Text) → has_text u (texts_numbered entries) ≡ (same_text u t || has_text u (texts_numbered entries))
  found_texts u = go (same_text u t) refl
    where
      there : same_text u t ≡ true → has_text u (texts_numbered entries) ≡ true
      there same =
          list_any_at (same_text u) (texts_numbered entries) found.place t (omega (arith, found.inside, length-map entries (λ (entry : Text × ℕ). entry.0)))
          (ap (same_text u) (get_or-map (λ (entry : Text × ℕ). entry.0) entries found.place (t, n) t found.inside ∙ ap (λ entry. entry.0) (found.is (t, n))) ∙ same)

      go : (b : Bool) → same_text u t ≡ b → has_text u (texts_numbered entries) ≡ (b || has_text u (texts_numbered entries))
      go true same = there same
      go false other = refl

-- ---- the number of a text, in entries that may have one more
pub record IsNumberOf (old new : Entries) (t : Text) (n : ℕ) : Type 0 where
  pub numbering : IsNumbering new
  pub has : has_number n new ≡ true
  pub text : text_numbered new n ≡ t
  pub texts : (u : Text) → has_text u (texts_numbered new) ≡ (same_text u t || has_text u (texts_numbered old))
  pub others : (m : ℕ) → has_number m old ≡ true → has_number m new ≡ true
  pub other_texts : (m : ℕ) → has_number m old ≡ true → text_numbered new m ≡ text_numbered old m

pub number_found : (entries : Entries) (t : Text) (n : ℕ) → IsNumbering entries → Some n ≡ lookup (pointwise (◌==◌) t) entries → IsNumberOf entries entries t n
number_found entries t n numbering gives =
    let found = entry_found entries t n (sym gives) in
    record {
      numbering = numbering;
      has = found_has entries t n numbering found;
      text = found_text entries t n numbering found;
      texts = found_texts entries t n numbering found;
      others = λ m has. has;
      other_texts = λ m has. refl;
    }

pub number_added : (old new : Entries) (t copy : Text) (n : ℕ) → IsNumbering old → new ≡ old ++ (copy, n) ∷ [] → copy ≡ t → n ≡ length old → n + 1 < 2 ^ 32 → IsNumberOf old new t n
number_added old new t copy n numbering made same size small =
    let is : new ≡ old ++ (t, length old) ∷ [] = made ∙ ap₂ (λ u m. old ++ (u, m) ∷ []) same size in
    record {
      numbering = numbering_more old new t numbering is (omega (arith, size));
      has = ap (λ m. has_number m new) size ∙ new_has old new t numbering is;
      text = ap (text_numbered new) size ∙ new_text old new t numbering is;
      texts = texts_more old new t numbering is;
      others = other_has old new t numbering is;
      other_texts = other_text old new t numbering is;
    }
