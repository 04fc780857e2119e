-- A builder after texts of one more position.
use Rattle.std.proofs.Common.{◌≡◌, ℕ, zero, suc, Bool, true, false, true≢false, ◌||◌, List, [], ◌∷◌, ◌++◌, length, get_or, map, replicate, All, refl, sym, ap, ap₂, ◌∙◌, subst, arith}
use Rattle.std.proofs.Math.Bool.{or-false}
use Rattle.std.proofs.lemmas.List.{map-append}
use Rattle.std.proofs.lemmas.List.Elements.{All-push, All-append, All-replicate}
use Rattle.std.proofs.lemmas.List.Folds.{list_any-append}
use Rattle.std.specs.List.{list_any}
use Rattle.fc_spec.specs.documents.Val.{Text, same_text, text_cmp}
use Rattle.fc_spec.specs.documents.Columns.{IsAscending}
use Rattle.fc_column.specs.Terms.{has_text}
use Rattle.fc_column.specs.Numbering.{has_number, text_numbered, IsNumbering, texts_numbered}
use Rattle.fc_column.specs.TextBuilder.{IsSound}
use Rattle.fc_column.specs.declared.builder.TextBuilder.TheInside.{Inside}
use Rattle.fc_column.proofs.Numberings.{Entries}

-- the entries got the texts of the next position, which has these numbers
pub record Grown (old new : Entries) (next : List ℕ) (texts : List Text) : Type 0 where
  pub numbering : IsNumbering new
  pub others : (n : ℕ) → has_number n old ≡ true → has_number n new ≡ true
  pub other_texts : (n : ℕ) → has_number n old ≡ true → text_numbered new n ≡ text_numbered old n
  pub numbered : All (λ n. has_number n new ≡ true) next
  pub made : map (text_numbered new) next ≡ texts
  pub used : (t : Text) → has_text t (texts_numbered new) ≡ (has_text t (texts_numbered old) || has_text t texts)

or_last : (a b c : Bool) → (a || (b || c)) ≡ (b || (c || (a || false)))
or_last true true c = refl
or_last true false true = refl
or_last true false false = refl
or_last false true c = refl
or_last false false true = refl
or_last false false false = refl

-- no number, no text
pub grown_none : (old : Entries) (next : List ℕ) → IsNumbering old → next ≡ [] → Grown old old next []
grown_none old next numbering none = record {
  numbering = numbering;
  others = λ n has. has;
  other_texts = λ n has. refl;
  numbered = λ k d inside. absurd (omega (arith, ap length none));
  made = ap (map (text_numbered old)) none;
  used = λ t. sym (or-false (has_text t (texts_numbered old)));
}

-- numbers that stay have the texts that they had
pub same_texts : (old new : Entries) (numbers : List ℕ) → All (λ n. has_number n old ≡ true) numbers
    → ((n : ℕ) → has_number n old ≡ true → text_numbered new n ≡ text_numbered old n) → map (text_numbered new) numbers ≡ map (text_numbered old) numbers
same_texts old new [] numbered same = refl
same_texts old new (n ∷ numbers) numbered same =
    ap₂ (λ t l. t ∷ l) (same n (numbered 0 n (omega arith))) (same_texts old new numbers (λ k d inside. numbered (suc k) d (omega arith)) same)

pub grown_more : (old mid new : Entries) (next : List ℕ) (texts : List Text) (n : ℕ) (t : Text) → Grown old mid next texts
    → IsNumbering new → has_number n new ≡ true → text_numbered new n ≡ t
    → ((u : Text) → has_text u (texts_numbered new) ≡ (same_text u t || has_text u (texts_numbered mid)))
    → ((m : ℕ) → has_number m mid ≡ true → has_number m new ≡ true) → ((m : ℕ) → has_number m mid ≡ true → text_numbered new m ≡ text_numbered mid m)
    → Grown old new (next ++ n ∷ []) (texts ++ t ∷ [])
grown_more old mid new next texts n t grown numbering has text added others other_texts = record {
  numbering = numbering;
  others = λ m was. others m (grown.others m was);
  other_texts = λ m was. other_texts m (grown.others m was) ∙ grown.other_texts m was;
  numbered = All-push (λ m. has_number m new ≡ true) next n (λ k d inside. others (get_or next k d) (grown.numbered k d inside)) has;
  made = map-append (text_numbered new) next (n ∷ []) ∙ ap₂ (λ l u. l ++ u ∷ []) (same_texts mid new next grown.numbered other_texts ∙ grown.made) text;
  used = λ u. added u ∙ ap (λ b. same_text u t || b) (grown.used u)
      ∙ or_last (same_text u t) (has_text u (texts_numbered old)) (has_text u texts)
      ∙ ap (λ b. has_text u (texts_numbered old) || b) (sym (list_any-append (same_text u) texts (t ∷ [])));
}

-- ---- the positions that were there
pub same_rows : (old new : Entries) (rows : List (List ℕ)) → All (All (λ n. has_number n old ≡ true)) rows
    → ((n : ℕ) → has_number n old ≡ true → text_numbered new n ≡ text_numbered old n) → map (map (text_numbered new)) rows ≡ map (map (text_numbered old)) rows
same_rows old new [] numbered same = refl
same_rows old new (row ∷ rows) numbered same =
    ap₂ (λ r l. r ∷ l) (same_texts old new row (numbered 0 row (omega arith)) same) (same_rows old new rows (λ k d inside. numbered (suc k) d (omega arith)) same)

pub still_numbered : (old new : Entries) (rows : List (List ℕ)) → All (All (λ n. has_number n old ≡ true)) rows
    → ((n : ℕ) → has_number n old ≡ true → has_number n new ≡ true) → All (All (λ n. has_number n new ≡ true)) rows
still_numbered old new rows numbered others = λ k d inside j e within. others (get_or (get_or rows k d) j e) (numbered k d inside j e within)

-- ---- with the next one
pub rows_more : (old new : Entries) (rows : List (List ℕ)) (next : List ℕ) (texts : List Text) → All (All (λ n. has_number n old ≡ true)) rows → Grown old new next texts
    → map (map (text_numbered new)) (rows ++ next ∷ []) ≡ map (map (text_numbered old)) rows ++ texts ∷ []
rows_more old new rows next texts numbered grown =
    map-append (map (text_numbered new)) rows (next ∷ []) ∙ ap₂ (λ l t. l ++ t ∷ []) (same_rows old new rows numbered grown.other_texts) grown.made

pub used_more : (old new : Entries) (next : List ℕ) (texts : List Text) (column : List (List Text)) → Grown old new next texts
    → ((t : Text) → has_text t (texts_numbered old) ≡ list_any (has_text t) column) → (t : Text) → has_text t (texts_numbered new) ≡ list_any (has_text t) (column ++ texts ∷ [])
used_more old new next texts column grown used t =
    grown.used t ∙ ap₂ (λ a b. a || b) (used t) (sym (or-false (has_text t texts))) ∙ sym (list_any-append (has_text t) column (texts ∷ []))

pub still_ascending : (old new : Entries) (rows : List (List ℕ)) → All (All (λ n. has_number n old ≡ true)) rows
    → ((n : ℕ) → has_number n old ≡ true → text_numbered new n ≡ text_numbered old n)
    → All (IsAscending text_cmp) (map (map (text_numbered old)) rows) → All (IsAscending text_cmp) (map (map (text_numbered new)) rows)
still_ascending old new rows numbered same ascending = subst (All (IsAscending text_cmp)) (sym (same_rows old new rows numbered same)) ascending

-- ---- with a position that is left half made
pub left_half : (was now : Inside) → IsSound was → IsNumbering now.numbers.entries
    → ((n : ℕ) → has_number n was.numbers.entries ≡ true → has_number n now.numbers.entries ≡ true)
    → ((n : ℕ) → has_number n was.numbers.entries ≡ true → text_numbered now.numbers.entries n ≡ text_numbered was.numbers.entries n)
    → now.rows.rows ≡ was.rows.rows → now.spent ≡ true → IsSound now
left_half was now kept numbering others same rows spent =
    let old = was.numbers.entries in
    let new = now.numbers.entries in
    record {
      numbering = numbering;
      numbered = subst (All (All (λ n. has_number n new ≡ true))) (sym rows) (still_numbered old new was.rows.rows kept.numbered others);
      ascending = subst (λ l. All (IsAscending text_cmp) (map (map (text_numbered new)) l)) (sym rows) (still_ascending old new was.rows.rows kept.numbered same kept.ascending);
      used = λ whole. absurd (true≢false (sym spent ∙ whole));
      whole = λ whole. absurd (true≢false (sym spent ∙ whole));
    }

-- ---- with positions without a text
map-empties : {X Y : Type 0} (f : List X → List Y) (count : ℕ) → f [] ≡ [] → map f (replicate count []) ≡ replicate count []
map-empties f zero none = refl
map-empties f (suc count) none = ap₂ (λ row rows. row ∷ rows) none (map-empties f count none)

pub texts_skipped : (entries : Entries) (rows : List (List ℕ)) (count : ℕ)
    → map (map (text_numbered entries)) (rows ++ replicate count []) ≡ map (map (text_numbered entries)) rows ++ replicate count []
texts_skipped entries rows count =
    map-append (map (text_numbered entries)) rows (replicate count []) ∙ ap (λ l. map (map (text_numbered entries)) rows ++ l) (map-empties (map (text_numbered entries)) count refl)

none_there : (t : Text) (count : ℕ) → list_any (has_text t) (replicate count []) ≡ false
none_there t zero = refl
none_there t (suc count) = none_there t count

pub used_skipped : (t : Text) (column : List (List Text)) (count : ℕ) → list_any (has_text t) (column ++ replicate count []) ≡ list_any (has_text t) column
used_skipped t column count =
    list_any-append (has_text t) column (replicate count []) ∙ ap (λ b. list_any (has_text t) column || b) (none_there t count) ∙ or-false (list_any (has_text t) column)

pub all_skipped : {X : Type 0} (P : X → Type 0) (rows : List (List X)) (count : ℕ) → All (All P) rows → All (All P) (rows ++ replicate count [])
all_skipped P rows count all = All-append (All P) rows (replicate count []) all (All-replicate (All P) count [] (λ k d none. absurd (omega arith)))

pub ascending_skipped : (column : List (List Text)) (count : ℕ) → All (IsAscending text_cmp) column → All (IsAscending text_cmp) (column ++ replicate count [])
ascending_skipped column count all =
    All-append (IsAscending text_cmp) column (replicate count []) all (All-replicate (IsAscending text_cmp) count [] (λ i j d before none. absurd (omega arith)))
