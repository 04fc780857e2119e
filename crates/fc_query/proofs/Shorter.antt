-- A token takes at least one character.
use Rattle.std.proofs.Common.{◌≡◌, sym, refl, ℕ, ◌≤◌, List, [], ◌∷◌, length, Bool, true, false, cond, Option, None, Some, option_map, ◌==◌, ◌||◌, ◌&&◌, IfSome, arith, length-drop}
use Rattle.std.specs.List.{prefix_len, take_while}
use Rattle.fc_spec.specs.documents.Val.{Text}
use Rattle.fc_spec.specs.queries.QueryTokens.{Token}
use Rattle.fc_spec.specs.queries.QueryCharacters.{Character, bare, escaped, code, behind, begins, past, past_white, is_char, is_blank, is_quotable, stands_in_end, is_ordinary, goes_on, text_of}
use Rattle.fc_spec.specs.words.Options.{◌>>=◌}
use Rattle.fc_spec.proofs.words.Present.{bound, either, mapped, weaker}
use Rattle.fc_query.proofs.Fronts.{left_goes_on}
use Rattle.fc_spec.specs.queries.QueryWords.{word_at, quoted_at}
use Rattle.fc_spec.specs.queries.QueryRanges.{written_end_at, end_at, past_to, bracket_at, range_at}
use Rattle.fc_spec.specs.queries.QueryRow.{single, marked_at, begins_word, token_at}

abbrev Row : Type 0
Row = List Character

-- at most so many characters are left
abbrev Leaves : {A : Type 0} → ℕ → Option (A × Row) → Type 0
Leaves n o = IfSome o (λ x. length x.1 ≤ n)

abbrev LeavesRow : ℕ → Option Row → Type 0
LeavesRow n o = IfSome o (λ left. length left ≤ n)

behind_shorter : (p : Character → Bool) (cs : Row) → length (behind p cs) ≤ length cs
behind_shorter p cs = omega (arith, length-drop (prefix_len p cs) cs)

past_shorter : (c : ℕ) (cs : Row) → LeavesRow (length cs) (past c cs)
past_shorter c [] = tt
past_shorter c (d ∷ cs) = either (λ (left : Row). length left ≤ length (d ∷ cs)) (is_char c d) (Some cs) None (omega arith) tt

white_shorter : (cs : Row) → LeavesRow (length cs) (past_white cs)
white_shorter cs = either (λ (left : Row). length left ≤ length cs) (begins is_blank cs) (Some (behind is_blank cs)) None (behind_shorter is_blank cs) tt

quoted_shorter : (cs : Row) → Leaves (length cs) (quoted_at cs)
unfolding quoted_at
quoted_shorter cs = bound (λ (q : Text × Row). length q.1 ≤ length cs) (past 34 (behind is_quotable cs)) (λ left. Some (text_of (take_while is_quotable cs), left))
    (let some = behind_shorter is_quotable cs in weaker (λ (left : Row). length left ≤ length (behind is_quotable cs)) (λ (left : Row). length left ≤ length cs) (past 34 (behind is_quotable cs)) (λ left h. omega arith) (past_shorter 34 (behind is_quotable cs)))

written_shorter : (cs : Row) → Leaves (length cs) (written_end_at cs)
unfolding written_end_at
written_shorter cs = either (λ (e : Text × Row). length e.1 ≤ length cs) _ None (Some (text_of (take_while stands_in_end cs), behind stands_in_end cs)) tt (behind_shorter stands_in_end cs)

end_shorter : (cs : Row) → Leaves (length cs) (end_at cs)
unfolding end_at
end_shorter [] = tt
end_shorter (c ∷ cs) =
    let P : Option Text × Row → Type 0 = λ e. length e.1 ≤ length (c ∷ cs) in
    either P (is_char 34 c) (option_map (λ q. (Some q.0, q.1)) (quoted_at cs)) _
    (mapped P (quoted_at cs) (λ q. (Some q.0, q.1)) (weaker (λ (q : Text × Row). length q.1 ≤ length cs) (λ (q : Text × Row). length q.1 ≤ length (c ∷ cs)) (quoted_at cs) (λ q h. omega arith) (quoted_shorter cs)))
    (either P (is_char 42 c) (Some (None, cs)) (option_map (λ e. (Some e.0, e.1)) (written_end_at (c ∷ cs))) (omega arith)
    (mapped P (written_end_at (c ∷ cs)) (λ e. (Some e.0, e.1)) (written_shorter (c ∷ cs))))

to_shorter : (cs : Row) → LeavesRow (length cs) (past_to cs)
unfolding past_to
to_shorter cs =
    let P : Row → Type 0 = λ left. length left ≤ length cs in
    bound P (past_white cs) (λ at_word. past 84 at_word >>= λ at_o. past 79 at_o >>= λ left. past_white left)
    (weaker (λ (a : Row). length a ≤ length cs) (λ a. IfSome (past 84 a >>= λ at_o. past 79 at_o >>= λ left. past_white left) P) (past_white cs)
    (λ a ha. bound P (past 84 a) (λ at_o. past 79 at_o >>= λ left. past_white left)
    (weaker (λ (b : Row). length b ≤ length a) (λ b. IfSome (past 79 b >>= λ left. past_white left) P) (past 84 a)
    (λ b hb. bound P (past 79 b) (λ left. past_white left)
    (weaker (λ (d : Row). length d ≤ length b) (λ d. IfSome (past_white d) P) (past 79 b)
    (λ d hd. weaker (λ (e : Row). length e ≤ length d) P (past_white d) (λ e he. omega arith) (white_shorter d))
    (past_shorter 79 b)))
    (past_shorter 84 a)))
    (white_shorter cs))

bracket_shorter : (cs : Row) → Leaves (length cs) (bracket_at cs)
unfolding bracket_at
bracket_shorter [] = tt
bracket_shorter (c ∷ cs) =
    let P : Bool × Row → Type 0 = λ e. length e.1 ≤ length (c ∷ cs) in
    either P (is_char 93 c) (Some (true, cs)) _ (omega arith) (either P (is_char 125 c) (Some (false, cs)) None (omega arith) tt)

-- what follows each part of a range leaves no more than the range begins with
range_shorter : (has_low : Bool) (cs : Row) → Leaves (length cs) (range_at has_low cs)
unfolding range_at
range_shorter has_low cs =
    let start = behind is_blank cs in
    let P : Token × Row → Type 0 = λ t. length t.1 ≤ length cs in
    let le = behind_shorter is_blank cs in
    bound P (end_at start) _
    (weaker (λ (low : Option Text × Row). length low.1 ≤ length start) _ (end_at start)
    (λ low hl. bound P (past_to low.1) _
    (weaker (λ (at : Row). length at ≤ length low.1) _ (past_to low.1)
    (λ at ha. bound P (end_at at) _
    (weaker (λ (high : Option Text × Row). length high.1 ≤ length at) _ (end_at at)
    (λ high hh. bound P (bracket_at (behind is_blank high.1)) _
    (weaker (λ (bracket : Bool × Row). length bracket.1 ≤ length (behind is_blank high.1)) _ (bracket_at (behind is_blank high.1))
    (λ bracket hb. let l = behind_shorter is_blank high.1 in omega arith)
    (bracket_shorter (behind is_blank high.1))))
    (end_shorter at)))
    (to_shorter low.1)))
    (end_shorter start))

marked_shorter : (c : ℕ) (cs : Row) → Leaves (length cs) (marked_at c cs)
unfolding marked_at
marked_shorter c cs =
    let P : Token × Row → Type 0 = λ t. length t.1 ≤ length cs in
    either P (c == 34) _ _ (mapped P (quoted_at cs) _ (quoted_shorter cs))
    (either P (c == 91) _ _ (range_shorter true cs)
    (either P (c == 123) _ _ (range_shorter false cs)
    (either P (c == 42) _ _ (either P (begins is_ordinary cs) None _ tt (omega arith)) (mapped P (single c) _ (always (single c) (λ t. omega arith))))))
  where
    always : {A : Type 0} {P : A → Type 0} (o : Option A) → ((a : A) → P a) → IfSome o P
    always None h = tt
    always (Some a) h = h a

one_of_three : (o x b y : Bool) → (o || (b && y)) ≡ true → (o || x || y) ≡ true
one_of_three true x b y h = refl
one_of_three false true b y h = refl
one_of_three false false true y h = h
one_of_three false false false y h = cc

begins_goes_on : (behind_colon : Bool) (c : Character) → begins_word behind_colon c ≡ true → goes_on c ≡ true
begins_goes_on b (escaped c) h = refl
begins_goes_on b (bare c) h = one_of_three (is_ordinary (bare c)) (c == 43) b (c == 45) h

left_from : (c : Character) (cs : Row) → goes_on c ≡ true → behind goes_on (c ∷ cs) ≡ behind goes_on cs
left_from c cs h = sym (left_goes_on goes_on c (c ∷ cs) refl h)

word_shorter : (c : Character) (cs : Row) → goes_on c ≡ true → Leaves (length cs) (word_at (c ∷ cs))
unfolding word_at
word_shorter c cs h =
    let P : Token × Row → Type 0 = λ t. length t.1 ≤ length cs in
    let n : length (behind goes_on (c ∷ cs)) ≤ length cs = rw (left_from c cs h) (behind_shorter goes_on cs) in
    either P (begins (is_char 42) (behind goes_on (c ∷ cs))) None _ tt n

pub token_shorter : (behind_colon : Bool) (c : Character) (cs : Row) → Leaves (length cs) (token_at behind_colon (c ∷ cs))
unfolding token_at
token_shorter behind_colon c cs = go (begins_word behind_colon c) refl
  where
    go : (b : Bool) → begins_word behind_colon c ≡ b → Leaves (length cs) (cond b (word_at (c ∷ cs)) (marked_at (code c) cs))
    go true e = word_shorter c cs (begins_goes_on behind_colon c e)
    go false e = marked_shorter (code c) cs
