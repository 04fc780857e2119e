-- What tokens spell is read from them.
use Rattle.std.proofs.Common.{◌≡◌, ◌∙◌, ap, refl, ℕ, zero, suc, ◌≤◌, [], ◌∷◌, ◌++◌, length, Bool, true, Option, None, Some, option_map, arith, append_assoc, length-append}
use Rattle.fc_spec.specs.documents.Val.{Text}
use Rattle.fc_spec.specs.words.Options.{◌>>=◌}
use Rattle.fc_spec.specs.queries.QueryTokens.{Value, Sign, Operator, value, sign, operator, opening, closing, colon}
use Rattle.fc_spec.specs.queries.QueryTrees.{Atom, plain, everything, nested, Group, no_more, clause, sign_tokens, operator_tokens, atom_tokens, group_tokens}
use Rattle.fc_spec.specs.queries.QueryForms.{IsAtom, IsGroup, AreClauses, atom_nesting, nesting}
use Rattle.fc_spec.specs.queries.TreeReading.{Row, Reader, sign_at, operator_at, past_closing, nested_at, named_at, everything_at, behind_colon_at, value_at, atom_at, clause_at, with_clause, clauses_at, group_at, group_within}

-- nothing, or a closing parenthesis in front
abbrev pub IsClosed : Row → Type 0
IsClosed [] = Unit {0}
IsClosed (closing ∷ ts) = Unit {0}
IsClosed (t ∷ ts) = ⊥

-- no colon in front
abbrev HasNoColon : Row → Type 0
HasNoColon (colon ∷ ts) = ⊥
HasNoColon ts = Unit {0}

-- an atom begins
abbrev BeginsAtom : Row → Type 0
BeginsAtom (value v ∷ ts) = Unit {0}
BeginsAtom (opening ∷ ts) = Unit {0}
BeginsAtom ts = ⊥

-- what spells a group inside a parenthesis is read
abbrev ReadsAgain : ℕ → Reader → Type 0
ReadsAgain depth deeper = (b : Bool) (g : Group) (left : Row) → IsGroup b g → suc (nesting g) ≤ depth → deeper b (group_tokens g ++ closing ∷ left) ≡ Some (g, closing ∷ left)

nested_again : (depth : ℕ) (deeper : Reader) (name : Option Text) (b : Bool) (g : Group) (left : Row) → ReadsAgain depth deeper → IsGroup b g → suc (nesting g) ≤ depth
    → nested_at deeper name b ((group_tokens g ++ closing ∷ []) ++ left) ≡ Some (nested name g, left)
unfolding nested_at
nested_again depth deeper name b g left reads formed shallow =
    ap (nested_at deeper name b) (append_assoc (group_tokens g) (closing ∷ []) left)
    ∙ ap (λ o. o >>= λ x. past_closing x.1 >>= λ rest. Some (nested name x.0, rest)) (reads b g left formed shallow)

bare_again : (deeper : Reader) (b : Bool) (v : Value) (left : Row) → b ≡ true → HasNoColon left → value_at deeper b v left ≡ Some (plain None v, left)
unfolding value_at
bare_again deeper b v [] h n = rw h refl
bare_again deeper b v (value w ∷ left) h n = rw h refl
bare_again deeper b v (sign s ∷ left) h n = rw h refl
bare_again deeper b v (operator o ∷ left) h n = rw h refl
bare_again deeper b v (opening ∷ left) h n = rw h refl
bare_again deeper b v (closing ∷ left) h n = rw h refl
bare_again deeper b v (colon ∷ left) h n = absurd n

atom_again : (depth : ℕ) (deeper : Reader) (b : Bool) (a : Atom) (left : Row) → ReadsAgain depth deeper → IsAtom b a → atom_nesting a ≤ depth → HasNoColon left
    → atom_at deeper b (atom_tokens a ++ left) ≡ Some (a, left)
unfolding atom_at value_at behind_colon_at named_at everything_at
atom_again depth deeper b (plain None v) left reads formed shallow n = bare_again deeper b v left formed n
atom_again depth deeper b (plain (Some name) v) left reads formed shallow n = refl
atom_again depth deeper b everything left reads formed shallow n = refl
atom_again depth deeper b (nested None g) left reads formed shallow n = nested_again depth deeper None b g left reads formed shallow
atom_again depth deeper b (nested (Some name) g) left reads formed shallow n = nested_again depth deeper (Some name) true g left reads formed shallow

atom_begins : (a : Atom) (left : Row) → BeginsAtom (atom_tokens a ++ left)
atom_begins (plain None v) left = tt
atom_begins (plain (Some name) v) left = tt
atom_begins everything left = tt
atom_begins (nested None g) left = tt
atom_begins (nested (Some name) g) left = tt

sign_again : (s : Option Sign) (ts : Row) → BeginsAtom ts → sign_at (sign_tokens s ++ ts) ≡ (s, ts)
sign_again (Some s) ts h = refl
sign_again None [] h = absurd h
sign_again None (value v ∷ ts) h = refl
sign_again None (sign s ∷ ts) h = absurd h
sign_again None (operator o ∷ ts) h = absurd h
sign_again None (opening ∷ ts) h = refl
sign_again None (closing ∷ ts) h = absurd h
sign_again None (colon ∷ ts) h = absurd h

-- a clause behind its operator
abbrev clause_tokens : Option Sign → Atom → Row → Row
clause_tokens s a left = sign_tokens s ++ (atom_tokens a ++ left)

clause_again : (depth : ℕ) (deeper : Reader) (b : Bool) (s : Option Sign) (a : Atom) (left : Row) → ReadsAgain depth deeper → IsAtom b a → atom_nesting a ≤ depth → HasNoColon left
    → clause_at deeper b (clause_tokens s a left) ≡ Some ((s, a), left)
unfolding clause_at
clause_again depth deeper b s a left reads formed shallow n =
    ap (λ x. option_map (λ y. ((x.0, y.0), y.1)) (atom_at deeper b x.1)) (sign_again s (atom_tokens a ++ left) (atom_begins a left))
    ∙ ap (option_map (λ y. ((s, y.0), y.1))) (atom_again depth deeper b a left reads formed shallow n)

-- what begins a clause: neither `)` nor the end
abbrev BeginsClause : Row → Type 0
BeginsClause [] = ⊥
BeginsClause (closing ∷ ts) = ⊥
BeginsClause (t ∷ ts) = Unit {0}

operator_again : (o : Option Operator) (s : Option Sign) (ts : Row) → BeginsAtom ts → operator_at (operator_tokens o ++ (sign_tokens s ++ ts)) ≡ (o, sign_tokens s ++ ts)
operator_again (Some o) s ts h = refl
operator_again None (Some s) ts h = refl
operator_again None None [] h = absurd h
operator_again None None (value v ∷ ts) h = refl
operator_again None None (sign s ∷ ts) h = absurd h
operator_again None None (operator o ∷ ts) h = absurd h
operator_again None None (opening ∷ ts) h = refl
operator_again None None (closing ∷ ts) h = absurd h
operator_again None None (colon ∷ ts) h = absurd h

clause_begins : (o : Option Operator) (s : Option Sign) (ts : Row) → BeginsAtom ts → BeginsClause (operator_tokens o ++ (sign_tokens s ++ ts)) × HasNoColon (operator_tokens o ++ (sign_tokens s ++ ts))
clause_begins (Some o) s ts h = (tt, tt)
clause_begins None (Some s) ts h = (tt, tt)
clause_begins None None [] h = absurd h
clause_begins None None (value v ∷ ts) h = (tt, tt)
clause_begins None None (sign s ∷ ts) h = absurd h
clause_begins None None (operator o ∷ ts) h = absurd h
clause_begins None None (opening ∷ ts) h = (tt, tt)
clause_begins None None (closing ∷ ts) h = absurd h
clause_begins None None (colon ∷ ts) h = absurd h

-- one more clause
abbrev one_more : ℕ → Reader → Bool → Option Operator × Row → Option (Group × Row)
one_more n deeper b o = clause_at deeper b o.1 >>= λ c. option_map (with_clause o.0 c.0) (clauses_at n deeper b c.1)

clauses_step : (n : ℕ) (deeper : Reader) (b : Bool) (ts : Row) → BeginsClause ts → clauses_at (suc n) deeper b ts ≡ one_more n deeper b (operator_at ts)
unfolding clauses_at
clauses_step n deeper b [] h = absurd h
clauses_step n deeper b (value v ∷ ts) h = refl
clauses_step n deeper b (sign s ∷ ts) h = refl
clauses_step n deeper b (operator o ∷ ts) h = refl
clauses_step n deeper b (opening ∷ ts) h = refl
clauses_step n deeper b (closing ∷ ts) h = absurd h
clauses_step n deeper b (colon ∷ ts) h = refl

regrouped : (o : Option Operator) (s : Option Sign) (a : Atom) (g : Group) (left : Row) → group_tokens (clause o s a g) ++ left ≡ operator_tokens o ++ clause_tokens s a (group_tokens g ++ left)
regrouped o s a g left =
    let O = operator_tokens o in
    let S = sign_tokens s in
    let A = atom_tokens a in
    let G = group_tokens g in
    append_assoc O (S ++ (A ++ G)) left ∙ ap (λ x. O ++ x) (append_assoc S (A ++ G) left ∙ ap (λ x. S ++ x) (append_assoc A G left))

closed_has_no_colon : (left : Row) → IsClosed left → HasNoColon left
closed_has_no_colon [] h = tt
closed_has_no_colon (value v ∷ ts) h = absurd h
closed_has_no_colon (sign s ∷ ts) h = absurd h
closed_has_no_colon (operator o ∷ ts) h = absurd h
closed_has_no_colon (opening ∷ ts) h = absurd h
closed_has_no_colon (closing ∷ ts) h = tt
closed_has_no_colon (colon ∷ ts) h = absurd h

group_has_no_colon : (g : Group) (left : Row) → IsClosed left → HasNoColon (group_tokens g ++ left)
group_has_no_colon no_more left h = closed_has_no_colon left h
group_has_no_colon (clause o s a g) left h = rw (regrouped o s a g left) ((clause_begins o s (atom_tokens a ++ (group_tokens g ++ left)) (atom_begins a (group_tokens g ++ left))).1)

no_more_again : (n : ℕ) (deeper : Reader) (b : Bool) (left : Row) → IsClosed left → clauses_at n deeper b left ≡ Some (no_more, left)
unfolding clauses_at
no_more_again n deeper b [] h = refl
no_more_again n deeper b (value v ∷ ts) h = absurd h
no_more_again n deeper b (sign s ∷ ts) h = absurd h
no_more_again n deeper b (operator o ∷ ts) h = absurd h
no_more_again n deeper b (opening ∷ ts) h = absurd h
no_more_again n deeper b (closing ∷ ts) h = refl
no_more_again n deeper b (colon ∷ ts) h = absurd h

pub some_tokens : (a : Atom) → 1 ≤ length (atom_tokens a)
some_tokens (plain None v) = omega arith
some_tokens (plain (Some name) v) = omega arith
some_tokens everything = omega arith
some_tokens (nested None g) = omega arith
some_tokens (nested (Some name) g) = omega arith

size_of : (o : Option Operator) (s : Option Sign) (a : Atom) (g : Group) (left : Row) → suc (length (group_tokens g ++ left)) ≤ length (group_tokens (clause o s a g) ++ left)
size_of o s a g left =
    let rest = group_tokens g ++ left in
    let some = some_tokens a in
    let whole = ap length (regrouped o s a g left) ∙ length-append (operator_tokens o) (clause_tokens s a rest) in
    let inner = length-append (sign_tokens s) (atom_tokens a ++ rest) in
    let atom = length-append (atom_tokens a) rest in
    omega arith

clauses_again : (n depth : ℕ) (deeper : Reader) (b : Bool) (g : Group) (left : Row) → ReadsAgain depth deeper → AreClauses b g → nesting g ≤ depth → IsClosed left → length (group_tokens g ++ left) ≤ n
    → clauses_at n deeper b (group_tokens g ++ left) ≡ Some (g, left)
clauses_again n depth deeper b no_more left reads formed shallow closed room = no_more_again n deeper b left closed
clauses_again zero depth deeper b (clause o s a g) left reads formed shallow closed room = absurd (let h = size_of o s a g left in omega arith)
clauses_again (suc n) depth deeper b (clause o s a g) left reads formed shallow closed room =
    let rest = group_tokens g ++ left in
    let size = size_of o s a g left in
    let atom = atom_begins a rest in
    ap (clauses_at (suc n) deeper b) (regrouped o s a g left)
    ∙ clauses_step n deeper b (operator_tokens o ++ clause_tokens s a rest) ((clause_begins o s (atom_tokens a ++ rest) atom).0)
    ∙ ap (one_more n deeper b) (operator_again o s (atom_tokens a ++ rest) atom)
    ∙ ap (λ x. x >>= λ c. option_map (with_clause o c.0) (clauses_at n deeper b c.1)) (clause_again depth deeper b s a rest reads formed.0 (omega arith) (group_has_no_colon g left closed))
    ∙ ap (option_map (with_clause o (s, a))) (clauses_again n depth deeper b g left reads formed.1 (omega arith) closed (omega arith))

group_again : (depth : ℕ) (deeper : Reader) (b : Bool) (g : Group) (left : Row) → ReadsAgain depth deeper → IsGroup b g → nesting g ≤ depth → IsClosed left
    → group_at deeper b (group_tokens g ++ left) ≡ Some (g, left)
unfolding group_at
group_again depth deeper b no_more left reads formed shallow closed = absurd formed
group_again depth deeper b (clause (Some o) s a g) left reads formed shallow closed = absurd formed
group_again depth deeper b (clause None s a g) left reads formed shallow closed =
    let rest = group_tokens g ++ left in
    ap (group_at deeper b) (regrouped None s a g left)
    ∙ ap (λ x. x >>= λ c. option_map (with_clause None c.0) (clauses_at (length c.1) deeper b c.1)) (clause_again depth deeper b s a rest reads formed.0 (omega arith) (group_has_no_colon g left closed))
    ∙ ap (option_map (with_clause None (s, a))) (clauses_again (length rest) depth deeper b g left reads formed.1 (omega arith) closed (omega arith))

-- what a group spells is read
pub spelled_is_read : (depth : ℕ) (b : Bool) (g : Group) (left : Row) → IsGroup b g → nesting g ≤ depth → IsClosed left → group_within depth b (group_tokens g ++ left) ≡ Some (g, left)
unfolding group_within
spelled_is_read zero b g left formed shallow closed = group_again zero (λ _ _. None) b g left (λ b g left formed h. absurd (omega arith)) formed shallow closed
spelled_is_read (suc depth) b g left formed shallow closed =
    group_again (suc depth) (group_within depth) b g left (λ b g left formed h. spelled_is_read depth b g (closing ∷ left) formed (omega arith) tt) formed shallow closed
