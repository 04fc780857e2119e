-- What is read from tokens is spelled by them.
use Rattle.std.proofs.Common.{◌≡◌, ◌∙◌, ap, refl, sym, ℕ, zero, suc, ◌≤◌, [], ◌∷◌, ◌++◌, length, Bool, true, false, cond, Option, None, Some, option_map, IfSome, arith, append_assoc}
use Rattle.fc_spec.specs.documents.Val.{Text}
use Rattle.fc_spec.specs.words.Options.{◌>>=◌}
use Rattle.fc_spec.specs.queries.QueryTokens.{Value, word, quoted, range, star, Sign, Operator, value, sign, operator, opening, closing, colon}
use Rattle.fc_spec.specs.queries.QueryTrees.{Atom, plain, nested, Group, name_tokens, sign_tokens, operator_tokens, atom_tokens, group_tokens}
use Rattle.fc_spec.specs.queries.QueryForms.{IsAtom, IsGroup, AreClauses, atom_nesting, nesting}
use Rattle.fc_spec.proofs.words.Present.{bound, mapped, weaker}
use Rattle.fc_spec.specs.queries.TreeReading.{Row, Reader, sign_at, operator_at, past_closing, nested_at, named_at, everything_at, behind_colon_at, value_at, atom_at, clause_at, with_clause, clauses_at, group_at, group_within}

-- the atom and what is left of the row
pub record IsAtomOf (depth : ℕ) (in_field : Bool) (ts : Row) (a : Atom × Row) : Type 0 where
  pub spelled : ts ≡ atom_tokens a.0 ++ a.1
  pub formed : IsAtom in_field a.0
  pub shallow : atom_nesting a.0 ≤ depth

-- the sign, the atom, and what is left
pub record IsClauseOf (depth : ℕ) (in_field : Bool) (ts : Row) (c : (Option Sign × Atom) × Row) : Type 0 where
  pub spelled : ts ≡ sign_tokens c.0.0 ++ (atom_tokens c.0.1 ++ c.1)
  pub formed : IsAtom in_field c.0.1
  pub shallow : atom_nesting c.0.1 ≤ depth

-- the clauses, and what is left
pub record AreClausesOf (depth : ℕ) (in_field : Bool) (ts : Row) (g : Group × Row) : Type 0 where
  pub spelled : ts ≡ group_tokens g.0 ++ g.1
  pub formed : AreClauses in_field g.0
  pub shallow : nesting g.0 ≤ depth

pub record IsGroupOf (depth : ℕ) (in_field : Bool) (ts : Row) (g : Group × Row) : Type 0 where
  pub spelled : ts ≡ group_tokens g.0 ++ g.1
  pub formed : IsGroup in_field g.0
  pub shallow : nesting g.0 ≤ depth

-- what a reader reads inside a parenthesis is spelled, and one level more is open around it
abbrev pub ReadsGroups : ℕ → Reader → Type 0
ReadsGroups depth deeper = (b : Bool) (ts : Row) → IfSome (deeper b ts) (λ g. (ts ≡ group_tokens g.0 ++ g.1) × IsGroup b g.0 × (suc (nesting g.0) ≤ depth))

closing_is : (ts : Row) → IfSome (past_closing ts) (λ left. ts ≡ closing ∷ left)
closing_is [] = tt
closing_is (value v ∷ ts) = tt
closing_is (sign s ∷ ts) = tt
closing_is (operator o ∷ ts) = tt
closing_is (opening ∷ ts) = tt
closing_is (closing ∷ ts) = refl
closing_is (colon ∷ ts) = tt

in_parentheses : (name : Option Text) (g : Group) (ts rest left : Row) → ts ≡ group_tokens g ++ rest → rest ≡ closing ∷ left
    → name_tokens name ++ opening ∷ ts ≡ atom_tokens (nested name g) ++ left
in_parentheses name g ts rest left e h =
    ap (λ x. name_tokens name ++ opening ∷ x) (e ∙ ap (λ x. group_tokens g ++ x) h ∙ sym (append_assoc (group_tokens g) (closing ∷ []) left))
    ∙ sym (append_assoc (name_tokens name) (opening ∷ (group_tokens g ++ closing ∷ [])) left)

nested_of : (depth : ℕ) (deeper : Reader) (name : Option Text) (in_field b : Bool) (ts : Row) → ReadsGroups depth deeper → ((g : Group) → IsGroup b g → IsAtom in_field (nested name g))
    → IfSome (nested_at deeper name b ts) (IsAtomOf depth in_field (name_tokens name ++ opening ∷ ts))
unfolding nested_at
nested_of depth deeper name in_field b ts reads formed =
    let P = IsAtomOf depth in_field (name_tokens name ++ opening ∷ ts) in
    bound P (deeper b ts) _ (weaker _ _ (deeper b ts)
    (λ (g : Group × Row) h. bound P (past_closing g.1) (λ left. Some (nested name g.0, left)) (weaker (λ left. g.1 ≡ closing ∷ left) _ (past_closing g.1)
    (λ left k. record { spelled = in_parentheses name g.0 ts g.1 left h.0 k; formed = formed g.0 h.1; shallow = h.2 })
    (closing_is g.1)))
    (reads b ts))

named_of : (depth : ℕ) (deeper : Reader) (name : Text) (in_field : Bool) (ts : Row) → ReadsGroups depth deeper
    → IfSome (named_at deeper name ts) (IsAtomOf depth in_field (value (word name) ∷ colon ∷ ts))
unfolding named_at
named_of depth deeper name in_field [] reads = tt
named_of depth deeper name in_field (value v ∷ ts) reads = record { spelled = refl; formed = tt; shallow = omega arith }
named_of depth deeper name in_field (sign s ∷ ts) reads = tt
named_of depth deeper name in_field (operator o ∷ ts) reads = tt
named_of depth deeper name in_field (opening ∷ ts) reads = nested_of depth deeper (Some name) in_field true ts reads (λ g h. h)
named_of depth deeper name in_field (closing ∷ ts) reads = tt
named_of depth deeper name in_field (colon ∷ ts) reads = tt

everything_of : (depth : ℕ) (in_field : Bool) (ts : Row) → IfSome (everything_at ts) (IsAtomOf depth in_field (value star ∷ colon ∷ ts))
unfolding everything_at
everything_of depth in_field [] = tt
everything_of depth in_field (value star ∷ ts) = record { spelled = refl; formed = tt; shallow = omega arith }
everything_of depth in_field (value (word t) ∷ ts) = tt
everything_of depth in_field (value (quoted t) ∷ ts) = tt
everything_of depth in_field (value (range r) ∷ ts) = tt
everything_of depth in_field (sign s ∷ ts) = tt
everything_of depth in_field (operator o ∷ ts) = tt
everything_of depth in_field (opening ∷ ts) = tt
everything_of depth in_field (closing ∷ ts) = tt
everything_of depth in_field (colon ∷ ts) = tt

behind_colon_of : (depth : ℕ) (deeper : Reader) (v : Value) (in_field : Bool) (ts : Row) → ReadsGroups depth deeper
    → IfSome (behind_colon_at deeper v ts) (IsAtomOf depth in_field (value v ∷ colon ∷ ts))
unfolding behind_colon_at
behind_colon_of depth deeper (word name) in_field ts reads = named_of depth deeper name in_field ts reads
behind_colon_of depth deeper (quoted t) in_field ts reads = tt
behind_colon_of depth deeper (range r) in_field ts reads = tt
behind_colon_of depth deeper star in_field ts reads = everything_of depth in_field ts

bare_of : (depth : ℕ) (in_field : Bool) (v : Value) (ts : Row) → IfSome (cond in_field (Some (plain None v, ts)) None) (IsAtomOf depth in_field (value v ∷ ts))
bare_of depth true v ts = record { spelled = refl; formed = refl; shallow = omega arith }
bare_of depth false v ts = tt

value_of : (depth : ℕ) (deeper : Reader) (in_field : Bool) (v : Value) (ts : Row) → ReadsGroups depth deeper
    → IfSome (value_at deeper in_field v ts) (IsAtomOf depth in_field (value v ∷ ts))
unfolding value_at
value_of depth deeper in_field v [] reads = bare_of depth in_field v []
value_of depth deeper in_field v (value w ∷ ts) reads = bare_of depth in_field v (value w ∷ ts)
value_of depth deeper in_field v (sign s ∷ ts) reads = bare_of depth in_field v (sign s ∷ ts)
value_of depth deeper in_field v (operator o ∷ ts) reads = bare_of depth in_field v (operator o ∷ ts)
value_of depth deeper in_field v (opening ∷ ts) reads = bare_of depth in_field v (opening ∷ ts)
value_of depth deeper in_field v (closing ∷ ts) reads = bare_of depth in_field v (closing ∷ ts)
value_of depth deeper in_field v (colon ∷ ts) reads = behind_colon_of depth deeper v in_field ts reads

atom_of : (depth : ℕ) (deeper : Reader) (in_field : Bool) (ts : Row) → ReadsGroups depth deeper → IfSome (atom_at deeper in_field ts) (IsAtomOf depth in_field ts)
unfolding atom_at
atom_of depth deeper in_field [] reads = tt
atom_of depth deeper in_field (value v ∷ ts) reads = value_of depth deeper in_field v ts reads
atom_of depth deeper in_field (sign s ∷ ts) reads = tt
atom_of depth deeper in_field (operator o ∷ ts) reads = tt
atom_of depth deeper in_field (opening ∷ ts) reads = nested_of depth deeper None in_field in_field ts reads (λ g h. h)
atom_of depth deeper in_field (closing ∷ ts) reads = tt
atom_of depth deeper in_field (colon ∷ ts) reads = tt

sign_is : (ts : Row) → ts ≡ sign_tokens (sign_at ts).0 ++ (sign_at ts).1
sign_is [] = refl
sign_is (value v ∷ ts) = refl
sign_is (sign s ∷ ts) = refl
sign_is (operator o ∷ ts) = refl
sign_is (opening ∷ ts) = refl
sign_is (closing ∷ ts) = refl
sign_is (colon ∷ ts) = refl

operator_is : (ts : Row) → ts ≡ operator_tokens (operator_at ts).0 ++ (operator_at ts).1
operator_is [] = refl
operator_is (value v ∷ ts) = refl
operator_is (sign s ∷ ts) = refl
operator_is (operator o ∷ ts) = refl
operator_is (opening ∷ ts) = refl
operator_is (closing ∷ ts) = refl
operator_is (colon ∷ ts) = refl

pub clause_of : (depth : ℕ) (deeper : Reader) (in_field : Bool) (ts : Row) → ReadsGroups depth deeper → IfSome (clause_at deeper in_field ts) (IsClauseOf depth in_field ts)
unfolding clause_at
clause_of depth deeper in_field ts reads =
    let s = sign_at ts in
    mapped (IsClauseOf depth in_field ts) (atom_at deeper in_field s.1) _ (weaker (IsAtomOf depth in_field s.1) _ (atom_at deeper in_field s.1)
    (λ (a : Atom × Row) h. record { spelled = sign_is ts ∙ ap (λ x. sign_tokens s.0 ++ x) h.spelled; formed = h.formed; shallow = h.shallow })
    (atom_of depth deeper in_field s.1 reads))

-- a clause, and those behind it
linked : (o : Option Operator) (c : (Option Sign × Atom) × Row) (g : Group × Row) (ts rest : Row) → ts ≡ operator_tokens o ++ rest → rest ≡ sign_tokens c.0.0 ++ (atom_tokens c.0.1 ++ c.1) → c.1 ≡ group_tokens g.0 ++ g.1
    → ts ≡ group_tokens (with_clause o c.0 g).0 ++ g.1
linked o c g ts rest e h k =
    let S = sign_tokens c.0.0 in
    let A = atom_tokens c.0.1 in
    let G = group_tokens g.0 in
    e ∙ ap (λ x. operator_tokens o ++ x) (h ∙ ap (λ x. S ++ (A ++ x)) k)
    ∙ sym (append_assoc (operator_tokens o) (S ++ (A ++ G)) g.1 ∙ ap (λ x. operator_tokens o ++ x) (append_assoc S (A ++ G) g.1 ∙ ap (λ x. S ++ x) (append_assoc A G g.1)))

others_of : (n depth : ℕ) (deeper : Reader) (in_field : Bool) (ts : Row) → ReadsGroups depth deeper
    → ((left : Row) → IfSome (clauses_at n deeper in_field left) (AreClausesOf depth in_field left))
    → IfSome (clause_at deeper in_field (operator_at ts).1 >>= λ c. option_map (with_clause (operator_at ts).0 c.0) (clauses_at n deeper in_field c.1)) (AreClausesOf depth in_field ts)
others_of n depth deeper in_field ts reads others =
    let o = operator_at ts in
    let P = AreClausesOf depth in_field ts in
    bound P (clause_at deeper in_field o.1) _ (weaker (IsClauseOf depth in_field o.1) _ (clause_at deeper in_field o.1)
    (λ (c : (Option Sign × Atom) × Row) h. mapped P (clauses_at n deeper in_field c.1) (with_clause o.0 c.0) (weaker (AreClausesOf depth in_field c.1) _ (clauses_at n deeper in_field c.1)
    (λ (g : Group × Row) k. record { spelled = linked o.0 c g ts o.1 (operator_is ts) h.spelled k.spelled; formed = (h.formed, k.formed); shallow = let x = h.shallow in let y = k.shallow in omega arith })
    (others c.1)))
    (clause_of depth deeper in_field o.1 reads))

clauses_of : (n depth : ℕ) (deeper : Reader) (in_field : Bool) (ts : Row) → ReadsGroups depth deeper → IfSome (clauses_at n deeper in_field ts) (AreClausesOf depth in_field ts)
unfolding clauses_at
clauses_of n depth deeper in_field [] reads = record { spelled = refl; formed = tt; shallow = omega arith }
clauses_of n depth deeper in_field (closing ∷ ts) reads = record { spelled = refl; formed = tt; shallow = omega arith }
clauses_of zero depth deeper in_field (value v ∷ ts) reads = tt
clauses_of zero depth deeper in_field (sign s ∷ ts) reads = tt
clauses_of zero depth deeper in_field (operator o ∷ ts) reads = tt
clauses_of zero depth deeper in_field (opening ∷ ts) reads = tt
clauses_of zero depth deeper in_field (colon ∷ ts) reads = tt
clauses_of (suc n) depth deeper in_field (value v ∷ ts) reads = others_of n depth deeper in_field (value v ∷ ts) reads (λ left. clauses_of n depth deeper in_field left reads)
clauses_of (suc n) depth deeper in_field (sign s ∷ ts) reads = others_of n depth deeper in_field (sign s ∷ ts) reads (λ left. clauses_of n depth deeper in_field left reads)
clauses_of (suc n) depth deeper in_field (operator o ∷ ts) reads = others_of n depth deeper in_field (operator o ∷ ts) reads (λ left. clauses_of n depth deeper in_field left reads)
clauses_of (suc n) depth deeper in_field (opening ∷ ts) reads = others_of n depth deeper in_field (opening ∷ ts) reads (λ left. clauses_of n depth deeper in_field left reads)
clauses_of (suc n) depth deeper in_field (colon ∷ ts) reads = others_of n depth deeper in_field (colon ∷ ts) reads (λ left. clauses_of n depth deeper in_field left reads)

group_of : (depth : ℕ) (deeper : Reader) (in_field : Bool) (ts : Row) → ReadsGroups depth deeper → IfSome (group_at deeper in_field ts) (IsGroupOf depth in_field ts)
unfolding group_at
group_of depth deeper in_field ts reads =
    let P = IsGroupOf depth in_field ts in
    bound P (clause_at deeper in_field ts) _ (weaker (IsClauseOf depth in_field ts) _ (clause_at deeper in_field ts)
    (λ (c : (Option Sign × Atom) × Row) h. mapped P (clauses_at (length c.1) deeper in_field c.1) (with_clause None c.0) (weaker (AreClausesOf depth in_field c.1) _ (clauses_at (length c.1) deeper in_field c.1)
    (λ (g : Group × Row) k. record { spelled = linked None c g ts ts refl h.spelled k.spelled; formed = (h.formed, k.formed); shallow = let x = h.shallow in let y = k.shallow in omega arith })
    (clauses_of (length c.1) depth deeper in_field c.1 reads)))
    (clause_of depth deeper in_field ts reads))

-- what is read is spelled
pub read_is_spelled : (depth : ℕ) (in_field : Bool) (ts : Row) → IfSome (group_within depth in_field ts) (IsGroupOf depth in_field ts)
unfolding group_within
read_is_spelled zero in_field ts = group_of zero (λ _ _. None) in_field ts (λ b left. tt)
read_is_spelled (suc depth) in_field ts = group_of (suc depth) (group_within depth) in_field ts
    (λ b left. weaker (IsGroupOf depth b left) (λ g. (left ≡ group_tokens g.0 ++ g.1) × IsGroup b g.0 × (suc (nesting g.0) ≤ suc depth)) (group_within depth b left)
    (λ g h. (h.spelled, h.formed, let x = h.shallow in omega arith)) (read_is_spelled depth b left))
