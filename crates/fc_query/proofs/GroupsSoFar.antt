-- The clauses of a group so far.
use Rattle.std.proofs.Common.{◌≡◌, ◌∙◌, ap, sym, refl, subst, ℕ, zero, suc, ◌<◌, ◌≤◌, List, [], ◌∷◌, ◌++◌, length, Bool, true, false, Option, None, Some, option_map, IfSome, arith, length-append}
use Rattle.fc_spec.specs.words.Options.{◌>>=◌}
use Rattle.fc_spec.specs.queries.QueryTokens.{Sign, Operator, value, sign, operator, opening, closing, colon}
use Rattle.fc_spec.specs.queries.QueryTrees.{Atom, Group, no_more, clause, sign_tokens, atom_tokens, group_tokens}
use Rattle.fc_spec.specs.queries.QueryForms.{IsGroup, nesting}
use Rattle.fc_spec.proofs.words.Present.{weaker}
use Rattle.fc_spec.specs.queries.TreeReading.{Row, Reader, operator_at, clause_at, with_clause, clauses_at, group_at, group_within, deeper_than}
use Rattle.fc_spec.proofs.queries.ReadIsSpelled.{ReadsGroups, IsClauseOf, IsGroupOf, clause_of, read_is_spelled}
use Rattle.fc_spec.proofs.queries.SpelledIsRead.{some_tokens}
use Rattle.fc_query.specs.TreeView.{Part, linked, behind_operator, is_end_of}

-- these clauses, and then those of a group
abbrev pub onto : List Part → Group → Group
onto [] g = g
onto (c ∷ cs) g = clause c.0 c.1 c.2 (onto cs g)

abbrev in_front : List Part → Group × Row → Group × Row
in_front before g = (onto before g.0, g.1)

-- those before, and those of what is left
pub record IsGroupSoFar (before : List Part) (deeper : Reader) (b : Bool) (left : Row) (whole : Option (Group × Row)) : Type 0 where
  pub most : ℕ
  pub room : length left ≤ most
  pub same : option_map (in_front before) (clauses_at most deeper b left) ≡ whole

onto_more : (before : List Part) (c : Part) (g : Group) → onto before (clause c.0 c.1 c.2 g) ≡ onto (before ++ c ∷ []) g
onto_more [] c g = refl
onto_more (d ∷ before) c g = ap (clause d.0 d.1 d.2) (onto_more before c g)

onto_end : (before : List Part) → onto before no_more ≡ linked before
onto_end [] = refl
onto_end (d ∷ before) = ap (clause d.0 d.1 d.2) (onto_end before)

-- what a clause behind its operator is
of_clause : (o : Option Operator) (x : Option ((Option Sign × Atom) × Row)) (p : Part) (left : Row) → behind_operator o x ≡ Some (p, left)
    → (c : Option Sign × Atom) × (x ≡ Some (c, left)) × (p ≡ (o, c.0, c.1))
of_clause o None p left e = absurd cc
of_clause o (Some (c, rest)) p left e =
    let pair : ◌≡◌ {A = Part × Row} ((o, c.0, c.1), rest) (p, left) = cc in
    (c, ap (λ r. Some (c, r)) (ap (λ x. x.1) pair), sym (ap (λ x. x.0) pair))

no_clause : (o : Option Operator) (x : Option ((Option Sign × Atom) × Row)) → behind_operator o x ≡ None → x ≡ None
no_clause o None e = refl
no_clause o (Some c) e = absurd cc

more_map : (before : List Part) (o : Option Operator) (c : Option Sign × Atom) (x : Option (Group × Row))
    → option_map (in_front before) (option_map (with_clause o c) x) ≡ option_map (in_front (before ++ (o, c.0, c.1) ∷ [])) x
more_map before o c None = refl
more_map before o c (Some g) = ap (λ h. Some (h, g.1)) (onto_more before (o, c.0, c.1) g.0)

deeper_reads : (depth : ℕ) → ReadsGroups depth (deeper_than depth)
unfolding deeper_than
deeper_reads zero b ts = tt
deeper_reads (suc depth) b ts =
    weaker (IsGroupOf depth b ts) (λ g. (ts ≡ group_tokens g.0 ++ g.1) × IsGroup b g.0 × (suc (nesting g.0) ≤ suc depth)) (group_within depth b ts)
    (λ g h. (h.spelled, h.formed, let x = h.shallow in omega arith)) (read_is_spelled depth b ts)

-- a clause takes a token
clause_shorter : (depth : ℕ) (b : Bool) (ts : Row) (c : Option Sign × Atom) (left : Row) → clause_at (deeper_than depth) b ts ≡ Some (c, left) → length left < length ts
clause_shorter depth b ts c left e =
    let read = subst (λ (o : Option ((Option Sign × Atom) × Row)). IfSome o (IsClauseOf depth b ts)) e (clause_of depth (deeper_than depth) b ts (deeper_reads depth)) in
    let size = ap length read.spelled ∙ length-append (sign_tokens c.0) (atom_tokens c.1 ++ left) in
    let rest = length-append (atom_tokens c.1) left in
    let some = some_tokens c.1 in
    omega arith

operator_shorter : (ts : Row) → length (operator_at ts).1 ≤ length ts
operator_shorter [] = omega arith
operator_shorter (value v ∷ ts) = omega arith
operator_shorter (sign s ∷ ts) = omega arith
operator_shorter (operator o ∷ ts) = omega arith
operator_shorter (opening ∷ ts) = omega arith
operator_shorter (closing ∷ ts) = omega arith
operator_shorter (colon ∷ ts) = omega arith

pub next_is_shorter : (depth : ℕ) (b : Bool) (ts : Row) (p : Part) (left : Row) → behind_operator (operator_at ts).0 (clause_at (deeper_than depth) b (operator_at ts).1) ≡ Some (p, left) → length left < length ts
next_is_shorter depth b ts p left e =
    let c = of_clause (operator_at ts).0 (clause_at (deeper_than depth) b (operator_at ts).1) p left e in
    let size = clause_shorter depth b (operator_at ts).1 c.0 left c.1 in
    let less = operator_shorter ts in
    omega arith

-- the first clause is read
pub first_read : (deeper : Reader) (b : Bool) (ts : Row) (p : Part) (left : Row) → behind_operator None (clause_at deeper b ts) ≡ Some (p, left) → IsGroupSoFar (p ∷ []) deeper b left (group_at deeper b ts)
unfolding group_at
first_read deeper b ts p left e =
    let c = of_clause None (clause_at deeper b ts) p left e in
    let one = ap (λ x. option_map (in_front (x ∷ [])) (clauses_at (length left) deeper b left)) c.2 ∙ sym (same_map c.0 (clauses_at (length left) deeper b left)) in
    record {
      most = length left;
      room = omega arith;
      same = one ∙ sym (ap (λ x. x >>= λ y. option_map (with_clause None y.0) (clauses_at (length y.1) deeper b y.1)) c.1);
    }
  where
    same_map : (c : Option Sign × Atom) (x : Option (Group × Row)) → option_map (with_clause None c) x ≡ option_map (in_front ((None, c.0, c.1) ∷ [])) x
    same_map c None = refl
    same_map c (Some g) = refl

pub no_first : (deeper : Reader) (b : Bool) (ts : Row) → behind_operator None (clause_at deeper b ts) ≡ None → group_at deeper b ts ≡ None
unfolding group_at
no_first deeper b ts e = ap (λ x. x >>= λ y. option_map (with_clause None y.0) (clauses_at (length y.1) deeper b y.1)) (no_clause None (clause_at deeper b ts) e)

abbrev one_more : ℕ → Reader → Bool → Row → Option (Group × Row)
one_more n deeper b ts = clause_at deeper b (operator_at ts).1 >>= λ c. option_map (with_clause (operator_at ts).0 c.0) (clauses_at n deeper b c.1)

step : (n : ℕ) (deeper : Reader) (b : Bool) (ts : Row) → is_end_of ts ≡ false → clauses_at (suc n) deeper b ts ≡ one_more n deeper b ts
unfolding clauses_at
step n deeper b [] h = cc
step n deeper b (value v ∷ ts) h = refl
step n deeper b (sign s ∷ ts) h = refl
step n deeper b (operator o ∷ ts) h = refl
step n deeper b (opening ∷ ts) h = refl
step n deeper b (closing ∷ ts) h = cc
step n deeper b (colon ∷ ts) h = refl

stop : (n : ℕ) (deeper : Reader) (b : Bool) (ts : Row) → is_end_of ts ≡ true → clauses_at n deeper b ts ≡ Some (no_more, ts)
unfolding clauses_at
stop n deeper b [] h = refl
stop n deeper b (value v ∷ ts) h = cc
stop n deeper b (sign s ∷ ts) h = cc
stop n deeper b (operator o ∷ ts) h = cc
stop n deeper b (opening ∷ ts) h = cc
stop n deeper b (closing ∷ ts) h = refl
stop n deeper b (colon ∷ ts) h = cc

some_left : (ts : Row) → is_end_of ts ≡ false → 1 ≤ length ts
some_left [] h = cc
some_left (t ∷ ts) h = omega arith

next_within : (n depth : ℕ) (before : List Part) (b : Bool) (ts : Row) (p : Part) (left : Row) (whole : Option (Group × Row)) → is_end_of ts ≡ false → length ts ≤ n
    → behind_operator (operator_at ts).0 (clause_at (deeper_than depth) b (operator_at ts).1) ≡ Some (p, left)
    → option_map (in_front before) (clauses_at n (deeper_than depth) b ts) ≡ whole → IsGroupSoFar (before ++ p ∷ []) (deeper_than depth) b left whole
next_within zero depth before b ts p left whole h room e same = absurd (let some = some_left ts h in omega arith)
next_within (suc n) depth before b ts p left whole h room e same =
    let deeper = deeper_than depth in
    let o = operator_at ts in
    let c = of_clause o.0 (clause_at deeper b o.1) p left e in
    let less = next_is_shorter depth b ts p left e in
    record {
      most = n;
      room = omega arith;
      same = ap (λ x. option_map (in_front (before ++ x ∷ [])) (clauses_at n deeper b left)) c.2
          ∙ sym (more_map before o.0 c.0 (clauses_at n deeper b left))
          ∙ ap (λ x. option_map (in_front before) (x >>= λ y. option_map (with_clause o.0 y.0) (clauses_at n deeper b y.1))) (sym c.1)
          ∙ ap (option_map (in_front before)) (sym (step n deeper b ts h)) ∙ same;
    }

-- one more clause is read
pub next_read : (depth : ℕ) (before : List Part) (b : Bool) (ts : Row) (p : Part) (left : Row) (whole : Option (Group × Row)) → is_end_of ts ≡ false
    → behind_operator (operator_at ts).0 (clause_at (deeper_than depth) b (operator_at ts).1) ≡ Some (p, left)
    → IsGroupSoFar before (deeper_than depth) b ts whole → IsGroupSoFar (before ++ p ∷ []) (deeper_than depth) b left whole
next_read depth before b ts p left whole h e s = next_within s.most depth before b ts p left whole h s.room e s.same

none_within : (n : ℕ) (deeper : Reader) (before : List Part) (b : Bool) (ts : Row) (whole : Option (Group × Row)) → is_end_of ts ≡ false → length ts ≤ n
    → behind_operator (operator_at ts).0 (clause_at deeper b (operator_at ts).1) ≡ None
    → option_map (in_front before) (clauses_at n deeper b ts) ≡ whole → whole ≡ None
none_within zero deeper before b ts whole h room e same = absurd (let some = some_left ts h in omega arith)
none_within (suc n) deeper before b ts whole h room e same =
    sym same ∙ ap (option_map (in_front before)) (step n deeper b ts h
    ∙ ap (λ x. x >>= λ y. option_map (with_clause (operator_at ts).0 y.0) (clauses_at n deeper b y.1)) (no_clause (operator_at ts).0 (clause_at deeper b (operator_at ts).1) e))

-- there is no further clause, and something else is left
pub no_next : (deeper : Reader) (before : List Part) (b : Bool) (ts : Row) (whole : Option (Group × Row)) → is_end_of ts ≡ false
    → behind_operator (operator_at ts).0 (clause_at deeper b (operator_at ts).1) ≡ None → IsGroupSoFar before deeper b ts whole → whole ≡ None
no_next deeper before b ts whole h e s = none_within s.most deeper before b ts whole h s.room e s.same

-- the group ends
pub group_ends : (deeper : Reader) (before : List Part) (b : Bool) (ts : Row) (whole : Option (Group × Row)) → is_end_of ts ≡ true → IsGroupSoFar before deeper b ts whole → whole ≡ Some (linked before, ts)
group_ends deeper before b ts whole h s =
    sym s.same ∙ ap (option_map (in_front before)) (stop s.most deeper b ts h) ∙ ap (λ g. Some (g, ts)) (onto_end before)

-- a group of some depth is read with what reads the groups inside it
pub group_is : (depth : ℕ) (b : Bool) (ts : Row) → group_within depth b ts ≡ group_at (deeper_than depth) b ts
unfolding group_within deeper_than
group_is zero b ts = refl
group_is (suc depth) b ts = refl

pub none_deeper : (depth : ℕ) (b : Bool) (ts : Row) → depth ≡ 0 → deeper_than depth b ts ≡ None
unfolding deeper_than
none_deeper zero b ts e = refl
none_deeper (suc depth) b ts e = absurd (omega arith)

pub group_deeper : (depth inner : ℕ) (b : Bool) (ts : Row) → depth ≡ suc inner → deeper_than depth b ts ≡ group_within inner b ts
unfolding deeper_than
group_deeper zero inner b ts e = absurd (omega arith)
group_deeper (suc depth) inner b ts e = let same : depth ≡ inner = omega arith in ap (λ n. group_within n b ts) same
