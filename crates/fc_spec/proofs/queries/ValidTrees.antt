-- Queries of trees are valid for the schema.
use Rattle.std.proofs.Common.{◌≡◌, sym, refl, subst, ℕ, zero, suc, ◌<◌, ◌≤◌, length, Bool, true, false, cond, ◌&&◌, Option, None, Some, IfSome, arith}
use Rattle.std.specs.Prelude.{slice_get, Ok, Err, ok_or, IsSomeAnd, List, [], ◌∷◌}
use Rattle.std.specs.Option.{option_and_then, is_none}
use Rattle.fc_spec.specs.documents.Val.{Text, text, long}
use Rattle.fc_spec.specs.documents.Schema.{FieldType, string, strings, plong, plongs, pdate, pdates, Field, Schema}
use Rattle.fc_spec.specs.documents.IntegerTexts.{long_of, integer_of, is_long}
use Rattle.fc_spec.specs.dates.DateTexts.{canonical_of}
use Rattle.fc_spec.specs.queries.Query.{including, excluding, must, must_not, may, Query, has, is, between, Clauses, no_clauses, clause as query_clause}
use Rattle.fc_spec.specs.queries.QueryFault.{mixed_operators, unknown_field, bad_value}
use Rattle.fc_spec.specs.queries.QueryTokens.{WrittenRange, Value, word, quoted, range, star}
use Rattle.fc_spec.specs.queries.QueryTrees.{Atom, plain, everything, nested, Group, no_more, clause}
use Rattle.fc_spec.specs.queries.QueryForms.{atom_nesting, nesting}
use Rattle.fc_spec.specs.queries.QueryMeaning.{written_value, written_bound, range_query, value_query, plain_query, field_under, grouped, clauses_query, atom_query, group_query, tree_query, mixes, has_unknown, need_of, next_operator}
use Rattle.fc_spec.specs.documents.ValidBlocks.{is_of_type}
use Rattle.fc_spec.specs.queries.ValidQueries.{IsFieldValue, IsFieldBound, FitsSchema, AllFitSchema, depth, clauses_depth, IsValidQuery}
use Rattle.fc_spec.proofs.words.Present.{bound, either, mapped, weaker}

-- an integer that a text spells has 64 bits
spelled_long : (t : Text) → IfSome (long_of t) (λ z. is_long z ≡ true)
spelled_long t = of (integer_of t)
  where
    tested : (z : _) (b : Bool) → is_long z ≡ b → IfSome (cond b (Some z) None) (λ y. is_long y ≡ true)
    tested z true e = e
    tested z false e = tt

    of : (o : _) → IfSome (option_and_then (λ z. cond (is_long z) (Some z) None) o) (λ z. is_long z ≡ true)
    of None = tt
    of (Some z) = tested z (is_long z) refl

everywhere : (o : Option Text) → IfSome o (λ c. true ≡ true)
everywhere None = tt
everywhere (Some c) = refl

-- a written value is of the type
of_type : (kind : FieldType) (t : Text) → IfSome (written_value kind t) (λ v. is_of_type kind v ≡ true)
of_type string t = refl
of_type strings t = refl
of_type plong t = mapped (λ v. is_of_type plong v ≡ true) (long_of t) long (spelled_long t)
of_type plongs t = mapped (λ v. is_of_type plongs v ≡ true) (long_of t) long (spelled_long t)
of_type pdate t = mapped (λ v. is_of_type pdate v ≡ true) (canonical_of t) text (everywhere (canonical_of t))
of_type pdates t = mapped (λ v. is_of_type pdates v ≡ true) (canonical_of t) text (everywhere (canonical_of t))

-- the field that a number finds
below_length : {X : Type 0} (xs : List X) (n : ℕ) → IfSome (slice_get xs n) (λ x. n < length xs)
below_length [] n = tt
below_length (x ∷ xs) zero = omega arith
below_length (x ∷ xs) (suc n) = weaker (λ y. n < length xs) (λ y. suc n < length (x ∷ xs)) (slice_get xs n) (λ y h. omega arith) (below_length xs n)

found : {X : Type 0} (P : X → Type 0) (o : Option X) (x : X) → o ≡ Some x → P x → IsSomeAnd o P
found P o x e h = subst (λ (y : Option _). IsSomeAnd y P) (sym e) h

field_value : (s : Schema) (n : ℕ) (f : Field) (t : Text) → slice_get s.fields n ≡ Some f → IfSome (written_value f.kind t) (IsFieldValue s n)
field_value s n f t e = weaker (λ v. is_of_type f.kind v ≡ true) (IsFieldValue s n) (written_value f.kind t) (λ v h. found (λ g. is_of_type g.kind v ≡ true) (slice_get s.fields n) f e h) (of_type f.kind t)

field_bound : (s : Schema) (n : ℕ) (f : Field) (has_end : Bool) (end : Option Text) → slice_get s.fields n ≡ Some f → n < length s.fields → IfSome (written_bound f.kind has_end end) (IsFieldBound s n)
field_bound s n f has_end None e h = h
field_bound s n f true (Some t) e h = mapped (IsFieldBound s n) (written_value f.kind t) including (field_value s n f t e)
field_bound s n f false (Some t) e h = mapped (IsFieldBound s n) (written_value f.kind t) excluding (field_value s n f t e)

-- what a value means fits, and is no group
abbrev IsPlain : Schema → Query → Type 0
IsPlain s q = FitsSchema s q × (depth q ≡ 0)

range_fits : (s : Schema) (n : ℕ) (f : Field) (r : WrittenRange) → slice_get s.fields n ≡ Some f → n < length s.fields → IfSome (range_query n f.kind r) (IsPlain s)
range_fits s n f r e h =
    either (IsPlain s) (is_none r.low && is_none r.high) (Some (has n)) _ (h, refl)
    (bound (IsPlain s) (written_bound f.kind r.has_low r.low) _ (weaker (IsFieldBound s n) _ (written_bound f.kind r.has_low r.low)
    (λ low l. bound (IsPlain s) (written_bound f.kind r.has_high r.high) (λ high. Some (between n low high)) (weaker (IsFieldBound s n) _ (written_bound f.kind r.has_high r.high)
    (λ high k. ((l, k), refl))
    (field_bound s n f r.has_high r.high e h)))
    (field_bound s n f r.has_low r.low e h)))

value_fits : (s : Schema) (n : ℕ) (f : Field) (v : Value) → slice_get s.fields n ≡ Some f → n < length s.fields → IfSome (value_query n f.kind v) (IsPlain s)
value_fits s n f (word t) e h = mapped (IsPlain s) (written_value f.kind t) (is n) (weaker (IsFieldValue s n) (λ v. IsPlain s (is n v)) (written_value f.kind t) (λ v k. (k, refl)) (field_value s n f t e))
value_fits s n f (quoted t) e h = mapped (IsPlain s) (written_value f.kind t) (is n) (weaker (IsFieldValue s n) (λ v. IsPlain s (is n v)) (written_value f.kind t) (λ v k. (k, refl)) (field_value s n f t e))
value_fits s n f (range r) e h = range_fits s n f r e h
value_fits s n f star e h = (h, refl)

at_field : (s : Schema) (n : ℕ) (v : Value) (o : Option Field) → slice_get s.fields n ≡ o → IfSome (option_and_then (λ f. value_query n f.kind v) o) (IsPlain s)
at_field s n v None e = tt
at_field s n v (Some f) e = value_fits s n f v e (subst (λ (o : Option Field). IfSome o (λ x. n < length s.fields)) e (below_length s.fields n))

plain_fits : (s : Schema) (at : Option ℕ) (v : Value) → IfSome (plain_query s at v) (IsPlain s)
plain_fits s None v = tt
plain_fits s (Some n) v = at_field s n v (slice_get s.fields n) refl

-- a query fits, and its groups stand in so many others
record FitsWithin (s : Schema) (most : ℕ) (q : Query) : Type 0 where
  fits : FitsSchema s q
  shallow : depth q ≤ most

record AllFitWithin (s : Schema) (most : ℕ) (cs : Clauses) : Type 0 where
  fits : AllFitSchema s cs
  shallow : clauses_depth cs ≤ most

grouped_fits : (s : Schema) (most : ℕ) (cs : Clauses) → AllFitWithin s most cs → FitsWithin s (suc most) (grouped cs)
grouped_fits s most no_clauses h = record { fits = tt; shallow = omega arith }
grouped_fits s most (query_clause must q cs) h = record { fits = h.fits; shallow = let x = h.shallow in omega arith }
grouped_fits s most (query_clause must_not q cs) h = record { fits = h.fits; shallow = let x = h.shallow in omega arith }
grouped_fits s most (query_clause may q no_clauses) h = record { fits = h.fits.0; shallow = let x = h.shallow in omega arith }
grouped_fits s most (query_clause may q (query_clause n r cs)) h = record { fits = h.fits; shallow = let x = h.shallow in omega arith }

mutual
  clauses_fit : (s : Schema) (around : Option ℕ) (g : Group) → IfSome (clauses_query s around g) (AllFitWithin s (nesting g))
  clauses_fit s around no_more = record { fits = tt; shallow = omega arith }
  clauses_fit s around (clause o sign a g) =
      let P = AllFitWithin s (nesting (clause o sign a g)) in
      bound P (atom_query s around a) _ (weaker (FitsWithin s (atom_nesting a)) _ (atom_query s around a)
      (λ q h. bound P (clauses_query s around g) (λ cs. Some (query_clause (need_of sign o (next_operator g)) q cs)) (weaker (AllFitWithin s (nesting g)) _ (clauses_query s around g)
      (λ cs k. record { fits = (h.fits, k.fits); shallow = let x = h.shallow in let y = k.shallow in omega arith })
      (clauses_fit s around g)))
      (atom_fits s around a))

  atom_fits : (s : Schema) (around : Option ℕ) (a : Atom) → IfSome (atom_query s around a) (FitsWithin s (atom_nesting a))
  atom_fits s around (plain n v) = weaker (IsPlain s) (FitsWithin s 0) (plain_query s (field_under s around n) v) (λ q h. record { fits = h.0; shallow = let x = h.1 in omega arith }) (plain_fits s (field_under s around n) v)
  atom_fits s around everything = record { fits = tt; shallow = omega arith }
  atom_fits s around (nested n g) = mapped (FitsWithin s (suc (nesting g))) (clauses_query s (field_under s around n) g) grouped
      (weaker (AllFitWithin s (nesting g)) _ (clauses_query s (field_under s around n) g) (λ cs h. grouped_fits s (nesting g) cs h) (clauses_fit s (field_under s around n) g))

group_valid : (s : Schema) (g : Group) → nesting g ≤ 64 → IfSome (group_query s g) (IsValidQuery s)
group_valid s g small = mapped (IsValidQuery s) (clauses_query s None g) grouped (weaker (AllFitWithin s (nesting g)) _ (clauses_query s None g)
    (λ cs h. let k = grouped_fits s (nesting g) cs h in record { fits = k.fits; shallow = let x = k.shallow in omega arith })
    (clauses_fit s None g))

-- what a tree means is valid
pub tree_valid : (s : Schema) (g : Group) (q : Query) → nesting g ≤ 64 → tree_query s g ≡ Ok q → IsValidQuery s q
tree_valid s g q small e = of (mixes g) (has_unknown s g) (group_query s g) (group_valid s g small) e
  where
    of : (mixed unknown : Bool) (o : Option Query) → IfSome o (IsValidQuery s) → cond mixed (Err mixed_operators) (cond unknown (Err unknown_field) (ok_or o bad_value)) ≡ Ok q → IsValidQuery s q
    of true unknown o h e = absurd cc
    of false true o h e = absurd cc
    of false false None h e = absurd cc
    of false false (Some r) h e = let same : r ≡ q = cc in subst (IsValidQuery s) same h
