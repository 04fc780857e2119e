-- Trees of query texts, the tokens that spell them, and what they mean. Fields: id, cat, n (an integer).
use Rattle.std.specs.Prelude.{◌≡◌, pos, negsuc, [], ◌∷◌, true, false, Option, None, Some, Ok, Err, refl, codes}
use Prim.Native.String.{String}
use Rattle.fc_spec.specs.documents.Val.{text, long}
use Rattle.fc_spec.specs.documents.Schema.{Schema, string, plong}
use Rattle.fc_spec.specs.queries.Query.{unbounded, including, excluding, must, must_not, may, Query, all, has, is, between, group, no_clauses, clause as query_clause}
use Rattle.fc_spec.specs.queries.QueryFault.{QueryFault, mixed_operators, unknown_field, bad_value}
use Rattle.fc_spec.specs.queries.QueryTokens.{range, word, quoted, star, minus, exclamation, negation, plus, Sign, and, or, Operator}
use Rattle.fc_spec.specs.queries.QueryTrees.{Atom, plain, everything, nested, Group, no_more, clause, group_tokens}
use Rattle.fc_spec.specs.queries.QueryMeaning.{tree_query}
use Rattle.fc_spec.specs.queries.QueryRow.{tokens_of}
use Rattle.fc_rows.proofs.queries.QueryWords.{cut}
use Rattle.fc_rows.proofs.Words.{says}

abbrev schema : Schema
schema = record { shards = 1; fields = record { name = codes "id"; kind = string } ∷ record { name = codes "cat"; kind = string } ∷ record { name = codes "n"; kind = plong } ∷ [] }

-- a word under a name, or without one
abbrev named : String → String → Atom
named n w = plain (Some (codes n)) (word (codes w))

abbrev unnamed : String → Atom
unnamed w = plain None (word (codes w))

abbrev one : Atom → Group
one a = clause None None a no_more

abbrev two : Atom → Option Operator → Option Sign → Atom → Group
two a o s b = clause None None a (clause o s b no_more)

-- the tree spells the text
abbrev Spells : String → Group → Type 0
Spells s g = tokens_of (codes s) ≡ Some (group_tokens g)

-- it spells the text, and means the query, or has the fault
abbrev Means : String → Group → Query → Type 0
Means s g q = Spells s g × (tree_query schema g ≡ Ok q)

abbrev Fails : String → Group → QueryFault → Type 0
Fails s g e = Spells s g × (tree_query schema g ≡ Err e)

pub single_clauses :
    Means "cat:a" (one (named "cat" "a")) (says 1 "a")
    × Means "((cat:a))" (one (nested None (one (nested None (one (named "cat" "a")))))) (says 1 "a")
    × Means "*:*" (one everything) all
    × Means "n:*" (one (plain (Some (codes "n")) star)) (has 2)
    × Means "n:-5" (one (named "n" "-5")) (is 2 (long (negsuc 4)))
    × Means "-cat:a" (clause None (Some minus) (named "cat" "a") no_more) (group (query_clause must_not (says 1 "a") no_clauses))
    × Means "+cat:a" (clause None (Some plus) (named "cat" "a") no_more) (group (query_clause must (says 1 "a") no_clauses))
    × Means "n:\"-5\"" (one (plain (Some (codes "n")) (quoted (codes "-5")))) (is 2 (long (negsuc 4)))
unfolding cut
single_clauses = ((refl, refl), (refl, refl), (refl, refl), (refl, refl), (refl, refl), (refl, refl), (refl, refl), (refl, refl))

pub needs :
    Means "cat:a cat:b" (two (named "cat" "a") None None (named "cat" "b")) (group (query_clause may (says 1 "a") (query_clause may (says 1 "b") no_clauses)))
    × Means "cat:a && NOT cat:b" (two (named "cat" "a") (Some and) (Some negation) (named "cat" "b")) (group (query_clause must (says 1 "a") (query_clause must_not (says 1 "b") no_clauses)))
    × Means "cat:a AND cat:b" (two (named "cat" "a") (Some and) None (named "cat" "b")) (group (query_clause must (says 1 "a") (query_clause must (says 1 "b") no_clauses)))
    × Means "cat:a OR +cat:b" (two (named "cat" "a") (Some or) (Some plus) (named "cat" "b")) (group (query_clause may (says 1 "a") (query_clause must (says 1 "b") no_clauses)))
unfolding cut
needs = ((refl, refl), (refl, refl), (refl, refl), (refl, refl))

-- an operator of an inner group is not the outer group's
pub inner_operators :
    Means "cat:a AND (cat:b OR cat:c)" (two (named "cat" "a") (Some and) None (nested None (two (named "cat" "b") (Some or) None (named "cat" "c"))))
    (group (query_clause must (says 1 "a") (query_clause must (group (query_clause may (says 1 "b") (query_clause may (says 1 "c") no_clauses))) no_clauses)))
    × Fails "((cat:a AND cat:b OR cat:c))" (one (nested None (one (nested None (clause None None (named "cat" "a") (clause (Some and) None (named "cat" "b") (clause (Some or) None (named "cat" "c") no_more))))))) mixed_operators
unfolding cut
inner_operators = ((refl, refl), (refl, refl))

pub field_groups :
    Means "cat:(a (!b n:1))"
    (one (nested (Some (codes "cat")) (two (unnamed "a") None None (nested None (clause None (Some exclamation) (unnamed "b") (clause None None (named "n" "1") no_more))))))
    (group (query_clause may (says 1 "a") (query_clause may (group (query_clause must_not (says 1 "b") (query_clause may (is 2 (long (pos 1))) no_clauses))) no_clauses)))
unfolding cut
field_groups = (refl, refl)

pub ranges :
    Means "n:{1 TO *]" (one (plain (Some (codes "n")) (range (record { low = Some (codes "1"); high = None; has_low = false; has_high = true })))) (between 2 (excluding (long (pos 1))) unbounded)
    × Means "cat:[a TO b}" (one (plain (Some (codes "cat")) (range (record { low = Some (codes "a"); high = Some (codes "b"); has_low = true; has_high = false })))) (between 1 (including (text (codes "a"))) (excluding (text (codes "b"))))
    × Means "n:{* TO *}" (one (plain (Some (codes "n")) (range (record { low = None; high = None; has_low = false; has_high = false })))) (has 2)
unfolding cut
ranges = ((refl, refl), (refl, refl), (refl, refl))

-- the first kind that stands anywhere
pub faults :
    Fails "n:a dog:b" (two (named "n" "a") None None (named "dog" "b")) unknown_field
    × Fails "n:a AND cat:b" (two (named "n" "a") (Some and) None (named "cat" "b")) bad_value
    × Fails "dog:a (n:1 AND n:2 OR n:3)" (two (named "dog" "a") None None (nested None (clause None None (named "n" "1") (clause (Some and) None (named "n" "2") (clause (Some or) None (named "n" "3") no_more))))) mixed_operators
    × Fails "cat:a AND n:1 OR n:2" (clause None None (named "cat" "a") (clause (Some and) None (named "n" "1") (clause (Some or) None (named "n" "2") no_more))) mixed_operators
    × Fails "n:9223372036854775808" (one (named "n" "9223372036854775808")) bad_value
    × Fails "dog:(cat:a)" (one (nested (Some (codes "dog")) (one (named "cat" "a")))) unknown_field
    × Fails "cat:(dog:a)" (one (nested (Some (codes "cat")) (one (named "dog" "a")))) unknown_field
    × Fails "n:\"a\"" (one (plain (Some (codes "n")) (quoted (codes "a")))) bad_value
unfolding cut
faults = ((refl, refl), (refl, refl), (refl, refl), (refl, refl), (refl, refl), (refl, refl), (refl, refl), (refl, refl))
