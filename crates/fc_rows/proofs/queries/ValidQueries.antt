-- Which queries are valid for a schema. Fields: id, n (an integer).
use Rattle.std.specs.Prelude.{ℕ, zero, suc, pos, negsuc, refl, [], ◌∷◌, codes}
use Rattle.std.proofs.Common.{arith}
use Rattle.std.proofs.lemmas.Bool.{false≢true}
use Rattle.fc_spec.specs.documents.Val.{text, long}
use Rattle.fc_spec.specs.documents.Schema.{string, plong, Schema}
use Rattle.fc_spec.specs.queries.Query.{unbounded, including, excluding, must, must_not, may, Query, all, has, is, between, group, no_clauses, clause}
use Rattle.fc_spec.specs.queries.ValidQueries.{FitsSchema, IsValidQuery}
use Rattle.fc_rows.proofs.Words.{says}

abbrev schema : Schema
schema = record { shards = 1; fields = record { name = codes "id"; kind = string } ∷ record { name = codes "n"; kind = plong } ∷ [] }

-- `*:*` in so many groups
abbrev deep : ℕ → Query
deep zero = all
deep (suc n) = group (clause must (deep n) no_clauses)

deep_fits : (n : ℕ) → FitsSchema schema (deep n)
deep_fits zero = tt
deep_fits (suc n) = (deep_fits n, tt)

pub sixty_five_groups : IsValidQuery schema (deep 65)
sixty_five_groups = record { fits = deep_fits 65; shallow = omega arith }

pub one_more_group : ¬ (IsValidQuery schema (deep 66))
one_more_group v = omega (arith, v.shallow)

-- of two groups side by side the deeper one counts
pub side_by_side : IsValidQuery schema (group (clause may (deep 64) (clause may (deep 64) no_clauses)))
side_by_side = record { fits = (deep_fits 64, (deep_fits 64, tt)); shallow = omega arith }

-- ---- values of the field's type
pub of_their_types : FitsSchema schema (group (clause must (says 0 "5") (clause must_not (is 1 (long (negsuc 9_223_372_036_854_775_807))) (clause may (between 1 (including (long (pos 3))) unbounded) (clause may (has 1) no_clauses)))))
of_their_types = (refl, (refl, ((refl, omega arith), (omega arith, tt))))

pub integer_for_text : ¬ (FitsSchema schema (is 0 (long (pos 5))))
integer_for_text h = false≢true h

pub text_for_integer : ¬ (FitsSchema schema (says 1 "5"))
text_for_integer h = false≢true h

pub wide_integer : ¬ (FitsSchema schema (is 1 (long (pos 9_223_372_036_854_775_808))))
wide_integer h = false≢true h

pub bad_low_end : ¬ (FitsSchema schema (between 1 (including (text (codes "5"))) unbounded))
bad_low_end h = false≢true h.0

pub bad_high_end : ¬ (FitsSchema schema (between 1 unbounded (excluding (text (codes "5")))))
bad_high_end h = false≢true h.1

pub bad_second_clause : ¬ (FitsSchema schema (group (clause must all (clause must (says 1 "5") no_clauses))))
bad_second_clause h = false≢true h.1.0

-- ---- a field that is not there
pub no_field : ¬ (FitsSchema schema (has 2))
no_field h = omega (arith, h)

pub no_field_of_a_value : ¬ (FitsSchema schema (says 2 "5"))
no_field_of_a_value h = absurd h

pub no_field_of_a_range : ¬ (FitsSchema schema (between 2 unbounded unbounded))
no_field_of_a_range h = omega (arith, h.0)
