-- Which trees of query texts are well formed.
use Rattle.std.specs.Prelude.{ℕ, zero, suc, false, refl, None, Some, codes}
use Rattle.std.proofs.Common.{arith}
use Rattle.std.proofs.lemmas.Bool.{false≢true}
use Prim.Native.String.{String}
use Rattle.fc_spec.specs.queries.QueryTokens.{word, and}
use Rattle.fc_spec.specs.queries.QueryTrees.{Atom, plain, everything, nested, Group, no_more, clause}
use Rattle.fc_spec.specs.queries.QueryForms.{IsGroup, IsTree}

abbrev one : Atom → Group
one a = clause None None a no_more

abbrev bare : String → Atom
bare w = plain None (word (codes w))

-- `*:*` in so many parentheses
abbrev deep : ℕ → Group
deep zero = one everything
deep (suc n) = one (nested None (deep n))

deep_formed : (n : ℕ) → IsGroup false (deep n)
deep_formed zero = (tt, tt)
deep_formed (suc n) = (deep_formed n, tt)

pub sixty_four_open : IsTree (deep 64)
sixty_four_open = (deep_formed 64, omega arith)

pub one_more_open : ¬ (IsTree (deep 65))
one_more_open t = omega (arith, t.1)

-- `(..) (..)`: of two side by side only one is open
pub side_by_side : IsTree (clause None None (nested None (deep 63)) (deep 64))
side_by_side = ((deep_formed 63, deep_formed 64), omega arith)

-- `a`, `cat:a b` and `()` are none
pub bare_value : ¬ (IsTree (one (bare "a")))
bare_value t = false≢true t.0.0

pub bare_value_behind : ¬ (IsTree (clause None None everything (one (bare "b"))))
bare_value_behind t = false≢true t.0.1.0

pub nothing : ¬ (IsTree no_more)
nothing t = absurd t.0

pub nothing_in_parentheses : ¬ (IsTree (one (nested (Some (codes "cat")) no_more)))
nothing_in_parentheses t = absurd t.0.0

-- `AND *:*`
pub operator_in_front : ¬ (IsTree (clause (Some and) None everything no_more))
operator_in_front t = absurd t.0

-- `cat:(a (b))`
pub field_group : IsTree (one (nested (Some (codes "cat")) (clause None None (bare "a") (one (nested None (one (bare "b")))))))
field_group = (((refl, (((refl, tt), tt))), tt), omega arith)
