-- What the text of a statistic asks for.
use Rattle.std.specs.Prelude.{◌≡◌, ℕ, ◌∷◌, ◌++◌, Ok, Err, codes, refl}
use Prim.Native.String.{String}
use Rattle.fc_spec.specs.requests.RequestFault.{QFault, unknown_field, bad_statistic, wrong_field_type}
use Rattle.fc_spec.specs.requests.Request.{StatKind, sum, min, max, countvals, missing}
use Rattle.fc_spec.specs.requests.StatisticReading.{statistic_of}
use Rattle.fc_rows.proofs.requests.RequestWords.{small, walked}
use Rattle.fc_rows.proofs.Words.{stat}

-- the text asks for this statistic of the field of this number: 0 is `id`, 1 the text `cat`, 2 the integer `n`
abbrev Asks : String → StatKind → ℕ → Type 0
Asks t of field = statistic_of small (codes t) ≡ Ok (stat of field)

abbrev AskFails : String → QFault → Type 0
AskFails t fault = statistic_of small (codes t) ≡ Err fault

-- the five kinds; three are of integers alone
pub kinds :
    Asks "sum(n)" sum 2
    × Asks "min(n)" min 2
    × Asks "max(n)" max 2
    × Asks "countvals(n)" countvals 2
    × Asks "missing(n)" missing 2
    × Asks "countvals(cat)" countvals 1
    × Asks "missing(id)" missing 0
    × AskFails "sum(cat)" wrong_field_type
    × AskFails "min(id)" wrong_field_type
    × AskFails "max(cat)" wrong_field_type
unfolding walked
kinds = (refl, refl, refl, refl, refl, refl, refl, refl, refl, refl)

-- spaces between all parts and at both ends; no other white space, and none inside a part
pub spaces :
    Asks "  sum  (  n  )  " sum 2
    × Asks "sum (n)" sum 2
    × AskFails "sum(n)\t" bad_statistic
    × AskFails "\tsum(n)" bad_statistic
    × AskFails "sum\t(n)" bad_statistic
    × AskFails "sum(\nn)" bad_statistic
    × AskFails "su m(n)" bad_statistic
    × AskFails "sum(c at)" bad_statistic
unfolding walked
spaces = (refl, refl, refl, refl, refl, refl, refl, refl)

-- a name, `(`, a row of letters, digits and `_`, `)`, and nothing else
pub parts :
    AskFails "" bad_statistic
    × AskFails "sum" bad_statistic
    × AskFails "n" bad_statistic
    × AskFails "sum(n" bad_statistic
    × AskFails "sum n)" bad_statistic
    × AskFails "sum)n(" bad_statistic
    × AskFails "(n)" bad_statistic
    × AskFails "sum()" bad_statistic
    × AskFails "sum(  )" bad_statistic
    × AskFails "sum(n))" bad_statistic
    × AskFails "sum((n)" bad_statistic
    × AskFails "sum(n)n" bad_statistic
    × AskFails "sum(n-1)" bad_statistic
    × AskFails "sum(n,n)" bad_statistic
    × (statistic_of small (codes "sum(" ++ 195 ∷ 169 ∷ codes ")") ≡ Err bad_statistic)
    × AskFails "sum(n)(n)" bad_statistic
unfolding walked
parts = (refl, refl, refl, refl, refl, refl, refl, refl, refl, refl, refl, refl, refl, refl, refl, refl)

-- names keep their case; that the name is one comes before the field, and the field before its type
pub names :
    AskFails "Sum(n)" bad_statistic
    × AskFails "avg(n)" bad_statistic
    × AskFails "avg(zat)" bad_statistic
    × AskFails "sums(cat)" bad_statistic
    × AskFails "sum(zat)" unknown_field
    × AskFails "sum(N)" unknown_field
    × AskFails "countvals(_0)" unknown_field
unfolding walked
names = (refl, refl, refl, refl, refl, refl, refl)
