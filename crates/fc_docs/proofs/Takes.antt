-- How many values a field may have.
use Rattle.std.proofs.Common.{◌≡◌, ◌≤◌, ℕ, true, arith, refl}
use Rattle.std.proofs.lemmas.Bool.Decides.{nat_tests}
use Rattle.fc_spec.specs.documents.Schema.{FieldType, string, strings, plong, plongs, pdate, pdates}
use Rattle.fc_spec.specs.documents.BlockReading.{takes}

pub takes_none : (kind : FieldType) → takes kind 0 ≡ true
takes_none string = refl
takes_none strings = refl
takes_none plong = refl
takes_none plongs = refl
takes_none pdate = refl
takes_none pdates = refl

pub takes_one : (kind : FieldType) → takes kind 1 ≡ true
takes_one string = refl
takes_one strings = refl
takes_one plong = refl
takes_one plongs = refl
takes_one pdate = refl
takes_one pdates = refl

pub takes_fewer : (kind : FieldType) (m n : ℕ) → m ≤ n → takes kind n ≡ true → takes kind m ≡ true
takes_fewer string m n fewer few = grind (arith, nat_tests)
takes_fewer strings m n fewer few = refl
takes_fewer plong m n fewer few = grind (arith, nat_tests)
takes_fewer plongs m n fewer few = refl
takes_fewer pdate m n fewer few = grind (arith, nat_tests)
takes_fewer pdates m n fewer few = refl
