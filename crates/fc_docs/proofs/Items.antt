-- Walks over the items of an array.
use Rattle.std.proofs.Common.{◌≡◌, List, [], ◌∷◌, ◌++◌, length, true, false, Result, Ok, Err, is_some, refl, append_assoc, nat_eq, arith}
use Rattle.std.proofs.lemmas.Bool.Decides.{nat_tests}
use Rattle.serde_json.specs.Data.{Data, null, boolean, number, string, array, object, Items, item}
use Rattle.serde_json.specs.Find.{as_null}
use Rattle.serde_json.specs.View.{items_view}
use Rattle.serde_json.specs.declared.value.Value.{Value}
use Rattle.fc_spec.specs.words.Walks.{◌>>=◌, each}
use Rattle.fc_spec.specs.documents.BlockReading.{holds_nothing, without_nulls}

-- what is done, and behind it what the rest gives
abbrev pub behind : {A E : Type 0} → List A → Result (List A) E → Result (List A) E
behind done rest = rest >>= λ more. Ok (done ++ more)

pub behind_nothing : {A E : Type 0} (rest : Result (List A) E) → behind [] rest ≡ rest
behind_nothing (Ok more) = refl
behind_nothing (Err e) = refl

pub one_more : {A B E : Type 0} (step : A → Result B E) (done : List B) (a : A) (rest : List A) (b : B) → step a ≡ Ok b → behind done (each step (a ∷ rest)) ≡ behind (done ++ b ∷ []) (each step rest)
one_more {B = B} {E = E} step done a rest b is = rw is (go (each step rest))
  where
    go : (found : Result (List B) E) → behind done (found >>= λ bs. Ok (b ∷ bs)) ≡ behind (done ++ b ∷ []) found
    go (Ok bs) = rw append_assoc refl
    go (Err e) = refl

pub one_bad : {A B E : Type 0} (step : A → Result B E) (done : List B) (a : A) (rest : List A) (e : E) → step a ≡ Err e → behind done (each step (a ∷ rest)) ≡ Err e
one_bad step done a rest e is = rw is refl

-- ---- nulls
pub one_null : (d : Data) (ds : Items) → is_some (as_null d) ≡ true → without_nulls (item d ds) ≡ without_nulls ds
one_null null ds is = refl
one_null (boolean b) ds is = cc
one_null (number n) ds is = cc
one_null (string s) ds is = cc
one_null (array es) ds is = cc
one_null (object ms) ds is = cc

pub no_null : (d : Data) (ds : Items) → is_some (as_null d) ≡ false → without_nulls (item d ds) ≡ d ∷ without_nulls ds
no_null null ds is = cc
no_null (boolean b) ds is = refl
no_null (number n) ds is = refl
no_null (string s) ds is = refl
no_null (array es) ds is = refl
no_null (object ms) ds is = refl

pub holds_no_item : (vs : List Value) → nat_eq (length vs) 0 ≡ holds_nothing (array (items_view vs))
holds_no_item [] = refl
holds_no_item (v ∷ vs) = grind (arith, nat_tests)
