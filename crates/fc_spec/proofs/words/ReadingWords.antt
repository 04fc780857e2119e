-- What holds of the value of a walk, where it has one.
use Rattle.std.proofs.Common.{◌≡◌, refl, Bool, true, false, ◌||◌, Option, None, Some, IfSome, List, [], ◌∷◌, All, IfOk, Result, Ok, Err, ok_or}
use Rattle.std.proofs.lemmas.List.Elements.{All-nil, All-cons}
use Rattle.serde_json.specs.Data.{Data, Items, no_items, item, Members}
use Rattle.serde_json.specs.Find.{get_member}
use Rattle.fc_spec.specs.documents.Val.{Text}
use Rattle.fc_spec.specs.words.Walks.{◌>>=◌, unless, with_fault, each}
use Rattle.fc_spec.specs.requests.RequestWalk.{required, said_or, each_item}
use Rattle.fc_spec.specs.requests.RequestFault.{QFault, missing_parameter}

-- what goes on from a value of which Q holds
pub going_on : {A B E : Type 0} (P : B → Type 0) (Q : A → Type 0) (r : Result A E) (next : A → Result B E) → IfOk r Q → ((a : A) → Q a → IfOk (next a) P) → IfOk (r >>= next) P
going_on P Q (Ok a) next h k = k a h
going_on P Q (Err e) next h k = tt

-- what goes on from any value
pub whatever : {A B E : Type 0} (P : B → Type 0) (r : Result A E) (next : A → Result B E) → ((a : A) → IfOk (next a) P) → IfOk (r >>= next) P
whatever P (Ok a) next k = k a
whatever P (Err e) next k = tt

pub seen : {A E F : Type 0} (P : A → Type 0) (see : E → F) (r : Result A E) → IfOk r P → IfOk (with_fault see r) P
seen P see (Ok a) h = h
seen P see (Err e) h = tt

pub there : {A E : Type 0} (P : A → Type 0) (o : Option A) (e : E) → IfSome o P → IfOk (ok_or o e) P
there P None e h = tt
there P (Some a) e h = h

pub passed : {E : Type 0} (b : Bool) (e : E) → IfOk (unless b e) (λ u. b ≡ true)
passed true e = refl
passed false e = tt

-- what a member says that has to be there
pub needed : {A : Type 0} (P : A → Type 0) (name : Text) (read : Data → Result A QFault) (ms : Members) → ((d : Data) → IfOk (read d) P) → IfOk (required name read ms) P
needed P name read ms k = whatever P (ok_or (get_member name ms) missing_parameter) read k

-- where a member is there, Q holds of it
pub perhaps : {A : Type 0} (P : A → Type 0) (Q : Data → Type 0) (read : Data → Result A QFault) (absent : A) (o : Option Data) → P absent → IfSome o Q → ((d : Data) → Q d → IfOk (read d) P) → IfOk (said_or read absent o) P
perhaps P Q read absent None h q k = h
perhaps P Q read absent (Some d) h q k = k d q

pub if_there : {A : Type 0} (P : A → Type 0) (read : Data → Result A QFault) (absent : A) (o : Option Data) → P absent → ((d : Data) → IfOk (read d) P) → IfOk (said_or read absent o) P
if_there P read absent None h k = h
if_there P read absent (Some d) h k = k d

pub all_of_each : {A B E : Type 0} (P : B → Type 0) (step : A → Result B E) (xs : List A) → ((a : A) → IfOk (step a) P) → IfOk (each step xs) (All P)
all_of_each P step [] k = All-nil P
all_of_each P step (a ∷ more) k = going_on (All P) P (step a) _ (k a) (λ b h. going_on (All P) (All P) (each step more) _ (all_of_each P step more k) (λ bs hs. All-cons P b bs h hs))

pub all_of_items : {A : Type 0} (P : A → Type 0) (read : Data → Result A QFault) (ds : Items) → ((d : Data) → IfOk (read d) P) → IfOk (each_item read ds) (All P)
all_of_items P read no_items k = All-nil P
all_of_items P read (item d ds) k = going_on (All P) P (read d) _ (k d) (λ a h. going_on (All P) (All P) (each_item read ds) _ (all_of_items P read ds k) (λ more hs. All-cons P a more h hs))

pub or_right : (a b : Bool) → (a || b) ≡ true → a ≡ false → b ≡ true
or_right true b e n = absurd cc
or_right false b e n = e
