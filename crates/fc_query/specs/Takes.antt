-- What functions that cut a text answer.
use Rattle.std.specs.Prelude.{◌≡◌, ℕ, List, [], ◌∷◌, Bool, true, false, Option, None, Some, Result, Ok, Err, string_bytes}
use Rattle.std.specs.List.{list_all, take_while}
use Rattle.std.specs.Str.{chars}
use denote.Ref.{Bor}
use Rattle.fc_spec.specs.queries.QueryCharacters as definition
use Rattle.fc_base.specs.declared.error.Refusal.{Refusal}
use Rattle.fc_base.specs.declared.error.Refusal.TheVariants.{Memory, Fault}
use Rattle.fc_query.specs.declared.fault.QueryFault.{QueryFault}
use Rattle.fc_query.specs.declared.fault.QueryFault.TheVariants.{Syntax, BadValue}
use Rattle.fc_query.specs.declared.lex.Run.{Run}
use Rattle.fc_query.specs.declared.characters.Character.{Character}
use Rattle.fc_query.specs.View.{character_view}

-- the first of these characters, and the text of the others; or there is none
abbrev pub IsFirst : Option (Character × Bor (List ℕ)) → List definition.Character → Type 0
IsFirst None cs = cs ≡ []
IsFirst (Some x) cs = cs ≡ character_view x.0 ∷ definition.characters (chars x.1.now)

-- it took what it sought, and this is left; or there was none, and nothing was taken
abbrev pub TakesPast : Bool → Option (List definition.Character) → (old new : List definition.Character) → Type 0
TakesPast true past old new = past ≡ Some new
TakesPast false past old new = (past ≡ None) × (new ≡ old)

-- there is none, which is this fault, or memory ran out
abbrev pub StopsBy : {V : Type 0} → QueryFault → Refusal QueryFault → Option V → Type 0
StopsBy which Memory defined = Unit {0}
StopsBy which (Fault fault) defined = (defined ≡ None) × (fault ≡ which)

abbrev pub Stops : {V : Type 0} → Refusal QueryFault → Option V → Type 0
Stops stop defined = StopsBy Syntax stop defined

-- it took what the definition takes, and this is left; or there is none; or memory ran out
abbrev pub Takes : {A V : Type 0} → (A → V) → List definition.Character → Result A (Refusal QueryFault) → Option (V × List definition.Character) → Type 0
Takes view left (Ok value) defined = defined ≡ Some (view value, left)
Takes view left (Err stop) defined = Stops stop defined

-- the text of the front that passes the test, whether each of its characters stands as it is, and what is left
pub record IsRun (test : definition.Character → Bool) (run : Run) (old new : List definition.Character) : Type 0 where
  pub text : string_bytes run.text ≡ definition.text_of (take_while test old)
  pub plain : run.plain ≡ list_all definition.is_bare (take_while test old)
  pub left : new ≡ definition.behind test old

-- it gives what the definition gives; or there is none; or memory ran out
abbrev pub Gives : {A V : Type 0} → (A → V) → Result A (Refusal QueryFault) → Option V → Type 0
Gives view (Ok value) defined = defined ≡ Some (view value)
Gives view (Err stop) defined = Stops stop defined

-- the same, where none is a bad value
abbrev pub Means : {A V : Type 0} → (A → V) → Result A (Refusal QueryFault) → Option V → Type 0
Means view (Ok value) defined = defined ≡ Some (view value)
Means view (Err stop) defined = StopsBy BadValue stop defined
