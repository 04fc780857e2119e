-- Words for the walk over a request: faults with the names of the facets around them, and members that are numbers, truth values or texts. Guide: JSON Request API.
use Rattle.std.specs.Prelude.{ℤ, List, [], ◌∷◌, Bool, not, ◌&&◌, int_lt, Option, None, Some, ok_or, Result, Ok}
use Rattle.std.specs.Option.{option_and_then}
use Rattle.serde_json.specs.Data.{Data, Items, no_items, item, Members}
use Rattle.serde_json.specs.Find.{get_member, as_bool, as_i64, as_number, as_str}
use Rattle.fc_spec.specs.documents.Val.{Text}
use Rattle.fc_spec.specs.scripts.JsonObjects.{only_names}
use Rattle.fc_spec.specs.queries.QueryFault.{QueryFault, syntax}
use Rattle.fc_spec.specs.queries.QueryFault as text_fault
use Rattle.fc_spec.specs.requests.RequestFault.{QFault, unknown_key, query_syntax, mixed_operators, unknown_field, bad_value, missing_parameter, bad_parameter, RequestFault}
use Rattle.fc_spec.specs.words.Walks.{◌>>=◌, unless}

-- what a query text's fault is in a request
abbrev pub query_fault : QueryFault → QFault
query_fault syntax = query_syntax
query_fault text_fault.mixed_operators = mixed_operators
query_fault text_fault.unknown_field = unknown_field
query_fault text_fault.bad_value = bad_value

-- a fault outside facets, and one inside the facet of a name
abbrev pub outside : QFault → RequestFault
outside fault = record { at = []; fault = fault }

abbrev pub inside : Text → RequestFault → RequestFault
inside name f = record { at = name ∷ f.at; fault = f.fault }

-- every member has one of these names
abbrev pub check_names : List Text → Members → Result (Unit {0}) QFault
check_names names ms = unless (only_names names ms) unknown_key

-- what the member of a name says, which has to be there
abbrev pub required : {A : Type 0} → Text → (Data → Result A QFault) → Members → Result A QFault
required name read ms = ok_or (get_member name ms) missing_parameter >>= read

-- what a value says, where it is there; else this
abbrev pub said_or : {A : Type 0} → (Data → Result A QFault) → A → Option Data → Result A QFault
said_or read absent None = Ok absent
said_or read absent (Some d) = read d

-- what the member of a name says, where it is there; else this
abbrev pub optional : {A : Type 0} → Text → (Data → Result A QFault) → A → Members → Result A QFault
optional name read absent ms = said_or read absent (get_member name ms)

-- a whole number of 64 bits signed
abbrev pub integer_in : Data → Result ℤ QFault
integer_in d = ok_or (option_and_then as_i64 (as_number d)) bad_parameter

-- one from one to another, both included
abbrev pub whole_in : (low high : ℤ) → Data → Result ℤ QFault
whole_in low high d = do
  n ← integer_in d
  _ ← unless (not (int_lt n low) && not (int_lt high n)) bad_parameter
  Ok n

abbrev pub truth_in : Data → Result Bool QFault
truth_in d = ok_or (as_bool d) bad_parameter

abbrev pub text_in : Data → Result Text QFault
text_in d = ok_or (as_str d) bad_parameter

-- what each item says, or the first fault
abbrev pub each_item : {A : Type 0} → (Data → Result A QFault) → Items → Result (List A) QFault
each_item read no_items = Ok []
each_item read (item d ds) = do
  a ← read d
  more ← each_item read ds
  Ok (a ∷ more)
