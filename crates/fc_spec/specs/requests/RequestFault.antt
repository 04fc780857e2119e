-- The sixteen faults of a request, with their numbers and names.
use Rattle.std.specs.Prelude.{ℕ, List, codes}
use Rattle.fc_spec.specs.documents.Val.{Text}

-- a fault of a request
pub data QFault : Type 0 where
  not_an_object : QFault
  unknown_key : QFault
  query_syntax : QFault
  mixed_operators : QFault
  unknown_field : QFault
  bad_value : QFault
  bad_command : QFault
  unknown_type : QFault
  missing_parameter : QFault
  bad_parameter : QFault
  unknown_sort : QFault
  bad_statistic : QFault
  wrong_field_type : QFault
  reserved_name : QFault
  nested_exclude : QFault
  too_large : QFault

-- its number
abbrev pub fault_number : QFault → ℕ
fault_number not_an_object = 1
fault_number unknown_key = 2
fault_number query_syntax = 3
fault_number mixed_operators = 4
fault_number unknown_field = 5
fault_number bad_value = 6
fault_number bad_command = 7
fault_number unknown_type = 8
fault_number missing_parameter = 9
fault_number bad_parameter = 10
fault_number unknown_sort = 11
fault_number bad_statistic = 12
fault_number wrong_field_type = 13
fault_number reserved_name = 14
fault_number nested_exclude = 15
fault_number too_large = 16

-- its name
abbrev pub fault_name : QFault → Text
fault_name not_an_object = codes "not-an-object"
fault_name unknown_key = codes "unknown-key"
fault_name query_syntax = codes "query-syntax"
fault_name mixed_operators = codes "mixed-operators"
fault_name unknown_field = codes "unknown-field"
fault_name bad_value = codes "bad-value"
fault_name bad_command = codes "bad-command"
fault_name unknown_type = codes "unknown-type"
fault_name missing_parameter = codes "missing-parameter"
fault_name bad_parameter = codes "bad-parameter"
fault_name unknown_sort = codes "unknown-sort"
fault_name bad_statistic = codes "bad-statistic"
fault_name wrong_field_type = codes "wrong-field-type"
fault_name reserved_name = codes "reserved-name"
fault_name nested_exclude = codes "nested-exclude"
fault_name too_large = codes "too-large"

-- a request's fault, with the names of the facets from the outermost to the one at fault; none outside facets
pub record RequestFault : Type 0 where
  pub at : List Text
  pub fault : QFault
