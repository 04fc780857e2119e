-- What the faults of a request stand for in the definitions.
use Rattle.fc_spec.specs.requests.RequestFault as definition
use Rattle.fc_facet.specs.declared.fault.QFault.{QFault}
use Rattle.fc_facet.specs.declared.fault.QFault.TheVariants as fault

abbrev pub fault_view : QFault → definition.QFault
fault_view fault.NotAnObject = definition.not_an_object
fault_view fault.UnknownKey = definition.unknown_key
fault_view fault.QuerySyntax = definition.query_syntax
fault_view fault.MixedOperators = definition.mixed_operators
fault_view fault.UnknownField = definition.unknown_field
fault_view fault.BadValue = definition.bad_value
fault_view fault.BadCommand = definition.bad_command
fault_view fault.UnknownType = definition.unknown_type
fault_view fault.MissingParameter = definition.missing_parameter
fault_view fault.BadParameter = definition.bad_parameter
fault_view fault.UnknownSort = definition.unknown_sort
fault_view fault.BadStatistic = definition.bad_statistic
fault_view fault.WrongFieldType = definition.wrong_field_type
fault_view fault.ReservedName = definition.reserved_name
fault_view fault.NestedExclude = definition.nested_exclude
fault_view fault.TooLarge = definition.too_large
