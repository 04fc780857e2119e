-- What can be wrong with a query text, or with a filter.
pub data QueryFault : Type 0 where
  syntax : QueryFault
  mixed_operators : QueryFault
  unknown_field : QueryFault
  bad_value : QueryFault

-- no filter by its shape, or a fault of its query
pub data FilterFault : Type 0 where
  shape : FilterFault
  query : QueryFault → FilterFault
