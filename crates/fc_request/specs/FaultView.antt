-- What the faults of a request stand for in the definitions.
use Rattle.fc_spec.specs.requests.RequestFault as definition
use Rattle.fc_facet.specs.FaultView.{fault_view}
use Rattle.fc_request.specs.declared.fault.RequestFault.{RequestFault}

abbrev pub request_fault_view : RequestFault → definition.RequestFault
request_fault_view f = record { at = f.at.items; fault = fault_view f.fault }
