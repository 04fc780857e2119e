use Rattle.std.proofs.Common.{arith}
use Rattle.fc_spec.proofs.requests.Searchable.{searchable}
use Rattle.fc_request.specs.RequestView.{request_view}
use Rattle.fc_checks.proofs.tests.documents.request_of.Goals as goal

pub returns-clause-valid : goal.returns-clause-valid
returns-clause-valid c = c.in_ok-read.ensures.valid c.in_ok-json.ensures.0 c.in_ok-json.ensures.1

pub returns-clause-searchable : goal.returns-clause-searchable
returns-clause-searchable c = searchable c.args.schema.now (request_view c.in_ok-read.field-0) (c.in_ok-read.ensures.valid c.in_ok-json.ensures.0 c.in_ok-json.ensures.1)

pub returns-clause-countable : goal.returns-clause-countable
returns-clause-countable c =
    c.valid_requests_are_countable.ensures c.args.schema.now (request_view c.in_ok-read.field-0) (searchable c.args.schema.now (request_view c.in_ok-read.field-0) (c.in_ok-read.ensures.valid c.in_ok-json.ensures.0 c.in_ok-json.ensures.1))

pub returns-clause-depth : goal.returns-clause-depth
returns-clause-depth c =
    let few = c.valid_requests_have_few_rounds.ensures.depths c.args.schema.now (request_view c.in_ok-read.field-0) (searchable c.args.schema.now (request_view c.in_ok-read.field-0) (c.in_ok-read.ensures.valid c.in_ok-json.ensures.0 c.in_ok-json.ensures.1)) in
    omega arith
