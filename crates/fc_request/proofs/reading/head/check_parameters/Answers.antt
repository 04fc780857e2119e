use Rattle.fc_request.proofs.reading.head.check_parameters.Goals as goal

pub returns-in-Terms : goal.returns-in-Terms
returns-in-Terms c = rw c.in-Terms.is c.check_names.ensures

pub returns-in-Range : goal.returns-in-Range
returns-in-Range c = rw c.in-Range.is c.check_names-in-Range.ensures
