use Rattle.fc_request.specs.RequestView.{request_view}
use Rattle.fc_checks.proofs.ShardWorlds.{same_schema, valid_for_each}
use Rattle.fc_checks.proofs.tests.searches.line_of.Goals as goal

pub search-requires-clause-valid : goal.search-requires-clause-valid
search-requires-clause-valid g c κs within = valid_for_each c.args.schema.now (request_view c.args.request.now) _ c.requires.valid c.requires.schema

pub search-requires-clause-schema : goal.search-requires-clause-schema
search-requires-clause-schema g c κs within = same_schema c.args.schema.now _ c.requires.schema
