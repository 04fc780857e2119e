use Rattle.fc_request.specs.FacetNode.{facet_view}
use Rattle.fc_request.specs.RequestView.{request_view}
use Rattle.fc_jobs.specs.Pieces.{piece_of}
use Rattle.fc_units.proofs.AskedNodes.{within_more}
use Rattle.fc_units.proofs.WantedWays.{base_long, first_set, want_named, want_set}
use Rattle.fc_units.proofs.units.wanted_domain.Goals as goal

pub want_at-requires : goal.want_at-requires
want_at-requires g c = within_more c.args.ask.now c.in-More.wants c.args.number c.in-More.is c.requires.number

pub domain_where-requires-clause-covers : goal.domain_where-requires-clause-covers
domain_where-requires-clause-covers g c = c.requires.covers

pub domain_where-requires-clause-base : goal.domain_where-requires-clause-base
domain_where-requires-clause-base g c = c.requires.base

pub domain_where-requires-clause-fit : goal.domain_where-requires-clause-fit
domain_where-requires-clause-fit g c = c.requires.fit

pub domain_where-requires-clause-docs : goal.domain_where-requires-clause-docs
domain_where-requires-clause-docs g c = base_long (request_view c.args.request.now) (piece_of c.args.segment.now) _ c.requires.whole c.requires.docs

pub domain_where-requires-clause-keys : goal.domain_where-requires-clause-keys
domain_where-requires-clause-keys g c = want_named (request_view c.args.request.now) _ _ c.args.number c.in-More.is c.requires.number _ c.want_at.ensures _ c.way.ensures c.requires.names

pub domain_where-requires-clause-node : goal.domain_where-requires-clause-node
domain_where-requires-clause-node g c = c.requires.change

pub returns-in_ok-copy-in-First-clause-set : goal.returns-in_ok-copy-in-First-clause-set
returns-in_ok-copy-in-First-clause-set g c = first_set (request_view c.args.request.now) c.args.ask.now c.args.number (facet_view c.args.node.now) (piece_of c.args.segment.now) _ _ c.in-First.is c.requires.docs c.in_ok-copy-in-First.ensures

pub returns-in_ok-docs-in-More-clause-set : goal.returns-in_ok-docs-in-More-clause-set
returns-in_ok-docs-in-More-clause-set g c = want_set (request_view c.args.request.now) _ _ c.args.number c.in-More.is c.requires.number _ c.want_at.ensures _ c.way.ensures (facet_view c.args.node.now) (piece_of c.args.segment.now) _ _ c.requires.docs c.in_ok-docs-in-More.ensures.set
