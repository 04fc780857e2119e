use Rattle.std.proofs.Common.{◌++◌, ◌∷◌, [], inl, inr, refl, ◌∙◌, ap}
use Rattle.fc_request.specs.RequestView.{request_view}
use Rattle.fc_answers.specs.SetAnswer.{base_of}
use Rattle.fc_jobs.specs.Pieces.{piece_of}
use Rattle.fc_units.proofs.Segments.{vec_past, vec_there}
use Rattle.fc_units.proofs.TopSteps.{grown}
use Rattle.fc_units.proofs.units.look_at.Goals as goal

pub returns-then-at-len-clause-roots : goal.returns-then-at-len-clause-roots
returns-then-at-len-clause-roots g c = inl refl

pub returns-then-at-len-clause-domain : goal.returns-then-at-len-clause-domain
returns-then-at-len-clause-domain g c = inl (vec_there c.args.domain.now c.args.at c.len.result c.if-at-len.true c.len.ensures, refl)

pub reach-requires-clause-fits : goal.reach-requires-clause-fits
reach-requires-clause-fits g c = c.requires.base

pub reach-requires-clause-there : goal.reach-requires-clause-there
reach-requires-clause-there g c = c.requires.there

pub wanted_domain-requires-clause-covers : goal.wanted_domain-requires-clause-covers
wanted_domain-requires-clause-covers g c = c.requires.covers

pub wanted_domain-requires-clause-base : goal.wanted_domain-requires-clause-base
wanted_domain-requires-clause-base g c = c.requires.base

pub wanted_domain-requires-clause-fit : goal.wanted_domain-requires-clause-fit
wanted_domain-requires-clause-fit g c = c.requires.fit

pub wanted_domain-requires-clause-whole : goal.wanted_domain-requires-clause-whole
wanted_domain-requires-clause-whole g c = c.requires.whole

pub wanted_domain-requires-clause-docs : goal.wanted_domain-requires-clause-docs
wanted_domain-requires-clause-docs g c = c.in_ok-base_docs.ensures.docs

pub wanted_domain-requires-clause-number : goal.wanted_domain-requires-clause-number
wanted_domain-requires-clause-number g c = c.requires.number

pub wanted_domain-requires-clause-names : goal.wanted_domain-requires-clause-names
wanted_domain-requires-clause-names g c = c.requires.names

pub wanted_domain-requires-clause-change : goal.wanted_domain-requires-clause-change
wanted_domain-requires-clause-change g c = c.requires.change

pub returns-clause-roots : goal.returns-clause-roots
returns-clause-roots g c = grown c.args.at (base_of (request_view c.args.request.now) [] (piece_of c.args.segment.now)) c.args.roots.now.items c.reach.new.roots.items c.in_ok-base_docs.ensures.same c.in_ok-base_docs.ensures.put

pub returns-clause-domain : goal.returns-clause-domain
returns-clause-domain g c = inr (vec_past c.args.domain.now c.args.at c.len.result c.if-at-len.false c.len.ensures, c.in_ok-push.ensures.items ∙ ap (λ d. c.args.domain.now.items ++ d ∷ []) c.in_ok-docs.ensures.set)
