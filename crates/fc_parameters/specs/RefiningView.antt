-- What the ways to refine stand for in the definitions.
use Rattle.fc_spec.specs.requests.FacetReading as definition
use Rattle.fc_spec.specs.requests.FacetReading.{not_refined, by_offers, exactly}
use Rattle.fc_parameters.specs.declared.refining.Refining.{Refining}
use Rattle.fc_parameters.specs.declared.refining.Refining.TheVariants as way

abbrev pub refining_view : Refining → definition.Refining
refining_view way.No = not_refined
refining_view way.ByOffers = by_offers
refining_view way.Exactly = exactly
