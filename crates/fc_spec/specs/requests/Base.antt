-- The root domain, and the base without some filters. Guide: Faceting, "Tagging and Excluding Filters".
use Rattle.std.specs.Prelude.{List, [], Bool, ◌&&◌, ◌||◌}
use Rattle.std.specs.List.{filter, list_any, list_all}
use Rattle.fc_spec.specs.documents.Val.{Text, same_text}
use Rattle.fc_spec.specs.documents.Document.{Document}
use Rattle.fc_spec.specs.queries.Matching.{matches}
use Rattle.fc_spec.specs.documents.World.{World, Place, places}
use Rattle.fc_spec.specs.requests.Request.{Filter, Request}

-- the filter has one of the tags
abbrev pub has_tag_in : List Text → Filter → Bool
has_tag_in tags f = list_any (λ t. list_any (same_text t) tags) f.tags

-- the document matches the query, and each filter that has none of the tags
abbrev pub meets_base : Request → List Text → Document → Bool
meets_base r tags d = matches r.query d && list_all (λ f. has_tag_in tags f || matches f.query d) r.filters

-- the places of the world whose document meets the query and the filters without these tags
abbrev pub base : Request → World → List Text → List Place
base r W tags = filter (λ p. meets_base r tags p.document) (places W)

-- the root domain: no filter is excluded
abbrev pub root_domain : Request → World → List Place
root_domain r W = base r W []
