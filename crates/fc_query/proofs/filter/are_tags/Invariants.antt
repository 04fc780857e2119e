use Rattle.std.proofs.Common.{◌≡◌, drop, map}
use Rattle.std.specs.List.{list_all}
use Rattle.fc_spec.specs.queries.FilterReading.{is_tag}
use Rattle.fc_query.proofs.filter.are_tags.Given as goal

abbrev pub invariant-loop-part : goal.invariant-loop-part
invariant-loop-part l = list_all is_tag (map (λ x. x.now) (drop l.part-index l.parts)) ≡ list_all is_tag (map (λ x. x.now) l.parts)
