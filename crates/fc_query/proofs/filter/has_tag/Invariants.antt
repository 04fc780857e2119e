use Rattle.std.proofs.Common.{◌≡◌, drop}
use Rattle.std.specs.List.{list_any}
use Rattle.fc_spec.specs.documents.Val.{same_text}
use Rattle.fc_query.proofs.filter.has_tag.Given as goal

abbrev pub invariant-loop-other : goal.invariant-loop-other
invariant-loop-other l = list_any (same_text l.tag) (drop l.other-index l.tags) ≡ list_any (same_text l.tag) l.tags
