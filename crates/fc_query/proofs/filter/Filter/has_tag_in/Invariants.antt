use Rattle.std.proofs.Common.{◌≡◌, drop}
use Rattle.std.specs.List.{list_any}
use Rattle.fc_spec.specs.documents.Val.{same_text}
use Rattle.fc_query.proofs.filter.Filter.has_tag_in.Given as goal

abbrev pub invariant-loop-tag : goal.invariant-loop-tag
invariant-loop-tag l = list_any (λ t. list_any (same_text t) l.tags) (drop l.tag-index l.self.tags.items) ≡ list_any (λ t. list_any (same_text t) l.tags) l.self.tags.items
