use Rattle.std.proofs.Common.{◌≡◌, map, drop}
use Rattle.std.specs.List.{list_any}
use Rattle.fc_spec.specs.documents.Val.{same_text}
use Rattle.fc_parameters.proofs.range.has_word.Given as goal

abbrev pub invariant-loop-text : goal.invariant-loop-text
invariant-loop-text l = list_any (same_text l.word) (map (λ t. t.now) (drop l.text-index l.texts)) ≡ list_any (same_text l.word) (map (λ t. t.now) l.texts)
