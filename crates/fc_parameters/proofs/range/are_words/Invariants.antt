use Rattle.std.proofs.Common.{◌≡◌, map, drop}
use Rattle.std.specs.List.{list_all, list_any}
use Rattle.fc_spec.specs.documents.Val.{same_text}
use Rattle.fc_parameters.proofs.range.are_words.Given as goal

abbrev pub invariant-loop-text : goal.invariant-loop-text
invariant-loop-text l =
    list_all (λ t. list_any (same_text t) (map (λ w. w.now) l.words)) (map (λ t. t.now) (drop l.text-index l.texts))
    ≡ list_all (λ t. list_any (same_text t) (map (λ w. w.now) l.words)) (map (λ t. t.now) l.texts)
