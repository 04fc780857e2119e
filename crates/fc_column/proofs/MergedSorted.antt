-- Texts that were sorted never fall.
use Rattle.std.proofs.Common.{◌∙◌, ℕ, List, ap₂, arith}
use Rattle.std.proofs.lemmas.Cmp.{nat_list_cmp_total}
use Rattle.std.proofs.lemmas.List.{get_or-map, length-map}
use Rattle.std.proofs.lemmas.List.MinMax.{ranks_by}
use Rattle.std.proofs.lemmas.List.Sorted.{sorted_far}
use Rattle.std.specs.List.Sorted.{IsSortedBy}
use Rattle.std.specs.Ordering.{is_lt}
use Rattle.fc_spec.specs.documents.Val.{Text, text_cmp}
use Rattle.fc_column.specs.MergedTerms.{NeverFall}
use Rattle.fc_column.specs.Numbering.{texts_numbered}

pub never_fall : (texts : List (Text × ℕ)) → IsSortedBy (λ a b. is_lt (text_cmp a.0 b.0)) texts → NeverFall (texts_numbered texts)
never_fall texts sorted i j d order within =
    let none : Text × ℕ = (d, 0) in
    let size = length-map texts (λ (one : Text × ℕ). one.0) in
    ap₂ (λ a b. is_lt (text_cmp a b)) (get_or-map (λ (one : Text × ℕ). one.0) texts j none d (omega arith)) (get_or-map (λ (one : Text × ℕ). one.0) texts i none d (omega arith))
    ∙ sorted_far (λ (a b : Text × ℕ). is_lt (text_cmp a.0 b.0)) (ranks_by nat_list_cmp_total (λ (one : Text × ℕ). one.0)) texts sorted i j none order (omega arith)
