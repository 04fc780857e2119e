-- The positions of a term are those that have its number.
use Rattle.std.proofs.Common.{◌≡◌, ◌<◌, ◌+◌, ℕ, List, [], map, length, get_or, false, sym, ap, ◌∙◌, arith}
use Rattle.std.specs.List.{filter, range_with_len}
use Rattle.std.proofs.lemmas.List.{get_or-map, length-map}
use Rattle.fc_docset.specs.Positions.{positions}
use Rattle.fc_spec.specs.documents.Val.{Text}
use Rattle.fc_column.specs.Terms.{has_text, terms_of}
use Rattle.fc_count.proofs.HeldPositions.{positions_passing}
use Rattle.fc_terms.specs.TermSpan.{has_term}
use Rattle.fc_terms.proofs.TermRows.{position_has}

pub term_positions : (column : List (List Text)) (from i : ℕ) → from + i < length (terms_of column)
    → positions (map (has_text (get_or (terms_of column) (from + i) [])) column) ≡ filter (λ at. has_term column from at i) (range_with_len 0 (length column))
term_positions column from i here =
    let t = get_or (terms_of column) (from + i) [] in
    let long = length-map column (has_text t) in
    positions_passing (λ at. has_term column from at i) (map (has_text t) column) (λ at inside.
    let within : at < length column = omega (arith, inside, long) in
    get_or-map (has_text t) column at [] false within ∙ sym (position_has column (from + i) here at within))
    ∙ ap (λ n. filter (λ at. has_term column from at i) (range_with_len 0 n)) long
