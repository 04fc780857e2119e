-- What a builder of a column of texts hands to a merger.
use Rattle.std.proofs.Common.{◌≡◌, ℕ, true, List, length, get_or, map, All, sym, ap, ◌∙◌}
use Rattle.std.specs.List.{list_any}
use Rattle.fc_spec.specs.documents.Val.{Text, text_cmp}
use Rattle.fc_spec.specs.documents.Columns.{IsAscending}
use Rattle.fc_column.specs.Numbering.{IsNumbering, has_number, text_numbered, texts_numbered}
use Rattle.fc_column.specs.Terms.{has_text}
use Rattle.fc_column.specs.TextMerger.{Keeps}
use Rattle.fc_column.proofs.Numberings.{Entries, number_of_entry}

pub keeps_built : (entries : Entries) (rows : List (List ℕ)) → IsNumbering entries → All (All (λ n. has_number n entries ≡ true)) rows → All (IsAscending text_cmp) (map (map (text_numbered entries)) rows)
    → ((t : Text) → has_text t (texts_numbered entries) ≡ list_any (has_text t) (map (map (text_numbered entries)) rows)) → Keeps entries (length entries) rows
keeps_built entries rows numbering numbered ascending used = record {
  below = λ k d inside. numbering.below (get_or entries k d).1 (number_of_entry entries k d inside);
  one = λ k d inside j e there same. sym (numbering.own k d inside) ∙ ap (text_numbered entries) same ∙ numbering.own j e there;
  numbered = numbered;
  ascending = ascending;
  used = used;
}
