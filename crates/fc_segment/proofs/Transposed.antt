-- The documents of columns, and the columns of documents.
use Rattle.std.proofs.Common.{◌≡◌, ℕ, ◌<◌, List, [], ◌∷◌, ◌++◌, length, get_or, map, All, refl, sym, ap, ap₂, ◌∙◌}
use Rattle.std.specs.List.{range_with_len}
use Rattle.std.proofs.lemmas.List.{get_or-map, map_push, append_assoc}
use Rattle.std.proofs.lemmas.List.FromFn.{fill_by_all}
use Rattle.std.proofs.lemmas.Simd.{map-map}
use Rattle.fc_spec.specs.documents.Val.{Val}
use Rattle.fc_spec.specs.documents.Document.{Document}
use Rattle.fc_spec.specs.documents.Columns.{column_of}
use Rattle.fc_segment.specs.Stored.{document_at, documents_at}

pub column_of-documents_at : (columns : List (List (List Val))) (count field : ℕ) → field < length columns → length (get_or columns field []) ≡ count
    → column_of field (documents_at columns count) ≡ get_or columns field []
column_of-documents_at columns count field within even =
    map-map (λ d. get_or d field []) (document_at columns) (range_with_len 0 count)
    ∙ sym (fill_by_all (λ at. get_or (document_at columns at) field []) (get_or columns field []) count [] even
    (λ at below. sym (get_or-map (λ column. get_or column at []) columns field [] [] within)))

document_at-columns_of : (count : ℕ) (ds : List Document) (at : ℕ) → at < length ds → length (get_or ds at []) ≡ count
    → get_or ds at [] ≡ document_at (map (λ field. column_of field ds) (range_with_len 0 count)) at
document_at-columns_of count ds at within lists =
    fill_by_all (λ field. get_or (column_of field ds) at []) (get_or ds at []) count [] lists
    (λ field below. sym (get_or-map (λ d. get_or d field []) ds at [] [] within))
    ∙ sym (map-map (λ column. get_or column at []) (λ field. column_of field ds) (range_with_len 0 count))

pub documents_at-columns_of : (count : ℕ) (ds : List Document) → All (λ d. length d ≡ count) ds
    → documents_at (map (λ field. column_of field ds) (range_with_len 0 count)) (length ds) ≡ ds
documents_at-columns_of count ds lists =
    sym (fill_by_all (document_at (map (λ field. column_of field ds) (range_with_len 0 count))) ds (length ds) [] refl
    (λ at within. document_at-columns_of count ds at within (lists at [] within)))

-- one more item
pub map-pushed : {X Y : Type 0} (f : X → Y) (xs new : List X) (x : X) (ys : List Y) (y : Y) → new ≡ xs ++ x ∷ [] → map f xs ≡ ys → f x ≡ y → map f new ≡ ys ++ y ∷ []
map-pushed f xs new x ys y is before here = ap (map f) is ∙ map_push f xs x ∙ ap₂ (λ l z. l ++ z ∷ []) before here

-- one item made, and one less left
pub made_more : {X Y Z : Type 0} (f : X → Z) (g : Y → Z) (made new : List Y) (left : List X) (x : X) (rest : List X) (y : Y) (all : List Z)
    → left ≡ x ∷ rest → new ≡ made ++ y ∷ [] → g y ≡ f x → map g made ++ map f left ≡ all → map g new ++ map f rest ≡ all
made_more f g made new left x rest y all left_is new_is same before =
    ap (λ l. map g l ++ map f rest) new_is ∙ ap (λ l. l ++ map f rest) (map_push g made y) ∙ append_assoc (map g made) (g y ∷ []) (map f rest)
    ∙ ap (λ z. map g made ++ (z ∷ map f rest)) same ∙ ap (λ l. map g made ++ map f l) (sym left_is) ∙ before
