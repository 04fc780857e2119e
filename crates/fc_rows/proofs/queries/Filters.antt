-- Filters: their tags and query texts, or their faults.
use Rattle.std.specs.Prelude.{◌≡◌, List, [], ◌∷◌, map, Ok, Err, refl, codes}
use Prim.Native.String.{String}
use Rattle.serde_json.specs.Data.{Data, null, string, array, object, no_items, no_members, member}
use Rattle.fc_spec.specs.queries.QueryFault.{syntax, FilterFault, shape, query}
use Rattle.fc_spec.specs.queries.FilterReading.{tags_of, local_tags, text_filter, member_filter, object_filter, filter_parts}
use Rattle.fc_rows.proofs.Words.{written}

-- a filter has these tags and this query text
abbrev Has : Data → List String → String → Type 0
Has d tags t = filter_parts d ≡ Ok (map codes tags, codes t)

abbrev Fails : Data → FilterFault → Type 0
Fails d e = filter_parts d ≡ Err e

abbrev a_text : String → Data
a_text s = string (codes s)

abbrev an_object : String → Data → Data
an_object key d = object (member (codes key) d no_members)

pub texts :
    Has (a_text "cat:a") [] "cat:a"
    × Has (a_text "{!tag=A}cat:a") ("A" ∷ []) "cat:a"
    × Has (a_text "{!tag=A,b-2,_.}cat:{* TO a}") ("A" ∷ "b-2" ∷ "_." ∷ []) "cat:{* TO a}"
    × Has (a_text "{!tag=A}") ("A" ∷ []) ""
    × Has (a_text "{!tag}cat:a") [] "{!tag}cat:a"
    × Fails (a_text "{!tag=}cat:a") (query syntax)
    × Fails (a_text "{!tag=A,}cat:a") (query syntax)
    × Fails (a_text "{!tag=A B}cat:a") (query syntax)
    × Fails (a_text "{!tag=A:B}cat:a") (query syntax)
    × Fails (a_text "{!tag=é}cat:a") (query syntax)
    × Fails (a_text "{!tag=A") (query syntax)
unfolding written tags_of local_tags text_filter member_filter object_filter filter_parts
texts = (refl, refl, refl, refl, refl, refl, refl, refl, refl, refl, refl)

pub objects :
    Has (an_object "#A" (a_text "cat:a")) ("A" ∷ []) "cat:a"
    × Has (an_object "#A,B" (a_text "{!tag=C}")) ("A" ∷ "B" ∷ []) "{!tag=C}"
    × Fails (an_object "#" (a_text "*:*")) (query syntax)
    × Fails (an_object "#A," (a_text "*:*")) (query syntax)
    × Fails (an_object "A" (a_text "*:*")) shape
    × Fails (an_object "" (a_text "*:*")) shape
    × Fails (an_object "#A" null) shape
    × Fails (object no_members) shape
    × Fails (object (member (codes "#A") (a_text "*:*") (member (codes "#B") (a_text "*:*") no_members))) shape
    × Fails null shape
    × Fails (array no_items) shape
unfolding written tags_of local_tags text_filter member_filter object_filter filter_parts
objects = (refl, refl, refl, refl, refl, refl, refl, refl, refl, refl, refl)
