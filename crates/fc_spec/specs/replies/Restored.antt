-- A reply to a request with query facets in the place of exact ones, put together again. Guide: JSON Facet API, "Terms Facet" (`refine`).
use Rattle.std.specs.Prelude.{List, [], ◌∷◌, Option, Bool, false, ◌&&◌, ◌==◌, if◌then◌else◌}
use Rattle.fc_spec.specs.documents.Val.{Text, same_text, Val}
use Rattle.fc_spec.specs.words.Lists.{is_empty}
use Rattle.fc_spec.specs.requests.Request.{Terms, Kind, terms, Nodes, no_nodes, statistic, facet, Request}
use Rattle.fc_spec.specs.requests.Shape.{is_exact}
use Rattle.fc_spec.specs.requests.Buckets.{Key}
use Rattle.fc_spec.specs.replies.Reply.{Bucket, bucket, Facets, no_facets, number, one, many, counted, Row, no_parts, part, spot_of, val_of}
use Rattle.fc_spec.specs.replies.Tops.{top_keys, first_list, lists_after}

-- the first facet, and those behind it
abbrev pub after_first : Facets → Facets
after_first no_facets = no_facets
after_first (number name n more) = more
after_first (one name b more) = more
after_first (many name row more) = more
after_first (counted name n row more) = more

abbrev pub with_first : Facets → Facets → Facets
with_first no_facets more = more
with_first (number name n rest) more = number name n more
with_first (one name b rest) more = one name b more
with_first (many name row rest) more = many name row more
with_first (counted name n row rest) more = counted name n row more

-- the first is a number of that name
abbrev pub is_number_of : Text → Facets → Bool
is_number_of name (number other n more) = same_text name other
is_number_of name _ = false

-- the bucket with that value
abbrev pub with_val : Option Val → Bucket → Bucket
with_val val (bucket other count F) = bucket val count F

-- the buckets of query facets as those of keys
abbrev pub row_from : Terms → List Key → Facets → Row
row_from t [] F = no_parts
row_from t (k ∷ ks) (one name b more) = part (spot_of k) (with_val (val_of (terms t) k) b) (row_from t ks more)
row_from t (k ∷ ks) _ = no_parts

-- the facets behind those of the keys
abbrev pub after_keys : List Key → Facets → Facets
after_keys [] F = F
after_keys (k ∷ ks) F = after_keys ks (after_first F)

-- what was printed of a facet, from the facets of the replaced request, and more behind it
abbrev pub restored_facet : Kind → Text → List Val → Facets → Facets → Facets
restored_facet (terms t) name vs F more = if is_exact (terms t) then many name (row_from t (top_keys t vs) F) more else with_first F more
restored_facet _ name vs F more = with_first F more

-- the facets behind those of a facet
abbrev pub after_facet : Kind → List Val → Facets → Facets
after_facet (terms t) vs F = if is_exact (terms t) then after_keys (top_keys t vs) F else after_first F
after_facet _ vs F = after_first F

-- node by node of a bucket that is empty or not; names of nodes differ
abbrev pub restored_facets : Nodes → List (List Val) → (empty : Bool) → Facets → Facets
restored_facets no_nodes vss empty F = no_facets
restored_facets (statistic name s rest) vss empty F =
    let there = is_number_of name F in
    let more = restored_facets rest vss empty (if there then after_first F else F) in
    if there then with_first F more else more
restored_facets (facet f inner rest) vss empty F =
    let hidden = empty && is_empty f.change.exclude in
    let more = restored_facets rest (lists_after (is_exact f.kind) vss) empty (if hidden then F else after_facet f.kind (first_list vss) F) in
    if hidden then more else restored_facet f.kind f.name (first_list vss) F more

abbrev pub restored : Request → List (List Val) → Bucket → Bucket
restored r vss (bucket val count F) = bucket val count (restored_facets r.nodes vss (count == 0) F)
