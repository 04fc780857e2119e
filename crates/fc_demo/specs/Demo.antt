-- The script of the demo: a small shop of generated documents over four shards, and one search.
use Rattle.std.specs.Prelude.{ℕ, ◌+◌, ◌*◌, ◌%◌, ◌==◌, [], ◌∷◌, ◌++◌, codes, decimal, if◌then◌else◌}
use Rattle.std.specs.List.{flat_map}
use Rattle.fc_spec.specs.documents.Val.{Text}
use Rattle.fc_spec.specs.words.Lists.{joined, numbers_below}

abbrev pub schema_line : Text
schema_line = codes "{\"schema\":{\"shards\":4,\"fields\":{\"brand\":\"string\",\"price\":\"plong\",\"tags\":\"strings\"}}}\n"

abbrev pub commit_line : Text
commit_line = codes "{\"commit\":{}}\n"

abbrev pub sync_line : Text
sync_line = codes "{\"sync\":{}}\n"

abbrev pub search_line : Text
search_line = codes "{\"search\":{\"session\":\"demo\",\"request\":{\"facet\":{\"brands\":{\"type\":\"terms\",\"field\":\"brand\",\"limit\":3,\"refine\":true,\"facet\":{\"total\":\"sum(price)\"}},\"tags\":{\"type\":\"terms\",\"field\":\"tags\",\"limit\":-1,\"sort\":\"index\"}}}}}\n"

-- a text, and then a number in decimal digits
abbrev pub numbered : Text → ℕ → Text
numbered text n = text ++ decimal n

-- the line that adds the document of this number
abbrev pub add_line : ℕ → Text
add_line i = joined (
    numbered (codes "{\"add\":{\"shard\":") (i % 4)
    ∷ numbered (codes ",\"doc\":{\"id\":\"d") i
    ∷ numbered (codes "\",\"brand\":\"b") (7 * i % 13)
    ∷ numbered (codes "\",\"price\":") (31 * i % 1000)
    ∷ numbered (codes ",\"tags\":[\"t") (i % 5)
    ∷ numbered (codes "\",\"t") (i % 3)
    ∷ codes "\"]}}}\n"
    ∷ [])

-- a document's line, and after each thousandth document a commit
abbrev pub lines_of : ℕ → Text
lines_of i = if (i + 1) % 1000 == 0 then add_line i ++ commit_line else add_line i

-- the schema, so many documents, a last commit, and the search over all of them
abbrev pub demo_script : ℕ → Text
demo_script documents = schema_line ++ flat_map lines_of (numbers_below documents) ++ commit_line ++ sync_line ++ search_line
