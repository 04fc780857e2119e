-- At most 64 nodes in a request, eight deep.
use Rattle.std.specs.Prelude.{◌≡◌, ℕ, zero, suc, ◌+◌, [], ◌∷◌, ◌++◌, replicate, Option, Some, option_map, Result, Ok, Err, codes, refl, pos}
use Rattle.std.specs.List.{flat_map}
use Rattle.fc_spec.specs.documents.IntegerTexts.{decimal_text}
use Rattle.fc_spec.specs.words.Lists.{numbers_below}
use Rattle.fc_spec.specs.documents.Val.{Text}
use Rattle.fc_spec.specs.requests.Request.{Nodes, no_nodes, statistic, facet, Request}
use Rattle.fc_spec.specs.requests.RequestFault.{RequestFault, bad_command, unknown_field, reserved_name, too_large}
use Rattle.fc_spec.specs.requests.ValidRequests.{node_depth}
use Rattle.fc_rows.proofs.requests.RequestWords.{request_in, FailsAt, walked}

-- so many statistics, whose names are numbers; a comma behind each
abbrev pub statistics : ℕ → Text
statistics n = flat_map (λ k. codes "'" ++ decimal_text (pos (k + 10)) ++ codes "':'missing(id)',") (numbers_below n)

abbrev queried : Text → Text
queried inner = codes "{'type':'query','q':'*:*','facet':{" ++ inner ++ codes "}}"

-- so many facets around this member, each of the name `a`
abbrev nested : ℕ → Text → Text
nested zero inner = inner
nested (suc n) inner = codes "'a':" ++ queried (nested n inner)

abbrev pub asking : Text → Text
asking members = codes "{'facet':{" ++ members ++ codes "}}"

abbrev node_count : Nodes → ℕ
node_count no_nodes = 0
node_count (statistic name s rest) = 1 + node_count rest
node_count (facet f inner rest) = 1 + node_count inner + node_count rest

abbrev size : Result Request RequestFault → Result (ℕ × ℕ) RequestFault
size (Ok r) = Ok (node_count r.nodes, node_depth r.nodes)
size (Err e) = Err e

abbrev size_in : Option (Result Request RequestFault) → Option (Result (ℕ × ℕ) RequestFault)
size_in o = option_map size o

-- the request of these members is read, with so many nodes, and so many of them around each other
abbrev pub HasSize : Text → (nodes depth : ℕ) → Type 0
HasSize t nodes depth = size_in (request_in (asking t)) ≡ Some (Ok (nodes, depth))

-- ---- 64 nodes beside each other, and 65
pub beside :
    HasSize (statistics 63 ++ codes "'z':'missing(id)'") 64 1
    × FailsAt (asking (statistics 64 ++ codes "'z':'missing(id)'")) ("z" ∷ []) too_large
unfolding walked
beside = (refl, refl)

-- ---- nodes inside others count with them, also behind them
pub inside :
    HasSize (statistics 31 ++ codes "'a':" ++ queried (statistics 31 ++ codes "'z':'missing(id)'")) 64 2
    × FailsAt (asking (statistics 32 ++ codes "'a':" ++ queried (statistics 31 ++ codes "'z':'missing(id)'"))) ("a" ∷ "z" ∷ []) too_large
    × HasSize (codes "'a':" ++ queried (statistics 61 ++ codes "'z':'missing(id)'") ++ codes ",'b':'missing(id)'") 64 2
    × FailsAt (asking (codes "'a':" ++ queried (statistics 62 ++ codes "'z':'missing(id)'") ++ codes ",'b':'missing(id)'")) ("b" ∷ []) too_large
    × HasSize (codes "'a':" ++ queried (codes "'a':" ++ queried (statistics 60 ++ codes "'z':'missing(id)'")) ++ codes ",'b':'missing(id)'") 64 3
    × FailsAt (asking (codes "'a':" ++ queried (codes "'a':" ++ queried (statistics 61 ++ codes "'z':'missing(id)'")) ++ codes ",'b':'missing(id)'")) ("b" ∷ []) too_large
unfolding walked
inside = (refl, refl, refl, refl, refl, refl)

-- ---- a node at depth 8, and one at depth 9
pub deep :
    HasSize (nested 7 (codes "'s':'missing(id)'")) 8 8
    × HasSize (nested 8 []) 8 8
    × FailsAt (asking (nested 8 (codes "'s':'missing(id)'"))) (replicate 8 "a" ++ "s" ∷ []) too_large
    × FailsAt (asking (nested 9 [])) (replicate 9 "a") too_large
unfolding walked
deep = (refl, refl, refl, refl)

-- ---- the number and the depth come before everything else of a node, but not before the steps of those around it
pub first_of_all :
    FailsAt (asking (statistics 64 ++ codes "'count':7")) ("count" ∷ []) too_large
    × FailsAt (asking (statistics 63 ++ codes "'count':7")) ("count" ∷ []) reserved_name
    × FailsAt (asking (nested 8 (codes "'val':7"))) (replicate 8 "a" ++ "val" ∷ []) too_large
    × FailsAt (asking (nested 7 (codes "'val':7"))) (replicate 7 "a" ++ "val" ∷ []) reserved_name
    × FailsAt (asking (statistics 63 ++ codes "'x':{'type':'terms','field':'zat','facet':{'y':7}}")) ("x" ∷ []) unknown_field
    × FailsAt (asking (statistics 63 ++ codes "'x':{'type':'terms','field':'cat','facet':{'y':7}}")) ("x" ∷ "y" ∷ []) too_large
    × FailsAt (asking (statistics 62 ++ codes "'x':{'type':'terms','field':'cat','facet':{'y':7}}")) ("x" ∷ "y" ∷ []) bad_command
unfolding walked
first_of_all = (refl, refl, refl, refl, refl, refl, refl)
