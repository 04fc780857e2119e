-- The base, domain changes and buckets as sets of positions in blocks.
use Rattle.std.specs.Prelude.{List, [], ◌∷◌, ◌++◌, replicate, take, drop, length, slice_index_or, Bool, false, ◌&&◌, if◌then◌else◌}
use Rattle.std.specs.List.{list_any, list_all}
use Rattle.fc_spec.specs.words.Lists.{is_empty}
use Rattle.fc_spec.specs.documents.Val.{Text}
use Rattle.fc_spec.specs.documents.Document.{Block}
use Rattle.fc_spec.specs.documents.Totals.{documents_of}
use Rattle.fc_spec.specs.documents.Sets.{passing, passing_of}
use Rattle.fc_spec.specs.queries.Query.{Query}
use Rattle.fc_spec.specs.queries.Matching.{matches}
use Rattle.fc_spec.specs.requests.Request.{Request, BlockStep, stay, parents, children, DomainChange, Kind}
use Rattle.fc_spec.specs.requests.Base.{meets_base}
use Rattle.fc_spec.specs.requests.Buckets.{Key, in_bucket}
use Rattle.fc_spec.specs.requests.Paths.{Path, meets_rebuilt}

-- what is made of each block's part of a set, one block behind the other
abbrev pub by_blocks : (Block → List Bool → List Bool) → List Block → List Bool → List Bool
by_blocks f [] set = []
by_blocks f (b ∷ blocks) set = f b (take (length (documents_of b)) set) ++ by_blocks f blocks (drop (length (documents_of b)) set)

-- the parent, where it matches and a position of its block is in the set
abbrev pub to_parent : Query → Block → List Bool → List Bool
to_parent q b set = replicate (length b.children) false ++ (matches q b.parent && list_any (λ here. here) set) ∷ []

-- the children, where the parent matches and is in the set
abbrev pub to_children : Query → Block → List Bool → List Bool
to_children q b set = replicate (length b.children) (matches q b.parent && slice_index_or set (length b.children) false) ++ false ∷ []

-- what a block step makes of a set
abbrev pub moved_set : BlockStep → List Block → List Bool → List Bool
moved_set stay blocks set = set
moved_set (parents q) blocks set = by_blocks (to_parent q) blocks set
moved_set (children q) blocks set = by_blocks (to_children q) blocks set

-- those of a set whose document matches every one of the filters
abbrev pub filtered_set : List Query → List Block → List Bool → List Bool
filtered_set filters blocks set = passing_of (λ d. list_all (λ q. matches q d) filters) blocks set

-- what a change makes of a set: where it excludes tags the base stands in its place; then the block step, then the change's own filters
abbrev pub changed_set : DomainChange → List Block → (base set : List Bool) → List Bool
changed_set change blocks base set = filtered_set change.filters blocks (moved_set change.block blocks (if is_empty change.exclude then set else base))

-- the base without the filters with one of the tags
abbrev pub base_set : Request → List Text → List Block → List Bool
base_set r tags blocks = passing (meets_base r tags) blocks

-- the base that is rebuilt along a path
abbrev pub rebuilt_set : Request → Path → List Text → List Block → List Bool
rebuilt_set r path tags blocks = passing (meets_rebuilt r path tags) blocks

-- those of a set that are in a bucket
abbrev pub bucket_set : Kind → Key → List Block → List Bool → List Bool
bucket_set kind key blocks set = passing_of (in_bucket kind key) blocks set
