-- Domain changes and buckets of sets of positions: over three families, of which the second has no child.
use Rattle.std.specs.Prelude.{◌≡◌, List, [], ◌∷◌, map, Bool, true, false, refl, codes}
use Rattle.fc_spec.specs.documents.Document.{Block}
use Rattle.fc_spec.specs.documents.World.{Place}
use Rattle.fc_spec.specs.documents.Sets.{places_on, each_two}
use Rattle.fc_spec.specs.queries.Query.{all}
use Rattle.fc_spec.specs.requests.Request.{parents, children, DomainChange, terms, no_nodes, Request}
use Rattle.fc_spec.specs.requests.Buckets.{missing}
use Rattle.fc_spec.specs.requests.DomainSets.{moved_set, changed_set, base_set, bucket_set}
use Rattle.fc_rows.proofs.Words.{says, terms_on, no_change, tagged}
use Rattle.fc_rows.proofs.messages.MessageWords.{key_of}
use Rattle.fc_rows.proofs.replies.Families.{child, parent_of_brand, family, is_parent}

-- two children and their parent, a parent, a child and its parent
abbrev pub blocks : List Block
blocks =
    family (child "1" "red" ∷ child "2" "blue" ∷ []) (parent_of_brand "3" "acme")
    ∷ family [] (parent_of_brand "4" "zen")
    ∷ family (child "5" "red" ∷ []) (parent_of_brand "6" "zen")
    ∷ []

-- every position, and those of the parents
abbrev pub everything : List Bool
everything = true ∷ true ∷ true ∷ true ∷ true ∷ true ∷ []

abbrev pub every_parent : List Bool
every_parent = false ∷ false ∷ true ∷ true ∷ false ∷ true ∷ []

-- the parents, of which a filter takes those of brand acme
abbrev pub request : Request
request = record { query = is_parent; filters = tagged "T" (says 1 "acme") ∷ []; nodes = no_nodes }

pub filtered_base : base_set request [] blocks ≡ false ∷ false ∷ true ∷ false ∷ false ∷ false ∷ []
filtered_base = refl

pub base_without_filter : base_set request (codes "T" ∷ []) blocks ≡ every_parent
base_without_filter = refl

-- a child brings its parent, a parent keeps itself, and only those that match
pub one_child_up : moved_set (parents is_parent) blocks (true ∷ false ∷ false ∷ false ∷ false ∷ false ∷ []) ≡ false ∷ false ∷ true ∷ false ∷ false ∷ false ∷ []
one_child_up = refl

pub parent_kept : moved_set (parents is_parent) blocks (false ∷ false ∷ false ∷ true ∷ false ∷ true ∷ []) ≡ false ∷ false ∷ false ∷ true ∷ false ∷ true ∷ []
parent_kept = refl

pub parents_match : moved_set (parents (says 1 "zen")) blocks everything ≡ false ∷ false ∷ false ∷ true ∷ false ∷ true ∷ []
parents_match = refl

-- a parent brings its children and not itself, and a child brings none
pub children_down : moved_set (children is_parent) blocks (false ∷ false ∷ true ∷ true ∷ false ∷ false ∷ []) ≡ true ∷ true ∷ false ∷ false ∷ false ∷ false ∷ []
children_down = refl

pub children_of_matching : moved_set (children (says 1 "zen")) blocks everything ≡ false ∷ false ∷ false ∷ false ∷ true ∷ false ∷ []
children_of_matching = refl

pub no_grandchildren : moved_set (children all) blocks (true ∷ true ∷ false ∷ false ∷ true ∷ false ∷ []) ≡ false ∷ false ∷ false ∷ false ∷ false ∷ false ∷ []
no_grandchildren = refl

-- of the children of the base, or of the set where no tag is excluded, the red ones
abbrev pub red_children : DomainChange
red_children = record no_change { block = children is_parent; filters = says 2 "red" ∷ [] }

pub from_base : changed_set (record red_children { exclude = codes "T" ∷ [] }) blocks every_parent (false ∷ false ∷ true ∷ false ∷ false ∷ false ∷ []) ≡ true ∷ false ∷ false ∷ false ∷ true ∷ false ∷ []
from_base = refl

pub from_set : changed_set red_children blocks every_parent (false ∷ false ∷ true ∷ false ∷ false ∷ false ∷ []) ≡ true ∷ false ∷ false ∷ false ∷ false ∷ false ∷ []
from_set = refl

-- buckets of colors
pub red_bucket : bucket_set (terms (terms_on 2)) (key_of "red") blocks (false ∷ true ∷ true ∷ true ∷ true ∷ true ∷ []) ≡ false ∷ false ∷ false ∷ false ∷ true ∷ false ∷ []
red_bucket = refl

pub missing_bucket : bucket_set (terms (terms_on 2)) missing blocks everything ≡ every_parent
missing_bucket = refl

-- the places on a shard: its number, and of each its position and its block
abbrev pub some_places : List Place
some_places = places_on 4 blocks (false ∷ true ∷ false ∷ true ∷ true ∷ false ∷ [])

pub on_the_shard : map (λ p. p.shard) some_places ≡ 4 ∷ 4 ∷ 4 ∷ []
on_the_shard = refl

pub at_positions : map (λ p. p.position) some_places ≡ 1 ∷ 3 ∷ 4 ∷ []
at_positions = refl

pub in_blocks : map (λ p. p.block) some_places ≡ 0 ∷ 1 ∷ 2 ∷ []
in_blocks = refl

-- no blocks, and a list without blocks beside one with some
pub nothing_there : changed_set red_children [] [] [] ≡ []
nothing_there = refl

pub beside_nothing : each_two (changed_set red_children) ([] ∷ blocks ∷ []) ([] ∷ every_parent ∷ []) ([] ∷ every_parent ∷ []) ≡ [] ∷ (true ∷ false ∷ false ∷ false ∷ true ∷ false ∷ []) ∷ []
beside_nothing = refl
