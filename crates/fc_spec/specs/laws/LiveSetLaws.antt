-- Sets of positions within live ones: what is made of a set, kept at the live positions, is what is made on the live blocks of the set kept there.
use Rattle.std.specs.Prelude.{◌≡◌, List, length, Bool}
use Rattle.std.specs.List.{items_where_true}
use Rattle.fc_spec.specs.documents.Document.{Document, Block}
use Rattle.fc_spec.specs.documents.Totals.{document_total}
use Rattle.fc_spec.specs.documents.Sets.{passing, passing_of}
use Rattle.fc_spec.specs.documents.Live.{live_in, HasWholeBlocks}
use Rattle.fc_spec.specs.requests.Request.{DomainChange}
use Rattle.fc_spec.specs.requests.DomainSets.{changed_set}

-- the documents that pass, of all
abbrev pub PassingOnLive : Type 0
PassingOnLive = (t : Document → Bool) (blocks : List Block) (live : List Bool) → HasWholeBlocks blocks live
    → items_where_true live (passing t blocks) ≡ passing t (live_in blocks live)

-- and of a set
abbrev pub PassingOfOnLive : Type 0
PassingOfOnLive = (t : Document → Bool) (blocks : List Block) (live set : List Bool) → HasWholeBlocks blocks live → length set ≡ document_total blocks
    → items_where_true live (passing_of t blocks set) ≡ passing_of t (live_in blocks live) (items_where_true live set)

-- domain changes
abbrev pub ChangesOnLive : Type 0
ChangesOnLive = (change : DomainChange) (blocks : List Block) (live base set : List Bool) → HasWholeBlocks blocks live → length base ≡ document_total blocks → length set ≡ document_total blocks
    → items_where_true live (changed_set change blocks base set) ≡ changed_set change (live_in blocks live) (items_where_true live base) (items_where_true live set)
