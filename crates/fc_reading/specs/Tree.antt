-- What a node adds to the facets of a bucket.
use Rattle.std.specs.Prelude.{◌≡◌, ℕ, suc, List, Option, None, Some, slice_get}
use Rattle.fc_spec.specs.documents.Val.{Text}
use Rattle.fc_spec.specs.requests.Request.{Stat, Nodes}
use Rattle.fc_spec.specs.requests.RequestReading.{with_node}
use Rattle.fc_spec.specs.requests.Statistics.{Stats}
use Rattle.fc_spec.specs.replies.Reading.{Reading}
use Rattle.fc_spec.specs.replies.Reply.{Facets, one, many, listed}
use Rattle.fc_spec.specs.replies.Distributed.{dist_facets}
use Rattle.fc_request.specs.NodeView.{Part as NodePart}
use Rattle.fc_request.specs.NodeStatistics.{statistic_of_node}
use Rattle.fc_reading.specs.Parts.{bucket_with, row_with, part_view, parts_view, IsCounted, AreCounted}
use Rattle.fc_reading.specs.declared.part.Printed.{Printed}
use Rattle.fc_reading.specs.declared.part.Printed.TheVariants.{Many, One}

-- the count of a bucket, and the facets in it
abbrev pub count_in : {B D : Type 0} → Reading B D → List ℕ → B → ℕ
count_in R H X = R.count_on H X

abbrev pub inside : {B D : Type 0} → Reading B D → Nodes → List ℕ → B → Facets
inside R inner H X = dist_facets R inner 0 0 H X

-- what a facet prints, before others
abbrev pub put_printed : {B H : Type 0} → (List ℕ → H → ℕ) → (List ℕ → H → Facets) → (B → H) → Text → Printed B → Facets → Facets
put_printed count inside held name (Many ps) more = many name (row_with count inside (parts_view held ps)) more
put_printed count inside held name (One p) more = one name (bucket_with count inside (part_view held listed p)) more

abbrev pub AreCountedIn : {B H D : Type 0} → Reading H D → (B → H) → List Stat → Printed B → Type 0
AreCountedIn R held ss (Many ps) = AreCounted R held ss ps
AreCountedIn R held ss (One p) = IsCounted R held ss p

-- the node and those after it
abbrev pub node_before : NodePart → Nodes → Nodes
node_before p rest = with_node p.0 p.1 rest

-- one more where there is a statistic
abbrev pub one_more_if : Option Stat → ℕ → ℕ
one_more_if None m = m
one_more_if (Some s) m = suc m

-- how many statistics there are with the node, where there are so many before it
abbrev pub statistics_after : NodePart → ℕ → ℕ
statistics_after p m = one_more_if (statistic_of_node p.1) m

-- if the node is a statistic, its value has this number among those of the bucket
abbrev pub HasValue : {B D : Type 0} → Reading B D → List ℕ → B → Stats → NodePart → ℕ → Type 0
HasValue R H X stats p m = (s : Stat) → statistic_of_node p.1 ≡ Some s → slice_get stats.values m ≡ Some (R.statistic_on m s H X)
