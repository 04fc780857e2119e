-- What stands for what is told by facets and values.
use Rattle.std.specs.Prelude.{List, [], map, Vec}
use Rattle.std.specs.Borrow.{Bor}
use Rattle.std.specs.declared.alloc.Global.{Global}
use Rattle.fc_spec.specs.messages.TopRounds as definition
use Rattle.fc_spec.specs.requests.Ranks.{Entry}
use Rattle.fc_base.specs.View.{val_view}
use Rattle.fc_request.specs.FacetNode.{kind_view}
use Rattle.fc_exact.specs.ToldFacets as facets
use Rattle.fc_exact.specs.View.{told_view}
use Rattle.fc_exact.specs.declared.facets.ToldFacet.{ToldFacet}
use Rattle.fc_exact.specs.declared.told.ToldCount.{ToldCount}
use Rattle.fc_exact.specs.declared.totals.Total.{Total}
use Rattle.fc_exact.specs.declared.values.ShardCount.{ShardCount}
use Rattle.fc_exact.specs.declared.values.ToldValue.{ToldValue}

-- what is told of each facet
abbrev pub lent_view : List (Bor ToldCount) → List definition.ToldCount
lent_view ts = map (λ t. told_view t.now) ts

abbrev pub lists_view : List (Vec (Bor ToldCount) Global) → List (List definition.ToldCount)
lists_view lists = map (λ list. lent_view list.items) lists

abbrev pub count_view : ShardCount → facets.Count
count_view c = (c.shard, c.count)

abbrev pub value_view : ToldValue → facets.ToldValue
value_view v = (val_view v.val.now, map count_view v.counts.items)

abbrev pub facet_view : ToldFacet → facets.ToldFacet
facet_view f = (kind_view f.kind.now, map value_view f.values.items)

-- a value with its count over all shards
abbrev pub total_view : Total → Entry
total_view t = record { val = val_view t.val.now; stats = record { count = t.count; values = [] } }
