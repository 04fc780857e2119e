-- What candidates stand for.
use Rattle.std.specs.Prelude.{◌≡◌, ℕ, List, map}
use Rattle.fc_spec.specs.requests.Ranks.{Entry}
use Rattle.fc_spec.specs.requests.Request.{Stat}
use Rattle.fc_base.specs.View.{val_view}
use Rattle.fc_partial.specs.StatsView.{stats_view}
use Rattle.fc_refine.specs.declared.candidates.Candidate.{Candidate}
use Rattle.fc_refine.specs.declared.found.Found.{Found}
use Rattle.fc_refine.specs.Grouped.{Group}
use Rattle.fc_refine.specs.Listings.{Listing, listed_view, all_of}

-- a value with the count and the statistics of its bucket
abbrev pub candidate_entry : Candidate → Entry
candidate_entry c = record { val = val_view c.val; stats = stats_view c.stats }

abbrev pub found_entry : Found → Entry
found_entry f = record { val = val_view f.val.now; stats = stats_view f.stats }

-- its value, and what lists it
abbrev pub found_group : Found → Group Listing
found_group f = (val_view f.val.now, map listed_view f.listed.items)

-- the statistics are those of what lists it
abbrev pub IsCombined : List Stat → Found → Type 0
IsCombined ss f = stats_view f.stats ≡ all_of ss (map listed_view f.listed.items)

-- the entry with the shards that list the value
abbrev pub candidate_part : Candidate → Entry × List ℕ
candidate_part c = (candidate_entry c, c.shards.items)

abbrev pub found_part : Found → Entry × List ℕ
found_part f = (found_entry f, map (λ l. l.shard) f.listed.items)
