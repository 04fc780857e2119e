-- Candidates, chosen values and known shards. Guide: JSON Facet API, "Terms Facet" (`refine`, `overrefine`).
use Rattle.std.specs.Prelude.{ℕ, List, map, Option, None, if◌then◌else◌}
use Rattle.std.specs.List.{filter, flat_map}
use Rattle.fc_spec.specs.documents.Val.{Val, has_val, distinct}
use Rattle.fc_spec.specs.requests.Request.{Terms, terms, Nodes, stats_of}
use Rattle.fc_spec.specs.requests.Buckets.{value}
use Rattle.fc_spec.specs.requests.Ranks.{Entry, below_rank, rank_bound}
use Rattle.fc_spec.specs.requests.Shape.{counts_all}
use Rattle.fc_spec.specs.replies.Reading.{Reading, stats_on}

-- below which rank a candidate is chosen: with refine and a limit
abbrev pub chosen_bound : Terms → Option ℕ
chosen_bound t = if t.refine then rank_bound t.offset t.limit t.overrefine else None

-- of a terms facet with its nested nodes, in a domain on the shards H
module _ {B D : Type 0} (R : Reading B D) (t : Terms) (inner : Nodes) (H : List ℕ) (Y : D) where
  -- the values that some shard of H offers, in index order
  abbrev pub candidates : List Val
  candidates = distinct (flat_map (λ i. R.offered_by t inner Y i) H)

  -- the shards of H that offer the value
  abbrev pub offering : Val → List ℕ
  offering v = filter (λ i. has_val v (R.offered_by t inner Y i)) H

  -- the value with the count and the statistics of its part on these shards
  abbrev pub entry_on : List ℕ → Val → Entry
  entry_on shards v = record { val = v; stats = stats_on R (stats_of inner) shards (R.bucket_at (terms t) Y (value v)) }

  -- each candidate over the shards that offer it
  abbrev pub candidate_entries : List Entry
  candidate_entries = map (λ v. entry_on (offering v) v) candidates

  -- with refine and a limit the candidates whose rank, over the shards that offer them, is below the bound; else every candidate
  abbrev pub chosen : List Val
  chosen = map (λ e. e.val) (below_rank t.sort (chosen_bound t) candidate_entries)

  -- the shards over which a chosen value is counted: all of H where the facet refines or asks again, else those that offer it
  abbrev pub known : Val → List ℕ
  known v = if counts_all t inner then H else offering v

  -- the chosen values, each over its known shards
  abbrev pub chosen_entries : List Entry
  chosen_entries = map (λ v. entry_on (known v) v) chosen
