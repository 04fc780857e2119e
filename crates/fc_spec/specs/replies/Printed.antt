-- What the exact and the distributed reply say in the same words.
use Rattle.std.specs.Prelude.{ℤ, Option, List, [], ◌∷◌, ◌++◌, map, Bool, ◌&&◌, if◌then◌else◌, nat_le}
use Rattle.std.specs.List.{filter}
use Rattle.fc_spec.specs.documents.Val.{Text}
use Rattle.fc_spec.specs.words.Lists.{is_empty, numbers_below}
use Rattle.fc_spec.specs.requests.Request.{Terms, Range, DateRange, Facet}
use Rattle.fc_spec.specs.requests.Gaps.{gap_count}
use Rattle.fc_spec.specs.requests.DateGaps.{date_gap_count}
use Rattle.fc_spec.specs.requests.Buckets.{Key, value, missing, gap, before, between, after}
use Rattle.fc_spec.specs.requests.Ranks.{Entry, page}
use Rattle.fc_spec.specs.replies.Reply.{Facets, with_number}

-- the key, where it is asked for
abbrev pub asked : Bool → Key → List Key
asked wanted key = if wanted then key ∷ [] else []

-- the keys of a range facet's buckets: every gap in order, and those beside them where asked
abbrev pub range_keys : Range → List Key
range_keys g = map gap (numbers_below (gap_count g)) ++ (asked g.before before ++ (asked g.between between ++ asked g.after after))

abbrev pub date_range_keys : DateRange → List Key
date_range_keys g = map gap (numbers_below (date_gap_count g)) ++ (asked g.before before ++ (asked g.between between ++ asked g.after after))

-- the keys of the buckets that a terms facet prints: of the entries whose count is at least mincount the page, and `missing` where asked
abbrev pub terms_keys : Terms → List Entry → List Key
terms_keys t entries =
    map (λ e. value e.val) (page t.sort t.offset t.limit (filter (λ e. nat_le t.mincount e.stats.count) entries)) ++ asked t.missing missing

-- a statistic of a bucket: printed unless the bucket is empty or it is absent
abbrev pub statistic_part : (empty : Bool) → Text → Option ℤ → Facets → Facets
statistic_part empty name n more = if empty then more else with_number name n more

-- a facet of a bucket: printed unless the bucket is empty and the facet excludes no tag
abbrev pub facet_part : (empty : Bool) → Facet → (printed more : Facets) → Facets
facet_part empty f printed more = if empty && is_empty f.change.exclude then more else printed
