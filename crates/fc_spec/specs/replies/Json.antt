-- The JSON of values and reply trees. Guide: JSON Facet API, "Bucketing Facet Example".
use Rattle.std.specs.Prelude.{ℕ, ℤ, pos, negsuc, Option, None, Some, codes}
use Rattle.serde_json.specs.Data.{Data, unsigned, negative, number as json_number, string, array, object, Items, no_items, item, Members, no_members, put}
use Rattle.serde_json.specs.Written.{compact_text}
use Rattle.fc_spec.specs.documents.Val.{Text, Val, text, long}
use Rattle.fc_spec.specs.replies.Reply.{Spot, listed, as_missing, as_before, as_between, as_after, Bucket, bucket, Facets, no_facets, number, one, many, counted, Row, no_parts, part}

-- a number that is not negative, and an integer
abbrev pub natural_data : ℕ → Data
natural_data n = json_number (unsigned n)

abbrev pub integer_data : ℤ → Data
integer_data (pos n) = natural_data n
integer_data (negsuc n) = json_number (negative (negsuc n))

-- a text or an integer
abbrev pub val_data : Val → Data
val_data (text t) = string t
val_data (long n) = integer_data n

-- the members with `val`, where there is one
abbrev pub put_val : Option Val → Members → Members
put_val None ms = ms
put_val (Some v) ms = put (codes "val") (val_data v) ms

-- the items with one before them where it is listed
abbrev pub item_at : Spot → Data → Items → Items
item_at listed d ds = item d ds
item_at _ d ds = ds

-- the members with one more where it stands beside the list
abbrev pub put_beside : Spot → Data → Members → Members
put_beside listed d ms = ms
put_beside as_missing d ms = put (codes "missing") d ms
put_beside as_before d ms = put (codes "before") d ms
put_beside as_between d ms = put (codes "between") d ms
put_beside as_after d ms = put (codes "after") d ms

abbrev mutual
  -- `val` where it has one, `count`, and each facet by its name; the names differ and are neither of these two
  pub bucket_data : Bucket → Data
  bucket_data (bucket val count facets) = object (put_facets facets (put_val val (put (codes "count") (natural_data count) no_members)))

  pub put_facets : Facets → Members → Members
  put_facets no_facets ms = ms
  put_facets (number name n more) ms = put_facets more (put name (integer_data n) ms)
  put_facets (one name b more) ms = put_facets more (put name (bucket_data b) ms)
  put_facets (many name row more) ms = put_facets more (put name (object (put_row row (put (codes "buckets") (array (listed_items row)) no_members))) ms)
  put_facets (counted name n row more) ms =
      put_facets more (put name (object (put_row row (put (codes "numBuckets") (natural_data n) (put (codes "buckets") (array (listed_items row)) no_members)))) ms)

  -- the buckets of the list, in their order
  pub listed_items : Row → Items
  listed_items no_parts = no_items
  listed_items (part spot b row) = item_at spot (bucket_data b) (listed_items row)

  -- with the buckets beside the list, at most one in each spot
  pub put_row : Row → Members → Members
  put_row no_parts ms = ms
  put_row (part spot b row) ms = put_row row (put_beside spot (bucket_data b) ms)

-- the text of the member `facets`
abbrev pub facets_text : Bucket → Text
facets_text b = compact_text (bucket_data b)
