-- The keys of a terms facet.
use Rattle.std.specs.Prelude.{Bool, false}
use Rattle.fc_spec.specs.requests.Buckets.{Key, value, missing, has_prefix}
use Rattle.fc_spec.specs.requests.Request.{Terms}

-- the key is a value that begins with the prefix
abbrev pub is_value_key : Terms → Key → Bool
is_value_key t (value v) = has_prefix t.prefix v
is_value_key t _ = false

-- the key is that of the documents without a value, where it is asked for
abbrev pub is_missing_key : Terms → Key → Bool
is_missing_key t missing = t.missing
is_missing_key t _ = false
