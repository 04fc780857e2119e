-- The values of one field, document by document.
use Rattle.std.specs.Prelude.{◌≡◌, ℕ, ℤ, List, AllPairs, map, Bool, true, false, Option, None, Some}
use Rattle.std.specs.List.{filter_map}
use Rattle.std.specs.declared.cmp.Ordering.{Ordering}
use Rattle.std.specs.declared.cmp.Ordering.TheVariants.{Less}
use Rattle.fc_spec.specs.documents.Val.{Text, Val, text, long}
use Rattle.fc_spec.specs.documents.Document.{Document, values_of}

-- the kind of a value
abbrev pub is_text : Val → Bool
is_text (text t) = true
is_text (long z) = false

abbrev pub IsText : Val → Type 0
IsText v = is_text v ≡ true

abbrev pub IsLong : Val → Type 0
IsLong v = is_text v ≡ false

-- the text or the integer that a value is
abbrev pub as_text : Val → Option Text
as_text (text t) = Some t
as_text (long z) = None

abbrev pub as_long : Val → Option ℤ
as_long (text t) = None
as_long (long z) = Some z

-- the texts among values
abbrev pub texts_in : List Val → List Text
texts_in vs = filter_map as_text vs

-- the integers among values
abbrev pub longs_in : List Val → List ℤ
longs_in vs = filter_map as_long vs

-- each stands before every later one, so they are different
abbrev pub IsAscending : {X : Type 0} → (X → X → Ordering) → List X → Type 0
IsAscending cmp xs = AllPairs (λ low high. cmp low high ≡ Less) xs

-- the values of a field, document by document
abbrev pub column_of : ℕ → List Document → List (List Val)
column_of field ds = map (λ d. values_of d field) ds
