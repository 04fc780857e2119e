-- What a sort names, in a text and in an object.
use Rattle.std.proofs.Common.{◌≡◌, Some, Ok, refl}
use Rattle.serde_json.specs.Data.{Data, null, boolean, number, string, array, object}
use Rattle.serde_json.specs.Find.{as_str}
use Rattle.fc_spec.specs.documents.Val.{Text}
use Rattle.fc_spec.specs.requests.SortReading.{is_white, split_sort, named_sort}
use Rattle.fc_spec.specs.requests.StatisticReading.{stripped}

pub named_sort-string : (d : Data) (t : Text) → Some t ≡ as_str d → named_sort d ≡ Ok (split_sort (stripped is_white t))
named_sort-string (string u) t is = let same : u ≡ t = cc in rw same refl
named_sort-string null t is = cc
named_sort-string (boolean b) t is = cc
named_sort-string (number n) t is = cc
named_sort-string (array ds) t is = cc
named_sort-string (object ms) t is = cc
