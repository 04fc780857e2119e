-- Words that a parameter names.
use Rattle.std.proofs.Common.{◌≡◌, List, true, false, Ok, Err, refl}
use Rattle.std.specs.List.{list_all, list_any}
use Rattle.serde_json.specs.Data.{Data}
use Rattle.fc_spec.specs.documents.Val.{Text, same_text}
use Rattle.fc_spec.specs.requests.RequestFault.{bad_parameter}
use Rattle.fc_spec.specs.requests.DomainReading.{texts_in}
use Rattle.fc_spec.specs.requests.FacetReading.{words_in}

pub words_good : (words : List Text) (d : Data) (ts : List Text) → texts_in d ≡ Ok ts → list_all (λ t. list_any (same_text t) words) ts ≡ true → words_in words d ≡ Ok ts
words_good words d ts is good = rw (is, good) refl

pub words_bad : (words : List Text) (d : Data) (ts : List Text) → texts_in d ≡ Ok ts → list_all (λ t. list_any (same_text t) words) ts ≡ false → words_in words d ≡ Err bad_parameter
words_bad words d ts is bad = rw (is, bad) refl
