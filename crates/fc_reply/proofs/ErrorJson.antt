-- The JSON of an error line.
use Rattle.std.specs.Prelude.{◌≡◌, List, [], ◌∷◌, map, false, codes}
use Rattle.std.proofs.Common.{refl, ap}
use Rattle.std.proofs.lemmas.Bool.{or_from}
use Rattle.serde_json.specs.Data.{string, array, object, item, no_members, put}
use Rattle.serde_json.specs.View.{items_of}
use Rattle.serde_json.specs.Written.{has_float, items_have_float}
use Rattle.fc_spec.specs.documents.Val.{Text}
use Rattle.fc_spec.specs.replies.Json.{natural_data}
use Rattle.fc_spec.specs.requests.RequestFault.{QFault, fault_name, fault_number}
use Rattle.fc_spec.specs.scripts.Lines.{texts_data}

-- texts, one after another
pub texts_data-is : (ts : List Text) → texts_data ts ≡ items_of (map string ts)
texts_data-is [] = refl
texts_data-is (t ∷ ts) = ap (item (string t)) (texts_data-is ts)

items_have_float-texts : (ts : List Text) → items_have_float (texts_data ts) ≡ false
items_have_float-texts [] = refl
items_have_float-texts (t ∷ ts) = items_have_float-texts ts

-- it has no float
pub has_float-error_data : (fault : QFault) (names : List Text) (session : Text)
    → has_float (object (put (codes "error") (string (fault_name fault)) (put (codes "facet") (array (texts_data names)) (put (codes "number") (natural_data (fault_number fault)) (put (codes "session") (string session) no_members))))) ≡ false
has_float-error_data fault names session = or_from (items_have_float (texts_data names)) false (items_have_float-texts names) refl
