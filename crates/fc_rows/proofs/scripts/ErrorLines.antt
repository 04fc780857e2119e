-- The lines of requests with a fault.
use Rattle.std.specs.Prelude.{◌≡◌, [], ◌∷◌, refl, codes}
use Rattle.fc_spec.specs.requests.RequestFault.{mixed_operators, unknown_field, unknown_sort, wrong_field_type, reserved_name, too_large}
use Rattle.fc_spec.specs.scripts.Lines.{error_line}
use Rattle.fc_rows.proofs.Words.{written}

-- a sum over a field of texts
pub sum_of_texts : error_line (record { at = codes "x" ∷ []; fault = wrong_field_type }) (codes "a") ≡ codes "{\"error\":\"wrong-field-type\",\"facet\":[\"x\"],\"number\":13,\"session\":\"a\"}\n"
unfolding written
sum_of_texts = refl

pub sorted_by_nothing : error_line (record { at = codes "x" ∷ []; fault = unknown_sort }) (codes "a") ≡ codes "{\"error\":\"unknown-sort\",\"facet\":[\"x\"],\"number\":11,\"session\":\"a\"}\n"
unfolding written
sorted_by_nothing = refl

-- nine facets, one in the other
pub nested_too_deep : error_line (record { at = codes "a" ∷ codes "a" ∷ codes "a" ∷ codes "a" ∷ codes "a" ∷ codes "a" ∷ codes "a" ∷ codes "a" ∷ codes "a" ∷ []; fault = too_large }) (codes "a")
    ≡ codes "{\"error\":\"too-large\",\"facet\":[\"a\",\"a\",\"a\",\"a\",\"a\",\"a\",\"a\",\"a\",\"a\"],\"number\":16,\"session\":\"a\"}\n"
unfolding written
nested_too_deep = refl

pub named_count : error_line (record { at = codes "count" ∷ []; fault = reserved_name }) (codes "a") ≡ codes "{\"error\":\"reserved-name\",\"facet\":[\"count\"],\"number\":14,\"session\":\"a\"}\n"
unfolding written
named_count = refl

-- a fault outside facets
pub both_operators : error_line (record { at = []; fault = mixed_operators }) (codes "a") ≡ codes "{\"error\":\"mixed-operators\",\"facet\":[],\"number\":4,\"session\":\"a\"}\n"
unfolding written
both_operators = refl

pub no_such_field : error_line (record { at = codes "brands" ∷ []; fault = unknown_field }) (codes "a") ≡ codes "{\"error\":\"unknown-field\",\"facet\":[\"brands\"],\"number\":5,\"session\":\"a\"}\n"
unfolding written
no_such_field = refl
