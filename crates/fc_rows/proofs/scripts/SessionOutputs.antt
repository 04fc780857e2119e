-- Whole outputs of two sessions that search while a commit may be under way, and of a faulty request.
use Rattle.std.specs.Prelude.{◌≡◌, [], ◌∷◌, ◌++◌, true, None, Result, Err, refl, codes}
use Prim.Native.String.{String}
use Rattle.fc_spec.specs.documents.Val.{Text}
use Rattle.fc_spec.specs.requests.Request.{Request}
use Rattle.fc_spec.specs.requests.RequestFault.{wrong_field_type, RequestFault}
use Rattle.fc_spec.specs.scripts.Script.{add, commit, sync, asks, Script}
use Rattle.fc_spec.specs.scripts.Outputs.{legal, IsOutput}
use Rattle.fc_rows.proofs.Words.{written, labelled}
use Rattle.fc_rows.proofs.scripts.WholeOutputs.{script_of, counting}

abbrev pub searching : Script (Result Request RequestFault)
searching = script_of
    (add 0 (labelled "1" "a") ∷ commit None ∷ asks (codes "a") counting ∷ asks (codes "a") counting ∷ asks (codes "b") counting ∷ sync ∷ asks (codes "a") counting ∷ [])

-- a line before the commit, and a line after it
abbrev pub early : String → Text
early session = codes "{\"facets\":{\"count\":0},\"generations\":[0],\"session\":\"" ++ (codes session ++ codes "\"}\n")

abbrev pub late : String → Text
late session = codes "{\"facets\":{\"count\":1},\"generations\":[1],\"session\":\"" ++ (codes session ++ codes "\"}\n")

-- session a sees the commit come
pub commit_between : IsOutput searching (early "a" ++ (late "a" ++ (early "b" ++ late "a")))
unfolding written
commit_between =
    (0 ∷ [], late "a" ++ (early "b" ++ late "a"), refl, refl, (1 ∷ [], early "b" ++ late "a", refl, refl, (0 ∷ [], late "a", refl, refl, (1 ∷ [], [], refl, refl, refl))))

-- the commit is there from the start
pub commit_first : IsOutput searching (late "a" ++ (late "a" ++ (late "b" ++ late "a")))
unfolding written
commit_first =
    (1 ∷ [], late "a" ++ (late "b" ++ late "a"), refl, refl, (1 ∷ [], late "b" ++ late "a", refl, refl, (1 ∷ [], late "a", refl, refl, (1 ∷ [], [], refl, refl, refl))))

-- no search of the first phase sees it
pub commit_last : IsOutput searching (early "a" ++ (early "a" ++ (early "b" ++ late "a")))
unfolding written
commit_last =
    (0 ∷ [], early "a" ++ (early "b" ++ late "a"), refl, refl, (0 ∷ [], early "b" ++ late "a", refl, refl, (0 ∷ [], late "a", refl, refl, (1 ∷ [], [], refl, refl, refl))))

-- in each output the second line of session a has seen its first, session b's line has seen none, and the last line both of session a
pub second_has_seen : (t : Text) (o : IsOutput searching t) → legal searching (o.0 ∷ []) 0 o.4.0 ≡ true
second_has_seen t o = o.4.2

pub other_has_seen_none : (t : Text) (o : IsOutput searching t) → legal searching [] 0 o.4.4.0 ≡ true
other_has_seen_none t o = o.4.4.2

pub last_has_seen_both : (t : Text) (o : IsOutput searching t) → legal searching (o.0 ∷ o.4.0 ∷ []) 1 o.4.4.4.0 ≡ true
last_has_seen_both t o = o.4.4.4.2

-- and nothing follows the last line
pub nothing_behind : (t : Text) (o : IsOutput searching t) → o.4.4.4.1 ≡ []
nothing_behind t o = o.4.4.4.4

-- a faulty request gives its line, pins nothing, and the run goes on
abbrev pub faulty : Script (Result Request RequestFault)
faulty = script_of
    (add 0 (labelled "1" "a") ∷ commit None ∷ asks (codes "a") (Err (record { at = codes "x" ∷ []; fault = wrong_field_type })) ∷ asks (codes "a") counting ∷ [])

abbrev pub error_text : Text
error_text = codes "{\"error\":\"wrong-field-type\",\"facet\":[\"x\"],\"number\":13,\"session\":\"a\"}\n"

pub fault_then_early : IsOutput faulty (error_text ++ early "a")
unfolding written
fault_then_early = (early "a", refl, (0 ∷ [], [], refl, refl, refl))
