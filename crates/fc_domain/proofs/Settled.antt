-- A set of which nothing is left stays as it is.
use Rattle.std.proofs.Common.{◌≡◌, ℕ, suc, ◌<◌, Bool, true, false, not, Option, None, Some, MatchOption, List, [], ◌∷◌, map, length, get_or, refl, sym, ap, ap₂, ◌∙◌, arith}
use Rattle.std.specs.Prelude.{is_some}
use Rattle.std.specs.Bool.{OnTrue}
use Rattle.std.proofs.lemmas.Bool.{false≢true}
use Rattle.fc_spec.specs.documents.Document.{Document}
use Rattle.fc_spec.specs.queries.Matching.{answers}
use Rattle.fc_spec.specs.queries.Query.{Need, Clauses}
use Rattle.fc_spec.proofs.words.MappedLists.{map-same}
use Rattle.fc_docset.specs.Positions.{contains}
use Rattle.fc_docset.specs.Neighbours.{HasNoneFrom, IsNextFrom}
use Rattle.fc_domain.specs.Grouping.{all_taken}
use Rattle.fc_domain.proofs.TakenSoFar.{AreTaken}

-- where no first member is found there is none
pub none_found : (has : ℕ → Bool) (r : Option ℕ) (b : Bool) → is_some r ≡ not b → MatchOption r (HasNoneFrom has 0) (IsNextFrom has 0) → OnTrue b (HasNoneFrom has 0)
none_found has None true e h = h
none_found has None false e h = tt
none_found has (Some at) true e h = absurd (false≢true (sym e))
none_found has (Some at) false e h = tt

pub on_true : (b : Bool) (P : Type 0) → P → OnTrue b P
on_true true P h = h
on_true false P h = tt

-- where it is false at every document, what keeps it false changes nothing
none_stays : (now : Document → Bool) (f : Bool → Document → Bool) (ds : List Document) → ((d : Document) → f false d ≡ false) → ((k : ℕ) → k < length ds → get_or (map now ds) k false ≡ false) → map now ds ≡ map (λ d. f (now d) d) ds
none_stays now f [] stays none = refl
none_stays now f (d ∷ ds) stays none =
    let here : now d ≡ false = none 0 (omega arith) in
    ap₂ (λ a l. a ∷ l) (here ∙ sym (ap (λ b. f b d) here ∙ stays d)) (none_stays now f ds stays (λ k below. none (suc k) (omega arith)))

pub all_are_settled : (ds : List Document) (need : Need) (left whole : Clauses) (old new : List Bool) → AreTaken ds need left whole old new
    → ((there : List Bool) → all_taken need false there ≡ false) → HasNoneFrom (contains new) 0
    → (before : Document → Bool) → old ≡ map before ds → new ≡ map (λ d. all_taken need (before d) (answers whole need d)) ds
all_are_settled ds need left whole old new so_far stays none before is =
    let t = so_far.so_far before is in
    t.is
    ∙ none_stays t.now (λ b d. all_taken need b (answers left need d)) ds (λ d. stays (answers left need d)) (λ k below. sym (ap (λ l. get_or l k false) t.is) ∙ none k (omega arith))
    ∙ map-same (λ d. all_taken need (t.now d) (answers left need d)) (λ d. all_taken need (before d) (answers whole need d)) ds t.same
