-- The sets of a group's clauses, taken one after another.
use Rattle.std.proofs.Common.{◌≡◌, ℕ, Bool, List, map, length, replicate, Result, Ok, Err, ap, ◌∙◌}
use Rattle.std.proofs.lemmas.Simd.{splat_is_map}
use Rattle.std.specs.Result.{OnOk}
use Rattle.fc_spec.specs.documents.Document.{Document}
use Rattle.fc_spec.specs.queries.Matching.{matches, answers, same_need}
use Rattle.fc_spec.specs.queries.Query.{Need, must, must_not, Clauses, group}
use Rattle.fc_domain.specs.Grouping.{all_taken, first_need}
use Rattle.fc_domain.proofs.GroupAnswers.{group_in_order}
use Rattle.fc_spec.proofs.words.MappedLists.{map-same}

pub on_ok : {A E : Type 0} (r : Result A E) (P Q : Type 0) → (P → Q) → OnOk r P → OnOk r Q
on_ok (Ok a) P Q f h = f h
on_ok (Err e) P Q f h = h

pub group_set : (ds : List Document) (cs begins takes forbids : Clauses) (n : Need) (size : ℕ) (begun first second : List Bool)
    → begins ≡ cs → takes ≡ cs → forbids ≡ cs → n ≡ first_need begins → length ds ≡ size → begun ≡ replicate size (same_need (first_need begins) must)
    → ((before : Document → Bool) → begun ≡ map before ds → first ≡ map (λ d. all_taken n (before d) (answers takes n d)) ds)
    → ((before : Document → Bool) → first ≡ map before ds → second ≡ map (λ d. all_taken must_not (before d) (answers forbids must_not d)) ds)
    → second ≡ map (matches (group cs)) ds
group_set ds cs begins takes forbids n size begun first second b t f need long begun_is first_is second_is =
    let start = same_need (first_need begins) must in
    let least = first_need cs in
    let begun_at : begun ≡ map (λ d. start) ds = begun_is ∙ splat_is_map ds size start long in
    let p : Document → Bool = λ d. all_taken n start (answers takes n d) in
    let q : Document → Bool = λ d. all_taken must_not (p d) (answers forbids must_not d) in
    second_is p (first_is (λ d. start) begun_at)
    ∙ map-same q (matches (group cs)) ds (λ d.
    ap (λ m. all_taken must_not (all_taken m start (answers takes m d)) (answers forbids must_not d)) (need ∙ ap first_need b)
    ∙ ap (λ x. all_taken must_not (all_taken least (same_need (first_need x) must) (answers takes least d)) (answers forbids must_not d)) b
    ∙ ap (λ x. all_taken must_not (all_taken least (same_need least must) (answers x least d)) (answers forbids must_not d)) t
    ∙ ap (λ x. all_taken must_not (all_taken least (same_need least must) (answers cs least d)) (answers x must_not d)) f
    ∙ group_in_order cs d)
