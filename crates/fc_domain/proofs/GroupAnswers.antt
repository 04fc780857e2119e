-- What clauses taken one after another answer.
use Rattle.std.proofs.Common.{◌≡◌, Bool, true, false, ne_eqb, arith, not, ◌&&◌, ◌||◌, cond, List, [], ◌∷◌, length, refl, sym, ap, ap₂, ◌∙◌}
use Rattle.std.proofs.Math.Bool.{and_assoc, or_assoc, and-true, or-false, and_comm}
use Rattle.std.proofs.lemmas.Bool.{false≢true}
use Rattle.std.specs.List.{list_any, list_all}
use Rattle.fc_spec.specs.documents.Document.{Document}
use Rattle.fc_spec.specs.words.Lists.{is_empty}
use Rattle.fc_spec.specs.queries.Matching.{matches, answers, same_need, group_matches}
use Rattle.fc_spec.specs.queries.Query.{Need, must, must_not, may, Clauses, no_clauses, clause}
use Rattle.fc_domain.specs.Grouping.{all_taken, has_need, first_need}

and_none : (a b c : Bool) → ((a && not b) && not c) ≡ (a && not (b || c))
and_none true true c = refl
and_none true false c = refl
and_none false b c = refl

required : (here : Bool) (bs : List Bool) → all_taken must here bs ≡ (here && list_all (λ b. b) bs)
required here [] = sym (and-true here)
required here (b ∷ bs) = required (here && b) bs ∙ and_assoc here b (list_all (λ b. b) bs)

optional : (here : Bool) (bs : List Bool) → all_taken may here bs ≡ (here || list_any (λ b. b) bs)
optional here [] = sym (or-false here)
optional here (b ∷ bs) = optional (here || b) bs ∙ or_assoc here b (list_any (λ b. b) bs)

forbidden : (here : Bool) (bs : List Bool) → all_taken must_not here bs ≡ (here && not (list_any (λ b. b) bs))
forbidden here [] = sym (and-true here)
forbidden here (b ∷ bs) = forbidden (here && not b) bs ∙ and_none here b (list_any (λ b. b) bs)

-- of nothing required and forbidden answers leave nothing
pub required_of_none : (bs : List Bool) → all_taken must false bs ≡ false
required_of_none bs = required false bs

pub forbidden_of_none : (bs : List Bool) → all_taken must_not false bs ≡ false
forbidden_of_none bs = forbidden false bs

pub some_member : {X : Type 0} (x : X) (xs : List X) → is_empty (x ∷ xs) ≡ false
some_member x xs = ne_eqb (length (x ∷ xs)) 0 (λ h. omega arith)

-- a clause has the need where there is an answer for it
some_answer : (cs : Clauses) (need : Need) (d : Document) → has_need need cs ≡ not (is_empty (answers cs need d))
some_answer no_clauses need d = refl
some_answer (clause n q cs) need d = go (same_need n need) (some_answer cs need d)
  where
    go : (b : Bool) → has_need need cs ≡ not (is_empty (answers cs need d))
        → (b || has_need need cs) ≡ not (is_empty (cond b (matches q d ∷ answers cs need d) (answers cs need d)))
    go true h = sym (ap not (some_member (matches q d) (answers cs need d)))
    go false h = h

all_of_none : (bs : List Bool) → is_empty bs ≡ true → list_all (λ b. b) bs ≡ true
all_of_none [] h = refl
all_of_none (b ∷ bs) h = absurd (false≢true (sym (some_member b bs) ∙ h))

-- required answers, where the optional ones don't count
must_first : (rs fs os bs : List Bool) → bs ≡ rs → (not (is_empty rs) || is_empty os || list_any (λ b. b) os) ≡ true
    → all_taken must_not (all_taken must true bs) fs ≡ group_matches rs fs os
must_first rs fs os bs is free =
    forbidden (all_taken must true bs) fs
    ∙ ap (λ here. here && not (list_any (λ b. b) fs)) (required true bs ∙ ap (list_all (λ b. b)) is)
    ∙ sym (and-true (list_all (λ b. b) rs && not (list_any (λ b. b) fs)))
    ∙ ap (λ free. list_all (λ b. b) rs && not (list_any (λ b. b) fs) && free) (sym free)

-- optional answers, where none is required
may_first : (rs fs os bs : List Bool) → bs ≡ os → is_empty rs ≡ true → is_empty os ≡ false → all_taken must_not (all_taken may false bs) fs ≡ group_matches rs fs os
may_first rs fs os bs is no_rs some_os =
    let any = list_any (λ b. b) in
    forbidden (all_taken may false bs) fs
    ∙ ap (λ here. here && not (any fs)) (optional false bs ∙ ap any is)
    ∙ and_comm (any os) (not (any fs))
    ∙ sym (ap₂ (λ all free. all && not (any fs) && free) (all_of_none rs no_rs) (ap₂ (λ a b. not a || b || any os) no_rs some_os))

-- the need that comes first, by whether there are required and optional answers
first_by : (no_required no_optional : Bool) → Need
first_by no_required no_optional = cond (not no_optional && not (not no_required)) may must

in_order : (rs fs os : List Bool) (no_rs no_os : Bool) → is_empty rs ≡ no_rs → is_empty os ≡ no_os → (bs : List Bool)
    → bs ≡ cond (not no_os && not (not no_rs)) os rs
    → all_taken must_not (all_taken (first_by no_rs no_os) (same_need (first_by no_rs no_os) must) bs) fs ≡ group_matches rs fs os
unfolding first_by
in_order rs fs os true true e f bs is = must_first rs fs os bs is (ap₂ (λ a b. not a || b || list_any (λ b. b) os) e f)
in_order rs fs os true false e f bs is = may_first rs fs os bs is e f
in_order rs fs os false true e f bs is = must_first rs fs os bs is (ap₂ (λ a b. not a || b || list_any (λ b. b) os) e f)
in_order rs fs os false false e f bs is = must_first rs fs os bs is (ap₂ (λ a b. not a || b || list_any (λ b. b) os) e f)

answers_by : (cs : Clauses) (d : Document) (b : Bool) → answers cs (cond b may must) d ≡ cond b (answers cs may d) (answers cs must d)
answers_by cs d true = refl
answers_by cs d false = refl

-- the first clauses and then the forbidden ones are taken
pub group_in_order : (cs : Clauses) (d : Document)
    → all_taken must_not (all_taken (first_need cs) (same_need (first_need cs) must) (answers cs (first_need cs) d)) (answers cs must_not d)
    ≡ group_matches (answers cs must d) (answers cs must_not d) (answers cs may d)
unfolding first_by
group_in_order cs d =
    let rs = answers cs must d in
    let os = answers cs may d in
    let fs = answers cs must_not d in
    let first : first_need cs ≡ first_by (is_empty rs) (is_empty os) =
    ap₂ (λ some_os some_rs. cond (some_os && not some_rs) may must) (some_answer cs may d) (some_answer cs must d) in
    ap (λ n. all_taken must_not (all_taken n (same_need n must) (answers cs n d)) fs) first
    ∙ in_order rs fs os (is_empty rs) (is_empty os) refl refl (answers cs (first_by (is_empty rs) (is_empty os)) d)
    (answers_by cs d (not (is_empty os) && not (not (is_empty rs))))
