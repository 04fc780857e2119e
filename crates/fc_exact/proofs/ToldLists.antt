-- One count more, by its facet and by its value; and facets one after another.
use Rattle.std.proofs.Common.{◌≡◌, ℕ, zero, suc, ◌+◌, ◌<◌, List, [], ◌∷◌, ◌++◌, map, length, Bool, true, false, cond, ◌||◌, not, ◌==◌, Option, None, Some, refl, sym, ◌∙◌, ap, arith, append-nil}
use Rattle.std.specs.List.{filter, range_with_len}
use Rattle.std.proofs.lemmas.Bool.{eq-eqb, ne_eqb}
use Rattle.std.proofs.lemmas.List.{map-append}
use Rattle.std.proofs.lemmas.List.Elements.{filter-append}
use Rattle.fc_spec.specs.documents.Val.{Text, Val, same_val, has_val}
use Rattle.fc_spec.specs.requests.Request.{Kind, Nodes}
use Rattle.fc_spec.specs.requests.RequestReading.{Node, of_statistic, of_facet, with_node}
use Rattle.fc_spec.specs.messages.TopRounds.{ToldCount}
use Rattle.fc_spec.specs.words.Lists.{is_empty}
use Rattle.fc_exact.specs.ToldFacets.{Count, ToldFacet, told_of_facet, with_told, counts_of, values_in, facets_in, kind_of_node}

abbrev counted : ToldCount → Count
counted a = (a.shard, a.count)

-- ---- by facet

told_more : (A : List ToldCount) (a : ToldCount) (n : ℕ) (b : Bool) → (a.node == n) ≡ b → told_of_facet (A ++ a ∷ []) n ≡ told_of_facet A n ++ cond b (a ∷ []) []
told_more A a n b e = filter-append (λ t. t.node == n) A (a ∷ []) ∙ ap (λ c. told_of_facet A n ++ cond c (a ∷ []) []) e

told_of_other : (A : List ToldCount) (a : ToldCount) (n : ℕ) → (a.node ≡ n → ⊥) → told_of_facet A n ≡ told_of_facet (A ++ a ∷ []) n
told_of_other A a n other = sym (told_more A a n false (ne_eqb a.node n other) ∙ append-nil (told_of_facet A n))

told_of_others : (A : List ToldCount) (a : ToldCount) (from n : ℕ) → a.node < from → map (told_of_facet A) (range_with_len from n) ≡ map (told_of_facet (A ++ a ∷ [])) (range_with_len from n)
told_of_others A a from zero less = refl
told_of_others A a from (suc n) less =
    let here = told_of_other A a from (λ e. omega arith) in
    let later = told_of_others A a (from + 1) n (let k : a.node < from + 1 = omega arith in k) in
    λ j. here j ∷ later j

told_from : (A : List ToldCount) (a : ToldCount) (m from n : ℕ) → a.node ≡ from + m → with_told m a (map (told_of_facet A) (range_with_len from n)) ≡ map (told_of_facet (A ++ a ∷ [])) (range_with_len from n)
told_from A a m from zero e = refl
told_from A a zero from (suc n) e =
    let here = told_more A a from true (eq-eqb a.node from (omega arith)) in
    let later = told_of_others A a (from + 1) n (let k : a.node < from + 1 = omega arith in k) in
    λ j. sym here j ∷ later j
told_from A a (suc m) from (suc n) e =
    let here = told_of_other A a from (λ k. omega arith) in
    let later = told_from A a m (from + 1) n (let k : a.node ≡ (from + 1) + m = omega arith in k) in
    λ j. here j ∷ later j

-- of so many facets
pub with_one_more : (A : List ToldCount) (a : ToldCount) (n : ℕ) → with_told a.node a (map (told_of_facet A) (range_with_len 0 n)) ≡ map (told_of_facet (A ++ a ∷ [])) (range_with_len 0 n)
with_one_more A a n = told_from A a a.node 0 n (let k : a.node ≡ 0 + a.node = omega arith in k)

-- ---- by value

counted_more : (v : Val) (A : List ToldCount) (a : ToldCount) (b : Bool) → same_val v a.val ≡ b → counts_of v (A ++ a ∷ []) ≡ counts_of v A ++ cond (b || false) ((a.shard, a.count) ∷ []) []
counted_more v A a true e =
    ap (map counted) (filter-append (λ t. same_val v t.val) A (a ∷ []) ∙ ap (λ c. filter (λ t. same_val v t.val) A ++ cond c (a ∷ []) []) e)
    ∙ map-append counted (filter (λ t. same_val v t.val) A) (a ∷ [])
counted_more v A a false e =
    ap (map counted) (filter-append (λ t. same_val v t.val) A (a ∷ []) ∙ ap (λ c. filter (λ t. same_val v t.val) A ++ cond c (a ∷ []) []) e)
    ∙ map-append counted (filter (λ t. same_val v t.val) A) []

pub counts_more : (v : Val) (A : List ToldCount) (a : ToldCount) → counts_of v (A ++ a ∷ []) ≡ counts_of v A ++ cond (has_val v (a.val ∷ [])) ((a.shard, a.count) ∷ []) []
counts_more v A a = counted_more v A a (same_val v a.val) refl

-- something is told of exactly the values that are told
told_any : (v : Val) (a : ToldCount) (A : List ToldCount) (b : Bool) → not (is_empty (counts_of v A)) ≡ has_val v (map (λ t. t.val) A)
    → not (is_empty (map counted (cond b (a ∷ filter (λ t. same_val v t.val) A) (filter (λ t. same_val v t.val) A)))) ≡ (b || has_val v (map (λ (t : ToldCount). t.val) A))
told_any v a A true h = ap not (ne_eqb (suc (length (map counted (filter (λ t. same_val v t.val) A)))) 0 (λ e. omega arith))
told_any v a A false h = h

pub is_told : (v : Val) (A : List ToldCount) → not (is_empty (counts_of v A)) ≡ has_val v (map (λ a. a.val) A)
is_told v [] = refl
is_told v (a ∷ A) = told_any v a A (same_val v a.val) (is_told v A)

-- ---- facets one after another

-- what a node adds
abbrev pub with_kind : List ToldCount → ℕ → Option Kind → Nodes → List ToldFacet
with_kind A n None rest = facets_in A rest n
with_kind A n (Some k) rest = (k, values_in (told_of_facet A n)) ∷ facets_in A rest (suc n)

pub facets_in-with_node : (A : List ToldCount) (name : Text) (node : Node) (rest : Nodes) (n : ℕ) → facets_in A (with_node name node rest) n ≡ with_kind A n (kind_of_node node) rest
facets_in-with_node A name (of_statistic s) rest n = refl
facets_in-with_node A name (of_facet change kind inner) rest n = refl
