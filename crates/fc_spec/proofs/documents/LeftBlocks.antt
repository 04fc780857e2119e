-- What operations leave: the earlier blocks that none of them names, and the blocks added that none behind names.
use Rattle.std.proofs.Common.{◌≡◌, ℕ, ◌+◌, ◌≤◌, List, [], ◌∷◌, ◌++◌, Bool, true, false, not, ◌&&◌, ◌||◌, cond, refl, sym, ◌∙◌, ap, arith, append_assoc}
use Rattle.std.specs.Prelude.{sum_by}
use Rattle.std.specs.List.{filter}
use Rattle.std.proofs.lemmas.List.Elements.{filter-append}
use Rattle.std.proofs.lemmas.List.Sums.{sum_by-cons, sum_by-append}
use Rattle.fc_spec.specs.documents.Val.{Text}
use Rattle.fc_spec.specs.documents.Document.{Block, Op, adding, deleting}
use Rattle.fc_spec.specs.documents.Operations.{id_of, has_id, without_blocks_of, after_op, after_ops, blocks_added, is_named, left_of}

-- ---- what is left measures no more than what was there and what is added

-- what an operation adds
abbrev pub op_measure : (Block → ℕ) → Op → ℕ
op_measure f (adding b) = f b
op_measure f (deleting x) = 0

filter_sum : {X : Type 0} (f : X → ℕ) (test : X → Bool) (xs : List X) → sum_by f (filter test xs) ≤ sum_by f xs
filter_sum f test [] = omega arith
filter_sum f test (x ∷ xs) = go (test x) refl (filter_sum f test xs)
  where
    go : (b : Bool) → test x ≡ b → sum_by f (filter test xs) ≤ sum_by f xs → sum_by f (cond b (x ∷ filter test xs) (filter test xs)) ≤ sum_by f (x ∷ xs)
    go true e rest = omega (arith, sum_by-cons f x (filter test xs), sum_by-cons f x xs)
    go false e rest = omega (arith, sum_by-cons f x xs)

op_sum : (f : Block → ℕ) (blocks : List Block) (op : Op) → sum_by f (after_op blocks op) ≤ sum_by f blocks + op_measure f op
op_sum f blocks (adding b) =
    let rest = filter_sum f (λ c. not (has_id (id_of b) c)) blocks in
    omega (arith, sum_by-append f (without_blocks_of (id_of b) blocks) (b ∷ []), sum_by-cons f b [], rest)
op_sum f blocks (deleting x) = let rest = filter_sum f (λ c. not (has_id x c)) blocks in omega arith

pub after_sum : (f : Block → ℕ) (blocks : List Block) (ops : List Op) → sum_by f (after_ops blocks ops) ≤ sum_by f blocks + sum_by (op_measure f) ops
after_sum f blocks [] = omega arith
after_sum f blocks (op ∷ ops) = omega (arith, after_sum f (after_op blocks op) ops, op_sum f blocks op, sum_by-cons (op_measure f) op ops)

-- what operations add, as the blocks that they add
pub added_sum : (f : Block → ℕ) (ops : List Op) → sum_by (op_measure f) ops ≡ sum_by f (blocks_added ops)
added_sum f [] = refl
added_sum f (adding b ∷ ops) = omega (arith, added_sum f ops, sum_by-cons (op_measure f) (adding b) ops, sum_by-cons f b (blocks_added ops))
added_sum f (deleting x ∷ ops) = omega (arith, added_sum f ops, sum_by-cons (op_measure f) (deleting x) ops)

-- ---- the order of operations plays no part for the blocks before them

filter_twice : {X : Type 0} (first second : X → Bool) (xs : List X) → filter second (filter first xs) ≡ filter (λ x. first x && second x) xs
filter_twice first second [] = refl
filter_twice first second (x ∷ xs) = go (first x) (filter_twice first second xs)
  where
    go : (b : Bool) → filter second (filter first xs) ≡ filter (λ y. first y && second y) xs
        → filter second (cond b (x ∷ filter first xs) (filter first xs)) ≡ cond (b && second x) (x ∷ filter (λ y. first y && second y) xs) (filter (λ y. first y && second y) xs)
    go true rest = ap (λ ys. cond (second x) (x ∷ ys) ys) rest
    go false rest = rest

neither : (a b : Bool) → (not a && not b) ≡ not (a || b)
neither true b = refl
neither false b = refl

-- without the blocks of one id, and then without those of others
filter_named : (x : Text) (ops : List Op) (blocks : List Block) → filter (λ b. not (is_named ops b)) (without_blocks_of x blocks) ≡ filter (λ b. not (has_id x b || is_named ops b)) blocks
filter_named x ops blocks =
    filter_twice (λ b. not (has_id x b)) (λ b. not (is_named ops b)) blocks
    ∙ (λ i. filter (λ b. neither (has_id x b) (is_named ops b) i) blocks)

pub after_is : (blocks : List Block) (ops : List Op) → after_ops blocks ops ≡ filter (λ b. not (is_named ops b)) blocks ++ left_of ops
after_is blocks [] = sym (all_stay blocks)
  where
    all_stay : (bs : List Block) → filter (λ b. true) bs ++ [] ≡ bs
    all_stay [] = refl
    all_stay (b ∷ bs) = ap (λ rest. b ∷ rest) (all_stay bs)
after_is blocks (deleting x ∷ ops) = after_is (without_blocks_of x blocks) ops ∙ ap (λ bs. bs ++ left_of ops) (filter_named x ops blocks)
after_is blocks (adding b ∷ ops) =
    after_is (without_blocks_of (id_of b) blocks ++ b ∷ []) ops
    ∙ ap (λ bs. bs ++ left_of ops) (filter-append (λ c. not (is_named ops c)) (without_blocks_of (id_of b) blocks) (b ∷ []))
    ∙ append_assoc (filter (λ c. not (is_named ops c)) (without_blocks_of (id_of b) blocks)) (filter (λ c. not (is_named ops c)) (b ∷ [])) (left_of ops)
    ∙ (λ i. filter_named (id_of b) ops blocks i ++ last (is_named ops b) i)
  where
    last : (named : Bool) → cond (not named) (b ∷ []) [] ++ left_of ops ≡ cond named (left_of ops) (b ∷ left_of ops)
    last true = refl
    last false = refl
