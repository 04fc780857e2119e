-- What lacks and the merged reply are made of what is held, and that does not depend on the order of messages.
use Rattle.std.proofs.Common.{◌≡◌, ℕ, zero, suc, ◌+◌, ◌≤◌, List, [], ◌∷◌, ◌++◌, Bool, true, false, cond, ◌==◌, Option, None, Some, is_some, is_none, refl, sym, ◌∙◌, ap, subst, arith}
use Rattle.std.specs.Prelude.{count_by, IsPermutation}
use Rattle.std.specs.List.{filter}
use Rattle.fc_spec.specs.words.Lists.{is_empty, numbers_below}
use Rattle.fc_spec.specs.requests.Request.{Stat, Nodes, Request}
use Rattle.fc_spec.specs.requests.Statistics.{combined_value}
use Rattle.fc_spec.specs.replies.Distributed.{reply_over}
use Rattle.fc_spec.specs.messages.Message.{Partials, no_partials, partial, Way, Want, way_of, Ask, first, more}
use Rattle.fc_spec.specs.messages.Target.{target_of, target_nodes}
use Rattle.fc_spec.specs.messages.Held.{HeldBucket, Told, held_in, held, or_else, told_wants, told_by}
use Rattle.fc_spec.specs.messages.Merged.{held_count, held_value, count_held, value_held, values_held, over_held}
use Rattle.fc_spec.specs.messages.Lacks.{wanted, lacks}
use Rattle.fc_spec.specs.messages.Rounds.{SentMessage, told_in, next_lacks}
use Rattle.fc_spec.specs.laws.LacksLaws.{HoldSame, HeldIsEnough, HeldJoins, holds, OrderIsFree, RoundsOrderIsFree}
use Rattle.fc_spec.proofs.words.Counting.{count_by-cons}
use Rattle.fc_spec.proofs.words.Permuted.{holds_of_permutations}

module _ (A B : List Told) (same : HoldSame A B) where
  count_same : (H : List ℕ) (way : Way) → count_held A H way ≡ count_held B H way
  count_same [] way = refl
  count_same (i ∷ H) way = λ j. held_count (same i way j) + count_same H way j

  value_same : (m : ℕ) (s : Stat) (H : List ℕ) (way : Way) → value_held A m s H way ≡ value_held B m s H way
  value_same m s [] way = refl
  value_same m s (i ∷ H) way = λ j. combined_value s.of (held_value m s (same i way j)) (value_same m s H way j)

  -- the two readings are one
  reading_same : over_held A ≡ over_held B
  reading_same = λ j. record {
    domain_on = λ n f H way. record { way = way; node = n };
    bucket_at = λ kind Y key. Y.way ++ record { node = Y.node; key = key } ∷ [];
    count_on = λ H way. count_same H way j;
    statistic_on = λ m s H way. value_same m s H way j;
    offered_by = λ t inner Y i. values_held Y.node (same i Y.way j);
  }

  lacks_same : (r : Request) (n e : ℕ) → lacks r n A e ≡ lacks r n B e
  lacks_same r n e = λ j. filter (λ l. is_none (same l.shard (way_of l.want) j)) (wanted (reading_same j) e r.nodes 0 (numbers_below n) [] [])

  next_same : (r : Request) (n depths e : ℕ) → next_lacks r n A depths e ≡ next_lacks r n B depths e
  next_same r n zero e = refl
  next_same r n (suc d) e = λ j. cond (is_empty (lacks_same r n e j)) (next_same r n d (suc e) j) (lacks_same r n e j)

pub held_is_enough : HeldIsEnough
held_is_enough A B same = record {
  lacks = lacks_same A B same;
  next = next_same A B same;
  merged = λ r n. ap (λ R. reply_over R r.nodes (numbers_below n) []) (reading_same A B same);
}

or_else_assoc : (a b c : Option HeldBucket) → or_else (or_else a b) c ≡ or_else a (or_else b c)
or_else_assoc None b c = refl
or_else_assoc (Some x) b c = refl

pub held_joins : HeldJoins
held_joins [] B i way = refl
held_joins (t ∷ ts) B i way = ap (or_else own) (held_joins ts B i way) ∙ sym (or_else_assoc own (held ts i way) (held B i way))
  where
    own : Option HeldBucket
    own = cond (t.shard == i) (held_in t way) None

-- ---- the order of messages

-- of two of which at most one is there, the order plays no part
either_first : (a b rest : Option HeldBucket) → cond (is_some a) 1 0 + cond (is_some b) 1 0 ≤ 1 → or_else a (or_else b rest) ≡ or_else b (or_else a rest)
either_first None b rest h = refl
either_first (Some x) None rest h = refl
either_first (Some x) (Some y) rest h = absurd (omega arith)

module _ (nodes : Nodes) (i : ℕ) (way : Way) where
  -- what a message holds there, and what messages hold
  abbrev own : SentMessage → Option HeldBucket
  own s = held (told_by nodes s.shard s.ask s.message) i way

  abbrev all : List SentMessage → Option HeldBucket
  all ss = held (told_in nodes ss) i way

  abbrev count : List SentMessage → ℕ
  count ss = count_by (holds nodes i way) ss

  -- as many hold it, and where at most one does the same is held
  abbrev Alike : List SentMessage → List SentMessage → Type 0
  Alike xs ys = (count ys ≡ count xs) × (count xs ≤ 1 → all xs ≡ all ys)

  all_more : (x : SentMessage) (xs : List SentMessage) → all (x ∷ xs) ≡ or_else (own x) (all xs)
  all_more x xs = held_joins (told_by nodes x.shard x.ask x.message) (told_in nodes xs) i way

  count_more : (x : SentMessage) (xs : List SentMessage) → count (x ∷ xs) ≡ cond (is_some (own x)) 1 0 + count xs
  count_more x xs = count_by-cons (holds nodes i way) x xs

  alike_more : (x : SentMessage) (xs ys : List SentMessage) → Alike xs ys → Alike (x ∷ xs) (x ∷ ys)
  alike_more x xs ys a = (
    count_more x ys ∙ ap (λ n. cond (is_some (own x)) 1 0 + n) a.0 ∙ sym (count_more x xs),
    λ h. all_more x xs ∙ ap (or_else (own x)) (a.1 (let e = count_more x xs in omega arith)) ∙ sym (all_more x ys),
  )

  alike_two : (x y : SentMessage) (xs : List SentMessage) → Alike (x ∷ y ∷ xs) (y ∷ x ∷ xs)
  alike_two x y xs =
      let a = count_more x (y ∷ xs) in
      let b = count_more y xs in
      let c = count_more y (x ∷ xs) in
      let d = count_more x xs in (
        omega arith,
        λ h. all_more x (y ∷ xs) ∙ ap (or_else (own x)) (all_more y xs) ∙ either_first (own x) (own y) (all xs) (omega arith) ∙ sym (all_more y (x ∷ xs) ∙ ap (or_else (own y)) (all_more x xs)),
      )

  alike_through : (xs ys zs : List SentMessage) → Alike xs ys → Alike ys zs → Alike xs zs
  alike_through xs ys zs a b = (b.0 ∙ a.0, λ h. a.1 h ∙ b.1 (let e = a.0 in omega arith))

  alike : (xs ys : List SentMessage) → IsPermutation xs ys → Alike xs ys
  alike = holds_of_permutations Alike (λ xs. (refl, λ h. refl)) alike_more alike_two alike_through

pub order_is_free : OrderIsFree
order_is_free nodes sent other once permuted i way = (alike nodes i way sent other permuted).1 (once i way)

-- ---- messages of different shards

-- what wants tell is told of their shard
wants_elsewhere : (nodes : Nodes) (i j : ℕ) (ws : List Want) (m : Partials) (way : Way) → (i == j) ≡ false → held (told_wants nodes i ws m) j way ≡ None
wants_elsewhere nodes i j [] m way other = refl
wants_elsewhere nodes i j (w ∷ ws) no_partials way other = refl
wants_elsewhere nodes i j (w ∷ ws) (partial key stats rows rest) way other =
    ap (λ b. or_else (cond b (held_in (record { shard = i; way = way_of w; bucket = record { stats = stats; nodes = target_nodes (target_of nodes (way_of w)); rows = rows } }) way) None) (held (told_wants nodes i ws rest) j way)) other
    ∙ wants_elsewhere nodes i j ws rest way other

told_elsewhere : (nodes : Nodes) (i j : ℕ) (ask : Ask) (m : Partials) (way : Way) → (i == j) ≡ false → held (told_by nodes i ask m) j way ≡ None
told_elsewhere nodes i j first no_partials way other = refl
told_elsewhere nodes i j first (partial key stats rows rest) way other = ap (λ b. or_else (cond b (held_in (record { shard = i; way = []; bucket = record { stats = stats; nodes = nodes; rows = rows } }) way) None) None) other
told_elsewhere nodes i j (more ws) m way other = wants_elsewhere nodes i j ws m way other

-- as many messages at most hold a bucket of a shard as are of it
held_by_few : (nodes : Nodes) (i : ℕ) (way : Way) (sent : List SentMessage) → count_by (holds nodes i way) sent ≤ count_by (λ s. s.shard == i) sent
held_by_few nodes i way [] = omega arith
held_by_few nodes i way (s ∷ ss) =
    let a = count_by-cons (holds nodes i way) s ss in
    let b = count_by-cons (λ (x : SentMessage). x.shard == i) s ss in
    let rest = held_by_few nodes i way ss in
    let here = go (s.shard == i) refl in
    omega arith
  where
    one_at_most : (b : Bool) → cond b 1 0 ≤ 1
    one_at_most true = omega arith
    one_at_most false = omega arith

    go : (b : Bool) → (s.shard == i) ≡ b → cond (holds nodes i way s) 1 0 ≤ cond (s.shard == i) 1 0
    go true e = subst (λ c. cond (holds nodes i way s) 1 0 ≤ cond c 1 0) (sym e) (one_at_most (holds nodes i way s))
    go false e = subst (λ o. cond (is_some o) 1 0 ≤ cond (s.shard == i) 1 0) (sym (told_elsewhere nodes s.shard i s.ask s.message way e)) (omega arith)

pub rounds_order_is_free : RoundsOrderIsFree
rounds_order_is_free nodes A sent other shards permuted i way =
    let once = λ (j : ℕ) (w : Way). (let few = held_by_few nodes j w sent in let one = shards j in (let le : count_by (holds nodes j w) sent ≤ 1 = omega arith in le)) in
    held_joins A (told_in nodes sent) i way ∙ ap (or_else (held A i way)) (order_is_free nodes sent other once permuted i way) ∙ sym (held_joins A (told_in nodes other) i way)
