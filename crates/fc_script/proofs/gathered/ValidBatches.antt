-- The batches of a script within its limits add valid blocks and few documents.
use Rattle.std.proofs.Common.{◌≡◌, ℕ, ◌+◌, ◌≤◌, List, [], ◌∷◌, length, Bool, true, false, cond, ◌==◌, Option, None, Some, IfSome, option_and_then, All, Ok, refl, sym, ◌∙◌, ap, subst, arith}
use Rattle.std.specs.Prelude.{nat_le}
use Rattle.std.specs.List.{cons_option, enumerate_from, filter_map}
use Rattle.std.proofs.lemmas.Bool.{and_parts, leb-true}
use Rattle.std.proofs.lemmas.List.Elements.{All-nil, All-cons, All-head, All-map, All-tail}
use Rattle.fc_spec.specs.documents.Document.{Block, Op, adding, deleting}
use Rattle.fc_spec.specs.documents.Operations.{added_by, blocks_added}
use Rattle.fc_spec.specs.documents.Totals.{document_total, value_count}
use Rattle.fc_spec.specs.documents.ValidBlocks.{IsBlockOf}
use Rattle.fc_spec.specs.scripts.AskedScripts.{AskedLine, AskedScript}
use Rattle.fc_spec.specs.scripts.Script.{add, delete, commit, sync, asks, op_on, batch_of, commits_shard, earlier, stream}
use Rattle.fc_spec.specs.scripts.ScriptParts.{batches}
use Rattle.fc_spec.specs.scripts.ScriptTotals.{Limits, added, are_few, documents_added, sums_fit}
use Rattle.fc_spec.specs.scripts.ValidScripts.{IsWithin}
use Rattle.fc_spec.specs.words.Lists.{numbers_below}
use Rattle.fc_spec.specs.words.Walks.{◌>>=◌, unless}
use Rattle.fc_spec.proofs.documents.BlockTotals.{document_total-cons}
use Rattle.fc_script.specs.SoundScripts.{IsBatchOf}

-- ---- what is picked of each line, at most the block that it adds

abbrev Pick : Type 0
Pick = ℕ × AskedLine → Option Block

module _ (P : Block → Type 0) where
  cons : (o : Option Block) (bs : List Block) → IfSome o P → All P bs → All P (cons_option o bs)
  cons None bs here all = all
  cons (Some b) bs here all = All-cons P b bs here all

  head : (o : Option Block) (bs : List Block) → All P (cons_option o bs) → IfSome o P
  head None bs all = tt
  head (Some b) bs all = All-head P b bs all

  tail : (o : Option Block) (bs : List Block) → All P (cons_option o bs) → All P bs
  tail None bs all = all
  tail (Some b) bs all = All-tail P b bs all

  picked : (pick : Pick) → ((n : ℕ) (l : AskedLine) → IfSome (added l) P → IfSome (pick (n, l)) P) → (n : ℕ) (ls : List AskedLine) → All P (filter_map added ls) → All P (filter_map pick (enumerate_from n ls))
  picked pick each n [] all = All-nil P
  picked pick each n (l ∷ ls) all =
      cons (pick (n, l)) (filter_map pick (enumerate_from (n + 1) ls)) (each n l (head (added l) (filter_map added ls) all))
      (picked pick each (n + 1) ls (tail (added l) (filter_map added ls) all))

-- the documents of a block, where there is one
abbrev size : Option Block → ℕ
size None = 0
size (Some b) = length b.children + 1

total-cons : (o : Option Block) (bs : List Block) → document_total (cons_option o bs) ≡ size o + document_total bs
total-cons None bs = omega arith
total-cons (Some b) bs = document_total-cons b bs

picked_total : (pick : Pick) → ((n : ℕ) (l : AskedLine) → size (pick (n, l)) ≤ size (added l)) → (n : ℕ) (ls : List AskedLine) → document_total (filter_map pick (enumerate_from n ls)) ≤ document_total (filter_map added ls)
picked_total pick each n [] = omega arith
picked_total pick each n (l ∷ ls) =
    let rest = picked_total pick each (n + 1) ls in
    omega (arith, rest, each n l, total-cons (pick (n, l)) (filter_map pick (enumerate_from (n + 1) ls)), total-cons (added l) (filter_map added ls))

-- ---- a batch

-- the blocks that picked operations add, picked
added_cons : (o : Option Op) (ops : List Op) → blocks_added (cons_option o ops) ≡ cons_option (option_and_then added_by o) (blocks_added ops)
added_cons None ops = refl
added_cons (Some op) ops = refl

added_picked : {X : Type 0} (pick : X → Option Op) (xs : List X) → blocks_added (filter_map pick xs) ≡ filter_map (λ x. option_and_then added_by (pick x)) xs
added_picked pick [] = refl
added_picked pick (x ∷ xs) = added_cons (pick x) (filter_map pick xs) ∙ ap (cons_option (option_and_then added_by (pick x))) (added_picked pick xs)

-- the block that a line adds to a shard, where a test passes
abbrev added_where : Bool → ℕ → AskedLine → Option Block
added_where test shard l = option_and_then added_by (cond test (op_on shard l) None)

module _ (P : Block → Type 0) where
  to_shard : (shard : ℕ) (l : AskedLine) → IfSome (added l) P → IfSome (option_and_then added_by (op_on shard l)) P
  to_shard shard (add s b) valid = go (s == shard)
    where
      go : (here : Bool) → IfSome (option_and_then added_by (cond here (Some (adding b)) None)) P
      go true = valid
      go false = tt
  to_shard shard (delete s id) valid = go (s == shard)
    where
      go : (here : Bool) → IfSome (option_and_then added_by (cond here (Some (deleting id)) None)) P
      go true = tt
      go false = tt
  to_shard shard (commit c) valid = tt
  to_shard shard sync valid = tt
  to_shard shard (asks session a) valid = tt

  valid_where : (test : Bool) (shard : ℕ) (l : AskedLine) → IfSome (added l) P → IfSome (added_where test shard l) P
  valid_where true shard l valid = to_shard shard l valid
  valid_where false shard l valid = tt

size_to_shard : (shard : ℕ) (l : AskedLine) → size (option_and_then added_by (op_on shard l)) ≤ size (added l)
size_to_shard shard (add s b) = go (s == shard)
  where
    go : (here : Bool) → size (option_and_then added_by (cond here (Some (adding b)) None)) ≤ size (Some b)
    go true = omega arith
    go false = omega arith
size_to_shard shard (delete s id) = go (s == shard)
  where
    go : (here : Bool) → size (option_and_then added_by (cond here (Some (deleting id)) None)) ≤ 0
    go true = omega arith
    go false = omega arith
size_to_shard shard (commit c) = omega arith
size_to_shard shard sync = omega arith
size_to_shard shard (asks session a) = omega arith

size_where : (test : Bool) (shard : ℕ) (l : AskedLine) → size (added_where test shard l) ≤ size (added l)
size_where true shard l = size_to_shard shard l
size_where false shard l = omega arith

-- ---- all batches

passed_check : {E : Type 0} (a b : Bool) (e f : E) → (unless a e >>= λ _. unless b f) ≡ Ok tt → b ≡ true
passed_check true true e f h = refl
passed_check true false e f h = absurd cc
passed_check false b e f h = absurd cc

module _ (limits : Limits) (S : AskedScript) (within : IsWithin limits S) where
  few_documents : document_total (filter_map added S.lines) ≤ limits.documents
  few_documents =
      let few : are_few limits (documents_added S.lines) ≡ true = passed_check (sums_fit S.schema (documents_added S.lines)) (are_few limits (documents_added S.lines)) _ _ within.documents in
      leb-true _ limits.documents (and_parts (nat_le (document_total (filter_map added S.lines)) limits.documents) (nat_le (value_count (documents_added S.lines)) limits.values) few).0

  batch_is : (shard j : ℕ) → IsBatchOf limits S.schema (batch_of S.lines shard j)
  batch_is shard j =
      let test : ℕ → Bool = λ n. earlier (commits_shard shard) S.lines n == j in
      let adds : blocks_added (batch_of S.lines shard j) ≡ filter_map (λ n. added_where (test n.0) shard n.1) (enumerate_from 0 S.lines) = added_picked (λ n. cond (test n.0) (op_on shard n.1) None) (enumerate_from 0 S.lines) in
      let some = picked_total (λ n. added_where (test n.0) shard n.1) (λ n l. size_where (test n) shard l) 0 S.lines in
      record {
        valid = subst (All (IsBlockOf S.schema)) (sym adds) (picked (IsBlockOf S.schema) (λ n. added_where (test n.0) shard n.1) (λ n l valid. valid_where (IsBlockOf S.schema) (test n) shard l valid) 0 S.lines within.blocks);
        few = rw adds (omega (arith, some, few_documents));
      }

  -- of each shard
  pub batches_are : All (All (IsBatchOf limits S.schema)) (batches S)
  batches_are =
      All-map (All (IsBatchOf limits S.schema)) (stream S.lines) (numbers_below S.schema.shards)
      (λ k d below. All-map (IsBatchOf limits S.schema) (batch_of S.lines _) (numbers_below _) (λ i e here. batch_is _ _))
