-- The blocks that operations leave, from the last operation to the first.
use Rattle.std.proofs.Common.{Bor, add-zero, ◌-◌, ◌≡◌, ℕ, suc, ◌+◌, ◌<◌, ◌≤◌, List, [], ◌∷◌, ◌++◌, length, get_or, take, drop, replicate, Bool, true, false, not, refl, sym, ap, ap₂, ◌∙◌, arith, append_assoc, length-append}
use Rattle.std.proofs.lemmas.List.{length-replicate, replicate-append-replicate, take-replicate, take-append-le, take_more}
use Rattle.std.proofs.Math.Seq.{drop-append_seam, drop-cons}
use Rattle.std.specs.List.{list_any}
use Rattle.std.specs.BTreeMap.{is_at}
use Rattle.fc_spec.specs.documents.Val.{Text}
use Rattle.fc_spec.specs.documents.Document.{Block, Op, adding, deleting}
use Rattle.fc_spec.specs.documents.Live.{left_set}
use Rattle.fc_spec.specs.documents.Operations.{op_id, is_named, blocks_added}
use Rattle.fc_spec.specs.documents.Totals.{documents_of, documents_in, document_total}
use Rattle.fc_store.specs.Named.{left_with, op_size, has_one_of, texts_of, NamesId}
use Rattle.fc_store.proofs.IdKeys.{id_among, lent_cmp}

-- one operation more, which stands in front
abbrev pub SaysIfLeft : Op → List Op → Bool → Type 0
SaysIfLeft (adding b) rest is_left = is_left ≡ not (is_named rest b)
SaysIfLeft (deleting x) rest is_left = Unit {0}

behind : (k n : ℕ) (here : Bool) (set : List Bool) → replicate (k + n) here ++ set ≡ replicate k here ++ (replicate n here ++ set)
behind k n here set = ap (λ l. l ++ set) (sym (replicate-append-replicate k n here)) ∙ append_assoc (replicate k here) (replicate n here) set

pub left_step : (op : Op) (rest : List Op) (start end : ℕ) (is_left : Bool) → start + op_size op ≡ end → SaysIfLeft op rest is_left
    → left_with (replicate end false ++ left_set rest) start end op is_left ≡ replicate start false ++ left_set (op ∷ rest)
left_step (deleting x) rest start end is_left ends says = ap (λ n. replicate n false ++ left_set rest) (sym ends ∙ add-zero start)
left_step (adding b) rest start end true ends says =
    let n = length (documents_of b) in
    let long : length (replicate end false) ≡ end = length-replicate end false in
    ap₂ (λ k l. k ++ (replicate n true ++ l))
    (take-append-le start (replicate end false) (left_set rest) (omega (arith, long, ends)) ∙ take-replicate start end false (omega (arith, ends)))
    (ap (λ k. drop k (replicate end false ++ left_set rest)) (sym long) ∙ drop-append_seam (replicate end false) (left_set rest))
    ∙ ap (λ here. replicate start false ++ (replicate n here ++ left_set rest)) says
left_step (adding b) rest start end false ends says =
    let n = length (documents_of b) in
    ap (λ k. replicate k false ++ left_set rest) (sym ends) ∙ behind start n false (left_set rest)
    ∙ ap (λ here. replicate start false ++ (replicate n here ++ left_set rest)) says

-- what it says of itself in a set of the ids that those behind it name
pub said_of : (op : Op) (rest : List Op) (ids : List (Bor Text)) (key : Bor Text) (is_left : Bool) → NamesId op → key.now ≡ op_id op → ((b : Block) → has_one_of (texts_of ids) b ≡ is_named rest b)
    → is_left ≡ not (list_any (is_at (lent_cmp key)) ids) → SaysIfLeft op rest is_left
said_of (adding b) rest ids key is_left names same are added = added ∙ ap not (id_among b names key same ids ∙ are b)
said_of (deleting x) rest ids key is_left names same are added = tt

-- where the blocks before it end
end_step : (ops : List Op) (op : Op) → document_total (blocks_added (ops ++ op ∷ [])) ≡ document_total (blocks_added ops) + op_size op
end_step [] (adding b) = omega (arith, length-append (documents_of b) [])
end_step [] (deleting x) = refl
end_step (adding c ∷ ops) op =
    let rest = end_step ops op in
    omega (arith, length-append (documents_of c) (documents_in (blocks_added (ops ++ op ∷ []))), rest, length-append (documents_of c) (documents_in (blocks_added ops)))
end_step (deleting x ∷ ops) op = end_step ops op

module _ (ops : List Op) (at : ℕ) (op : Op) (some : 0 < at) (within : at ≤ length ops) (here : get_or ops (at - 1) op ≡ op) where
  back : at - 1 + 1 ≡ at
  back = omega (arith, some)

  pub rest_is : drop (at - 1) ops ≡ op ∷ drop at ops
  rest_is =
      let next : suc (at - 1) ≡ at = omega (arith, some) in
      drop-cons ops (at - 1) op (omega (arith, some, within)) ∙ ap₂ (λ o k. o ∷ drop k ops) here next

  front_is : take at ops ≡ take (at - 1) ops ++ op ∷ []
  front_is = ap (λ k. take k ops) (sym back) ∙ take_more ops (at - 1) op (omega (arith, some, within)) ∙ ap (λ o. take (at - 1) ops ++ o ∷ []) here

  pub ended : document_total (blocks_added (take at ops)) ≡ document_total (blocks_added (take (at - 1) ops)) + op_size op
  ended = ap (λ l. document_total (blocks_added l)) front_is ∙ end_step (take (at - 1) ops) op
