use Rattle.std.proofs.Common.{take, drop, replicate, ◌++◌, ◌≡◌, ◌+◌, ◌-◌, ◌∷◌, [], length, ap, ap₂, sym, ◌∙◌, subst, arith, length-append, true, false, ◌≤◌, ◌||◌, ◌&&◌, nat_le, nat_lt, get_or}
use Rattle.fc_spec.specs.documents.Totals.{documents_of}
use Rattle.fc_docs.specs.View.{block_view, op_view}
use Rattle.fc_store.specs.Named.{left_with, op_size}
use Rattle.fc_store.proofs.PutRanges.{put_range}
use Rattle.fc_store.proofs.named.put.Goals as goal

pub returns-then-is_left-clause-left : goal.returns-then-is_left-clause-left
returns-then-is_left-clause-left c =
    let b = block_view c.in-Add.block in
    let n = length (documents_of b) in
    let start = c.args.end - c.len.result - 1 in
    let size : n ≡ c.len.result + 1 = omega (arith, length-append b.children (b.parent ∷ []), c.len.ensures) in
    let fits : n ≤ c.args.end = subst (λ o. op_size o ≤ c.args.end) (ap op_view c.in-Add.is) c.requires.fits in
    let ends : start + n ≡ c.args.end = omega (arith, size, fits) in
    put_range c.args.left.now c.add_range.new.self start n (omega (arith, ends, c.requires.within)) c.add_range.ensures.length
    (λ k. c.add_range.ensures.set k ∙ ap (λ e. get_or c.args.left.now k false || (nat_le start k && nat_lt k e)) (sym ends))
    ∙ ap (λ e. take start c.args.left.now ++ (replicate n true ++ drop e c.args.left.now)) ends
    ∙ sym (ap₂ (left_with c.args.left.now start c.args.end) (ap op_view c.in-Add.is) c.if-is_left.true)
