use Rattle.std.proofs.Common.{ℕ, ◌≡◌, ◌*◌, ◌<◌, ◌≤◌, Bool, true, false, MatchBool, nat_lt, count_by, refl, ap, arith}
use Rattle.std.proofs.lemmas.Bool.{ltb-true, ltb-false}
use Rattle.fc_spec.specs.documents.Totals.{document_total}
use Rattle.fc_segment.specs.Merged.{live_blocks}
use Rattle.fc_store.proofs.NamedSets.{live_count}
use Rattle.fc_store.proofs.tiers.is_sparse.Goals as goal

-- what a test of two numbers says of equal ones
less_or_not : (a b m n : ℕ) → a ≡ m → b ≡ n → MatchBool (nat_lt a b) (m < n) (n ≤ m)
less_or_not a b m n left right = go (nat_lt a b) refl
  where
    go : (r : Bool) → nat_lt a b ≡ r → MatchBool r (m < n) (n ≤ m)
    go true below = omega (arith, ltb-true a b below)
    go false least = omega (arith, ltb-false a b least)

pub returns : goal.returns
returns c =
    let live = c.from.result in
    let all = c.from-2.result in
    let g = c.args.segment.now in
    let count = live_count g.blocks g.live c.live.ensures.whole in
    let here = ap (count_by (λ h. h)) c.live.ensures.live in
    less_or_not (2 * live) all (2 * document_total (live_blocks g)) (document_total g.blocks)
    (omega (arith, c.from.ensures, c.count.ensures, count, here)) (omega (arith, c.from-2.ensures, c.doc_count.ensures))
