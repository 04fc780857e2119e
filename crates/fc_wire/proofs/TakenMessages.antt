-- A message that is read is spelled so.
use Rattle.std.proofs.Common.{◌≡◌, ℕ, zero, suc, ◌^◌, ◌<◌, ◌≤◌, Bool, true, false, cond, List, [], ◌∷◌, ◌++◌, length, Result, Ok, Err, refl, sym, ap, subst, ◌∙◌, append-nil, arith, ◌==◌}
use Rattle.std.specs.List.{flat_map, AllByRecursion}
use Rattle.std.proofs.lemmas.Bool.{eqb-true}
use Rattle.std.proofs.lemmas.List.{nil_from_length}
use Rattle.fc_spec.specs.words.Walks.{◌>>=◌}
use Rattle.fc_spec.specs.messages.Message.{Partials}
use Rattle.fc_spec.specs.messages.MessageBytes.{long_bytes, key_bytes, stats_bytes, partial_count, row_count, partials_bytes, rows_bytes}
use Rattle.fc_spec.specs.messages.Nesting.{nesting, rows_nesting, Spells}
use Rattle.fc_spec.specs.laws.SpellingLaw.{FitsStats}
use Rattle.fc_partial.specs.BucketView.{Part, linked, linked_rows}
use Rattle.fc_wire.specs.Fitting.{KeyFits, BucketsFit, NodesFit}
use Rattle.fc_wire.specs.FieldReading.{counted, key_at, stats_at}
use Rattle.fc_wire.specs.Reading.{part_with, node_with, part_at, whole_of, message_of}
use Rattle.fc_wire.proofs.Taking.{bind_ok, guard_passed, ok_is, AreBytes, are_behind, Takes, takes_both, TakesBy}
use Rattle.fc_wire.proofs.ManyLaws.{counted_takes}
use Rattle.fc_wire.proofs.KeyLaws.{key_takes}
use Rattle.fc_wire.proofs.StatisticLaws.{stats_takes}
use Rattle.fc_wire.proofs.Linked.{part_bytes, node_bytes, linked_bytes, linked_rows_bytes, linked_count, linked_rows_count}

-- with at most so many levels
record PartFits (depth : ℕ) (p : Part) : Type 0 where
  key : KeyFits p.key
  stats : FitsStats p.stats
  number : row_count p.rows < 2 ^ 64
  rows : NodesFit p.rows
  nests : suc (rows_nesting p.rows) ≤ depth

record NodeFits (depth : ℕ) (ps : Partials) : Type 0 where
  number : partial_count ps < 2 ^ 64
  buckets : BucketsFit ps
  nests : nesting ps ≤ depth

parts_fit : (depth : ℕ) (ps : List Part) → AllByRecursion (PartFits depth) ps → BucketsFit (linked ps) × (nesting (linked ps) ≤ depth)
parts_fit depth [] all = ((tt, tt), omega arith)
parts_fit depth (p ∷ ps) all =
    let rest = parts_fit depth ps all.1 in
    let own = (all.0).nests in
    let others = rest.1 in
    ((((all.0).key.0, (all.0).stats, (all.0).number, (all.0).rows.0, rest.0.0), ((all.0).key.1, (all.0).rows.1, rest.0.1)), omega (arith, own, others))

nodes_fit : (depth : ℕ) (pss : List Partials) → AllByRecursion (NodeFits depth) pss → NodesFit (linked_rows pss) × (rows_nesting (linked_rows pss) ≤ depth)
nodes_fit depth [] all = ((tt, tt), omega arith)
nodes_fit depth (ps ∷ pss) all =
    let rest = nodes_fit depth pss all.1 in
    let own = (all.0).nests in
    let others = rest.1 in
    ((((all.0).number, (all.0).buckets.0, rest.0.0), ((all.0).buckets.1, rest.0.1)), omega (arith, own, others))

node_takes : (depth : ℕ) → TakesBy (part_at depth) part_bytes (PartFits depth) → TakesBy (node_with (part_at depth)) node_bytes (NodeFits depth)
unfolding node_with node_bytes
node_takes depth takes bytes x are e =
    let a = bind_ok (counted (part_at depth) bytes) (λ parts. Ok (linked parts.0, parts.1)) x e in
    let t = counted_takes (part_at depth) part_bytes (PartFits depth) takes bytes a.0 are a.1 in
    let fit = parts_fit depth a.0.0 t.1.1 in
    let same : long_bytes (length a.0.0) ++ flat_map part_bytes a.0.0 ≡ long_bytes (partial_count (linked a.0.0)) ++ partials_bytes (linked a.0.0) = λ j. long_bytes (sym (linked_count a.0.0) j) ++ sym (linked_bytes a.0.0) j in
    subst (λ (y : Partials × List ℕ). Takes bytes (long_bytes (partial_count y.0) ++ partials_bytes y.0) y.1 × NodeFits depth y.0) (ok_is (linked a.0.0, a.0.1) x a.2)
    (subst (λ l. Takes bytes l a.0.1) same t.0, record { number = subst (λ n. n < 2 ^ 64) (sym (linked_count a.0.0)) t.1.0; buckets = fit.0; nests = fit.1 })

part_takes_with : (depth : ℕ) → TakesBy (node_with (part_at depth)) node_bytes (NodeFits depth) → TakesBy (part_with (node_with (part_at depth))) part_bytes (PartFits (suc depth))
unfolding part_with part_bytes
part_takes_with depth takes bytes x are e =
    let a = bind_ok (key_at bytes) (λ key. stats_at key.1 >>= λ stats. counted (node_with (part_at depth)) stats.1 >>= λ nodes. Ok (record { key = key.0; stats = stats.0; rows = linked_rows nodes.0 }, nodes.1)) x e in
    let b = bind_ok (stats_at a.0.1) (λ stats. counted (node_with (part_at depth)) stats.1 >>= λ nodes. Ok (record { key = a.0.0; stats = stats.0; rows = linked_rows nodes.0 }, nodes.1)) x a.2 in
    let c = bind_ok (counted (node_with (part_at depth)) b.0.1) (λ nodes. Ok (record { key = a.0.0; stats = b.0.0; rows = linked_rows nodes.0 }, nodes.1)) x b.2 in
    let key = key_takes bytes a.0 are a.1 in
    let stats = stats_takes a.0.1 b.0 key.0.rest_are b.1 in
    let nodes = counted_takes (node_with (part_at depth)) node_bytes (NodeFits depth) takes b.0.1 c.0 stats.0.rest_are c.1 in
    let fit = nodes_fit depth c.0.0 nodes.1.1 in
    let rows = linked_rows c.0.0 in
    let same : long_bytes (length c.0.0) ++ flat_map node_bytes c.0.0 ≡ long_bytes (row_count rows) ++ rows_bytes rows = λ j. long_bytes (sym (linked_rows_count c.0.0) j) ++ sym (linked_rows_bytes c.0.0) j in
    let own : Takes b.0.1 (long_bytes (row_count rows) ++ rows_bytes rows) c.0.1 = subst (λ l. Takes b.0.1 l c.0.1) same nodes.0 in
    let two = takes_both a.0.1 (stats_bytes b.0.0) b.0.1 (long_bytes (row_count rows) ++ rows_bytes rows) c.0.1 stats.0 own in
    let all = takes_both bytes (key_bytes a.0.0) a.0.1 (stats_bytes b.0.0 ++ (long_bytes (row_count rows) ++ rows_bytes rows)) c.0.1 key.0 two in
    let made : Part × List ℕ = (record { key = a.0.0; stats = b.0.0; rows = rows }, c.0.1) in
    let deep = fit.1 in
    subst (λ (y : Part × List ℕ). Takes bytes (part_bytes y.0) y.1 × PartFits (suc depth) y.0) (ok_is made x c.2)
    (all, record { key = key.1; stats = stats.1; number = subst (λ n. n < 2 ^ 64) (sym (linked_rows_count c.0.0)) nodes.1.0; rows = fit.0; nests = omega (arith, deep) })

part_takes : (depth : ℕ) → TakesBy (part_at depth) part_bytes (PartFits depth)
unfolding part_at
part_takes zero bytes x are e = absurd cc
part_takes (suc depth) bytes x are e = part_takes_with depth (node_takes depth (part_takes depth)) bytes x are e

whole_takes : (bytes : List ℕ) (m : Partials) → AreBytes bytes → whole_of bytes ≡ Ok m → Spells (77 ∷ bytes) m
unfolding whole_of
whole_takes bytes m are e =
    let a = bind_ok (counted (part_at 9) bytes) (λ parts. cond (length parts.1 == 0) (Ok (linked parts.0)) (Err tt)) m e in
    let g = guard_passed (length a.0.1 == 0) (linked a.0.0) m a.2 in
    let t = counted_takes (part_at 9) part_bytes (PartFits 9) (part_takes 9) bytes a.0 are a.1 in
    let fit = parts_fit 9 a.0.0 t.1.1 in
    let nothing : a.0.1 ≡ [] = nil_from_length a.0.1 (eqb-true _ _ g.0) in
    let same : long_bytes (length a.0.0) ++ flat_map part_bytes a.0.0 ≡ long_bytes (partial_count (linked a.0.0)) ++ partials_bytes (linked a.0.0) = λ j. long_bytes (sym (linked_count a.0.0) j) ++ sym (linked_bytes a.0.0) j in
    let all : bytes ≡ long_bytes (partial_count (linked a.0.0)) ++ partials_bytes (linked a.0.0) = t.0.parts ∙ (λ j. same j ++ nothing j) ∙ append-nil (long_bytes (partial_count (linked a.0.0)) ++ partials_bytes (linked a.0.0)) in
    subst (Spells (77 ∷ bytes)) g.1 (ap (λ l. 77 ∷ l) all, ((subst (λ n. n < 2 ^ 64) (sym (linked_count a.0.0)) t.1.0, fit.0.0), fit.0.1, fit.1))

mark_passed : {A : Type 0} (b : Bool) (r : Result A (Unit {0})) (m : A) → cond b r (Err tt) ≡ Ok m → (b ≡ true) × (r ≡ Ok m)
mark_passed true r m e = (refl, e)
mark_passed false r m e = absurd cc

-- a message that is read is spelled by the bytes
pub read_is_spelled : (bytes : List ℕ) (m : Partials) → AreBytes bytes → message_of bytes ≡ Ok m → Spells bytes m
unfolding message_of
read_is_spelled [] m are e = absurd cc
read_is_spelled (mark ∷ bytes) m are e =
    let g = mark_passed (mark == 77) (whole_of bytes) m e in
    subst (λ k. Spells (k ∷ bytes) m) (sym (eqb-true _ _ g.0)) (whole_takes bytes m (are_behind mark bytes are) g.1)
