use Rattle.std.proofs.Common.{◌≡◌, ◌+◌, ◌<◌, ◌≤◌, ◌⊎◌, ℕ, List, [], length, get_or, map, replicate, false, true, ◌&&◌, subst, ap, sym, ◌∙◌, arith, rules}
use Rattle.std.specs.List.{range_with_len}
use Rattle.std.proofs.lemmas.List.FromFn.{length-map-range_with_len}
use Rattle.fc_spec.specs.documents.Bits.{has_bit}
use Rattle.fc_docset.specs.Neighbours.{IsNextFrom, HasNoneFrom}
use Rattle.fc_lists.specs.Rows.{row_at, AreRows}
use Rattle.fc_lists.specs.declared.rows.Rows.TheInside.{Inside}
use Rattle.fc_lists.proofs.Flat.{length-flat-more, length-flat-take}
use Rattle.fc_lists.proofs.FlatRows.{row_in_both, row_in_one}
use Rattle.fc_lists.proofs.SpreadBits.{none_spread, rows_passed, row_spread, all_spread}
use Rattle.fc_lists.proofs.rows.Rows.spread_rows.Goals as goal

-- a position that is in the set and has items, and one that is not or has none
module _ {T : Type 0} (inside : Inside T) (are : AreRows inside) (rows : List (List T)) (docs : List ℕ)
    (is : map (row_at inside.words.items inside.lists) (range_with_len 0 inside.len) ≡ rows) where
  size : inside.len ≡ length rows
  size = sym (length-map-range_with_len (row_at inside.words.items inside.lists) 0 inside.len) ∙ ap length is

  in_both : (at : ℕ) → (has_bit inside.words.items at && has_bit docs at) ≡ true → (at < length rows) × (has_bit docs at ≡ true) × (0 < length (get_or rows at []))
  in_both at both =
      let here = row_in_both inside.words.items inside.lists inside.len docs at are.none_past are.some are.whole both in
      (omega (arith, here.0, size), here.1, subst (λ (all : List (List T)). 0 < length (get_or all at [])) is here.2)

  in_one : (at : ℕ) → at < length rows → (has_bit inside.words.items at && has_bit docs at) ≡ false → (has_bit docs at ≡ false) ⊎ (get_or rows at [] ≡ [])
  in_one at within none =
      subst (λ (all : List (List T)). (has_bit docs at ≡ false) ⊎ (get_or all at [] ≡ [])) is
      (row_in_one inside.words.items inside.lists inside.len docs at (omega (arith, size)) none)

pub loop-at-init : goal.loop-at-init
loop-at-init g c =
    let zeros : c.fill.new.self ≡ replicate (length c.args.into.now) 0 = search rules in
    none_spread c.args.docs.now c.args.self.now c.fill.new.self (length c.args.into.now) zeros

pub places-start-requires-clause-within : goal.places-start-requires-clause-within
places-start-requires-clause-within g c =
    let docs = c.args.docs.now in
    let next = subst (λ l. IsNextFrom (λ at. has_bit l at && has_bit docs at) c.loop-at.from c.in-Some.at) c.deref.ensures.value c.in-Some.ensures in
    (in_both c.self.inside c.self.invariant c.args.self.now docs c.self.view_is c.in-Some.at next.member).0

pub places-start-requires-clause-some : goal.places-start-requires-clause-some
places-start-requires-clause-some g c =
    let docs = c.args.docs.now in
    let next = subst (λ l. IsNextFrom (λ at. has_bit l at && has_bit docs at) c.loop-at.from c.in-Some.at) c.deref.ensures.value c.in-Some.ensures in
    (in_both c.self.inside c.self.invariant c.args.self.now docs c.self.view_is c.in-Some.at next.member).2

pub set_bits-requires-clause-ordered : goal.set_bits-requires-clause-ordered
set_bits-requires-clause-ordered g c =
    let docs = c.args.docs.now in
    let rows = c.args.self.now in
    let next = subst (λ l. IsNextFrom (λ at. has_bit l at && has_bit docs at) c.loop-at.from c.in-Some.at) c.deref.ensures.value c.in-Some.ensures in
    let here = in_both c.self.inside c.self.invariant rows docs c.self.view_is c.in-Some.at next.member in
    omega (arith, length-flat-more rows c.in-Some.at here.0, c.places-start.ensures.start, c.places-start.ensures.end)

pub set_bits-requires-clause-within : goal.set_bits-requires-clause-within
set_bits-requires-clause-within g c =
    omega (arith, length-flat-take c.args.self.now (c.in-Some.at + 1), c.places-start.ensures.end, c.requires, c.loop-at.auto.into, c.fill.auto.self)

pub loop-at-smaller : goal.loop-at-smaller
loop-at-smaller g c =
    let docs = c.args.docs.now in
    let next = subst (λ l. IsNextFrom (λ at. has_bit l at && has_bit docs at) c.loop-at.from c.in-Some.at) c.deref.ensures.value c.in-Some.ensures in
    let here = in_both c.self.inside c.self.invariant c.args.self.now docs c.self.view_is c.in-Some.at next.member in
    omega (arith, here.0, next.behind)

pub loop-at-preserved : goal.loop-at-preserved
loop-at-preserved g c =
    let docs = c.args.docs.now in
    let rows = c.args.self.now in
    let from = c.loop-at.from in
    let at = c.in-Some.at in
    let next = subst (λ l. IsNextFrom (λ at. has_bit l at && has_bit docs at) from at) c.deref.ensures.value c.in-Some.ensures in
    let here = in_both c.self.inside c.self.invariant rows docs c.self.view_is at next.member in
    let within : at ≤ length rows = omega (arith, here.0) in
    let passed = rows_passed docs rows c.loop-at.into from at c.loop-at.invariant next.behind within
    (λ k low high. in_one c.self.inside c.self.invariant rows docs c.self.view_is k (omega arith) (next.none_between k low high)) in
    row_spread docs rows c.loop-at.into c.set_bits.new.words at c.places-start.result.0 c.places-start.result.1 passed here.0 here.1
    c.places-start.ensures.start c.places-start.ensures.end c.set_bits.ensures

pub returns : goal.returns
returns g c =
    let docs = c.args.docs.now in
    let rows = c.args.self.now in
    let from = c.loop-at.from in
    let none = subst (λ l. HasNoneFrom (λ at. has_bit l at && has_bit docs at) from) c.deref.ensures.value c.in_default.ensures in
    all_spread docs rows c.loop-at.into from c.loop-at.invariant
    (λ k low within. in_one c.self.inside c.self.invariant rows docs c.self.view_is k within (none k low))
