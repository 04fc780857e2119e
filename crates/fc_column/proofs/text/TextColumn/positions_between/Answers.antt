use Rattle.std.proofs.Common.{◌≡◌, List, [], ℕ, min, map, length, get_or, slice_range, subst, sym, ap, ◌∙◌, arith}
use Rattle.std.specs.List.{filter, flat_map, range_with_len}
use Rattle.std.specs.List.Sorted.{IsPermutation}
use Rattle.std.proofs.lemmas.List.FromFn.{length-map-range_with_len}
use Rattle.fc_lists.specs.Among.{is_among}
use Rattle.fc_column.specs.Terms.{terms_of, has_from_to, ordinals_in}
use Rattle.fc_column.proofs.SpanPositions.{listed, none_listed, listed_once, none_once}
use Rattle.fc_column.proofs.TermPositions.{places, listed_within}
use Rattle.fc_column.proofs.text.TextColumn.positions_between.Goals as goal

pub span-requires-clause-within : goal.span-requires-clause-within
span-requires-clause-within c =
    let column = c.self.inside in
    let count = length column.terms.items in
    let known = ap terms_of (sym c.self.view_is) ∙ c.self.invariant.complete in
    let top : c.min-past.result ≡ min c.args.past count = c.min-past.ensures ∙ ap (min c.args.past) (c.terms.ensures ∙ ap length known) in
    omega (arith, top, ap length c.self.invariant.placed, length-map-range_with_len (places column.ordinals) 0 count)

pub returns-then-first-past-clause-positions : goal.returns-then-first-past-clause-positions
returns-then-first-past-clause-positions c = λ at.
    let column = c.self.inside in
    let terms = column.terms.items in
    let rows = column.ordinals in
    let first = c.args.first in
    let known = ap terms_of (sym c.self.view_is) ∙ c.self.invariant.complete in
    let top : c.min-past.result ≡ min c.args.past (length terms) = c.min-past.ensures ∙ ap (min c.args.past) (c.terms.ensures ∙ ap length known) in
    let lists = λ (ls : List (List ℕ)) (n : ℕ). flat_map (λ (list : List ℕ). list) (slice_range ls first n) in
    ap (is_among at) (c.span.ensures ∙ ap (λ (ls : _). lists ls c.min-past.result) c.self.invariant.placed ∙ ap (lists (map (places rows) (range_with_len 0 (length terms)))) top)
    ∙ listed terms rows c.args.self.now known c.self.invariant.sorted c.self.invariant.within c.self.view_is first c.args.past (omega (arith, top)) at

pub returns-then-first-past-clause-within : goal.returns-then-first-past-clause-within
returns-then-first-past-clause-within c =
    listed_within c.span.result.now c.args.first c.args.past c.args.self.now (returns-then-first-past-clause-positions c)

pub returns-then-first-past-clause-once : goal.returns-then-first-past-clause-once
returns-then-first-past-clause-once c single =
    let column = c.self.inside in
    let terms = column.terms.items in
    let rows = column.ordinals in
    let first = c.args.first in
    let known = ap terms_of (sym c.self.view_is) ∙ c.self.invariant.complete in
    let top : c.min-past.result ≡ min c.args.past (length terms) = c.min-past.ensures ∙ ap (min c.args.past) (c.terms.ensures ∙ ap length known) in
    let lists = λ (ls : List (List ℕ)) (n : ℕ). flat_map (λ (list : List ℕ). list) (slice_range ls first n) in
    let is = c.span.ensures ∙ ap (λ (ls : _). lists ls c.min-past.result) c.self.invariant.placed ∙ ap (lists (map (places rows) (range_with_len 0 (length terms)))) top in
    let in_span = λ (at : ℕ). has_from_to first c.args.past (ordinals_in c.args.self.now (get_or c.args.self.now at [])) in
    subst (λ (list : List ℕ). IsPermutation list (filter in_span (range_with_len 0 (length c.args.self.now)))) (sym is)
    (listed_once terms rows c.args.self.now known c.self.invariant.sorted c.self.invariant.within c.self.view_is first c.args.past (omega (arith, top)) single)

pub returns-else-first-past-clause-positions : goal.returns-else-first-past-clause-positions
returns-else-first-past-clause-positions c = λ at.
    let column = c.self.inside in
    let terms = column.terms.items in
    let known = ap terms_of (sym c.self.view_is) ∙ c.self.invariant.complete in
    let top : c.min-past.result ≡ min c.args.past (length terms) = c.min-past.ensures ∙ ap (min c.args.past) (c.terms.ensures ∙ ap length known) in
    sym (none_listed terms column.ordinals c.args.self.now known c.self.invariant.sorted c.self.invariant.within c.self.view_is c.args.first c.args.past (omega (arith, top)) at)

pub returns-else-first-past-clause-once : goal.returns-else-first-past-clause-once
returns-else-first-past-clause-once c single =
    let column = c.self.inside in
    let terms = column.terms.items in
    let known = ap terms_of (sym c.self.view_is) ∙ c.self.invariant.complete in
    let top : c.min-past.result ≡ min c.args.past (length terms) = c.min-past.ensures ∙ ap (min c.args.past) (c.terms.ensures ∙ ap length known) in
    none_once terms column.ordinals c.args.self.now known c.self.invariant.sorted c.self.invariant.within c.self.view_is c.args.first c.args.past (omega (arith, top))
