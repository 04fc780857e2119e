use Rattle.std.proofs.Common.{◌<◌, [], All, map, length, get_or, subst, sym, ap, ap₂, ◌∙◌, arith}
use Rattle.std.specs.List.Sorted.{IsStrictlyIncreasing}
use Rattle.std.proofs.lemmas.List.{length-map}
use Rattle.std.proofs.lemmas.List.FromFn.{length-map-range_with_len, get_or-map-range_with_len}
use Rattle.fc_docset.specs.Positions.{positions}
use Rattle.fc_lists.specs.Among.{is_among}
use Rattle.fc_column.specs.Terms.{terms_of, has_text}
use Rattle.fc_column.specs.Dictionary.{term_at}
use Rattle.fc_lists.proofs.OfNumbers.{positions_lie, positions_rise}
use Rattle.fc_column.proofs.TermPositions.{places, rows_have}
use Rattle.fc_column.proofs.text.TextColumn.positions_of.Goals as goal

pub list-requires : goal.list-requires
list-requires c =
    let column = c.self.inside in
    let known = ap terms_of (sym c.self.view_is) ∙ c.self.invariant.complete in
    omega (arith, ap length known, ap length c.self.invariant.placed, length-map-range_with_len (places column.ordinals) 0 (length column.terms.items))

pub returns-clause-positions : goal.returns-clause-positions
returns-clause-positions c =
    let column = c.self.inside in
    let ord = c.args.ord in
    let terms = column.terms.items in
    let known = ap terms_of (sym c.self.view_is) ∙ c.self.invariant.complete in
    let within : ord < length terms = omega (arith, ap length known) in
    c.list.ensures ∙ ap (λ (lists : _). get_or lists ord []) c.self.invariant.placed
    ∙ get_or-map-range_with_len (places column.ordinals) 0 (length terms) ord ord [] within (omega arith)
    ∙ ap positions (rows_have terms c.self.invariant.sorted ord column.ordinals within c.self.invariant.within)
    ∙ ap₂ (λ (t : _) (rows : _). positions (map (has_text t) rows)) (ap (λ (l : _). get_or l ord []) (sym known)) c.self.view_is

pub returns-clause-within : goal.returns-clause-within
returns-clause-within c =
    let column = c.self.inside in
    let ord = c.args.ord in
    let known = ap terms_of (sym c.self.view_is) ∙ c.self.invariant.complete in
    let is = c.list.ensures ∙ ap (λ (lists : _). get_or lists ord []) c.self.invariant.placed
    ∙ get_or-map-range_with_len (places column.ordinals) 0 (length column.terms.items) ord ord [] (omega (arith, ap length known)) (omega arith) in
    let size = length-map column.ordinals (is_among ord) in
    let all = ap length c.self.view_is in
    let rows = length-map column.ordinals (map (term_at column.terms.items)) in
    subst (All (λ at. at < length c.args.self.now)) (sym is)
    (λ k d inside. let lies = positions_lie 0 (map (is_among ord) column.ordinals) k d inside in omega (arith, lies.1, size, all, rows))

pub returns-clause-ascending : goal.returns-clause-ascending
returns-clause-ascending c =
    let column = c.self.inside in
    let ord = c.args.ord in
    let known = ap terms_of (sym c.self.view_is) ∙ c.self.invariant.complete in
    let is = c.list.ensures ∙ ap (λ (lists : _). get_or lists ord []) c.self.invariant.placed
    ∙ get_or-map-range_with_len (places column.ordinals) 0 (length column.terms.items) ord ord [] (omega (arith, ap length known)) (omega arith) in
    subst IsStrictlyIncreasing (sym is) (positions_rise 0 (map (is_among ord) column.ordinals))
