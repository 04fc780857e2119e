use Rattle.std.proofs.Common.{◌≡◌, ◌<◌, [], length, get_or, map, count_by, subst, sym, ap, ap₂, ◌∙◌, arith}
use Rattle.std.proofs.lemmas.List.{get_or-map, length-map}
use Rattle.std.specs.List.Sorted.{IsStrictlyIncreasing}
use Rattle.std.specs.Ordering.{is_lt}
use Rattle.fc_spec.specs.documents.Val.{text_cmp}
use Rattle.fc_spec.specs.documents.Columns.{IsAscending}
use Rattle.fc_column.specs.Terms.{terms_of}
use Rattle.fc_column.specs.Dictionary.{term_at}
use Rattle.fc_column.proofs.TermLists.{ordinals_back, row_rises}
use Rattle.fc_column.proofs.text.TextColumn.ordinals_of.Goals as goal

pub returns-clause-ordinals : goal.returns-clause-ordinals
returns-clause-ordinals c =
    let column = c.self.inside in
    let terms = column.terms.items in
    let rows = column.ordinals in
    let doc = c.args.doc in
    let size : doc < length rows = omega (arith, length-map rows (map (term_at terms)), ap length c.self.view_is) in
    let texts : get_or c.args.self.now doc [] ≡ map (term_at terms) (get_or rows doc []) =
    ap (λ l. get_or l doc []) (sym c.self.view_is) ∙ get_or-map (map (term_at terms)) rows doc [] [] size in
    let known = ap terms_of (sym c.self.view_is) ∙ c.self.invariant.complete in
    c.row.ensures
    ∙ sym (ap₂ (λ ts l. map (λ t. count_by (λ term. is_lt (text_cmp term t)) ts) l) known texts
    ∙ ordinals_back terms c.self.invariant.sorted (get_or rows doc []) (c.self.invariant.within doc [] size))

pub returns-clause-ascending : goal.returns-clause-ascending
returns-clause-ascending c =
    let column = c.self.inside in
    let terms = column.terms.items in
    let rows = column.ordinals in
    let doc = c.args.doc in
    let long = length-map rows (map (term_at terms)) in
    let size : doc < length rows = omega (arith, long, ap length c.self.view_is) in
    let ascending = subst (IsAscending text_cmp) (get_or-map (map (term_at terms)) rows doc [] [] size) (c.self.invariant.ascending doc [] (omega (arith, long))) in
    subst IsStrictlyIncreasing (sym c.row.ensures) (row_rises terms c.self.invariant.sorted (get_or rows doc []) (c.self.invariant.within doc [] size) ascending)
