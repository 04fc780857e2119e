use Rattle.std.proofs.Common.{◌≡◌, ◌∙◌, ◌+◌, ◌++◌, ◌<◌, ℕ, List, All, map, length, ap, ap₂, sym, subst, arith, rules}
use Rattle.std.proofs.lemmas.List.{length-map}
use Rattle.std.proofs.lemmas.List.FromFn.{length-map-range_with_len, get_or-map-range_with_len}
use Rattle.std.specs.List.{list_any, items_where_true, range_with_len}
use Rattle.fc_spec.specs.documents.Val.{Text}
use Rattle.fc_docset.specs.Positions.{contains, positions}
use Rattle.fc_lists.specs.Among.{is_among}
use Rattle.fc_column.specs.Terms.{terms_of}
use Rattle.fc_column.specs.Numbering.{text_numbered}
use Rattle.fc_column.specs.TextMerger.{Keeps, numbered_terms}
use Rattle.fc_lists.proofs.KeptRows.{positions_below}
use Rattle.fc_column.proofs.MergedNumbers.{used_are}
use Rattle.fc_column.proofs.MergedTexts.{keeps_more, all_texts}
use Rattle.fc_column.proofs.text_merger.TextMerger.with.Goals as goal

pub add_rows-requires-clause-small : goal.add_rows-requires-clause-small
add_rows-requires-clause-small c = λ k d inside j e there.
    let more : c.in_ok-next.next ≡ c.self.inside.count + c.terms.result = search rules in
    let size = c.terms.ensures ∙ ap (λ l. length (terms_of l)) (sym c.column.view_is) ∙ ap length c.column.invariant.complete in
    omega (arith, more, size, c.column.invariant.within k d inside j e there)

pub add_terms-requires-clause-lists : goal.add_terms-requires-clause-lists
add_terms-requires-clause-lists c =
    let terms = c.column.inside.terms.items in
    ap length c.column.invariant.placed ∙ length-map-range_with_len (λ ord. positions (map (is_among ord) c.column.inside.ordinals)) 0 (length terms) ∙ sym (ap length c.deref.ensures.value)

-- the positions of each number are those of a list of rows
lists_within : (lists rows : List (List ℕ)) (count size : ℕ) → lists ≡ map (λ ord. positions (map (is_among ord) rows)) (range_with_len 0 count) → length rows ≡ size → All (All (λ at. at < size)) lists
lists_within lists rows count size is long = subst (All (All (λ at. at < size))) (sym is) (λ k d inside.
    let small : k < count = omega (arith, length-map-range_with_len (λ ord. positions (map (is_among ord) rows)) 0 count) in
    let total : length (map (is_among k) rows) ≡ size = length-map rows (is_among k) ∙ long in
    subst (All (λ at. at < size)) (sym (get_or-map-range_with_len (λ ord. positions (map (is_among ord) rows)) 0 count k k d small (omega arith)))
    (subst (λ n. All (λ at. at < n) (positions (map (is_among k) rows))) total (positions_below (map (is_among k) rows))))

pub add_terms-requires-clause-within : goal.add_terms-requires-clause-within
add_terms-requires-clause-within c =
    let column = c.column.inside in
    lists_within column.positions column.ordinals (length column.terms.items) (length c.args.live.now) c.column.invariant.placed
    (sym (c.requires ∙ ap length (sym c.column.view_is) ∙ length-map column.ordinals _))

keeps_now : (was is : List (Text × ℕ)) (count next : ℕ) (rows now : List (List ℕ)) → is ≡ was → next ≡ count → now ≡ rows → Keeps was count rows → Keeps is next now
keeps_now was is count next rows now a b c keeps = subst (λ t. Keeps t next now) (sym a) (subst (λ n. Keeps was n now) (sym b) (subst (Keeps was count) (sym c) keeps))

pub invariant_of-result : goal.invariant_of-result
invariant_of-result c =
    let column = c.column.inside in
    let terms = column.terms.items in
    let rows = c.self.inside.rows.rows in
    let live = c.args.live.now in
    let old = c.self.inside.texts.items in
    let count = c.self.inside.count in
    let keeps : Keeps old count rows = c.self.invariant.keeps in
    let long : length live ≡ length column.ordinals = c.requires ∙ ap length (sym c.column.view_is) ∙ length-map column.ordinals _ in
    let texts = c.in_ok-add_terms.ensures ∙ ap (λ t. old ++ numbered_terms count t (map (list_any (contains live)) column.positions)) c.deref.ensures.value
    ∙ ap (λ u. old ++ numbered_terms count terms u) (used_are live column.ordinals (length terms) column.positions long c.column.invariant.placed) in
    let now = ap (λ l. l.rows) c.in_ok-add_rows.ensures in
    let more : c.in_ok-next.next ≡ count + c.terms.result = search rules in
    let size = c.terms.ensures ∙ ap (λ l. length (terms_of l)) (sym c.column.view_is) ∙ ap length c.column.invariant.complete in
    let next : c.in_ok-next.next ≡ count + length terms = omega (arith, more, size) in
    let kept = keeps_now _ c.add_terms.new.texts.items _ c.in_ok-next.next _ c.add_rows.new.self.rows texts next now (keeps_more old count rows keeps terms column.ordinals c.column.invariant.within c.column.invariant.ascending live) in
    record { keeps = kept; whole = ap (λ l. l.next) c.in_ok-add_rows.ensures }

pub returns : goal.returns
returns c =
    let column = c.column.inside in
    let terms = column.terms.items in
    let rows = c.self.inside.rows.rows in
    let live = c.args.live.now in
    let old = c.self.inside.texts.items in
    let count = c.self.inside.count in
    let keeps : Keeps old count rows = c.self.invariant.keeps in
    let long : length live ≡ length column.ordinals = c.requires ∙ ap length (sym c.column.view_is) ∙ length-map column.ordinals _ in
    let texts = c.in_ok-add_terms.ensures ∙ ap (λ t. old ++ numbered_terms count t (map (list_any (contains live)) column.positions)) c.deref.ensures.value
    ∙ ap (λ u. old ++ numbered_terms count terms u) (used_are live column.ordinals (length terms) column.positions long c.column.invariant.placed) in
    let now = ap (λ l. l.rows) c.in_ok-add_rows.ensures in
    ap₂ (λ t r. map (map (text_numbered t)) r) texts now
    ∙ all_texts old count rows keeps terms column.ordinals c.column.invariant.within c.column.invariant.ascending live
    ∙ ap₂ (λ a b. a ++ items_where_true live b) c.self.view_is c.column.view_is
