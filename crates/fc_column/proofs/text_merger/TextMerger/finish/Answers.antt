use Rattle.std.proofs.Common.{◌≡◌, ◌∙◌, ◌<◌, ℕ, List, map, length, All, ap, ap₂, sym, subst, arith}
use Rattle.std.specs.List.{list_any, range_with_len}
use Rattle.fc_docset.specs.Positions.{positions}
use Rattle.fc_spec.specs.documents.Val.{Text, text_cmp}
use Rattle.fc_spec.specs.documents.Columns.{IsAscending}
use Rattle.fc_lists.specs.Among.{is_among}
use Rattle.fc_column.specs.Dictionary.{term_at}
use Rattle.fc_column.specs.MergedTerms.{ArePlaced}
use Rattle.fc_column.specs.Terms.{has_text}
use Rattle.fc_column.proofs.ColumnTerms.{terms_are}
use Rattle.fc_column.proofs.TermPositions.{rows_rise}
use Rattle.fc_column.proofs.MergedColumn.{sorted_below, sorted_one, all_placed, numbers_within, rows_placed, places_within, same_texts}
use Rattle.fc_column.proofs.text_merger.TextMerger.finish.Goals as goal

pub terms_and_places-requires-clause-below : goal.terms_and_places-requires-clause-below
terms_and_places-requires-clause-below c = sorted_below c.self.inside.texts.items c.in_ok-texts.texts.items c.self.inside.count c.in_ok-texts.ensures.same c.self.invariant.keeps.below

pub terms_and_places-requires-clause-one : goal.terms_and_places-requires-clause-one
terms_and_places-requires-clause-one c = sorted_one c.self.inside.texts.items c.in_ok-texts.texts.items c.in_ok-texts.ensures.same c.self.invariant.keeps.one

pub renumber-requires-clause-within : goal.renumber-requires-clause-within
renumber-requires-clause-within c = λ k d inside j e there.
    let less = numbers_within c.self.inside.texts.items c.self.inside.rows.rows c.self.inside.count c.self.invariant.keeps.below c.self.invariant.keeps.numbered k d inside j e there in
    omega (arith, less, c.in_ok-terms.ensures.len, ap length c.deref.ensures.value)

pub positions-requires-clause-within : goal.positions-requires-clause-within
positions-requires-clause-within c =
    let kept = c.self.invariant.keeps in
    let texts = c.self.inside.texts.items in
    let rows = c.self.inside.rows.rows in
    let terms = c.in_ok-terms.terms.items in
    let made = c.in_ok-terms.ensures in
    let places = c.deref.result.now in
    let placed = all_placed texts c.in_ok-texts.texts.items terms places rows c.in_ok-texts.ensures.same (subst (λ p. ArePlaced terms p c.in_ok-texts.texts.items) (sym c.deref.ensures.value) made.placed) kept.numbered in
    let now = ap (λ l. l.rows) c.renumber.ensures in
    let within = subst (All (All (λ ord. ord < length terms))) (sym now) (places_within texts terms places rows placed) in
    let count : length terms ≡ c.len.result = omega (arith, c.len.ensures) in
    subst (λ n. All (All (λ ord. ord < n)) c.renumber.new.self.rows) count within

pub positions-requires-clause-rising : goal.positions-requires-clause-rising
positions-requires-clause-rising c =
    let kept = c.self.invariant.keeps in
    let texts = c.self.inside.texts.items in
    let rows = c.self.inside.rows.rows in
    let terms = c.in_ok-terms.terms.items in
    let made = c.in_ok-terms.ensures in
    let places = c.deref.result.now in
    let placed = all_placed texts c.in_ok-texts.texts.items terms places rows c.in_ok-texts.ensures.same (subst (λ p. ArePlaced terms p c.in_ok-texts.texts.items) (sym c.deref.ensures.value) made.placed) kept.numbered in
    let now = ap (λ l. l.rows) c.renumber.ensures in
    let within = subst (All (All (λ ord. ord < length terms))) (sym now) (places_within texts terms places rows placed) in
    let column = ap (map (map (term_at terms))) now ∙ rows_placed texts terms places rows placed in
    rows_rise terms made.ascending c.renumber.new.self.rows within (subst (All (IsAscending text_cmp)) (sym column) kept.ascending)

pub invariant_of-result : goal.invariant_of-result
invariant_of-result c =
    let kept = c.self.invariant.keeps in
    let texts = c.self.inside.texts.items in
    let rows = c.self.inside.rows.rows in
    let terms = c.in_ok-terms.terms.items in
    let made = c.in_ok-terms.ensures in
    let places = c.deref.result.now in
    let placed = all_placed texts c.in_ok-texts.texts.items terms places rows c.in_ok-texts.ensures.same (subst (λ p. ArePlaced terms p c.in_ok-texts.texts.items) (sym c.deref.ensures.value) made.placed) kept.numbered in
    let now = c.in_ok-ordinals.ensures ∙ ap (λ l. l.rows) c.renumber.ensures in
    let column = ap (map (map (term_at terms))) now ∙ rows_placed texts terms places rows placed in
    let used = λ (t : Text). made.texts t ∙ same_texts t texts c.in_ok-texts.texts.items c.in_ok-texts.ensures.same ∙ kept.used t ∙ ap (list_any (has_text t)) (sym column) in
    record {
      complete = terms_are terms (map (map (term_at terms)) c.in_ok-ordinals.ordinals) made.ascending used;
      sorted = made.ascending;
      small = made.few;
      within = subst (All (All (λ ord. ord < length terms))) (sym now) (places_within texts terms places rows placed);
      ascending = subst (All (IsAscending text_cmp)) (sym column) kept.ascending;
      placed = let count : c.len.result ≡ length terms = omega (arith, c.len.ensures) in
          c.in_ok-positions.ensures
          ∙ ap₂ (λ (l : List (List ℕ)) n. map (λ ord. positions (map (is_among ord) l)) (range_with_len 0 n)) (sym c.in_ok-ordinals.ensures) count;
    }

pub returns : goal.returns
returns c =
    let kept = c.self.invariant.keeps in
    let texts = c.self.inside.texts.items in
    let rows = c.self.inside.rows.rows in
    let terms = c.in_ok-terms.terms.items in
    let made = c.in_ok-terms.ensures in
    let places = c.deref.result.now in
    let placed = all_placed texts c.in_ok-texts.texts.items terms places rows c.in_ok-texts.ensures.same (subst (λ p. ArePlaced terms p c.in_ok-texts.texts.items) (sym c.deref.ensures.value) made.placed) kept.numbered in
    ap (map (map (term_at terms))) (c.in_ok-ordinals.ensures ∙ ap (λ l. l.rows) c.renumber.ensures) ∙ rows_placed texts terms places rows placed ∙ c.self.view_is
