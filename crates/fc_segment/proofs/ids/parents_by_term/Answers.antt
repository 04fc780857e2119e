use Rattle.std.proofs.Common.{◌≡◌, ◌<◌, ◌∙◌, ◌++◌, ◌∷◌, [], ℕ, List, All, length, map, ap, ap₂, sym, subst, arith}
use Rattle.std.specs.List.{range_with_len}
use Rattle.std.specs.List.Sorted.{IsStrictlyIncreasing}
use Rattle.std.proofs.lemmas.List.Elements.{All-push, All-weaker}
use Rattle.std.proofs.lemmas.List.FromFn.{map-range_with_len_more}
use Rattle.fc_docset.specs.Positions.{positions}
use Rattle.fc_lists.specs.Among.{is_among}
use Rattle.fc_column.specs.Terms.{terms_of}
use Rattle.fc_segment.specs.Ids.{parent_ordinals, AreOrdinals}
use Rattle.fc_segment.proofs.ParentTexts.{lists_are}
use Rattle.fc_segment.proofs.ids.parents_by_term.Goals as goal

pub loop-at-preserved : goal.loop-at-preserved
loop-at-preserved c =
    let row = parent_ordinals c.args.ids.now c.args.parents.now in
    let at = c.loop-at.at in
    let more = map-range_with_len_more row 0 at at (omega arith) in
    record {
      entries = c.in_ok-push_document.ensures.entries
          ∙ ap (λ (rows : List (List ℕ)). record { rows = rows ++ row at ∷ []; next = [] }) (ap (λ e. e.rows) c.loop-at.invariant.entries)
          ∙ ap (λ (rows : List (List ℕ)). record { rows = rows; next = [] }) (sym more);
      ordinals = subst (All (AreOrdinals c.args.ids.now)) (sym more) (All-push (AreOrdinals c.args.ids.now) (map row (range_with_len 0 at)) (row at) c.loop-at.invariant.ordinals c.push_document.ensures.ordinals);
    }

pub positions-requires-clause-within : goal.positions-requires-clause-within
positions-requires-clause-within c =
    let texts = c.args.ids.now in
    let rows = map (parent_ordinals texts c.args.parents.now) (range_with_len 0 c.loop-at.at) in
    subst (All (All (λ ord. ord < c.terms.result))) (sym (ap (λ e. e.rows) c.loop-at.invariant.entries))
    (subst (λ n. All (All (λ ord. ord < n)) rows) (sym c.terms.ensures)
    (All-weaker (AreOrdinals texts) (All (λ ord. ord < length (terms_of texts))) (λ ordinals are. are.within) rows c.loop-at.invariant.ordinals))

pub positions-requires-clause-rising : goal.positions-requires-clause-rising
positions-requires-clause-rising c =
    let texts = c.args.ids.now in
    let rows = map (parent_ordinals texts c.args.parents.now) (range_with_len 0 c.loop-at.at) in
    subst (All IsStrictlyIncreasing) (sym (ap (λ e. e.rows) c.loop-at.invariant.entries))
    (All-weaker (AreOrdinals texts) IsStrictlyIncreasing (λ ordinals are. are.ascending) rows c.loop-at.invariant.ordinals)

pub returns : goal.returns
returns c =
    let texts = c.args.ids.now in
    let parents = c.args.parents.now in
    let all : c.loop-at.at ≡ length texts = omega (arith, c.len-at-end.ensures) in
    c.in_ok-lists.ensures
    ∙ ap₂ (λ (rows : List (List ℕ)) n. map (λ number. positions (map (is_among number) rows)) (range_with_len 0 n))
    (ap (λ e. e.rows) c.loop-at.invariant.entries ∙ ap (λ n. map (parent_ordinals texts parents) (range_with_len 0 n)) all) c.terms.ensures
    ∙ lists_are texts parents c.requires
