use Rattle.std.proofs.Common.{◌≡◌, ◌∙◌, ◌+◌, ◌++◌, [], ℕ, Bool, List, length, true, get_or, map, sym, ap, arith}
use Rattle.std.proofs.lemmas.List.{get_or-map, length-map}
use Rattle.std.proofs.lemmas.List.Elements.{All-map}
use Rattle.std.proofs.lemmas.Result.{on_ok_weaker}
use Rattle.fc_spec.proofs.words.WhereTrue.{items_where_true-map}
use Rattle.fc_docset.specs.Positions.{contains}
use Rattle.fc_lists.proofs.FilledRows.{contained, none_added, empty_added, one_added, all_added, kept_if_filled, empty_beside, beside_changed}
use Rattle.fc_lists.proofs.entries.Entries+u32.add_rows.Goals as goal

abbrev moved : ℕ → List (List ℕ) → List (List ℕ)
moved more rows = map (map (λ n. n + more)) rows

long : (live : List Bool) (more : ℕ) (rows : List (List ℕ)) → length live ≡ length rows → length live ≡ length (moved more rows)
long live more rows size = size ∙ sym (length-map rows (map (λ n. n + more)))

moved_at : (live : List Bool) (more at : ℕ) (rows : List (List ℕ)) (row : List ℕ) → length live ≡ length rows → contains live at ≡ true → row ≡ get_or rows at []
    → map (λ n. n + more) row ≡ get_or (moved more rows) at []
moved_at live more at rows row size here is =
    ap (map (λ n. n + more)) is ∙ sym (get_or-map (map (λ n. n + more)) rows at [] [] (let within = contained live at here in omega arith))

pub loop-at-init : goal.loop-at-init
loop-at-init c = none_added c.args.live.now (moved c.args.more c.args.rows.now) c.args.self.now c.requires.whole

pub kept_between-requires-clause-within : goal.kept_between-requires-clause-within
kept_between-requires-clause-within c =
    let here = kept_if_filled c.args.live.now c.args.rows.now c.in_ok-filled.filled c.in_ok-filled.ensures c.in-Some.at c.in-Some.ensures.found.member in
    omega (arith, contained c.args.live.now c.in-Some.at here)

pub row-requires : goal.row-requires
row-requires c =
    let here = kept_if_filled c.args.live.now c.args.rows.now c.in_ok-filled.filled c.in_ok-filled.ensures c.in-Some.at c.in-Some.ensures.found.member in
    omega (arith, contained c.args.live.now c.in-Some.at here, c.requires.length)

pub loop-at-preserved : goal.loop-at-preserved
loop-at-preserved c =
    let here = kept_if_filled c.args.live.now c.args.rows.now c.in_ok-filled.filled c.in_ok-filled.ensures c.in-Some.at c.in-Some.ensures.found.member in
    one_added c.args.live.now c.in_ok-filled.filled (moved c.args.more c.args.rows.now) (long c.args.live.now c.args.more c.args.rows.now c.requires.length)
    (beside_changed (λ n. n + c.args.more) c.args.live.now c.in_ok-filled.filled c.args.rows.now c.requires.length
    (empty_beside c.args.live.now c.args.rows.now c.in_ok-filled.filled c.requires.length c.in_ok-filled.ensures))
    c.args.self.now.rows c.loop-at.self c.skip-in-Some.new.self c.add_row.new.self c.loop-at.from c.in-Some.at c.kept_between.result
    (map (λ n. n + c.args.more) c.row.result.now)
    c.loop-at.invariant c.in-Some.ensures.found here c.kept_between.ensures
    (moved_at c.args.live.now c.args.more c.in-Some.at c.args.rows.now c.row.result.now c.requires.length here c.row.ensures)
    c.in_ok-skip.ensures.ok c.in_ok-add_row.ensures

pub loop-at-smaller : goal.loop-at-smaller
loop-at-smaller c =
    let here = kept_if_filled c.args.live.now c.args.rows.now c.in_ok-filled.filled c.in_ok-filled.ensures c.in-Some.at c.in-Some.ensures.found.member in
    omega (arith, contained c.args.live.now c.in-Some.at here, c.in-Some.ensures.found.behind)

pub returns-then-are_empty : goal.returns-then-are_empty
returns-then-are_empty c =
    on_ok_weaker c.skip.result
    (λ is. empty_added c.args.live.now (moved c.args.more c.args.rows.now) c.args.self.now c.skip.new.self c.count.result
    (long c.args.live.now c.args.more c.args.rows.now c.requires.length)
    (All-map (λ row. row ≡ []) (map (λ n. n + c.args.more)) c.args.rows.now (λ k d inside. ap (map (λ n. n + c.args.more)) (c.if-are_empty.ensures k d inside)))
    c.count.ensures is
    ∙ ap (λ l. record { rows = c.args.self.now.rows ++ l; next = [] }) (items_where_true-map (map (λ n. n + c.args.more)) c.args.live.now c.args.rows.now))
    c.skip.ensures.ok

pub returns : goal.returns
returns c =
    on_ok_weaker c.skip-2.result
    (λ is. all_added c.args.live.now c.in_ok-filled.filled (moved c.args.more c.args.rows.now) (long c.args.live.now c.args.more c.args.rows.now c.requires.length)
    (beside_changed (λ n. n + c.args.more) c.args.live.now c.in_ok-filled.filled c.args.rows.now c.requires.length
    (empty_beside c.args.live.now c.args.rows.now c.in_ok-filled.filled c.requires.length c.in_ok-filled.ensures))
    c.args.self.now.rows c.loop-at.self c.skip-2.new.self c.loop-at.from c.kept_between-2.result c.len.result c.loop-at.invariant c.in_default.ensures.found c.len.ensures c.kept_between-2.ensures is
    ∙ ap (λ l. record { rows = c.args.self.now.rows ++ l; next = [] }) (items_where_true-map (map (λ n. n + c.args.more)) c.args.live.now c.args.rows.now))
    c.skip-2.ensures.ok
