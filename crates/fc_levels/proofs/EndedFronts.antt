-- The jobs that have ended stand in front of those of the message that will be.
use Rattle.std.proofs.Common.{◌≡◌, ℕ, List, [], ◌∷◌, ◌++◌, map, reverse, sym, ap, ◌∙◌, append_assoc, append-nil}
use Rattle.fc_spec.specs.messages.Message.{Partials, partial, row}
use Rattle.fc_partial.specs.BucketView.{bucket_view, linked, linked_rows, node_view}
use Rattle.fc_partial.specs.StatsView.{stats_view}
use Rattle.fc_partial.specs.View.{key_view}
use Rattle.fc_request.specs.NodeView.{nodes_view}
use Rattle.fc_answers.specs.SetAnswer.{Pieces, Scope, set_rows}
use Rattle.fc_levels.specs.declared.level.Level.{Level}
use Rattle.fc_levels.specs.Jobs.{opened, opened_inside, opened_in_rows, openings_of}
use Rattle.fc_levels.specs.Levels.{around, ended_in, ended_inside, entry_of, filled, nested_in, open_scope, open_sets, plug, put_rows}
use Rattle.fc_levels.proofs.Putting.{inside_put, inside_put_rows}

five : {A : Type 0} (a b c d e : List A) → a ++ ((b ++ (c ++ d)) ++ e) ≡ (a ++ b) ++ (c ++ (d ++ e))
five a b c d e = ap (λ x. a ++ x) (append_assoc b (c ++ d) e ∙ ap (λ x. b ++ x) (append_assoc c d e)) ∙ sym (append_assoc a b (c ++ (d ++ e)))

-- the jobs inside a level's buckets: those that have ended, those of the list under way, and the others
around_inside : (o : Scope) (V : Pieces) (l : Level) (ps : Partials) → (rest : List ℕ) × (opened_inside (around o V l ps) ≡ ended_inside l ++ (openings_of ps ++ rest))
around_inside o V l ps =
    let left = set_rows (open_scope o l) V (nodes_view l.left.now) (open_sets V l) in
    let wait = filled o V (nested_in l) l.domain.items (map entry_of (reverse l.wait.items)) in
    let rows = put_rows (map node_view l.rows.items) (row ps left) in (
      opened_in_rows left ++ opened_inside wait,
      inside_put (map bucket_view l.done.items) (partial (key_view l.key) (stats_view l.stats) rows wait)
          ∙ ap (λ xs. opened_inside (linked (map bucket_view l.done.items)) ++ (xs ++ opened_inside wait)) (inside_put_rows (map node_view l.rows.items) (row ps left))
          ∙ five (opened_inside (linked (map bucket_view l.done.items))) (opened_in_rows (linked_rows (map node_view l.rows.items))) (openings_of ps) (opened_in_rows left) (opened_inside wait),
    )

-- those of the levels, then those of the list under way in the innermost, then others
pub ended_is_front : (o : Scope) (V : Pieces) (ls : List Level) (ps : Partials) → (rest : List ℕ) × (openings_of (plug o V ls ps) ≡ ended_in o V ls ps ++ (openings_of ps ++ rest))
ended_is_front o V [] ps = ([], sym (append-nil (openings_of ps)))
ended_is_front o V (l ∷ ls) ps =
    let o' = open_scope o l in
    let inner = ended_is_front o' V ls ps in
    let outer = around_inside o V l (plug o' V ls ps) in
    let top = opened (around o V l (plug o' V ls ps)) in (
      inner.0 ++ outer.0,
      ap (λ xs. top ∷ xs) (outer.1 ∙ ap (λ xs. ended_inside l ++ (xs ++ outer.0)) inner.1
          ∙ ap (λ xs. ended_inside l ++ xs) (append_assoc (ended_in o' V ls ps) (openings_of ps ++ inner.0) outer.0 ∙ ap (λ xs. ended_in o' V ls ps ++ xs) (append_assoc (openings_of ps) inner.0 outer.0))
          ∙ sym (append_assoc (ended_inside l) (ended_in o' V ls ps) (openings_of ps ++ (inner.0 ++ outer.0)))),
    )
