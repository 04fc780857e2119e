use Rattle.std.proofs.Common.{◌≡◌, ◌<◌, [], List, ℕ, length, All, get_or, map, cond, sym, ap, ◌∙◌, subst, arith, eqb-true}
use Rattle.std.specs.List.{range_with_len}
use Rattle.std.specs.Prelude.{vec_len}
use Rattle.std.proofs.lemmas.Bool.{OnTrue_from}
use Rattle.std.proofs.lemmas.List.FromFn.{length-map-range_with_len, get_or-map-range_with_len}
use Rattle.fc_spec.proofs.documents.WordBits.{has_bit_past}
use Rattle.fc_lists.specs.Ranks.{bits_below}
use Rattle.fc_lists.specs.Rows.{row_at}
use Rattle.fc_lists.proofs.rows.Rows.are_empty.Goals as goal

-- there are no rows without words
all_empty : {T : Type 0} (words : List ℕ) (lists : List (List T)) (len : ℕ) → length words ≡ 0 → All (λ row. row ≡ []) (map (row_at words lists) (range_with_len 0 len))
all_empty words lists len none k d inside =
    let within : k < len = omega (arith, length-map-range_with_len (row_at words lists) 0 len) in
    get_or-map-range_with_len (row_at words lists) 0 len k k d within (omega arith)
    ∙ ap (λ b. cond b (get_or lists (bits_below k words) []) []) (has_bit_past words k (omega arith))

pub returns : goal.returns
returns g c =
    let inside = c.self.inside in
    OnTrue_from c.is_empty.result (All (λ row. row ≡ []) c.args.self.now) (λ empty.
    let none = eqb-true (vec_len inside.words) 0 (sym c.is_empty.ensures ∙ empty) in
    subst (All (λ row. row ≡ [])) c.self.view_is (all_empty inside.words.items inside.lists inside.len (omega (arith, none, c.self.invariant.counts))))
