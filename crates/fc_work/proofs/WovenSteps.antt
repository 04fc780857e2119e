-- Lines are woven one by one.
use Rattle.std.proofs.Common.{◌≡◌, ℕ, ◌+◌, ◌<◌, ◌≤◌, List, [], ◌∷◌, ◌++◌, length, drop, set, get_or, Option, Global, sym, ◌∙◌, ap, append_assoc, append-nil}
use Rattle.std.specs.declared.collections.VecDeque.{VecDeque}
use Rattle.std.proofs.lemmas.List.{drop_all, drop_more, get_or-map}
use Rattle.fc_spec.specs.documents.Val.{Text}
use Rattle.fc_spec.specs.messages.Trace.{Sent}
use Rattle.fc_spec.specs.scripts.SearchLines as definition
use Rattle.fc_spec.specs.scripts.SearchLines.{no_line, sent_for, text_of}
use Rattle.fc_work.specs.SearchLineView.{line_views}
use Rattle.fc_work.specs.Woven.{lines_at, lines_in, woven_by}
use Rattle.fc_work.specs.declared.search_line.SearchLine.{SearchLine}
use Rattle.fc_work.proofs.Placed.{placed}

abbrev Own : Type 0
Own = VecDeque SearchLine Global

-- the next session's line is the first, and is no longer among its lines
pub woven_next : (lines : List Own) (order : List ℕ) (i : ℕ) (d after : Own) (line : definition.SearchLine) → i < length order → get_or order i 0 < length lines
    → line ≡ get_or (line_views (get_or lines (get_or order i 0) d).items) 0 no_line → line_views after.items ≡ drop 1 (line_views (get_or lines (get_or order i 0) d).items)
    → line ∷ woven_by (lines_in (set lines (get_or order i 0) after)) (drop (i + 1) order) ≡ woven_by (lines_in lines) (drop i order)
woven_next lines order i d after line below within first rest =
    ap (λ l. l ∷ woven_by (lines_in (set lines c after)) (drop (i + 1) order)) (first ∙ ap (λ ts. get_or ts 0 no_line) (sym at))
    ∙ ap (λ all. get_or (lines_at (lines_in lines) c) 0 no_line ∷ woven_by all (drop (i + 1) order))
    (placed lines c after ∙ ap (set (lines_in lines) c) (rest ∙ ap (drop 1) (sym at)))
    ∙ ap (woven_by (lines_in lines)) (sym (drop_more order i 0 below))
  where
    c : ℕ
    c = get_or order i 0

    at : lines_at (lines_in lines) c ≡ line_views (get_or lines c d).items
    at = get_or-map (λ (own : Own). line_views own.items) lines c d [] within

-- so its text stands behind the text before it, and what was sent for it behind what was sent before
pub text_next : (text : Text) (line : definition.SearchLine) (rest all : List definition.SearchLine) → line ∷ rest ≡ all → (text ++ line.text) ++ text_of rest ≡ text ++ text_of all
text_next text line rest all is = append_assoc text line.text (text_of rest) ∙ ap (λ ls. text ++ text_of ls) is

pub sent_next : (sent : List (Option (List Sent))) (line : definition.SearchLine) (rest all : List definition.SearchLine) → line ∷ rest ≡ all
    → (sent ++ line.sent ∷ []) ++ sent_for rest ≡ sent ++ sent_for all
sent_next sent line rest all is = append_assoc sent (line.sent ∷ []) (sent_for rest) ∙ ap (λ ls. sent ++ sent_for ls) is

pub text_done : (text : Text) (lines : List Own) (order : List ℕ) (i : ℕ) → length order ≤ i → text ++ text_of (woven_by (lines_in lines) (drop i order)) ≡ text
text_done text lines order i past = ap (λ left. text ++ text_of (woven_by (lines_in lines) left)) (drop_all i order past) ∙ append-nil text

pub sent_done : (sent : List (Option (List Sent))) (lines : List Own) (order : List ℕ) (i : ℕ) → length order ≤ i → sent ++ sent_for (woven_by (lines_in lines) (drop i order)) ≡ sent
sent_done sent lines order i past = ap (λ left. sent ++ sent_for (woven_by (lines_in lines) left)) (drop_all i order past) ∙ append-nil sent
