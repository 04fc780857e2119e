use Rattle.std.proofs.Common.{◌≡◌, ◌<◌, ◌++◌, ◌∷◌, [], length, get_or, map, subst, sym, ap, ◌∙◌, arith, rules}
use Rattle.std.proofs.lemmas.Bool.{MatchBool-at_true, MatchBool-at_false}
use Rattle.std.proofs.lemmas.List.{get_or-map, length-map, take_all}
use Rattle.fc_lists.specs.Heads.{AreHeads}
use Rattle.fc_lists.proofs.FirstEntries.{HeadsSoFar, rising_map, heads_step_new, heads_step_old, heads_whole}
use Rattle.fc_lists.proofs.rows.heads.Goals as goal
use Rattle.fc_lists.proofs.rows.heads.Goals.{then-is_head+in_ok-push+in_ok-push-2, else-is_head}

pub loop-place-preserved : goal.loop-place-preserved
loop-place-preserved g c =
    let entries = c.args.entries.now in
    let all = map (λ (entry : _). entry.at) entries in
    let i = c.loop-place.place in
    let entry = c.index-entries-place.result in
    let within : i < length all = omega (arith, length-map entries (λ entry. entry.at)) in
    let here : entry.at ≡ get_or all i 0 =
    ap (λ entry. entry.at) c.index-entries-place.is ∙ sym (get_or-map (λ entry. entry.at) entries i entry 0 (omega arith)) in
    elim c.if-is_head.branch [
      | then-is_head+in_ok-push+in_ok-push-2 w ↦
          let positions : c.if-is_head.positions.items ≡ c.loop-place.positions.items ++ entry.at ∷ [] = search rules in
          let starts : c.if-is_head.starts.items ≡ c.loop-place.starts.items ++ i ∷ [] = search rules in
          heads_step_new all i entry.at c.loop-place.positions.items c.loop-place.starts.items c.if-is_head.positions.items c.if-is_head.starts.items
          within here positions starts c.loop-place.invariant (MatchBool-at_true _ _ w.if-is_head.true c.is_head.ensures)
      | else-is_head w ↦
          rw (w.positions-is, w.starts-is) (heads_step_old all i c.loop-place.positions.items c.loop-place.starts.items within
          (rising_map (λ entry. entry.at) entries c.requires.rising) c.loop-place.invariant (MatchBool-at_false _ _ w.if-is_head.false c.is_head.ensures))
    ]

pub returns : goal.returns
returns g c =
    let entries = c.args.entries.now in
    let all = map (λ (entry : _). entry.at) entries in
    let size = length-map entries (λ entry. entry.at) in
    let whole = subst (λ l. HeadsSoFar l c.loop-place.positions.items c.loop-place.starts.items) (take_all c.loop-place.place all (omega arith)) c.loop-place.invariant in
    let starts : c.push-2.new.self.items ≡ c.loop-place.starts.items ++ length entries ∷ [] = search rules in
    rw starts (subst (λ n. AreHeads all c.loop-place.positions.items (c.loop-place.starts.items ++ n ∷ [])) size (heads_whole all c.loop-place.positions.items c.loop-place.starts.items whole))
