use Rattle.std.proofs.Common.{◌-◌, map, sym, arith}
use Rattle.std.proofs.lemmas.List.{get_or-map, length-map}
use Rattle.fc_lists.proofs.FirstEntries.{rising_map, head_decides}
use Rattle.fc_lists.proofs.rows.is_head.Goals as goal

pub returns-else-place-eq0 : goal.returns-else-place-eq0
returns-else-place-eq0 g c =
    let entries = c.args.entries.now in
    let all = map (λ (entry : _). entry.at) entries in
    let place = c.args.place in
    head_decides all place _ _ (rising_map (λ entry. entry.at) entries c.requires.rising) (omega arith) (omega (arith, length-map entries (λ entry. entry.at)))
    (sym (get_or-map (λ entry. entry.at) entries (place - 1) _ 0 (omega arith)))
    (sym (get_or-map (λ entry. entry.at) entries place _ 0 (omega arith)))
