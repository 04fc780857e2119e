use Rattle.std.proofs.Common.{◌≡◌, ◌<◌, ◌+◌, ◌-◌, ◌++◌, ◌∷◌, [], length, get_or, vec_len, arith, sym, ◌∙◌, ap}
use Rattle.fc_docs.proofs.OneMore.{Count, in_last, behind_last, first_of_all}
use Rattle.fc_docs.proofs.document.counts.count_many.Goals as goal
use Rattle.fc_docs.proofs.document.counts.count_many.Goals.{in-Some+else-eq, in_default}

pub returns-then-eq : goal.returns-then-eq
returns-then-eq c =
    let cs = c.args.many.now.items in
    let place = vec_len c.args.many.now - 1 in
    let some : 0 < length cs = c.in-Some.ensures.item.3.0 in
    let at : (d : Count) → get_or cs place d ≡ c.in-Some.last.now = λ d. sym (c.in-Some.ensures.item.3.1 d) in
    let last : place + 1 ≡ length cs = omega arith in
    let more = rw c.in_ok-last.ensures.ok_part at c.checked_add.ensures in
    rw more.1 (in_last cs place c.in-Some.last.now c.args.field last at (sym c.if-eq.ensures))

pub returns : goal.returns
returns c =
    let cs = c.args.many.now.items in
    let place = vec_len c.args.many.now - 1 in
    let one : Count = (c.args.field, 1) in
    c.in_ok-push.ensures.items ∙ elim c.match-last_mut.branch [
      | in-Some+else-eq w ↦ (
          let some : 0 < length cs = w.in-Some.ensures.item.3.0 in
          let at : (d : Count) → get_or cs place d ≡ w.in-Some.last.now = λ d. sym (w.in-Some.ensures.item.3.1 d) in
          let last : place + 1 ≡ length cs = omega arith in
          ap (λ v. v.items ++ one ∷ []) w.many-is ∙ behind_last cs place w.in-Some.last.now c.args.field last at (sym w.if-eq.ensures))
      | in_default w ↦ ap (λ v. v.items ++ one ∷ []) w.many-is ∙ first_of_all cs c.args.field (let none = w.in_default.ensures.item.3 in omega arith)
    ]
