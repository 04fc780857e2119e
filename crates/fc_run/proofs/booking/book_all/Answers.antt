use Rattle.std.proofs.Common.{◌≡◌, ◌<◌, ◌∙◌, ap, get_or, length, subst, sym, arith}
use Rattle.std.specs.Prelude.{IfSome}
use Rattle.std.proofs.lemmas.List.{get_or-map, length-map}
use Rattle.fc_spec.specs.laws.TraceLaws.{Ascend}
use Rattle.fc_work.specs.Phased.{sent_in}
use Rattle.fc_work.specs.SearchLineView.{sent_list}
use Rattle.fc_run.proofs.booking.book_all.Goals as goal

pub book_one-requires : goal.book_one-requires
book_one-requires g c =
    let sent = c.args.sent.now in
    let i = c.loop-one.one-index in
    let one = c.one-item.result in
    let below : i < length sent = c.loop-one-test.true in
    let within : i < length (sent_in sent) = (let same = length-map sent sent_list in omega (arith, same, below)) in
    let here : sent_list one ≡ get_or (sent_in sent) i (sent_list one) = ap sent_list c.one-item.is ∙ sym (get_or-map sent_list sent i one (sent_list one) below) in
    subst (λ o. IfSome o Ascend) (sym here) (c.requires.ascend i (sent_list one) within)
