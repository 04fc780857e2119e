use Rattle.fc_demo.proofs.Joining.{seven_joined}
use Rattle.fc_demo.proofs.document.push_added.Goals as goal

pub returns : goal.returns
returns c =
    seven_joined _ _ _ _ _ _ _ _ _ _ _ _ _ _ _ c.in_ok-push_number.ensures c.in_ok-push_number-2.ensures c.in_ok-push_number-3.ensures c.in_ok-push_number-4.ensures
    c.in_ok-push_number-5.ensures c.in_ok-push_number-6.ensures c.in_ok-extend_from_slice.ensures.items
