use Rattle.std.proofs.Common.{ℕ, List, [], ◌∷◌}
use Rattle.json.specs.Token.{begin_array}
use Rattle.json.specs.Tree.{items_tokens}
use Rattle.serde_json.specs.Written.{items_outline}
use Rattle.fc_spec.specs.scripts.Lines.{numbers_data}
use Rattle.fc_reply.proofs.Appending.{appends_more, list_written}
use Rattle.fc_reply.proofs.line.write_numbers.Goals as goal

pub returns : goal.returns
returns c =
    let l = c.loop-number in
    let opened = c.in_ok-begin_array.ensures in
    let closed = c.in_ok-end_array.ensures in
    appends_more c.args.out.now c.begin_array.new.self c.end_array.new.self (begin_array ∷ []) (items_tokens (items_outline (numbers_data c.args.numbers.now))) (opened.room.0, opened.ok)
    (list_written (λ (ns : List ℕ). items_tokens (items_outline (numbers_data ns))) c.begin_array.new.self l.out c.end_array.new.self c.args.numbers.now l.number-index c.loop-number-test.false l.invariant.0 l.invariant.1 (closed.room.0, closed.ok))
