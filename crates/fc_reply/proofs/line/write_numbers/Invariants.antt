use Rattle.std.proofs.Common.{◌≡◌, ◌++◌, drop}
use Rattle.json.specs.Tree.{items_tokens}
use Rattle.serde_json.specs.Written.{items_outline}
use Rattle.fc_spec.specs.scripts.Lines.{numbers_data}
use Rattle.fc_reply.proofs.line.write_numbers.Given as goal

abbrev pub invariant-loop-number : goal.invariant-loop-number
invariant-loop-number l =
    (l.out.before ≡ l.initial.out.before)
    × (l.out.tokens ++ items_tokens (items_outline (numbers_data (drop l.number-index l.numbers))) ≡ l.initial.out.tokens ++ items_tokens (items_outline (numbers_data l.numbers)))
