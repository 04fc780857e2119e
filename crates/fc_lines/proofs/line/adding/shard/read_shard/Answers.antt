use Rattle.std.proofs.Common.{◌≡◌, Some, ap, ◌∙◌, rules, w64, to_z, of_z, pos}
use Rattle.fc_lines.proofs.AddingLines.{natural_is, shard_given}
use Rattle.fc_lines.proofs.line.adding.shard.read_shard.Goals as goal

pub returns-in-Ok : goal.returns-in-Ok
returns-in-Ok c =
    let z = c.in_ok-integer_of.field-0 in
    let same : to_z w64 (of_z w64 z) ≡ z = search rules in
    let number = rw same at c.in-Ok.ensures in
    let is : z ≡ pos c.in-Ok.number = natural_is z c.in-Ok.number number.0 number.1 in
    let first = rw c.in-Some-Number.field-0-is at c.in-Some-Number.ensures.value in
    rw first (shard_given c.args.shards c.in-Ok.number c.in-Some-Number.digits.now c.next.new.self (c.in_ok-integer_of.ensures ∙ ap Some is) c.if-number-shards.true)
