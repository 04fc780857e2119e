use Rattle.std.proofs.Common.{◌<◌, ◌≤◌, take, arith}
use Rattle.std.proofs.lemmas.List.{length-take-le}
use Rattle.fc_io.proofs.Known.{TakesSome-two, OnErr-always}
use Rattle.fc_io.proofs.reading.read_all.Goals as goal

pub returns-in-Bytes-clause-too_long : goal.returns-in-Bytes-clause-too_long
returns-in-Bytes-clause-too_long g c =
    let n = c.in-Bytes.n in
    let piece = c.read.new.buf in
    let given = length-take-le n piece c.in-Bytes.ensures.count.1 in
    TakesSome-two _ (g.S.Source.left c.loop-n.source) _ c.loop-n.all.items (take n piece) (λ k. c.args.limit < k)
    c.loop-n.invariant.0 c.in-Bytes.ensures.bytes (omega (arith, given))

pub returns-in_err-extend_from_slice-in-Bytes-2-clause-memory_within : goal.returns-in_err-extend_from_slice-in-Bytes-2-clause-memory_within
returns-in_err-extend_from_slice-in-Bytes-2-clause-memory_within g c =
    let n = c.in-Bytes-2.n in
    let piece = c.read.new.buf in
    let given = length-take-le n piece c.in-Bytes-2.ensures.count.1 in
    OnErr-always _ _
    (TakesSome-two _ (g.S.Source.left c.loop-n.source) _ c.loop-n.all.items (take n piece) (λ k. k ≤ c.args.limit)
    c.loop-n.invariant.0 c.in-Bytes-2.ensures.bytes (omega (arith, given)))
