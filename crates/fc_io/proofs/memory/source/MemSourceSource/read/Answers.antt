use Rattle.std.proofs.Common.{ap, length, arith}
use Rattle.fc_io.proofs.Supply.{front_given, none_left}
use Rattle.fc_io.proofs.memory.source.MemSourceSource.read.Goals as goal

pub returns-then-n-eq0-clause-end : goal.returns-then-n-eq0-clause-end
returns-then-n-eq0-clause-end c =
    none_left c.self.inside.bytes.items c.deref.result.now _ c.self.inside.at c.self.inside.piece (length c.copy_front-n.new.to) c.copy_front-n.result
    c.deref.ensures.value (ap (λ s. s.left) c.self.view_is) c.self.invariant.1 (omega arith) c.copy_front-n.ensures.count c.if-n-eq0.true

pub returns-clause-bytes : goal.returns-clause-bytes
returns-clause-bytes c =
    front_given c.self.inside.bytes.items c.deref.result.now c.copy_front-n.new.to _ c.self.inside.at c.copy_front-n.result
    c.deref.ensures.value (ap (λ s. s.left) c.self.view_is) c.copy_front-n.ensures.copied
