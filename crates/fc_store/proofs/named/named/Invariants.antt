use Rattle.std.proofs.Common.{◌≡◌, ◌++◌, take, drop, replicate, false}
use Rattle.fc_spec.specs.documents.Document.{Block}
use Rattle.fc_spec.specs.documents.Live.{left_set}
use Rattle.fc_spec.specs.documents.Operations.{blocks_added, is_named}
use Rattle.fc_spec.specs.documents.Totals.{document_total}
use Rattle.fc_store.specs.Named.{has_one_of, ops_of, texts_of}
use Rattle.fc_store.proofs.named.named.Given as goal

-- the operations from this one on are done: where the blocks before it end, which blocks of the others are left, and which ids those name
abbrev pub invariant-loop-at : goal.invariant-loop-at
invariant-loop-at l = record {
  end : l.end ≡ document_total (blocks_added (take l.at (ops_of l.ops)));
  left : l.left ≡ replicate l.end false ++ left_set (drop l.at (ops_of l.ops));
  named : (b : Block) → has_one_of (texts_of l.ids.keys) b ≡ is_named (drop l.at (ops_of l.ops)) b;
}
