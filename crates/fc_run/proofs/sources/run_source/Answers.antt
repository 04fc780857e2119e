use Rattle.std.specs.Io.KnownBytes.{IsAtEnd}
use Rattle.fc_run.specs.Outcome.{too_many}
use Rattle.fc_run.proofs.scripts.Leaving.{left_of_all, left_of_many, undone}
use Rattle.fc_run.proofs.sources.run_source.Goals as goal

pub returns-in-Ok-Bytes-clause-left : goal.returns-in-Ok-Bytes-clause-left
returns-in-Ok-Bytes-clause-left g c =
    left_of_all c.run_script.result c.in-Ok-Bytes.bytes.items (g.S.Source.left c.args.source.now) (g.K.Sink.written c.args.sink.now) (g.K.Sink.written c.run_script.new.sink) (g.B.Book.books c.args.book.now) (g.B.Book.books c.run_script.new.book)
    (rw c.in-Ok-Bytes.field-0-is at c.in-Ok-Bytes.ensures.whole) c.run_script.ensures.left

pub returns-in-Ok-TooLong-clause-left : goal.returns-in-Ok-TooLong-clause-left
returns-in-Ok-TooLong-clause-left g c =
    left_of_many c.refuse_long.result (g.S.Source.left c.args.source.now) (g.S.Source.left c.read_all.new.source) (g.K.Sink.written c.args.sink.now) (g.K.Sink.written c.refuse_long.new.sink) (g.B.Book.books c.args.book.now) (g.B.Book.books c.args.book.now)
    (rw c.in-Ok-TooLong.field-0-is at c.in-Ok-TooLong.ensures.too_long) (c.refuse_long.ensures.left (g.B.Book.books c.args.book.now) (g.B.Book.books c.args.book.now))

pub returns-in-Ok-TooLong-clause-end : goal.returns-in-Ok-TooLong-clause-end
returns-in-Ok-TooLong-clause-end g c =
    let told = g.B.Book.books c.args.book.now in
    undone c.refuse_long.result too_many (g.K.Sink.written c.args.sink.now) (g.K.Sink.written c.refuse_long.new.sink) told told (IsAtEnd (g.S.Source.left c.read_all.new.source)) (c.refuse_long.ensures.left told told)
