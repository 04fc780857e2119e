use Rattle.std.proofs.Common.{◌≡◌, ◌++◌, Vec, Global, Err, length, map, refl, sym, ap, ◌∙◌, subst, arith}
use Rattle.std.specs.Io.KnownBytes.{Appends}
use Rattle.std.specs.Prelude.{All, IfSome, option_map}
use Rattle.std.proofs.lemmas.List.{length-map}
use Rattle.fc_spec.specs.laws.TraceLaws.{Ascend}
use Rattle.fc_spec.specs.replies.Replied.{replied}
use Rattle.fc_spec.specs.scripts.Booked.{book_all}
use Rattle.fc_spec.specs.scripts.SearchLines.{SearchLine, ArePhaseLines, sent_for, text_of}
use Rattle.fc_script.specs.PartsView.{search_view}
use Rattle.fc_work.specs.Phased.{sent_in}
use Rattle.fc_work.specs.SearchLineView.{sent_list}
use Rattle.fc_run.specs.Booking.{AreBookedLines}
use Rattle.fc_run.specs.Phased.{chartered_batches, numbers_before}
use Rattle.fc_run.specs.Progress.{progress_of}
use Rattle.fc_run.specs.declared.commits.Committed.{Committed}
use Rattle.fc_run.proofs.scripts.Bookings.{line_count}
use Rattle.fc_run.proofs.scripts.Written.{part_next}
use Rattle.fc_run.proofs.phases.write_phase.Goals as goal

pub book_all-requires-clause-numbers : goal.book_all-requires-clause-numbers
book_all-requires-clause-numbers g c =
    let shards = map progress_of c.args.shards.items in
    let p = c.args.phase in
    let adds = c.in_ok-ran.ensures.text 0 in
    let sent = c.in_ok-ran.ran.sent.items in
    let own : length sent ≡ length (sent_in sent) = sym (length-map sent sent_list) in
    let same = ap length adds.2 in
    let listed = length-map adds.0 (λ (l : SearchLine). l.sent) in
    let lines = line_count replied (chartered_batches shards p.commits.items) p.commits.items (λ session. numbers_before shards) (map (search_view c.args.names.now 0) p.searches.items) adds.0 adds.3 in
    let asked = length-map p.searches.items (search_view c.args.names.now 0) in
    let few = c.requires.numbers in
    let value = ap length c.deref.ensures.value in
    omega (arith, own, same, listed, lines, asked, few, value)

pub book_all-requires-clause-ascend : goal.book_all-requires-clause-ascend
book_all-requires-clause-ascend g c =
    let shards = map progress_of c.args.shards.items in
    let p = c.args.phase in
    let adds = c.in_ok-ran.ensures.text 0 in
    subst (λ own. All (λ one. IfSome one Ascend) (sent_in own)) (sym c.deref.ensures.value)
    (subst (All (λ one. IfSome one Ascend)) (sym adds.2)
    (c.phases_write_outputs.ensures.ascend replied (chartered_batches shards p.commits.items) p.commits.items (λ session. numbers_before shards) (map (search_view c.args.names.now 0) p.searches.items) adds.0 adds.3))

pub returns-in-Ok-clause-written : goal.returns-in-Ok-clause-written
returns-in-Ok-clause-written g c number =
    let adds = c.in_ok-ran.ensures.text number in
    let before = g.B.Book.books c.args.book.now in
    let own : c.deref-2.result.now ≡ text_of adds.0 = c.deref-2.ensures.value ∙ adds.1 ∙ ap (λ o. o ++ text_of adds.0) c.new-text.ensures.items in
    let sent : sent_in c.deref.result.now ≡ sent_for adds.0 = ap sent_in c.deref.ensures.value ∙ adds.2 in (
      text_of adds.0,
      subst (λ t. Appends (g.K.Sink.written c.args.sink.now) (g.K.Sink.written c.write_text.new.sink) t) own c.in-Ok.ensures.written,
      record { lines = adds.0; text = refl; are = adds.3; booked = c.in_ok-book_all.ensures ∙ ap (λ os. option_map (book_all c.args.first os) before) sent },
    )

pub returns-clause-written : goal.returns-clause-written
returns-clause-written g c number =
    let shards = map progress_of c.args.shards.items in
    let p = c.args.phase in
    let before = g.B.Book.books c.args.book.now in
    let after = g.B.Book.books c.book_all.new.book in
    let adds = c.in_ok-ran.ensures.text number in
    let own : c.deref-2.result.now ≡ text_of adds.0 = c.deref-2.ensures.value ∙ adds.1 ∙ ap (λ o. o ++ text_of adds.0) c.new-text.ensures.items in
    part_next (Unit {0}) (Vec Committed Global) c.in-Err.stop (g.K.Sink.written c.args.sink.now) (g.K.Sink.written c.write_text.new.sink) c.deref-2.result.now
    (AreBookedLines {A = Vec Committed Global} (Err c.in-Err.stop) c.args.first before after (ArePhaseLines replied (chartered_batches shards p.commits.items) p.commits.items (λ session. numbers_before shards) (map (search_view c.args.names.now number) p.searches.items)))
    c.in-Err.ensures.written
    (record { lines = adds.0; text = own; are = adds.3; booked = tt })
