use Rattle.std.proofs.Common.{◌≡◌, ◌+◌, drop}
use Rattle.std.specs.Prelude.{option_map}
use Rattle.fc_spec.specs.scripts.Booked.{book_all}
use Rattle.fc_work.specs.Phased.{sent_in}
use Rattle.fc_run.proofs.booking.book_all.Given as goal

-- what is left, booked behind what is booked so far, is all of it
abbrev pub invariant-loop-one : goal.invariant-loop-one
invariant-loop-one g l = record {
  numbered : l.search ≡ l.first + l.one-index;
  booked : option_map (book_all l.search (sent_in (drop l.one-index l.sent))) (g.B.Book.books l.book) ≡ option_map (book_all l.first (sent_in l.sent)) (g.B.Book.books l.fn.book);
}
