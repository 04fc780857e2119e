-- What a book of lists was told.
use Rattle.std.specs.Prelude.{map, option_map}
use Rattle.std.specs.BTreeMap.{get}
use Rattle.std.specs.Ordering.{nat_cmp}
use Rattle.fc_spec.specs.scripts.Booked.{Books}
use Rattle.fc_hooks.specs.SentLists.{sent_view}
use Rattle.fc_run.specs.declared.list_book.ListBook.{ListBook}

abbrev pub books_in : ListBook → Books
books_in book search = option_map (λ messages. map sent_view messages.items) (get nat_cmp book.lists search)
