use Rattle.model_router.specs.Books.{is_full}
use Rattle.flag_sync.specs.BookStates.{book_of}
use Rattle.flag_sync.proofs.book.Book.meet_entry.Goals as goal

pub returns-in-Same-clause-book : goal.returns-in-Same-clause-book
returns-in-Same-clause-book c = rw c.in-Same.is (c.free.ensures.book (is_full (book_of c.args.self.now)))

pub returns-in-Older-clause-book : goal.returns-in-Older-clause-book
returns-in-Older-clause-book c = rw c.in-Older.is (c.send_held.ensures.book (is_full (book_of c.args.self.now)))

pub returns-in-Newer-clause-book : goal.returns-in-Newer-clause-book
returns-in-Newer-clause-book c = rw c.in-Newer.is (c.ask_again.ensures.book (is_full (book_of c.args.self.now)))
