use Rattle.flag_sync.proofs.book.Book.meet_lsp.Goals as goal

pub returns-in-PurgedOwn-clause-book : goal.returns-in-PurgedOwn-clause-book
returns-in-PurgedOwn-clause-book c = rw c.in-PurgedOwn.is (c.keep_purge.ensures.book c.args.place)

pub returns-in-Same-clause-book : goal.returns-in-Same-clause-book
returns-in-Same-clause-book c = rw c.in-Same.is (c.acknowledge.ensures.book c.args.lsp.now)

pub returns-in-Older-clause-book : goal.returns-in-Older-clause-book
returns-in-Older-clause-book c = rw c.in-Older.is (c.send_back.ensures.book c.args.lsp.now)
