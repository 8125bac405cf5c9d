use Rattle.std.proofs.Common.{◌≡◌, subst}
use Rattle.isis_base.specs.Identifiers.{lsp_number}
use Rattle.model_router.specs.Books.{cell_at, set_cell}
use Rattle.flag_sync.specs.BookStates.{BookState, book_of}
use Rattle.flag_sync.proofs.BookLemmas.{book-stays}
use Rattle.flag_sync.proofs.book.Book.stay.Goals as goal

pub returns : goal.returns
returns c =
    let s : BookState = record {
      store = c.self.inside.store;
      rows = c.self.inside.flags.entries;
      opened = c.self.inside.opened;
      points = c.self.inside.points;
      circuits = c.self.inside.circuits;
    } in
    let i = c.self.invariant in
    let n = lsp_number c.args._id in
    subst (λ (t : BookState). book_of t ≡ set_cell (book_of t) n (cell_at (book_of t) n)) c.self.view_is (book-stays s i.beside i.rises n)
