use Rattle.std.proofs.Common.{subst}
use Rattle.model_router.specs.Sorted.{RisesFrom}
use Rattle.flag_sync.specs.BookStates.{BookState, book_of}
use Rattle.flag_sync.proofs.AgeLemmas.{cells-rise}
use Rattle.flag_sync.proofs.book.Book.order_law.Goals as goal

pub returns : goal.returns
returns c =
    let s : BookState = record {
      store = c.self.inside.store;
      rows = c.self.inside.flags.entries;
      opened = c.self.inside.opened;
      points = c.self.inside.points;
      circuits = c.self.inside.circuits;
    } in
    let i = c.self.invariant in
    subst (λ (t : BookState). RisesFrom 0 (book_of t).cells) c.self.view_is (cells-rise 0 c.self.inside.store.entries c.self.inside.flags.entries i.rises i.beside)
