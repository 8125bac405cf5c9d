use Rattle.std.proofs.Common.{None, refl, subst}
use Rattle.isis_base.specs.Identifiers.{lsp_number}
use Rattle.model_router.specs.Books.{cell_at}
use Rattle.flag_sync.specs.declared.known.Known.{Known}
use Rattle.flag_sync.specs.Known.{Knows}
use Rattle.flag_sync.specs.BookStates.{BookState, book_of}
use Rattle.flag_sync.proofs.BookLemmas.{knows-found, knows-none}
use Rattle.flag_sync.proofs.book.Book.known.Goals as goal

pub returns-in-Some : goal.returns-in-Some
returns-in-Some c =
    let s : BookState = record {
      store = c.self.inside.store;
      rows = c.self.inside.flags.entries;
      opened = c.self.inside.opened;
      points = c.self.inside.points;
      circuits = c.self.inside.circuits;
    } in
    let i = c.self.invariant in
    let k : Known = record { key = c.in-Some.entry.now.key; checksum = c.in-Some.entry.now.checksum } in
    subst (λ (t : BookState). Knows k (cell_at (book_of t) (lsp_number c.args.id))) c.self.view_is
    (knows-found s i.beside i.rises (lsp_number c.args.id) c.in-Some.entry.now k c.in-Some.ensures refl refl)

pub returns-in-None : goal.returns-in-None
returns-in-None c =
    let s : BookState = record {
      store = c.self.inside.store;
      rows = c.self.inside.flags.entries;
      opened = c.self.inside.opened;
      points = c.self.inside.points;
      circuits = c.self.inside.circuits;
    } in
    let i = c.self.invariant in
    let k : Known = record { key = None; checksum = 0 } in
    subst (λ (t : BookState). Knows k (cell_at (book_of t) (lsp_number c.args.id))) c.self.view_is
    (knows-none s i.beside i.rises (lsp_number c.args.id) k c.in-None.ensures refl refl)
