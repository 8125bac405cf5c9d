use Rattle.std.proofs.Common.{◌≡◌, sym, subst, ◌∙◌}
use Rattle.isis_base.specs.Identifiers.{lsp_number}
use Rattle.model_router.specs.Books.{cell_at}
use Rattle.model_router.specs.LspTable.{ssn_stored}
use Rattle.flag_sync.specs.BookStates.{BookState, book_of}
use Rattle.flag_sync.proofs.BookLemmas.{stored-found, stored-none}
use Rattle.flag_sync.proofs.book.Book.ssn_of_stored.Goals as goal

pub returns-in-Some : goal.returns-in-Some
returns-in-Some c =
    let s : BookState = record {
      store = c.self.inside.store;
      rows = c.self.inside.flags.entries;
      opened = c.self.inside.opened;
      points = c.self.inside.points;
      circuits = c.self.inside.circuits;
    } in
    let i = c.self.invariant in
    let n = lsp_number c.args.id in
    let lan = sym c.has_bit.ensures ∙ c.if-has_bit.false in
    subst (λ (t : BookState). c.only_bit.result ≡ ssn_stored t.points c.args.place (cell_at (book_of t) n)) c.self.view_is
    (c.only_bit.ensures ∙ stored-found s i.beside i.rises n c.args.place c.in-Some.row.now c.in-Some.ensures lan)

pub returns-in-None : goal.returns-in-None
returns-in-None c =
    let s : BookState = record {
      store = c.self.inside.store;
      rows = c.self.inside.flags.entries;
      opened = c.self.inside.opened;
      points = c.self.inside.points;
      circuits = c.self.inside.circuits;
    } in
    let i = c.self.invariant in
    let n = lsp_number c.args.id in
    let lan = sym c.has_bit.ensures ∙ c.if-has_bit.false in
    subst (λ (t : BookState). 0 ≡ ssn_stored t.points c.args.place (cell_at (book_of t) n)) c.self.view_is
    (stored-none s i.beside i.rises n c.args.place c.in-None.ensures lan)
