use Rattle.std.proofs.Common.{◌≡◌, ◌-◌, false, sym, ap, subst, ◌∙◌}
use Rattle.isis_base.specs.Identifiers.{lsp_number}
use Rattle.model_router.specs.Sets.{has}
use Rattle.model_router.specs.Books.{srm_at}
use Rattle.flag_sync.specs.BookStates.{BookState, book_of}
use Rattle.flag_sync.proofs.BookLemmas.{srm-found, srm-none}
use Rattle.flag_sync.proofs.book.Book.srm.Goals as goal

pub returns-in-Some : goal.returns-in-Some
returns-in-Some c =
    let s : BookState = record {
      store = c.self.inside.store;
      rows = c.self.inside.flags.entries;
      opened = c.self.inside.opened;
      points = c.self.inside.points;
      circuits = c.self.inside.circuits;
    } in
    let i = c.self.invariant in
    subst (λ (t : BookState). c.has_bit.result ≡ srm_at (book_of t) (lsp_number c.args.id) (c.args.circuit - 1)) c.self.view_is
    (c.has_bit.ensures ∙ ap (has c.in-Some.row.now.srm) c.place.ensures.place ∙ sym (srm-found s i.beside i.rises (lsp_number c.args.id) (c.args.circuit - 1) c.in-Some.row.now c.in-Some.ensures))

pub returns-in-None : goal.returns-in-None
returns-in-None c =
    let s : BookState = record {
      store = c.self.inside.store;
      rows = c.self.inside.flags.entries;
      opened = c.self.inside.opened;
      points = c.self.inside.points;
      circuits = c.self.inside.circuits;
    } in
    let i = c.self.invariant in
    subst (λ (t : BookState). false ≡ srm_at (book_of t) (lsp_number c.args.id) (c.args.circuit - 1)) c.self.view_is
    (sym (srm-none s i.beside i.rises (lsp_number c.args.id) (c.args.circuit - 1) c.in-None.ensures))
