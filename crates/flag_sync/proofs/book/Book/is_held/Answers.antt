use Rattle.std.proofs.Common.{◌≡◌, is_some, Option, Some, None, subst, sym, ap, ◌∙◌, Bor}
use Rattle.std.specs.Option.{MatchOption}
use Rattle.isis_base.specs.Identifiers.{lsp_number}
use Rattle.model_router.specs.Books.{cell_at}
use Rattle.lsp_store.specs.declared.entry.Entry.{Entry}
use Rattle.lsp_store.specs.Maps.{find}
use Rattle.flag_sync.specs.BookStates.{BookState, book_of}
use Rattle.flag_sync.proofs.BookLemmas.{held-some}
use Rattle.flag_sync.proofs.book.Book.is_held.Goals as goal

found : (got : Option (Bor Entry)) (there : Option Entry) → MatchOption got (there ≡ None) (λ entry. there ≡ Some entry.now) → is_some got ≡ is_some there
found None there h = sym (ap is_some h)
found (Some entry) there h = sym (ap is_some h)

pub returns : goal.returns
returns c =
    let s : BookState = record {
      store = c.self.inside.store;
      rows = c.self.inside.flags.entries;
      opened = c.self.inside.opened;
      points = c.self.inside.points;
      circuits = c.self.inside.circuits;
    } in
    let i = c.self.invariant in
    let n = lsp_number c.args.id in
    subst (λ (t : BookState). c.is_some.result ≡ is_some (cell_at (book_of t) n)) c.self.view_is
    (c.is_some.ensures ∙ found c.get.result (find s.store.entries n) c.get.ensures ∙ held-some s i.beside i.rises n)
