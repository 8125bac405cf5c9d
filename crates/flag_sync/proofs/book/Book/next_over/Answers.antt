use Rattle.std.proofs.Common.{◌≡◌, subst, ap, ◌∙◌}
use Rattle.std.specs.Option.{option_map}
use Rattle.isis_base.specs.Identifiers.{lsp_number}
use Rattle.model_router.specs.Sorted.{RisesFrom}
use Rattle.lsp_store.specs.Maps.{from}
use Rattle.flag_sync.specs.Ages.{over_from, first_of, first_over}
use Rattle.flag_sync.specs.BookStates.{BookState, book_of}
use Rattle.flag_sync.proofs.AgeLemmas.{over-cells, cells-rise}
use Rattle.flag_sync.proofs.book.Book.next_over.Goals as goal

pub returns-clause-first : goal.returns-clause-first
returns-clause-first c =
    let s : BookState = record {
      store = c.self.inside.store;
      rows = c.self.inside.flags.entries;
      opened = c.self.inside.opened;
      points = c.self.inside.points;
      circuits = c.self.inside.circuits;
    } in
    let i = c.self.invariant in
    let n = lsp_number c.args.start in
    subst (λ (t : BookState). option_map lsp_number c.first_in.result ≡ first_of (over_from n (book_of t).cells)) c.self.view_is
    (ap (option_map lsp_number) (c.first_in.ensures ∙ ap first_over (c.pairs_from.ensures ∙ ap (from n) c.pages.ensures.entries))
    ∙ over-cells n 0 c.self.inside.store.entries c.self.inside.flags.entries i.rises i.beside)

pub returns-clause-rises : goal.returns-clause-rises
returns-clause-rises c =
    let s : BookState = record {
      store = c.self.inside.store;
      rows = c.self.inside.flags.entries;
      opened = c.self.inside.opened;
      points = c.self.inside.points;
      circuits = c.self.inside.circuits;
    } in
    let i = c.self.invariant in
    subst (λ (t : BookState). RisesFrom 0 (book_of t).cells) c.self.view_is (cells-rise 0 c.self.inside.store.entries c.self.inside.flags.entries i.rises i.beside)
