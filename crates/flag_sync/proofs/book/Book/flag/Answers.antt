use Rattle.std.proofs.Common.{◌≡◌, List, sym, subst, ap, ◌∙◌, arith}
use Rattle.std.specs.Option.{option_map}
use Rattle.isis_base.specs.declared.identifiers.LspId.{LspId}
use Rattle.isis_base.specs.Identifiers.{lsp_number}
use Rattle.model_router.specs.Books.{cell_at, set_cell}
use Rattle.flag_sync.specs.declared.flag_row.FlagRow.{FlagRow}
use Rattle.flag_sync.specs.FlagRows.{done}
use Rattle.flag_sync.specs.Deeds.{deed_cell}
use Rattle.flag_sync.specs.BookStates.{BookState, book_of, AreBeside}
use Rattle.flag_sync.proofs.CellLemmas.{rows-beside}
use Rattle.flag_sync.proofs.BookLemmas.{book-deed}
use Rattle.flag_sync.proofs.book.Book.flag.Goals as goal

pub invariant_of-self : goal.invariant_of-self
invariant_of-self c =
    let i = c.self.invariant in
    record {
      beside = subst (AreBeside c.self.inside.store.entries) (sym c.change.ensures.entries) (rows-beside (done c.args.deed.now) c.self.inside.store.entries c.self.inside.flags.entries (lsp_number c.args.id) i.beside);
      rises = i.rises;
      headed = i.headed;
      room = let spare = c.change.ensures.spare in let room = i.room in omega (arith, spare, room);
      few = i.few;
    }

pub returns-clause-book : goal.returns-clause-book
returns-clause-book c =
    let s : BookState = record {
      store = c.self.inside.store;
      rows = c.self.inside.flags.entries;
      opened = c.self.inside.opened;
      points = c.self.inside.points;
      circuits = c.self.inside.circuits;
    } in
    let i = c.self.invariant in
    subst (λ (t : BookState). book_of (record s { rows = c.change.new.self.entries }) ≡ set_cell (book_of t) (lsp_number c.args.id) (option_map (deed_cell c.args.deed.now) (cell_at (book_of t) (lsp_number c.args.id)))) c.self.view_is
    (ap (λ (rs : List (LspId × FlagRow)). book_of (record s { rows = rs })) c.change.ensures.entries ∙ book-deed s i.beside i.rises c.args.deed.now (lsp_number c.args.id))
