use Rattle.std.proofs.Common.{◌≡◌, ℕ, List, sym, subst, ap, ◌∙◌, arith}
use Rattle.isis_base.specs.declared.identifiers.LspId.{LspId}
use Rattle.model_router.specs.Maps.{each}
use Rattle.model_router.specs.Cells.{Cell}
use Rattle.flag_sync.specs.declared.flag_row.FlagRow.{FlagRow}
use Rattle.flag_sync.specs.FlagRows.{done}
use Rattle.flag_sync.specs.Deeds.{deed_cell}
use Rattle.flag_sync.specs.BookStates.{BookState, book_of, AreBeside}
use Rattle.flag_sync.proofs.CellLemmas.{each-beside}
use Rattle.flag_sync.proofs.BookLemmas.{book-all, deed-cells}
use Rattle.flag_sync.proofs.book.Book.flag_all.Goals as goal

pub invariant_of-self : goal.invariant_of-self
invariant_of-self c =
    let i = c.self.invariant in
    record {
      beside = subst (AreBeside c.self.inside.store.entries) (sym c.change_all.ensures.entries) (each-beside (done c.args.deed.now) c.self.inside.store.entries c.self.inside.flags.entries i.beside);
      rises = i.rises;
      headed = i.headed;
      room = let spare = c.change_all.ensures.spare in let room = i.room in omega (arith, spare, room);
      few = i.few;
    }

pub returns-clause-book : goal.returns-clause-book
returns-clause-book c =
    let s : BookState = record {
      store = c.self.inside.store;
      rows = c.self.inside.flags.entries;
      opened = c.self.inside.opened;
      points = c.self.inside.points;
      circuits = c.self.inside.circuits;
    } in
    let i = c.self.invariant in
    subst (λ (t : BookState). book_of (record s { rows = c.change_all.new.self.entries }) ≡ record (book_of t) { cells = each (λ (_ : ℕ) (cell : Cell). deed_cell c.args.deed.now cell) (book_of t).cells }) c.self.view_is
    (ap (λ (rs : List (LspId × FlagRow)). book_of (record s { rows = rs })) c.change_all.ensures.entries ∙ book-all s i.beside i.rises (done c.args.deed.now) (deed_cell c.args.deed.now) (deed-cells c.args.deed.now))
