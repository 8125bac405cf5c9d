use Rattle.std.proofs.Common.{◌≡◌, List, refl, sym, subst, ap, ◌∙◌, arith}
use Rattle.isis_base.specs.declared.identifiers.LspId.{LspId}
use Rattle.model_router.specs.Waits.{fallen}
use Rattle.model_router.specs.Cells.{Cell}
use Rattle.model_router.specs.Ageing.{wait_less}
use Rattle.flag_sync.specs.declared.flag_row.FlagRow.{FlagRow}
use Rattle.flag_sync.specs.FlagRows.{row_less}
use Rattle.flag_sync.specs.BookStates.{BookState, book_of, AreBeside}
use Rattle.flag_sync.proofs.CellLemmas.{each-beside}
use Rattle.flag_sync.proofs.BookLemmas.{book-all}
use Rattle.flag_sync.proofs.book.Book.second.Goals as goal

pub invariant_of-self : goal.invariant_of-self
invariant_of-self c =
    let i = c.self.invariant in
    record {
      beside = subst (AreBeside c.self.inside.store.entries) (sym c.second.ensures.entries) (each-beside (row_less) c.self.inside.store.entries c.self.inside.flags.entries i.beside);
      rises = i.rises;
      headed = i.headed;
      room = let spare = c.second.ensures.spare in let room = i.room in omega (arith, spare, room);
      few = i.few;
    }

pub returns-clause-book : goal.returns-clause-book
unfolding wait_less
returns-clause-book c =
    let s : BookState = record {
      store = c.self.inside.store;
      rows = c.self.inside.flags.entries;
      opened = c.self.inside.opened;
      points = c.self.inside.points;
      circuits = c.self.inside.circuits;
    } in
    let i = c.self.invariant in
    subst (λ (t : BookState). book_of (record s { rows = c.second.new.self.entries }) ≡ wait_less (book_of t)) c.self.view_is
    (ap (λ (rs : List (LspId × FlagRow)). book_of (record s { rows = rs })) c.second.ensures.entries ∙ book-all s i.beside i.rises row_less (λ (cell : Cell). record cell { waits = fallen cell.waits }) (λ e r. refl))
