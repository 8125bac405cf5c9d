use Rattle.std.proofs.Common.{◌≡◌, None, List, sym, subst, ap, ap₂, ◌∙◌, arith}
use Rattle.isis_base.specs.declared.identifiers.LspId.{LspId}
use Rattle.isis_base.specs.Identifiers.{lsp_number}
use Rattle.model_router.specs.Books.{set_cell}
use Rattle.lsp_store.specs.Maps.{RisesFrom, erase}
use Rattle.lsp_store.specs.Databases.{Database}
use Rattle.lsp_store.specs.PageMaps.{PageMap}
use Rattle.lsp_store.proofs.MapLemmas.{erase-rises}
use Rattle.flag_sync.specs.declared.flag_row.FlagRow.{FlagRow}
use Rattle.flag_sync.specs.Entries.{AllHaveHeaders}
use Rattle.flag_sync.specs.BookStates.{BookState, book_of, AreBeside}
use Rattle.flag_sync.proofs.CellLemmas.{erase-beside, erase-headers}
use Rattle.flag_sync.proofs.BookLemmas.{book-erase}
use Rattle.flag_sync.proofs.book.Book.erase.Goals as goal

pub invariant_of-self : goal.invariant_of-self
invariant_of-self c =
    let i = c.self.invariant in
    let n = lsp_number c.args.id in
    let same = ap (λ (d : Database). d.entries) c.remove-entry.ensures.removed in
    let rows = ap (λ (m : PageMap FlagRow). m.entries) c.remove-row.ensures.removed in
    record {
      beside = subst (λ (es : List _). AreBeside es c.remove-row.new.self.entries) (sym same) (subst (AreBeside (erase c.self.inside.store.entries n)) (sym rows) (erase-beside c.self.inside.store.entries c.self.inside.flags.entries n i.beside));
      rises = subst (RisesFrom 0) (sym same) (erase-rises c.self.inside.store.entries 0 n i.rises);
      headed = subst AllHaveHeaders (sym same) (erase-headers c.self.inside.store.entries n i.headed);
      room = let spare = ap (λ (d : Database). d.spare) c.remove-entry.ensures.removed in let more = ap (λ (m : PageMap FlagRow). m.spare) c.remove-row.ensures.removed in let room = i.room in omega (arith, spare, more, room);
      few = i.few;
    }

pub returns-clause-book : goal.returns-clause-book
returns-clause-book c =
    let s : BookState = record {
      store = c.self.inside.store;
      rows = c.self.inside.flags.entries;
      opened = c.self.inside.opened;
      points = c.self.inside.points;
      circuits = c.self.inside.circuits;
    } in
    let i = c.self.invariant in
    let n = lsp_number c.args.id in
    subst (λ (t : BookState). book_of (record s { store = c.remove-entry.new.self; rows = c.remove-row.new.self.entries }) ≡ set_cell (book_of t) n None) c.self.view_is
    (ap₂ (λ (d : Database) (rs : List (LspId × FlagRow)). book_of (record s { store = d; rows = rs })) c.remove-entry.ensures.removed (ap (λ (m : PageMap FlagRow). m.entries) c.remove-row.ensures.removed) ∙ book-erase s i.beside i.rises n)
