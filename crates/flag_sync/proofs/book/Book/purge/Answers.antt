use Rattle.std.proofs.Common.{◌≡◌, ◌<◌, List, sym, subst, ap, ap₂, ◌∙◌, arith}
use Rattle.std.specs.Option.{option_map}
use Rattle.isis_base.specs.declared.identifiers.LspId.{LspId}
use Rattle.isis_base.specs.Identifiers.{lsp_number}
use Rattle.model_router.specs.Cells.{Cell, flagged, purged}
use Rattle.model_router.specs.Books.{cell_at, rank_at, set_cell}
use Rattle.lsp_store.specs.Maps.{RisesFrom, change_at}
use Rattle.lsp_store.specs.Databases.{Database}
use Rattle.lsp_store.proofs.ChangeLemmas.{change-rises}
use Rattle.flag_sync.specs.declared.flag_row.FlagRow.{FlagRow}
use Rattle.flag_sync.specs.Entries.{AllHaveHeaders, purged_entry}
use Rattle.flag_sync.specs.BookStates.{BookState, KeepsRoom, book_of, AreBeside}
use Rattle.flag_sync.proofs.CellLemmas.{change-beside, change-headers, purged-header}
use Rattle.flag_sync.proofs.BookLemmas.{book-purge}
use Rattle.flag_sync.proofs.SpareLemmas.{room-change}
use Rattle.flag_sync.proofs.book.Book.purge.Goals as goal

pub invariant_of-self : goal.invariant_of-self
invariant_of-self c =
    let i = c.self.invariant in
    let n = lsp_number c.args.id in
    let same = ap (λ (d : Database). d.entries) c.change.ensures in
    let rows = c.set.ensures.entries in
    record {
      beside = subst (λ (es : List _). AreBeside es c.set.new.self.entries) (sym same) (subst (AreBeside (change_at purged_entry c.self.inside.store.entries n)) (sym rows) (change-beside purged_entry (λ _. c.new-row.result) c.self.inside.store.entries c.self.inside.flags.entries n i.beside));
      rises = subst (RisesFrom 0) (sym same) (change-rises purged_entry n 0 c.self.inside.store.entries i.rises);
      headed = subst AllHaveHeaders (sym same) (change-headers purged_entry c.self.inside.store.entries n purged-header i.headed);
      room = let spare = ap (λ (d : Database). d.spare) c.change.ensures in let more = c.set.ensures.spare in let room = i.room in omega (arith, spare, more, room);
      few = i.few;
    }

pub returns-clause-book : goal.returns-clause-book
returns-clause-book c =
    let s : BookState = record {
      store = c.self.inside.store;
      rows = c.self.inside.flags.entries;
      opened = c.self.inside.opened;
      points = c.self.inside.points;
      circuits = c.self.inside.circuits;
    } in
    let i = c.self.invariant in
    let n = lsp_number c.args.id in
    let key : 0 < rank_at (book_of s) n = subst (λ (t : BookState). 0 < rank_at (book_of t) n) (sym c.self.view_is) c.requires.key in
    subst (λ (t : BookState). book_of (record s { store = c.change.new.self; rows = c.set.new.self.entries }) ≡ set_cell (book_of t) n (option_map (λ (cell : Cell). flagged (purged cell) t.opened 0) (cell_at (book_of t) n))) c.self.view_is
    (ap₂ (λ (d : Database) (rs : List (LspId × FlagRow)). book_of (record s { store = d; rows = rs })) c.change.ensures (c.set.ensures.entries ∙ ap (λ (r : FlagRow). change_at (λ _. r) c.self.inside.flags.entries n) c.new-row.ensures)
    ∙ book-purge s i.beside i.rises i.headed n key)

pub returns-clause-room : goal.returns-clause-room
returns-clause-room c =
    let s : BookState = record {
      store = c.self.inside.store;
      rows = c.self.inside.flags.entries;
      opened = c.self.inside.opened;
      points = c.self.inside.points;
      circuits = c.self.inside.circuits;
    } in
    let new : BookState = record s { store = c.change.new.self; rows = c.set.new.self.entries } in
    subst (λ (t : BookState). KeepsRoom t new) c.self.view_is (room-change purged_entry (lsp_number c.args.id) s new c.change.ensures)
