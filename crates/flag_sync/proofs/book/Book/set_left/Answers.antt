use Rattle.std.proofs.Common.{◌≡◌, List, refl, sym, subst, ap, ◌∙◌, arith}
use Rattle.std.specs.Option.{option_map}
use Rattle.isis_base.specs.Identifiers.{lsp_number}
use Rattle.model_router.specs.Cells.{Cell}
use Rattle.model_router.specs.Books.{cell_at, set_cell}
use Rattle.lsp_store.specs.declared.entry.Entry.{Entry}
use Rattle.lsp_store.specs.Maps.{RisesFrom}
use Rattle.lsp_store.specs.Databases.{Database}
use Rattle.lsp_store.proofs.ChangeLemmas.{change-rises}
use Rattle.flag_sync.specs.Entries.{AllHaveHeaders}
use Rattle.flag_sync.specs.BookStates.{BookState, book_of, AreBeside}
use Rattle.flag_sync.proofs.CellLemmas.{entries-beside, change-headers}
use Rattle.flag_sync.proofs.BookLemmas.{book-entries}
use Rattle.flag_sync.proofs.book.Book.set_left.Goals as goal

pub invariant_of-self : goal.invariant_of-self
invariant_of-self c =
    let i = c.self.invariant in
    let n = lsp_number c.args.id in
    let f : Entry → Entry = λ (e : Entry). record e { left = c.args.left } in
    let same = ap (λ (d : Database). d.entries) c.change.ensures in
    record {
      beside = subst (λ (es : List _). AreBeside es c.self.inside.flags.entries) (sym same) (entries-beside f c.self.inside.store.entries c.self.inside.flags.entries n i.beside);
      rises = subst (RisesFrom 0) (sym same) (change-rises f n 0 c.self.inside.store.entries i.rises);
      headed = subst AllHaveHeaders (sym same) (change-headers f c.self.inside.store.entries n (λ e h. h) i.headed);
      room = let spare = ap (λ (d : Database). d.spare) c.change.ensures in let room = i.room in omega (arith, spare, room);
      few = i.few;
    }

pub returns-clause-book : goal.returns-clause-book
returns-clause-book c =
    let s : BookState = record {
      store = c.self.inside.store;
      rows = c.self.inside.flags.entries;
      opened = c.self.inside.opened;
      points = c.self.inside.points;
      circuits = c.self.inside.circuits;
    } in
    let i = c.self.invariant in
    let n = lsp_number c.args.id in
    subst (λ (t : BookState). book_of (record s { store = c.change.new.self }) ≡ set_cell (book_of t) n (option_map (λ (cell : Cell). record cell { left = c.args.left }) (cell_at (book_of t) n))) c.self.view_is
    (ap (λ (d : Database). book_of (record s { store = d })) c.change.ensures ∙ book-entries s i.beside i.rises (λ (e : Entry). record e { left = c.args.left }) (λ (cell : Cell). record cell { left = c.args.left }) n (λ e r. refl))
