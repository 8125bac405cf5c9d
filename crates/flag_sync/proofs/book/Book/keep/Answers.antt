use Rattle.std.proofs.Common.{◌≡◌, Some, List, sym, subst, ap, ap₂, ◌∙◌, zero-le}
use Rattle.isis_base.specs.declared.identifiers.LspId.{LspId}
use Rattle.isis_base.specs.Identifiers.{lsp_number}
use Rattle.model_router.specs.Books.{set_cell}
use Rattle.lsp_store.specs.Maps.{RisesFrom, put}
use Rattle.lsp_store.specs.Databases.{Database}
use Rattle.lsp_store.proofs.MapLemmas.{put-rises}
use Rattle.flag_sync.specs.declared.flag_row.FlagRow.{FlagRow}
use Rattle.flag_sync.specs.FlagRows.{cell_of}
use Rattle.flag_sync.specs.Entries.{AllHaveHeaders}
use Rattle.flag_sync.specs.BookStates.{BookState, book_of, AreBeside}
use Rattle.flag_sync.proofs.CellLemmas.{put-beside, put-headers}
use Rattle.flag_sync.proofs.BookLemmas.{book-put}
use Rattle.flag_sync.proofs.book.Book.keep.Goals as goal

pub invariant_of-self : goal.invariant_of-self
invariant_of-self c =
    let i = c.self.invariant in
    let same = ap (λ (d : Database). d.entries) c.in-Err.ensures.same_store in
    let rows = c.in-Err.ensures.same_rows in
    record {
      beside = subst (λ (es : List _). AreBeside es c.put_both.new.flags.entries) (sym same) (subst (AreBeside c.self.inside.store.entries) (sym rows) i.beside);
      rises = subst (RisesFrom 0) (sym same) i.rises;
      headed = subst AllHaveHeaders (sym same) i.headed;
      room = c.in-Err.ensures.room;
      few = i.few;
    }

pub invariant_of-self-2 : goal.invariant_of-self-2
invariant_of-self-2 c =
    let i = c.self.invariant in
    let same = ap (λ (d : Database). d.entries) c.in-Ok.ensures.store in
    let rows = c.in-Ok.ensures.rows in
    record {
      beside = subst (λ (es : List _). AreBeside es c.put_both.new.flags.entries) (sym same) (subst (AreBeside (put c.self.inside.store.entries c.args.id c.args.entry)) (sym rows) (put-beside c.self.inside.store.entries c.self.inside.flags.entries c.args.id c.args.entry c.args.row i.beside));
      rises = subst (RisesFrom 0) (sym same) (put-rises c.self.inside.store.entries 0 c.args.id c.args.entry zero-le i.rises);
      headed = subst AllHaveHeaders (sym same) (put-headers c.self.inside.store.entries c.args.id c.args.entry i.headed c.requires.headed);
      room = c.in-Ok.ensures.room;
      few = i.few;
    }

pub returns-clause-book : goal.returns-clause-book
returns-clause-book c =
    let s : BookState = record {
      store = c.self.inside.store;
      rows = c.self.inside.flags.entries;
      opened = c.self.inside.opened;
      points = c.self.inside.points;
      circuits = c.self.inside.circuits;
    } in
    let i = c.self.invariant in
    let n = lsp_number c.args.id in
    subst (λ (t : BookState). book_of (record s { store = c.put_both.new.store; rows = c.put_both.new.flags.entries }) ≡ set_cell (book_of t) n (Some (cell_of c.args.entry c.args.row))) c.self.view_is
    (ap₂ (λ (d : Database) (rs : List (LspId × FlagRow)). book_of (record s { store = d; rows = rs })) c.in-Ok.ensures.store c.in-Ok.ensures.rows ∙ book-put s i.beside i.rises c.args.id c.args.entry c.args.row)
