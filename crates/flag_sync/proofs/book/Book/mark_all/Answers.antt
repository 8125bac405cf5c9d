use Rattle.std.proofs.Common.{◌≡◌, ◌-◌, ℕ, List, sym, subst, ap, ◌∙◌, arith}
use Rattle.isis_base.specs.declared.identifiers.LspId.{LspId}
use Rattle.model_router.specs.Cells.{Cell}
use Rattle.model_router.specs.Books.{Book}
use Rattle.model_router.specs.Openings.{mark_all}
use Rattle.flag_sync.specs.declared.flag_row.FlagRow.{FlagRow}
use Rattle.flag_sync.specs.Marks.{marks, has_key}
use Rattle.flag_sync.specs.BookStates.{BookState, book_of, AreBeside}
use Rattle.flag_sync.proofs.MarkLemmas.{marks-beside, marks-cells}
use Rattle.flag_sync.proofs.book.Book.mark_all.Goals as goal

pub invariant_of-self : goal.invariant_of-self
invariant_of-self c =
    let i = c.self.invariant in
    let es = c.self.inside.store.entries in
    record {
      beside = subst (AreBeside es) (sym c.mark_keys.ensures.rows) (marks-beside has_key c.place-place.result es es c.self.inside.flags.entries i.beside);
      rises = i.rises;
      headed = i.headed;
      room = let spare = c.mark_keys.ensures.spare in let room = i.room in omega (arith, spare, room);
      few = i.few;
    }

pub returns-clause-book : goal.returns-clause-book
unfolding mark_all
returns-clause-book c =
    let s : BookState = record {
      store = c.self.inside.store;
      rows = c.self.inside.flags.entries;
      opened = c.self.inside.opened;
      points = c.self.inside.points;
      circuits = c.self.inside.circuits;
    } in
    let i = c.self.invariant in
    let p = c.args.circuit - 1 in
    let es = c.self.inside.store.entries in
    let rs = c.self.inside.flags.entries in
    let rows = c.mark_keys.ensures.rows ∙ ap (λ (q : ℕ). marks has_key q es rs) c.place-place.ensures.place in
    subst (λ (t : BookState). book_of (record s { rows = c.mark_keys.new.flags.entries }) ≡ mark_all (book_of t) p) c.self.view_is
    (ap (λ (xs : List (LspId × FlagRow)). book_of (record s { rows = xs })) rows
    ∙ ap (λ (cs : List (ℕ × Cell)). let b : Book = record (book_of s) { cells = cs } in b) (marks-cells has_key p es rs i.rises i.beside))
