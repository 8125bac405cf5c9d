use Rattle.std.proofs.Common.{◌≡◌, ◌-◌, Bool, true, false, if◌then◌else◌, ℕ, List, refl, sym, subst, ap, ◌∙◌, arith}
use Rattle.isis_base.specs.declared.identifiers.LspId.{LspId}
use Rattle.model_router.specs.Maps.{each}
use Rattle.model_router.specs.Cells.{Cell}
use Rattle.model_router.specs.Pulls.{sent, sent_cell, srm_due}
use Rattle.lsp_store.specs.declared.entry.Entry.{Entry}
use Rattle.flag_sync.specs.declared.deed.Deed.{Deed}
use Rattle.flag_sync.specs.declared.flag_row.FlagRow.{FlagRow}
use Rattle.flag_sync.specs.FlagRows.{cell_of, done}
use Rattle.flag_sync.specs.Deeds.{deed_cell}
use Rattle.flag_sync.specs.Circuits.{sent_on}
use Rattle.flag_sync.specs.Walks.{row_due, done_due}
use Rattle.flag_sync.specs.BookStates.{BookState, book_of, AreBeside}
use Rattle.flag_sync.proofs.CellLemmas.{each-beside}
use Rattle.flag_sync.proofs.BookLemmas.{book-all, deed-cells}
use Rattle.flag_sync.proofs.WalkLemmas.{due-row}
use Rattle.flag_sync.proofs.book.Book.sent_due.Goals as goal

-- a deed that is what sending does, where SRM is due
done-sent : (deed : Deed) (points : ℕ) → ((cell : Cell) → deed_cell deed cell ≡ sent_on points deed.place cell) → (entry : Entry) (row : FlagRow) → cell_of entry (done_due deed row) ≡ sent_cell points deed.place (cell_of entry row)
done-sent deed points same entry row = cases (row_due deed.place row) (srm_due deed.place (cell_of entry row)) (due-row deed.place entry row)
  where
    cases : (t u : Bool) → t ≡ u → cell_of entry (if t then done deed row else row) ≡ (if u then sent_on points deed.place (cell_of entry row) else cell_of entry row)
    cases true true q = deed-cells deed entry row ∙ same (cell_of entry row)
    cases true false q = cc
    cases false true q = cc
    cases false false q = refl

pub invariant_of-self : goal.invariant_of-self
invariant_of-self c =
    let i = c.self.invariant in
    record {
      beside = subst (AreBeside c.self.inside.store.entries) (sym c.change_due.ensures.entries) (each-beside (done_due c.sent_deed-deed.result) c.self.inside.store.entries c.self.inside.flags.entries i.beside);
      rises = i.rises;
      headed = i.headed;
      room = let spare = c.change_due.ensures.spare in let room = i.room in omega (arith, spare, room);
      few = i.few;
    }

pub returns-clause-book : goal.returns-clause-book
unfolding sent
returns-clause-book c =
    let s : BookState = record {
      store = c.self.inside.store;
      rows = c.self.inside.flags.entries;
      opened = c.self.inside.opened;
      points = c.self.inside.points;
      circuits = c.self.inside.circuits;
    } in
    let i = c.self.invariant in
    let deed = c.sent_deed-deed.result in
    let at : deed.place ≡ c.args.circuit - 1 = c.sent_deed-deed.ensures.place ∙ c.place-place.ensures.place in
    let is : (cell : Cell) → deed_cell deed cell ≡ sent_on s.points deed.place cell = λ cell. c.sent_deed-deed.ensures.deed cell ∙ ap (λ (p : ℕ). sent_on s.points p cell) (sym c.sent_deed-deed.ensures.place) in
    subst (λ (t : BookState). book_of (record s { rows = c.change_due.new.self.entries }) ≡ record (book_of t) { cells = each (λ (_ : ℕ) (cell : Cell). sent_cell (book_of t).p2p (c.args.circuit - 1) cell) (book_of t).cells }) c.self.view_is
    (subst (λ (p : ℕ). book_of (record s { rows = c.change_due.new.self.entries }) ≡ record (book_of s) { cells = each (λ (_ : ℕ) (cell : Cell). sent_cell s.points p cell) (book_of s).cells }) at
    (ap (λ (rs : List (LspId × FlagRow)). book_of (record s { rows = rs })) c.change_due.ensures.entries
    ∙ book-all s i.beside i.rises (done_due deed) (λ (cell : Cell). sent_cell s.points deed.place cell) (done-sent deed s.points is)))
