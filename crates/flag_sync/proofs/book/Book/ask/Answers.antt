use Rattle.std.proofs.Common.{◌≡◌, Some, subst, ap, ◌∙◌, arith}
use Rattle.std.specs.Option.{option_map}
use Rattle.isis_base.specs.Identifiers.{lsp_number}
use Rattle.model_router.specs.Cells.{Cell, ssn_on, empty_cell}
use Rattle.model_router.specs.Books.{cell_at, is_full, set_cell}
use Rattle.model_router.specs.SnpTable.{asked}
use Rattle.lsp_store.specs.Maps.{RisesFrom}
use Rattle.flag_sync.specs.BookStates.{BookState, book_of}
use Rattle.flag_sync.proofs.BookLemmas.{asked-found, asked-full, asked-new}
use Rattle.flag_sync.proofs.SpareLemmas.{room-put}
use Rattle.flag_sync.proofs.book.Book.ask.Goals as goal

pub returns-in-Some-clause-book : goal.returns-in-Some-clause-book
returns-in-Some-clause-book c =
    let s : BookState = record {
      store = c.self.inside.store;
      rows = c.self.inside.flags.entries;
      opened = c.self.inside.opened;
      points = c.self.inside.points;
      circuits = c.self.inside.circuits;
    } in
    let i = c.self.invariant in
    let n = lsp_number c.args.id in
    let p = c.args.place in
    let same = subst (λ (t : BookState). option_map (λ (cell : Cell). ssn_on cell p) (cell_at (book_of t) n) ≡ asked (is_full (book_of t)) p (cell_at (book_of t) n)) c.self.view_is
    (asked-found s i.beside i.rises n p c.in-Some.field-0.now c.in-Some.ensures) in
    c.flag.ensures.book ∙ ap (set_cell (book_of c.args.self.now) n) same

pub returns-then-len-ge-ENTRY_LIMIT-clause-book : goal.returns-then-len-ge-ENTRY_LIMIT-clause-book
returns-then-len-ge-ENTRY_LIMIT-clause-book c =
    let s : BookState = record {
      store = c.self.inside.store;
      rows = c.self.inside.flags.entries;
      opened = c.self.inside.opened;
      points = c.self.inside.points;
      circuits = c.self.inside.circuits;
    } in
    let i = c.self.invariant in
    let n = lsp_number c.args.id in
    let p = c.args.place in
    let many = c.if-len-ge-ENTRY_LIMIT.true in
    let len = c.len.ensures.same in
    let most = c.len.ensures.most in
    let same = subst (λ (t : BookState). cell_at (book_of t) n ≡ asked (is_full (book_of t)) p (cell_at (book_of t) n)) c.self.view_is
    (asked-full s i.beside i.rises n p c.in-None.ensures (omega (arith, many, len, most))) in
    c.stay.ensures ∙ ap (set_cell (book_of c.args.self.now) n) same

pub returns-clause-book : goal.returns-clause-book
returns-clause-book c =
    let s : BookState = record {
      store = c.self.inside.store;
      rows = c.self.inside.flags.entries;
      opened = c.self.inside.opened;
      points = c.self.inside.points;
      circuits = c.self.inside.circuits;
    } in
    let i = c.self.invariant in
    let n = lsp_number c.args.id in
    let p = c.args.place in
    let few = c.if-len-ge-ENTRY_LIMIT.false in
    let len = c.len.ensures.same in
    let same = subst (λ (t : BookState). Some (ssn_on empty_cell p) ≡ asked (is_full (book_of t)) p (cell_at (book_of t) n)) c.self.view_is
    (asked-new s i.beside i.rises n p c.in-None.ensures (omega (arith, few, len))) in
    let kept = rw c.unwrap.ensures at c.keep.ensures.book in
    let made = rw (c.new-2.ensures, c.with_bit.ensures, c.new.ensures) at kept in
    made ∙ ap (set_cell (book_of c.args.self.now) n) same

pub returns-clause-room : goal.returns-clause-room
returns-clause-room c =
    let up = subst (λ (t : BookState). RisesFrom 0 t.store.entries) c.self.view_is c.self.invariant.rises in
    room-put c.args.id _ c.args.self.now c.keep.new.self up (rw c.unwrap.ensures at c.keep.ensures.store)
