use Rattle.std.proofs.Common.{◌-◌, ℕ, sym, ap, ◌∙◌}
use Rattle.model_router.specs.declared.snp_case.SnpCase.{SnpCase}
use Rattle.model_router.specs.Books.{cell_at, is_full, set_cell}
use Rattle.model_router.specs.SnpTable.{snp_row}
use Rattle.flag_sync.specs.Heard.{entry_of, entry_answer_of}
use Rattle.flag_sync.specs.BookStates.{book_of}
use Rattle.flag_sync.proofs.RowLemmas.{snp-known, snp-confused-held, entry-met}
use Rattle.flag_sync.proofs.book.Book.hear_entry.Goals as goal

pub meet_entry-requires-clause-key : goal.meet_entry-requires-clause-key
meet_entry-requires-clause-key c e =
    let h = entry_of c.args.entry.now in
    let held = cell_at (book_of c.args.self.now) h.id in
    let same = c.snp_row_of-row.ensures ∙ snp-known c.args.whose c.known-known.result held h (rw c.seek.ensures at c.known-known.ensures) in
    rw c.seek.ensures (snp-confused-held c.args.whose held h (sym same ∙ e))

pub returns-clause-book : goal.returns-clause-book
returns-clause-book c =
    let b = book_of c.args.self.now in
    let h = entry_of c.args.entry.now in
    let held = cell_at b h.id in
    let same = c.snp_row_of-row.ensures ∙ snp-known c.args.whose c.known-known.result held h (rw c.seek.ensures at c.known-known.ensures) in
    (rw c.seek.ensures at c.meet_entry.ensures.book) ∙ ap (λ (p : ℕ). set_cell b h.id (snp_row c.snp_row_of-row.result (is_full b) b.opened b.p2p p held)) c.place-place.ensures.place
    ∙ entry-met b (c.args.circuit - 1) c.args.whose h c.snp_row_of-row.result same

pub returns-clause-answer : goal.returns-clause-answer
returns-clause-answer c =
    let h = entry_of c.args.entry.now in
    let held = cell_at (book_of c.args.self.now) h.id in
    let same = c.snp_row_of-row.ensures ∙ snp-known c.args.whose c.known-known.result held h (rw c.seek.ensures at c.known-known.ensures) in
    c.snp_answer.ensures ∙ ap (λ (r : SnpCase). entry_answer_of r c.args.entry.now) same
