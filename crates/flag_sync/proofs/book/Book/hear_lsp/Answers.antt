use Rattle.std.proofs.Common.{◌≡◌, ◌-◌, true, ℕ, sym, subst, ap, ◌∙◌}
use Rattle.model_router.specs.declared.lsp_case.LspCase.{LspCase}
use Rattle.model_router.specs.Books.{cell_at, set_cell}
use Rattle.model_router.specs.LspTable.{lsp_row}
use Rattle.flag_sync.specs.Heard.{heard_of, answer_of, makes_entry}
use Rattle.flag_sync.specs.BookStates.{book_of}
use Rattle.flag_sync.proofs.RowLemmas.{lsp-known, confused-held, rank-some, hear-met}
use Rattle.flag_sync.proofs.book.Book.hear_lsp.Goals as goal

pub meet_lsp-requires-clause-key : goal.meet_lsp-requires-clause-key
meet_lsp-requires-clause-key c e =
    let b = book_of c.args.self.now in
    let h = heard_of c.args.lsp.now in
    let same = c.lsp_row_of-row.ensures ∙ lsp-known c.args.whose c.known-known.result (cell_at b h.id) h c.known-known.ensures in
    confused-held c.args.whose (cell_at b h.id) h (rank-some c.args.lsp.now.entry c.requires.number) (sym same ∙ e)

pub returns-clause-book : goal.returns-clause-book
returns-clause-book c =
    let b = book_of c.args.self.now in
    let h = heard_of c.args.lsp.now in
    let same = c.lsp_row_of-row.ensures ∙ lsp-known c.args.whose c.known-known.result (cell_at b h.id) h c.known-known.ensures in
    c.in-Ok.ensures.book ∙ ap (λ (p : ℕ). set_cell b h.id (lsp_row c.lsp_row_of-row.result b.opened b.p2p p (cell_at b h.id) h)) c.place-place.ensures.place
    ∙ hear-met b (c.args.circuit - 1) c.args.whose h c.lsp_row_of-row.result same

pub returns-clause-answer : goal.returns-clause-answer
returns-clause-answer c =
    let b = book_of c.args.self.now in
    let h = heard_of c.args.lsp.now in
    let same = c.lsp_row_of-row.ensures ∙ lsp-known c.args.whose c.known-known.result (cell_at b h.id) h c.known-known.ensures in
    c.lsp_answer.ensures ∙ ap (λ (r : LspCase). answer_of r c.args.lsp.now) same

pub returns-clause-full : goal.returns-clause-full
returns-clause-full c makes full =
    let b = book_of c.args.self.now in
    let h = heard_of c.args.lsp.now in
    let same = c.lsp_row_of-row.ensures ∙ lsp-known c.args.whose c.known-known.result (cell_at b h.id) h c.known-known.ensures in
    c.in-Ok.ensures.full (subst (λ (r : LspCase). makes_entry r ≡ true) (sym same) makes) full
