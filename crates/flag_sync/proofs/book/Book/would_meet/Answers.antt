use Rattle.std.proofs.Common.{ap, ◌∙◌}
use Rattle.model_router.specs.declared.lsp_case.LspCase.{LspCase}
use Rattle.model_router.specs.Books.{cell_at}
use Rattle.flag_sync.specs.Heard.{heard_of, answer_of}
use Rattle.flag_sync.specs.BookStates.{book_of}
use Rattle.flag_sync.proofs.RowLemmas.{lsp-known}
use Rattle.flag_sync.proofs.book.Book.would_meet.Goals as goal

pub returns : goal.returns
returns c =
    let h = heard_of c.args.lsp.now in
    let held = cell_at (book_of c.args.self.now) h.id in
    c.lsp_answer.ensures
    ∙ ap (λ (r : LspCase). answer_of r c.args.lsp.now) (c.lsp_row_of-row.ensures ∙ lsp-known c.args.whose c.known-known.result held h c.known-known.ensures)
