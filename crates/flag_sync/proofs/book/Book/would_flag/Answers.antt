use Rattle.std.proofs.Common.{ap, ◌∙◌}
use Rattle.model_router.specs.declared.whose.Whose.TheVariants as whose
use Rattle.model_router.specs.Books.{cell_at}
use Rattle.model_router.specs.SnpTable.{sets_flag}
use Rattle.flag_sync.specs.Heard.{entry_of}
use Rattle.flag_sync.specs.BookStates.{book_of}
use Rattle.flag_sync.proofs.RowLemmas.{snp-known, flags-same}
use Rattle.flag_sync.proofs.book.Book.would_flag.Goals as goal

pub returns : goal.returns
returns c w =
    let h = entry_of c.args.entry.now in
    let held = cell_at (book_of c.args.self.now) h.id in
    c.is_flagged.ensures ∙ ap sets_flag (c.snp_row_of.ensures ∙ snp-known whose.Other c.known-known.result held h c.known-known.ensures) ∙ flags-same w held h
