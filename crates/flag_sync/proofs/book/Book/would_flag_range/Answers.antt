use Rattle.std.proofs.Common.{◌≡◌, subst, ◌∙◌}
use Rattle.isis_base.specs.Identifiers.{lsp_number}
use Rattle.model_router.specs.SnpTable.{is_missed}
use Rattle.flag_sync.specs.Heard.{entries_of}
use Rattle.flag_sync.specs.Marks.{any_cell, is_unlisted}
use Rattle.flag_sync.specs.BookStates.{BookState, book_of}
use Rattle.flag_sync.proofs.MarkLemmas.{within, some-between, some-cells, is-missed}
use Rattle.flag_sync.proofs.book.Book.would_flag_range.Goals as goal

pub returns : goal.returns
returns c =
    let s : BookState = record {
      store = c.self.inside.store;
      rows = c.self.inside.flags.entries;
      opened = c.self.inside.opened;
      points = c.self.inside.points;
      circuits = c.self.inside.circuits;
    } in
    let i = c.self.invariant in
    let a = lsp_number c.args.start in
    let b = lsp_number c.args.end in
    let es = c.self.inside.store.entries in
    let rs = c.self.inside.flags.entries in
    let test = is_unlisted c.args.listed.now in
    subst (λ (t : BookState). c.has_missed.result ≡ any_cell (is_missed a b (entries_of c.args.listed.now)) (book_of t).cells) c.self.view_is
    (c.has_missed.ensures ∙ some-between test a b es ∙ some-cells (within a b test) (is_missed a b (entries_of c.args.listed.now)) (is-missed a b c.args.listed.now) es rs i.beside)
