use Rattle.std.proofs.Common.{◌≡◌, ◌-◌, ℕ, List, sym, subst, ap, ◌∙◌, arith}
use Rattle.isis_base.specs.declared.identifiers.LspId.{LspId}
use Rattle.isis_base.specs.Identifiers.{lsp_number}
use Rattle.model_router.specs.Cells.{Cell}
use Rattle.model_router.specs.Books.{Book}
use Rattle.model_router.specs.SnpTable.{is_missed, hear_range}
use Rattle.lsp_store.specs.Maps.{between}
use Rattle.flag_sync.specs.declared.flag_row.FlagRow.{FlagRow}
use Rattle.flag_sync.specs.Heard.{entries_of}
use Rattle.flag_sync.specs.Marks.{marks, any_cell, is_unlisted}
use Rattle.flag_sync.specs.BookStates.{BookState, cells_of, book_of, AreBeside}
use Rattle.flag_sync.proofs.MarkLemmas.{within, marks-beside, marks-cells, marks-between, missed-cells, some-between, some-cells, is-missed}
use Rattle.flag_sync.proofs.book.Book.hear_csnp_range.Goals as goal

pub invariant_of-self : goal.invariant_of-self
invariant_of-self c =
    let i = c.self.invariant in
    let es = c.self.inside.store.entries in
    record {
      beside = subst (AreBeside es) (sym c.mark_missed.ensures.rows) (marks-beside (is_unlisted c.args.listed.now) c.place-place.result (between (lsp_number c.args.start) (lsp_number c.args.end) es) es c.self.inside.flags.entries i.beside);
      rises = i.rises;
      headed = i.headed;
      room = let spare = c.mark_missed.ensures.spare in let room = i.room in omega (arith, spare, room);
      few = i.few;
    }

pub returns-clause-book : goal.returns-clause-book
unfolding hear_range
returns-clause-book c =
    let s : BookState = record {
      store = c.self.inside.store;
      rows = c.self.inside.flags.entries;
      opened = c.self.inside.opened;
      points = c.self.inside.points;
      circuits = c.self.inside.circuits;
    } in
    let i = c.self.invariant in
    let p = c.args.circuit - 1 in
    let a = lsp_number c.args.start in
    let b = lsp_number c.args.end in
    let es = c.self.inside.store.entries in
    let rs = c.self.inside.flags.entries in
    let test = is_unlisted c.args.listed.now in
    let rows = c.mark_missed.ensures.rows ∙ ap (λ (q : ℕ). marks test q (between a b es) rs) c.place-place.ensures.place ∙ marks-between test p a b es rs in
    subst (λ (t : BookState). book_of (record s { rows = c.mark_missed.new.flags.entries }) ≡ hear_range (book_of t) p a b (entries_of c.args.listed.now)) c.self.view_is
    (ap (λ (xs : List (LspId × FlagRow)). book_of (record s { rows = xs })) rows
    ∙ ap (λ (cs : List (ℕ × Cell)). let n : Book = record (book_of s) { cells = cs } in n) (marks-cells (within a b test) p es rs i.rises i.beside ∙ missed-cells a b c.args.listed.now p (cells_of es rs)))

pub returns-clause-missed : goal.returns-clause-missed
returns-clause-missed c =
    let s : BookState = record {
      store = c.self.inside.store;
      rows = c.self.inside.flags.entries;
      opened = c.self.inside.opened;
      points = c.self.inside.points;
      circuits = c.self.inside.circuits;
    } in
    let i = c.self.invariant in
    let a = lsp_number c.args.start in
    let b = lsp_number c.args.end in
    let es = c.self.inside.store.entries in
    let rs = c.self.inside.flags.entries in
    let test = is_unlisted c.args.listed.now in
    subst (λ (t : BookState). c.mark_missed.result ≡ any_cell (is_missed a b (entries_of c.args.listed.now)) (book_of t).cells) c.self.view_is
    (c.mark_missed.ensures.some ∙ some-between test a b es ∙ some-cells (within a b test) (is_missed a b (entries_of c.args.listed.now)) (is-missed a b c.args.listed.now) es rs i.beside)
