use Rattle.std.proofs.Common.{List, length, ap, ◌∙◌, subst, arith}
use Rattle.isis_base.specs.declared.identifiers.LspId.{LspId}
use Rattle.lsp_store.specs.Databases.{Database}
use Rattle.flag_sync.specs.declared.flag_row.FlagRow.{FlagRow}
use Rattle.flag_sync.specs.BookStates.{AreBeside}
use Rattle.timeline_text.proofs.FlagLemmas.{count_rows, rows-are, as-many}
use Rattle.timeline_text.proofs.flags.circuit_flags.Goals as goal

pub loop-row-init : goal.loop-row-init
loop-row-init c =
    let same = c.pairs-rows.ensures ∙ c.flag_pages.ensures.rows in
    let counted = ap (count_rows c.args.place) same in
    let many = ap (λ (rows : List (LspId × FlagRow)). length rows) c.pairs-rows.ensures in
    let beside = as-many c.args.book.now.store.entries _ c.flag_pages.ensures.beside in
    let store = ap (λ (s : Database). length s.entries) c.store.ensures in
    record {
      flags = omega (arith, counted);
      few = omega (arith, many, beside, store, c.len-len.ensures.same, c.len-len.ensures.most);
    }

pub returns-clause-flags : goal.returns-clause-flags
returns-clause-flags c =
    let left = ap (count_rows c.args.place) c.in_default.ensures.steps.0 in
    let all = rows-are c.args.place c.args.book.now.store.entries c.args.book.now.rows
    (subst (λ (rows : List (LspId × FlagRow)). AreBeside c.args.book.now.store.entries rows) c.flag_pages.ensures.rows c.flag_pages.ensures.beside) in
    omega (arith, c.loop-row.invariant.flags, left, all)
