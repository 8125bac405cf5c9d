use Rattle.std.proofs.Common.{length, ap, arith}
use Rattle.lsp_store.specs.Databases.{Database}
use Rattle.lab_facts.proofs.CellLemmas.{cells_few}
use Rattle.lab_facts.proofs.cells.Cells.new.Goals as goal

pub returns-clause-few : goal.returns-clause-few
returns-clause-few c =
    let a = cells_few c.pairs-entries.result c.pairs-rows.result in
    let b = ap length c.pairs-entries.ensures in
    let d = ap length c.pages.ensures.entries in
    let e = ap (λ (s : Database). length s.entries) c.store-2.ensures in
    let f = ap (λ (s : Database). length s.entries) c.store.ensures in
    let g = c.len-len.ensures.same in
    omega (arith, a, b, d, e, f, g, c.len-len.ensures.most)
