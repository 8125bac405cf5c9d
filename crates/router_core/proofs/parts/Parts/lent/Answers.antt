use Rattle.std.proofs.Common.{◌∙◌, sym, ap}
use Rattle.router_routes.specs.Outlooks.{outlook_of}
use Rattle.router_core.specs.Machines.{machine_of}
use Rattle.router_core.proofs.RouteLemmas.{beside-long, lent-outlook, told-book}
use Rattle.router_core.proofs.parts.Parts.lent.Goals as goal

-- src/routes.rt
pub returns : goal.returns
returns c =
    let m = c.self.inside in
    lent-outlook (machine_of m) _ (sym c.system-system.ensures) c.system_law.ensures (sym c.as_slice.ensures) (sym c.levels.ensures) (sym c.as_slice-2.ensures.pairs)
    (told-book c.book-one.result.now m.one.book c.store-one.result.now c.book-one.ensures c.store-one.ensures (beside-long c.book-one.result.now.store.entries c.flag_pages-rows_of_one.result.now.entries c.book-one.result.now.rows c.flag_pages-rows_of_one.ensures.rows c.flag_pages-rows_of_one.ensures.beside) c.len-of_one.ensures.ids)
    (told-book c.book-two.result.now m.two.book c.store-two.result.now c.book-two.ensures c.store-two.ensures (beside-long c.book-two.result.now.store.entries c.flag_pages-rows_of_two.result.now.entries c.book-two.result.now.rows c.flag_pages-rows_of_two.ensures.rows c.flag_pages-rows_of_two.ensures.beside) c.len-of_two.ensures.ids)
    ∙ ap outlook_of c.self.view_is
