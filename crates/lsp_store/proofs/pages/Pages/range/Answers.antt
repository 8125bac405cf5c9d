use Rattle.std.proofs.Common.{List, ap, ap₂, ◌∙◌}
use Rattle.isis_base.specs.Identifiers.{lsp_number}
use Rattle.lsp_store.specs.Maps.{from, upto, between}
use Rattle.lsp_store.specs.Places.{flatten}
use Rattle.lsp_store.specs.PageMaps.{PageMap}
use Rattle.lsp_store.proofs.RangeLemmas.{range-between}
use Rattle.lsp_store.proofs.pages.Pages.range.Goals as goal

pub returns : goal.returns
returns g c =
    let all = flatten c.self.inside.pages.items in
    let read = c.range_of.ensures ∙ ap (λ (ps : List (List _)). upto c.to_number-2.result (from c.to_number.result (flatten ps))) c.deref.ensures.value in
    let rule = range-between c.to_number.result c.to_number-2.result 0 all c.self.invariant.rises in
    let named = ap₂ (λ m n. between m n all) c.to_number.ensures c.to_number-2.ensures in
    read ∙ rule ∙ named ∙ ap (λ (kept : PageMap _). between (lsp_number c.args.start) (lsp_number c.args.end) kept.entries) c.self.view_is
