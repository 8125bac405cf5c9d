use Rattle.std.proofs.Common.{◌≤◌, length, refl, sym, subst, ap}
use Rattle.lsp_store.specs.Databases.{Database}
use Rattle.lsp_store.specs.PageMaps.{PageMap}
use Rattle.lsp_store.proofs.StoreLemmas.{most-put}
use Rattle.lsp_store.proofs.store.Store.put.Goals as goal

pub invariant_of-self : goal.invariant_of-self
invariant_of-self c =
    let same = ap (λ (d : Database). d.entries) c.self.view_is in
    let full = c.if-is_full_for.ensures in
    subst (λ (kept : PageMap _). length kept.entries ≤ 65536) (sym c.in-Ok.ensures.ok) (most-put c.self.inside.pages.entries c.args.self.now.entries c.args.id c.args.entry same full.rises c.self.invariant (full.no refl))
