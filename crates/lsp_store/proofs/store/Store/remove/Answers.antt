use Rattle.std.proofs.Common.{◌≤◌, length, sym, subst}
use Rattle.isis_base.specs.Identifiers.{lsp_number}
use Rattle.lsp_store.specs.PageMaps.{PageMap}
use Rattle.lsp_store.proofs.StoreLemmas.{most-erase}
use Rattle.lsp_store.proofs.store.Store.remove.Goals as goal

pub invariant_of-self : goal.invariant_of-self
invariant_of-self c =
    subst (λ (kept : PageMap _). length kept.entries ≤ 65536) (sym c.remove-before.ensures.removed) (most-erase c.self.inside.pages.entries (lsp_number c.args.id) c.self.invariant)
