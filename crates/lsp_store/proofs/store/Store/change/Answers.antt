use Rattle.std.proofs.Common.{◌≤◌, List, length, sym, subst}
use Rattle.isis_base.specs.Identifiers.{lsp_number}
use Rattle.lsp_store.proofs.StoreLemmas.{most-change}
use Rattle.lsp_store.proofs.store.Store.change.Goals as goal

pub invariant_of-self : goal.invariant_of-self
invariant_of-self g c =
    subst (λ (entries : List _). length entries ≤ 65536) (sym c.change.ensures.entries) (most-change (g.C.Change.changed c.args.change.now) c.self.inside.pages.entries (lsp_number c.args.id) c.self.invariant)

pub invariant_of-self-2 : goal.invariant_of-self-2
invariant_of-self-2 g c =
    subst (λ (entries : List _). length entries ≤ 65536) (sym c.change.ensures.entries) (most-change (g.C.Change.changed c.args.change.now) c.self.inside.pages.entries (lsp_number c.args.id) c.self.invariant)
