use Rattle.std.proofs.Common.{◌≤◌, List, length, sym, subst}
use Rattle.lsp_store.specs.Databases.{one_less}
use Rattle.lsp_store.proofs.StoreLemmas.{most-all}
use Rattle.lsp_store.proofs.store.Store.age_first_over.Goals as goal

pub invariant_of-self : goal.invariant_of-self
invariant_of-self c =
    subst (λ (entries : List _). length entries ≤ 65536) (sym c.note_all.ensures.entries) (most-all one_less c.self.inside.pages.entries c.self.invariant)
