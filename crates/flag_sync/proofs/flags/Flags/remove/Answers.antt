use Rattle.std.proofs.Common.{subst, sym}
use Rattle.isis_base.specs.Identifiers.{lsp_number}
use Rattle.lsp_store.specs.PageMaps.{PageMap}
use Rattle.flag_sync.specs.declared.flag_row.FlagRow.{FlagRow}
use Rattle.flag_sync.specs.Among.{AreAmong}
use Rattle.flag_sync.proofs.AmongLemmas.{erase-among}
use Rattle.flag_sync.proofs.flags.Flags.remove.Goals as goal

pub invariant_of-self : goal.invariant_of-self
invariant_of-self c =
    let f = c.self.inside.floods in
    let a = c.self.inside.answers in
    subst (λ (m : PageMap FlagRow). AreAmong f a m.entries) (sym c.remove.ensures.removed)
    (erase-among f a c.self.inside.rows.entries (lsp_number c.args.id) c.self.invariant)
