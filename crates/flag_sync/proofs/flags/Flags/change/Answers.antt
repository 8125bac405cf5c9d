use Rattle.std.proofs.Common.{subst, sym}
use Rattle.isis_base.specs.Identifiers.{lsp_number}
use Rattle.flag_sync.specs.Among.{AreAmong}
use Rattle.flag_sync.proofs.AmongLemmas.{deed-among}
use Rattle.flag_sync.proofs.flags.Flags.change.Goals as goal

pub invariant_of-self : goal.invariant_of-self
invariant_of-self c =
    let f = c.self.inside.floods in
    let a = c.self.inside.answers in
    rw (c.floods_after-self-inside.ensures, c.answers_after-self-inside.ensures)
    (subst (AreAmong _ _) (sym c.change.ensures.entries)
    (deed-among c.args.deed.now f a c.self.inside.rows.entries (lsp_number c.args.id) c.self.invariant))
