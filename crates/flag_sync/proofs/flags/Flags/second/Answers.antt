use Rattle.std.proofs.Common.{subst, sym}
use Rattle.flag_sync.specs.FlagRows.{row_less}
use Rattle.flag_sync.specs.Among.{AreAmong}
use Rattle.flag_sync.proofs.AmongLemmas.{each-among}
use Rattle.flag_sync.proofs.flags.Flags.second.Goals as goal

pub invariant_of-self : goal.invariant_of-self
invariant_of-self c =
    let i = c.self.invariant in
    let f = c.self.inside.floods in
    let a = c.self.inside.answers in
    subst (AreAmong f a) (sym c.change_all.ensures.entries)
    (each-among f a f a row_less c.self.inside.rows.entries (λ row m. record { srm = m.srm; ssn = m.ssn }) i)
