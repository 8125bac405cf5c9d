use Rattle.std.proofs.Common.{subst, sym}
use Rattle.flag_sync.specs.FlagRows.{done}
use Rattle.flag_sync.specs.Among.{AreAmong, floods_after_all, answers_after_all}
use Rattle.flag_sync.proofs.AmongLemmas.{each-among, row-all-done}
use Rattle.flag_sync.proofs.flags.Flags.change_all.Goals as goal

pub invariant_of-self : goal.invariant_of-self
invariant_of-self c =
    let f = c.self.inside.floods in
    let a = c.self.inside.answers in
    let deed = c.args.deed.now in
    let g = floods_after_all deed.srm deed.place f in
    let b = answers_after_all deed.ssn deed.place a in
    rw (c.floods_after_all-self-inside.ensures, c.answers_after_all-self-inside.ensures)
    (subst (AreAmong g b) (sym c.change_all.ensures.entries)
    (each-among f a g b (done deed) c.self.inside.rows.entries (row-all-done deed f a) c.self.invariant))
