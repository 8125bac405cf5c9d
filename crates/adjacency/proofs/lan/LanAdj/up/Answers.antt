use Rattle.adjacency.proofs.LanLemmas.{ups-are, are_heard}
use Rattle.adjacency.proofs.lan.LanAdj.up.Goals as goal

pub returns-clause-up : goal.returns-clause-up
returns-clause-up c =
    rw (← c.self.view_is, c.deref.ensures.value) (ups-are c.self.inside.heard.items c.self.inside.up.items _ _ c.self.invariant)

pub returns-clause-heard : goal.returns-clause-heard
returns-clause-heard c =
    rw (← c.self.view_is) (are_heard c.self.inside.heard.items c.self.inside.up.items _ _ c.self.invariant)
