use Rattle.adjacency.proofs.LanLemmas.{all-shown, are_heard}
use Rattle.adjacency.proofs.lan.LanAdj.heard.Goals as goal

pub returns-clause-all : goal.returns-clause-all
returns-clause-all c =
    rw (← c.self.view_is, c.deref.ensures.value) (all-shown c.self.inside.heard.items c.self.inside.up.items _ _ c.self.invariant)

pub returns-clause-heard : goal.returns-clause-heard
returns-clause-heard c =
    rw (← c.self.view_is) (are_heard c.self.inside.heard.items c.self.inside.up.items _ _ c.self.invariant)
