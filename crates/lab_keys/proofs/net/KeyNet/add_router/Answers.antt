use Rattle.lab_keys.proofs.NetLemmas.{AreHeld-router}
use Rattle.lab_keys.proofs.net.KeyNet.add_router.Goals as goal

pub invariant_of-self-2 : goal.invariant_of-self-2
invariant_of-self-2 c = let n = c.new.ensures in let p = c.in_ok-push.ensures.items in rw p (AreHeld-router _ _ _ _ _ c.self.invariant n.items)
