use Rattle.std.proofs.Common.{◌≡◌, ℕ, suc, ◌+◌, List, [], ◌∷◌, ◌++◌, take, sym, subst, arith}
use Rattle.packet_trace.specs.declared.forwarder.Forwarder.{Forwarder}
use Rattle.trace_text.specs.Forwarders.{AreForwarders}
use Rattle.trace_text.proofs.ForwarderLemmas.{one-more}
use Rattle.trace_text.proofs.forwarders.forwarders_of.Goals as goal

pub loop-place-preserved : goal.loop-place-preserved
loop-place-preserved c =
    let routers = c.args.network.now.seen.routers in
    let place = c.loop-place.place in
    let next : suc place ≡ place + 1 = omega arith in
    subst (λ (fs : List Forwarder). AreForwarders (take (place + 1) routers) fs) (sym c.in-Ok-push.ensures.items)
    (subst (λ (n : ℕ). AreForwarders (take n routers) (c.loop-place.forwarders.items ++ (c.in-Ok.forwarder ∷ []))) next (one-more routers place c.router.result.now c.loop-place.forwarders.items c.in-Ok.forwarder c.loop-place.invariant c.router.ensures c.in-Ok.ensures))
