use Rattle.std.proofs.Common.{◌≡◌, ◌<◌, Option, length, ap, sym, subst, arith}
use Rattle.model_router.specs.Places.{nth, with_nth}
use Rattle.model_router.specs.Routers.{Router}
use Rattle.model_network.specs.Networks.{restarted}
use Rattle.model_network.specs.Runs.{boot_of}
use Rattle.network_lab.specs.LabNets.{LabNet}
use Rattle.network_lab.proofs.PlaceLemmas.{nth-get, of-place}
use Rattle.network_lab.proofs.TakeLemmas.{here, restart-off-ends, restart-stops, restart-ends, restart-is, stop-is, restart-goes, same-goes}
use Rattle.network_lab.proofs.network.Network.restart.Goals as goal

pub returns-then-boot-ge-BOOT_LIMIT : goal.returns-then-boot-ge-BOOT_LIMIT
returns-then-boot-ge-BOOT_LIMIT g c =
    let i = c.self.inside in
    let q = here i.routers.items c.args.self.now c.args.router c.index.result.now (ap (λ (l : LabNet). l.seen.routers) c.self.view_is) c.requires.there c.index.ensures in
    restart-off-ends c.args.self.now c.args.router c.index.result.now q (omega (arith, c.if-boot-ge-BOOT_LIMIT.true, c.boot.ensures))

pub restart_at-requires-clause-boot : goal.restart_at-requires-clause-boot
restart_at-requires-clause-boot g c =
    let s = ap (λ (l : LabNet). length l.seen.routers) c.self.view_is in
    subst (λ (o : Option Router). boot_of o < 16777215) (sym (nth-get c.self.inside.routers.items c.args.router c.index.result.now (omega (arith, c.requires.there, s)) c.index.ensures)) (omega (arith, c.if-boot-ge-BOOT_LIMIT.false, c.boot.ensures))

pub returns-in-Ok : goal.returns-in-Ok
returns-in-Ok g c =
    let i = c.self.inside in
    let s = ap (λ (l : LabNet). length l.seen.routers) c.self.view_is in
    let q = here i.routers.items c.args.self.now c.args.router c.index.result.now (ap (λ (l : LabNet). l.seen.routers) c.self.view_is) c.requires.there c.index.ensures in
    let p = nth-get i.routers.items c.args.router c.index.result.now (omega (arith, c.requires.there, s)) c.index.ensures in
    restart-ends c.args.self.now _ c.args.router c.index.result.now c.requires.running q (omega (arith, c.if-boot-ge-BOOT_LIMIT.false, c.boot.ensures))
    (restart-is i.configs.items i.routers.items c.restart_at.new.routers.items i.links.items i.sent.items i.injected i.notes i.begun i.stopped c.args.self.now c.args.router c.index.result.now c.self.view_is
    (of-place (λ (r : Router). c.restart_at.new.routers.items ≡ with_nth i.routers.items c.args.router (restarted r)) (nth i.routers.items c.args.router) c.index.result.now p c.in-Ok.ensures.state))

pub returns-in-Err : goal.returns-in-Err
returns-in-Err g c =
    let i = c.self.inside in
    let q = here i.routers.items c.args.self.now c.args.router c.index.result.now (ap (λ (l : LabNet). l.seen.routers) c.self.view_is) c.requires.there c.index.ensures in
    restart-stops c.args.self.now c.stop.new.self c.args.router c.index.result.now c.stop.result q (omega (arith, c.if-boot-ge-BOOT_LIMIT.false, c.boot.ensures)) c.stop.ensures.result
    (stop-is i.configs.items i.routers.items c.restart_at.new.routers.items i.links.items i.sent.items i.injected i.notes i.begun i.stopped c.args.self.now c.stop.new.self c.self.view_is c.in-Err.ensures.err c.stop.ensures.stopped)

pub invariant_of-self : goal.invariant_of-self
invariant_of-self g c =
    let i = c.self.inside in
    let s = ap (λ (l : LabNet). length l.seen.routers) c.self.view_is in
    let p = nth-get i.routers.items c.args.router c.index.result.now (omega (arith, c.requires.there, s)) c.index.ensures in
    restart-goes i.ports.items i.ordered.items i.configs.items i.routers.items c.restart_at.new.routers.items i.links.items i.sent.items i.injected i.notes i.begun i.stopped c.args.router c.index.result.now
    c.self.invariant p (omega (arith, c.if-boot-ge-BOOT_LIMIT.false, c.boot.ensures))
    (of-place (λ (r : Router). c.restart_at.new.routers.items ≡ with_nth i.routers.items c.args.router (restarted r)) (nth i.routers.items c.args.router) c.index.result.now p c.in-Ok.ensures.state)
    c.restart_at.ensures.shapes

pub invariant_of-self-in-Err : goal.invariant_of-self-in-Err
invariant_of-self-in-Err g c =
    let i = c.self.inside in
    same-goes i.ports.items i.ordered.items i.configs.items i.routers.items c.restart_at.new.routers.items i.links.items i.sent.items i.injected i.notes i.begun i.stopped c.self.invariant c.in-Err.ensures.err
