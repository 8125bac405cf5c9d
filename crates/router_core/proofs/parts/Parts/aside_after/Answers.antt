use Rattle.std.proofs.Common.{sym, subst}
use Rattle.model_router.specs.Routers.{level_of}
use Rattle.router_core.specs.Asides.{IsHeldAside}
use Rattle.router_core.proofs.NodesLemmas.{start-aside}
use Rattle.router_core.proofs.parts.Parts.aside_after.Goals as goal

-- src/snp_told.rt
pub returns-in-Ok : goal.returns-in-Ok
returns-in-Ok c place =
    let r = c.args.self.now in
    let l = c.args.level in
    let nodes = c.args.nodes.now in
    c.in-Ok.ensures nodes place (level_of r l) c.requires.covered
    (subst (IsHeldAside r l nodes (level_of r l)) (sym c.in_ok-aside.ensures) (start-aside r l nodes c.args.store.now.entries c.requires.shown c.requires.nodes))
