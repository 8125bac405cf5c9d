use Rattle.std.proofs.Common.{◌≡◌, length, IfSome, List, sym, ap, ◌∙◌, subst}
use Rattle.model_router.specs.Places.{nth}
use Rattle.router_desk.specs.declared.config.Config.{Config}
use Rattle.network_lab.specs.LabNets.{LabNet}
use Rattle.network_lab.specs.LabInside.{lab_of, IsNet}
use Rattle.network_lab.proofs.LabLemmas.{net-put}
use Rattle.network_lab.proofs.network.Network.put_config.Goals as goal

pub invariant_of-self : goal.invariant_of-self
invariant_of-self g c =
    let i = c.self.inside in
    subst (λ (configs : List Config). IsNet i.ports.items i.ordered.items (record (lab_of i) { configs = configs })) (sym c.put_at.ensures)
    (net-put i.ports.items i.ordered.items (lab_of i) c.args.router c.args.config c.self.invariant (ap (λ (l : LabNet). l.begun) c.self.view_is ∙ c.requires.begun)
    (subst (λ (l : LabNet). IfSome (nth l.configs c.args.router) (λ (x : Config). length c.args.config.circuits ≡ length x.circuits)) (sym c.self.view_is) c.requires.circuits))
