use Rattle.std.proofs.Common.{◌≡◌, ◌≢◌, List, [], ◌∷◌, ◌++◌, sym, ap, ◌∙◌, subst}
use Rattle.std.specs.List.{AllByRecursion}
use Rattle.router_desk.specs.declared.config.Config.{Config}
use Rattle.router_core.specs.Reached.{IsReached}
use Rattle.network_lab.specs.LabNets.{LabNet}
use Rattle.network_lab.proofs.SetupLemmas.{router-more}
use Rattle.network_lab.proofs.network.Network.add_router.Goals as goal

snoc : {A : Type 0} {xs ys : List A} {x y : A} → xs ≡ ys → x ≡ y → xs ++ (x ∷ []) ≡ ys ++ (y ∷ [])
snoc e f = cc

pub invariant_of-self-2 : goal.invariant_of-self-2
invariant_of-self-2 g c =
    let i = c.self.inside in
    router-more i.ports.items _ i.ordered.items i.links.items i.configs.items _ i.routers.items _ i.sent.items i.injected i.notes i.begun i.stopped c.args.config
    c.self.invariant (ap (λ (l : LabNet). l.begun) c.self.view_is ∙ c.requires.setup) c.requires.valid (subst IsReached c.in_ok-setup.ensures.router c.in_ok-setup.ensures.reached) c.requires.bare c.setup_of.ensures.system (subst (λ (l : LabNet). AllByRecursion (λ (other : Config). other.system ≢ c.args.config.system) l.configs) (sym c.self.view_is) c.requires.fresh)
    (c.push_reserved.ensures.items ∙ snoc c.make_room.ensures.configs c.in_ok-setup.ensures.config)
    (c.push_reserved-2.ensures.items ∙ snoc c.make_room.ensures.routers c.in_ok-setup.ensures.router)
    (c.push_reserved-3.ensures.items ∙ snoc c.make_room.ensures.ports c.new.ensures)
