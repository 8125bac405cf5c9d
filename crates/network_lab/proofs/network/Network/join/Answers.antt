use Rattle.std.proofs.Common.{◌≡◌, ℕ, ◌<◌, ◌++◌, ◌∷◌, [], List, length, map, vec_len, ap, sym, subst, ◌∙◌, arith}
use Rattle.std.specs.List.{AllByRecursion}
use Rattle.std.proofs.lemmas.List.{length-map}
use Rattle.model_router.specs.Routers.{Router}
use Rattle.model_network.specs.declared.end.End.{End}
use Rattle.router_desk.specs.declared.config.Config.{Config}
use Rattle.router_desk.specs.Limits.{IsValid}
use Rattle.network_lab.specs.LabNets.{LabNet, next_end, new_circuit}
use Rattle.network_lab.specs.Joining.{IsJoined}
use Rattle.network_lab.proofs.JoinLemmas.{all-valid, routers-less, join-all}
use Rattle.network_lab.proofs.network.Network.join.Goals as goal

pub joined_all-requires-clause-valid : goal.joined_all-requires-clause-valid
joined_all-requires-clause-valid g c =
    subst (AllByRecursion IsValid) (sym c.deref-2.ensures.value)
    (all-valid c.self.inside.configs.items (c.self.invariant.setup (ap (λ (a : LabNet). a.begun) c.self.view_is ∙ c.requires.setup)).fit)

pub joined_all-requires-clause-there : goal.joined_all-requires-clause-there
joined_all-requires-clause-there g c =
    subst (λ n. AllByRecursion (λ i. i < n) c.args.members.now) (sym (ap (λ (cs : List Config). length cs) c.deref-2.ensures.value ∙ ap (λ (a : LabNet). length a.configs) c.self.view_is)) c.requires.there

pub put_all-requires-clause-configs : goal.put_all-requires-clause-configs
put_all-requires-clause-configs g c =
    routers-less c.in_ok-joined.joined.items c.args.members.now (length c.args.self.now.configs) (length c.self.inside.configs.items) c.in_ok-joined.ensures.routers (sym (ap (λ (a : LabNet). length a.configs) c.self.view_is)) c.requires.there

pub put_all-requires-clause-routers : goal.put_all-requires-clause-routers
put_all-requires-clause-routers g c =
    let h = c.self.invariant in
    let m = sym (length-map c.self.inside.configs.items (λ (c : Config). length c.circuits)) ∙ (ap length (h.configs ∙ sym h.routers) ∙ length-map c.self.inside.routers.items (λ (r : Router). length r.circuits)) in
    routers-less c.in_ok-joined.joined.items c.args.members.now (length c.args.self.now.configs) (length c.self.inside.routers.items) c.in_ok-joined.ensures.routers (sym (ap (λ (a : LabNet). length a.configs) c.self.view_is) ∙ m) c.requires.there

pub put_all-requires-clause-ports : goal.put_all-requires-clause-ports
put_all-requires-clause-ports g c =
    let h = c.self.invariant in
    let m = sym (length-map c.self.inside.configs.items (λ (c : Config). length c.circuits)) ∙ (ap length h.configs ∙ length-map c.self.inside.ports.items (λ list. length list)) in
    routers-less c.in_ok-joined.joined.items c.args.members.now (length c.args.self.now.configs) (length c.self.inside.ports.items) c.in_ok-joined.ensures.routers (sym (ap (λ (a : LabNet). length a.configs) c.self.view_is) ∙ m) c.requires.there

pub invariant_of-self-2 : goal.invariant_of-self-2
invariant_of-self-2 g c =
    let i = c.self.inside in
    (join-all i.ports.items c.put_all.new.ports.items i.ordered.items c.push_reserved-2.new.self.items i.links.items c.push_reserved.new.self.items i.configs.items c.put_all.new.configs.items i.routers.items c.put_all.new.routers.items i.sent.items i.injected i.notes i.begun i.stopped c.args.self.now
    c.args.members.now c.args.kind c.args.metric c.len-link.result c.in_ok-joined.joined.items c.in_ok-ends.ends c.in_ok-ordered.ordered
    c.self.view_is c.self.invariant c.requires.setup c.requires.apart c.requires.metric
    (let e = c.len-link.ensures in let v : vec_len c.self.inside.links ≡ length c.self.inside.links.items = omega arith in omega (arith, e, v))
    (subst (λ (ps : List (List ℕ)). AllByRecursion (IsJoined i.configs.items ps c.len-link.result (new_circuit c.args.kind c.args.metric)) c.in_ok-joined.joined.items) c.deref-3.ensures.value
    (subst (λ (cs : List Config). AllByRecursion (IsJoined cs c.deref-3.result.now c.len-link.result (new_circuit c.args.kind c.args.metric)) c.in_ok-joined.joined.items) c.deref-2.ensures.value c.in_ok-joined.ensures.joined))
    c.in_ok-joined.ensures.routers
    (c.in_ok-ends.ensures ∙ ap (λ (cs : List Config). map (next_end cs) c.args.members.now) c.deref.ensures.value) c.in_ok-ordered.ensures
    (c.push_reserved.ensures.items ∙ ap (λ (ls : List (List End)). ls ++ (c.in_ok-ends.ends ∷ [])) c.make_link_room.ensures.links)
    (c.push_reserved-2.ensures.items ∙ ap (λ (ls : List (List End)). ls ++ (c.in_ok-ordered.ordered ∷ [])) c.make_link_room.ensures.ordered)
    c.put_all.ensures.configs c.put_all.ensures.routers c.put_all.ensures.ports).0

pub returns-clause-ok : goal.returns-clause-ok
returns-clause-ok g c =
    let i = c.self.inside in
    (join-all i.ports.items c.put_all.new.ports.items i.ordered.items c.push_reserved-2.new.self.items i.links.items c.push_reserved.new.self.items i.configs.items c.put_all.new.configs.items i.routers.items c.put_all.new.routers.items i.sent.items i.injected i.notes i.begun i.stopped c.args.self.now
    c.args.members.now c.args.kind c.args.metric c.len-link.result c.in_ok-joined.joined.items c.in_ok-ends.ends c.in_ok-ordered.ordered
    c.self.view_is c.self.invariant c.requires.setup c.requires.apart c.requires.metric
    (let e = c.len-link.ensures in let v : vec_len c.self.inside.links ≡ length c.self.inside.links.items = omega arith in omega (arith, e, v))
    (subst (λ (ps : List (List ℕ)). AllByRecursion (IsJoined i.configs.items ps c.len-link.result (new_circuit c.args.kind c.args.metric)) c.in_ok-joined.joined.items) c.deref-3.ensures.value
    (subst (λ (cs : List Config). AllByRecursion (IsJoined cs c.deref-3.result.now c.len-link.result (new_circuit c.args.kind c.args.metric)) c.in_ok-joined.joined.items) c.deref-2.ensures.value c.in_ok-joined.ensures.joined))
    c.in_ok-joined.ensures.routers
    (c.in_ok-ends.ensures ∙ ap (λ (cs : List Config). map (next_end cs) c.args.members.now) c.deref.ensures.value) c.in_ok-ordered.ensures
    (c.push_reserved.ensures.items ∙ ap (λ (ls : List (List End)). ls ++ (c.in_ok-ends.ends ∷ [])) c.make_link_room.ensures.links)
    (c.push_reserved-2.ensures.items ∙ ap (λ (ls : List (List End)). ls ++ (c.in_ok-ordered.ordered ∷ [])) c.make_link_room.ensures.ordered)
    c.put_all.ensures.configs c.put_all.ensures.routers c.put_all.ensures.ports).1
