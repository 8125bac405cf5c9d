use Rattle.std.proofs.Common.{◌∙◌, List, length, sym, ap}
use Rattle.std.specs.Vec.Iter.{into_iter_items}
use Rattle.network_lab.specs.declared.joining.Joined.{Joined}
use Rattle.network_lab.specs.Joining.{configs_with, routers_with, ports_with}
use Rattle.network_lab.proofs.JoinLemmas.{left-less}
use Rattle.network_lab.proofs.PlaceLemmas.{length-with}
use Rattle.network_lab.proofs.joining.put_all.Goals as goal

pub loop-next-preserved : goal.loop-next-preserved
loop-next-preserved g c =
    let all = into_iter_items c.loop-next.left in
    let rest = into_iter_items c.next.new.self in
    let is = c.in-Some.ensures.items in
    let was = c.loop-next.invariant in
    let router = c.in-Some.next.router in
    record {
      configs = ap (configs_with rest) c.put_setup.ensures.configs ∙ ap (λ (js : List (Joined _)). configs_with js c.loop-next.configs.items) (sym is) ∙ was.configs;
      routers = ap (routers_with rest) c.put_setup.ensures.routers ∙ ap (λ (js : List (Joined _)). routers_with js c.loop-next.routers.items) (sym is) ∙ was.routers;
      ports = ap (ports_with rest) c.put_at.ensures ∙ ap (λ (js : List (Joined _)). ports_with js c.loop-next.ports.items) (sym is) ∙ was.ports;
      on_configs = left-less _ _ all rest c.in-Some.next is (ap length c.put_setup.ensures.configs ∙ length-with c.loop-next.configs.items router c.in-Some.next.setup.config) was.on_configs;
      on_routers = left-less _ _ all rest c.in-Some.next is (ap length c.put_setup.ensures.routers ∙ length-with c.loop-next.routers.items router c.in-Some.next.setup.router) was.on_routers;
      on_ports = left-less _ _ all rest c.in-Some.next is (ap length c.put_at.ensures ∙ length-with c.loop-next.ports.items router c.in-Some.next.ports) was.on_ports;
    }
