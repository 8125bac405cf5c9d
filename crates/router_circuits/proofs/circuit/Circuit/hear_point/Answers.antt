use Rattle.std.proofs.Common.{◌≡◌, ℕ, List, false, ◌∙◌, ap}
use Rattle.model_router.specs.Adjacencies as model
use Rattle.model_router.specs.Hellos.{minded}
use Rattle.model_router.specs.Routers.{Circuit}
use Rattle.router_circuits.specs.Hellos.{hello_of}
use Rattle.router_circuits.specs.Views.{boots_in, heard_in, is_lan, levels_in, point_in}
use Rattle.router_circuits.proofs.ChangeLemmas.{met-some, anew-some, ok-of}
use Rattle.router_circuits.proofs.circuit.Circuit.hear_point.Goals as goal

pub returns-clause-heard : goal.returns-clause-heard
returns-clause-heard c config is =
    let h = hello_of c.args.hello.now in
    let old = c.self.inside in
    let lan : is_lan old.medium ≡ false = ap (λ (x : Circuit). x.lan) c.self.view_is ∙ c.requires in
    let view : Circuit = record {
      lan = is_lan old.medium;
      metric = old.metric;
      priority = old.priority;
      address = old.address;
      key = old.key;
      point = point_in old.medium;
      levels = levels_in (heard_in old.medium) old.one old.two;
      hello = old.hello;
      boots = boots_in old.boots;
    } in
    met-some old.medium c.hear_point-heard.new.self old.one old.two view c.args.self.now (model.common_of config h) h c.in-Ok.greeted c.self.view_is h.handshake _ _ _ _
    c.due_or-self-inside.ensures c.with_due-self-inside.ensures c.with_due-self-inside-2.ensures
    (ok-of _ c.in-Ok.is c.hear_point-heard.ensures.minded ∙ ap (λ (boots : List (ℕ × ℕ)). minded boots h) c.in_ok-boots.ensures.taken)
    lan c.hear_point-heard.ensures.lan (ok-of _ c.in-Ok.is (c.hear_point-heard.ensures.greeted config is))

pub returns-clause-anew : goal.returns-clause-anew
returns-clause-anew c config is =
    let h = hello_of c.args.hello.now in
    let old = c.self.inside in
    let view : Circuit = record {
      lan = is_lan old.medium;
      metric = old.metric;
      priority = old.priority;
      address = old.address;
      key = old.key;
      point = point_in old.medium;
      levels = levels_in (heard_in old.medium) old.one old.two;
      hello = old.hello;
      boots = boots_in old.boots;
    } in
    anew-some old.medium c.hear_point-heard.new.self old.one old.two view c.args.self.now (model.common_of config h) h c.in-Ok.greeted c.self.view_is h.handshake
    (ok-of _ c.in-Ok.is (c.hear_point-heard.ensures.greeted config is))
