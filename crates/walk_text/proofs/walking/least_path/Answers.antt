use Rattle.std.proofs.Common.{◌≡◌, ℕ, ◌+◌, List, [], ◌∷◌, length, sym, ap, ◌∙◌, subst, arith, length-append}
use Rattle.std.specs.Option.{option_map}
use Rattle.model_router.specs.Routers.{Router}
use Rattle.spf_tree.specs.Nodes.{system_node}
use Rattle.route_table.specs.Ranks.{prefix_number}
use Rattle.network_lab.proofs.PlaceLemmas.{of-place}
use Rattle.walk_text.specs.Foreign.{node_of}
use Rattle.walk_text.specs.OnWay.{IsOnWay}
use Rattle.walk_text.proofs.ListLemmas.{contains-nth, nth-contains}
use Rattle.walk_text.proofs.LookLemmas.{look-at, looks-long, router-at, router-is}
use Rattle.walk_text.proofs.WayLemmas.{ready, begins, goes, arrives-home, next-there, few-places, less-left}
use Rattle.walk_text.proofs.walking.least_path.Goals as goal

pub loop-hop-init : goal.loop-hop-init
loop-hop-init c = (
  c.requires.there,
  λ looks are.
      let routers : List Router = c.args.network.now.seen.routers in
      let l = look-at routers looks are c.args.from c.router.result.now c.router.ensures in (
        subst (λ (ps : List ℕ). IsOnWay looks (prefix_number c.args.prefix) c.args.from ps c.args.from) (sym c.new-places.ensures.items) (begins looks (prefix_number c.args.prefix) c.args.from l.0 l.1),
        (λ look route at is. c.least_hop-hop.ensures look route (router-is routers looks are c.args.from look c.router.result.now at c.router.ensures) (are.routes_are look (contains-nth looks c.args.from look at)) is),
      ),
)

pub place_of-place-requires : goal.place_of-place-requires
place_of-place-requires c =
    let routers : List Router = c.args.network.now.seen.routers in
    let looks = c.requires.looks.0 in let are = c.requires.looks.1 in
    let v = c.loop-hop.invariant.1 looks are in
    let t = c.requires.tested looks are in
    let r = ready c.forward_law.ensures routers looks are c.requires.reached c.facts.ensures.systems (prefix_number c.args.prefix) c.args.from c.loop-hop.place c.loop-hop.places.items t.0 t.1 (c.requires.route looks are) v.0 in
    let next = next-there looks (prefix_number c.args.prefix) c.args.from c.loop-hop.place c.loop-hop.places.items c.in-Some.system v.0 r
    (λ last is. ap (option_map system_node) (sym c.in-Some.is) ∙ v.1 v.0.here last v.0.here_at is) in
    let at = nth-contains looks next.0 next.1 in
    (at.0, next.0.router, router-at routers looks are at.0 next.0 at.1, next.2)

pub loop-hop-smaller : goal.loop-hop-smaller
loop-hop-smaller c =
    let routers : List Router = c.args.network.now.seen.routers in
    let looks = c.requires.looks.0 in let are = c.requires.looks.1 in
    let v = c.loop-hop.invariant.1 looks are in
    let t = c.requires.tested looks are in
    let r = ready c.forward_law.ensures routers looks are c.requires.reached c.facts.ensures.systems (prefix_number c.args.prefix) c.args.from c.loop-hop.place c.loop-hop.places.items t.0 t.1 (c.requires.route looks are) v.0 in
    let few = few-places looks (prefix_number c.args.prefix) c.args.from c.loop-hop.place c.loop-hop.places.items v.0 r in
    let long = looks-long routers looks are in
    let more : length c.push.new.self.items ≡ length c.loop-hop.places.items + 1 = ap length c.in_ok-push.ensures.items ∙ length-append c.loop-hop.places.items (c.place_of-place.result ∷ []) in
    less-left (length routers) (length c.loop-hop.places.items) (length c.push.new.self.items) more (omega (arith, few, long))

pub loop-hop-preserved : goal.loop-hop-preserved
loop-hop-preserved c = (
  c.place_of-place.ensures.there,
  λ looks are.
      let routers : List Router = c.args.network.now.seen.routers in
      let v = c.loop-hop.invariant.1 looks are in
      let t = c.requires.tested looks are in
      let r = ready c.forward_law.ensures routers looks are c.requires.reached c.facts.ensures.systems (prefix_number c.args.prefix) c.args.from c.loop-hop.place c.loop-hop.places.items t.0 t.1 (c.requires.route looks are) v.0 in
      let to : ℕ = c.place_of-place.result in
      let l = look-at routers looks are to c.router-in-Some.result.now c.router-in-Some.ensures in
      let node = of-place (λ (x : Router). node_of x ≡ system_node c.in-Some.system) _ c.router-in-Some.result.now c.router-in-Some.ensures c.place_of-place.ensures.node in (
        subst (λ (ps : List ℕ). IsOnWay looks (prefix_number c.args.prefix) c.args.from ps to) (sym c.in_ok-push.ensures.items)
            (goes looks (prefix_number c.args.prefix) c.args.from c.loop-hop.place to r.owner l.0 r.route c.loop-hop.places.items c.in-Some.system v.0 r.alike r.arrives
            (λ last is. ap (option_map system_node) (sym c.in-Some.is) ∙ v.1 v.0.here last v.0.here_at is) l.1 (ap node_of l.2 ∙ node)),
        (λ look route at is. c.least_hop-hop-in-Some.ensures look route (router-is routers looks are to look c.router-in-Some.result.now at c.router-in-Some.ensures) (are.routes_are look (contains-nth looks to look at)) is),
      ),
)

pub returns : goal.returns
returns c = λ looks are.
    let routers : List Router = c.args.network.now.seen.routers in
    let v = c.loop-hop.invariant.1 looks are in
    let t = c.requires.tested looks are in
    let r = ready c.forward_law.ensures routers looks are c.requires.reached c.facts.ensures.systems (prefix_number c.args.prefix) c.args.from c.loop-hop.place c.loop-hop.places.items t.0 t.1 (c.requires.route looks are) v.0 in
    arrives-home looks (prefix_number c.args.prefix) c.args.from c.loop-hop.place r.owner r.route c.loop-hop.places.items v.0 r.alike r.owned r.arrives
    (λ last is. ap (option_map system_node) (sym c.in_default.is) ∙ v.1 v.0.here last v.0.here_at is)
