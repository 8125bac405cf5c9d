use Rattle.router_routes.proofs.OwnLemmas.{own-listed, own-of, own-stay}
use Rattle.router_routes.proofs.PatchLemmas.{all-listed, first-listed}
use Rattle.router_routes.proofs.touched.own_touched.Goals as goal

pub returns-in-None-clause-all : goal.returns-in-None-clause-all
returns-in-None-clause-all c = first-listed c.new-prefixes.result.items _ _ c.new-prefixes.ensures.items c.in-Ok.ensures.items c.for_all.ensures

pub returns-in-None-clause-own : goal.returns-in-None-clause-own
returns-in-None-clause-own c = own-stay c.args.lent.now c.args.told.now c.args.view.now _ c.requires.viewed c.in-None.is

pub returns-in_ok-add_own-in-Some-2-clause-all : goal.returns-in_ok-add_own-in-Some-2-clause-all
returns-in_ok-add_own-in-Some-2-clause-all c =
    all-listed c.push.new.self.items c.add_own.new.prefixes.items c.add_own-in-Some.new.prefixes.items _ _ c.in_ok-add_own-in-Some.ensures c.in_ok-add_own-in-Some-2.ensures (first-listed c.new-prefixes.result.items _ _ c.new-prefixes.ensures.items c.in-Ok.ensures.items c.for_all.ensures)

pub returns-in_ok-add_own-in-Some-2-clause-own : goal.returns-in_ok-add_own-in-Some-2-clause-own
returns-in_ok-add_own-in-Some-2-clause-own c =
    own-of c.args.lent.now c.args.view.now c.add_own-in-Some.new.prefixes.items (c.own_apart.ensures c.add_own-in-Some.new.prefixes.items
    (own-listed c.own_apart.result.0.now c.own_apart.result.1.now c.push.new.self.items c.add_own.new.prefixes.items c.add_own-in-Some.new.prefixes.items c.in_ok-add_own-in-Some.ensures c.in_ok-add_own-in-Some-2.ensures))
