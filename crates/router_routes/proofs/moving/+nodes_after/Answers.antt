use Rattle.std.proofs.Common.{◌-◌, length, take, drop, refl, arith}
use Rattle.router_routes.specs.declared.told.Moved.{Moved}
use Rattle.router_routes.proofs.MovingLemmas.{rest-fits, rest-less}
use Rattle.router_routes.proofs.ViewLemmas.{listing}
use Rattle.router_routes.proofs.moving.+nodes_after.Goals as goal

pub nodes_after-requires : goal.nodes_after-requires
nodes_after-requires t c =
    let less = rest-less c.args.moved.nodes.now c.in-len1-up.len_at_least in
    (omega (arith, less), (c.requires.costs, rest-fits c.args.store.now.entries c.args.moved _ c.in-len1-up.len_at_least refl refl c.requires.fit))

pub node_after-requires-clause-fit : goal.node_after-requires-clause-fit
node_after-requires-clause-fit t c = rest-fits c.args.store.now.entries c.args.moved _ c.in-len1-up.len_at_least refl refl c.requires.fit

pub node_after-requires-clause-told : goal.node_after-requires-clause-told
node_after-requires-clause-told t c =
    let nodes = c.args.moved.nodes.now in
    let rest : Moved = record { nodes = record { ref_ptr = (0, 0); now = take (length nodes - 1) (drop 1 nodes) }; aside = c.args.moved.aside } in
    listing c.args.store.now.entries rest (rest-fits c.args.store.now.entries c.args.moved rest c.in-len1-up.len_at_least refl refl c.requires.fit)
