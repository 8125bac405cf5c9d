use Rattle.std.proofs.Common.{◌<◌, length, get_or, ap, ◌∙◌, arith}
use Rattle.lab_keys.specs.KeysNet.{Net}
use Rattle.lab_keys.specs.KeysHeld.{keys_at}
use Rattle.lab_keys.proofs.KeysLemmas.{held-joined}
use Rattle.lab_keys.proofs.net.KeyNet.held.Goals as goal

pub returns : goal.returns
returns c =
    let routers = ap (λ (n : Net). n.routers) c.self.view_is in
    let inside = c.self.inside in
    let router = c.args.router in
    let there : router < length inside.held.items = omega (arith, routers, c.requires) in
    let held = c.self.invariant.each router c.index.result.now there in
    c.as_slice.ensures.value ∙ ap (λ (v : _). v.items) c.index.ensures
    ∙ held-joined inside.copies.items inside.places.keys router (get_or inside.held.items router c.index.result.now).items held c.self.invariant.ids
    ∙ ap (λ (n : Net). keys_at n router) c.self.view_is
