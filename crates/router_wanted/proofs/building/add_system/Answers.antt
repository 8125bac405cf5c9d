use Rattle.std.proofs.Common.{List, ℕ, ◌≡◌, ◌*◌, ◌++◌, map, ap, ◌∙◌, arith}
use Rattle.std.proofs.lemmas.Result.{on_ok_weaker}
use Rattle.model_router.specs.Routers.{Contents}
use Rattle.model_router.specs.Splits.{Split}
use Rattle.model_router.specs.Numbers.{node_number, system_number}
use Rattle.router_wanted.specs.Views.{wanted_of}
use Rattle.router_wanted.proofs.WantedLemmas.{system-made}
use Rattle.router_wanted.proofs.building.add_system.Goals as goal

pub returns : goal.returns
returns c =
    let base = c.args.base.now in
    let parts = c.in-Ok-fragments.parts in
    let made : Split = record { fragments = parts.tlvs.items; whole = parts.whole } in
    let node = c.node_of-node.ensures in
    let id : 256 * node_number c.node_of-node.result ≡ 65536 * system_number base.system = omega (arith, node) in
    let same = system-made base c.args.circuits.now c.args.leaks.now c.args.attached c.args.level c.first_flags-first.result c.is_type.result _ _ _ made
    (c.first_flags-first.ensures c.args.circuits.now c.args.leaks.now) c.is_type.ensures.value id c.in-Ok.ensures.first c.in-Ok.ensures.entries c.in-Ok-fragments.ensures.split in
    on_ok_weaker c.add.result (λ e. e ∙ ap (λ (m : List (ℕ × Contents)). map wanted_of c.args.list.now.items ++ m) same) c.add.ensures
