use Rattle.std.proofs.Common.{List, ℕ, ◌≡◌, ◌+◌, ◌*◌, ◌++◌, map, refl, sym, ap, ◌∙◌, append-nil, arith}
use Rattle.std.proofs.lemmas.Result.{on_ok_weaker}
use Rattle.model_router.specs.Routers.{Contents}
use Rattle.model_router.specs.Splits.{Split}
use Rattle.model_router.specs.Numbers.{node_number, system_number}
use Rattle.router_circuits.specs.Views.{IsHere}
use Rattle.router_wanted.specs.Lent.{config_of}
use Rattle.router_wanted.specs.Views.{wanted_of}
use Rattle.router_wanted.proofs.WantedLemmas.{pseudonode-none, pseudonode-made}
use Rattle.router_wanted.proofs.building.add_pseudonode.Goals as goal

pub returns-then-not-is_designated : goal.returns-then-not-is_designated
returns-then-not-is_designated c all =
    let base = c.args.base.now in
    let here : IsHere (config_of base) c.args.place base.system (c.args.place + 1) = record { system = refl; circuit = refl } in
    let none = sym (c.is_designated.ensures (config_of base) c.args.place here) ∙ c.if-not-is_designated.true in
    let old = map wanted_of c.args.list.now.items in
    sym (append-nil old)
    ∙ ap (λ (m : List (ℕ × Contents)). old ++ m) (sym (pseudonode-none base all c.args.place c.args.circuit.now c.args.level none))

pub returns : goal.returns
returns c all =
    let base = c.args.base.now in
    let here : IsHere (config_of base) c.args.place base.system (c.args.place + 1) = record { system = refl; circuit = refl } in
    let own = sym (c.is_designated.ensures (config_of base) c.args.place here) ∙ c.if-not-is_designated.false in
    let parts = c.in-Ok-fragments.parts in
    let made : Split = record { fragments = parts.tlvs.items; whole = parts.whole } in
    let node = c.node_of.ensures in
    let id : 256 * node_number c.node_of.result ≡ 65536 * system_number base.system + 256 * (c.args.place + 1) = omega (arith, node) in
    let same = pseudonode-made base all c.args.place c.args.circuit.now c.args.level c.is_type-flags.result _ _ _ made own c.is_type-flags.ensures.value id c.in-Ok.ensures.first c.in-Ok.ensures.entries c.in-Ok-fragments.ensures.split in
    on_ok_weaker c.add.result (λ e. e ∙ ap (λ (m : List (ℕ × Contents)). map wanted_of c.args.list.now.items ++ m) same) c.add.ensures
