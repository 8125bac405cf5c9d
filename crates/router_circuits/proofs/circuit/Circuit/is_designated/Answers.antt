use Rattle.std.proofs.Common.{◌∙◌, sym, ap, eqb, ℕ}
use Rattle.model_router.specs.Elections as model
use Rattle.model_router.specs.Numbers.{system_number}
use Rattle.router_circuits.proofs.ElectLemmas.{is_own-some}
use Rattle.router_circuits.proofs.circuit.Circuit.is_designated.Goals as goal

pub returns-in-Some : goal.returns-in-Some
returns-in-Some c config place here =
    let found = model.designated config place c.args.self.now c.args.level in
    c.are_same_systems.ensures
    ∙ ap (λ (n : ℕ). eqb (system_number c.in-Some.designated.system) n) (sym here.system)
    ∙ sym (is_own-some config found _ _ (c.in-Some.ensures config place here))
