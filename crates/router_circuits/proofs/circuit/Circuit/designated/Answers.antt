use Rattle.std.proofs.Common.{◌≡◌, ℕ, true, List, map, Some, Option, ◌∙◌, ap, sym, arith}
use Rattle.std.specs.Option.{option_map}
use Rattle.model_router.specs.Adjacencies.{Neighbour}
use Rattle.model_router.specs.Both.{at}
use Rattle.model_router.specs.Routers.{some_up}
use Rattle.model_router.specs.Elections as model
use Rattle.adjacency.specs.Views.{neighbour_of}
use Rattle.router_circuits.specs.Elections.{elect, system_and_lan}
use Rattle.router_circuits.proofs.ElectLemmas.{designated-some}
use Rattle.router_circuits.proofs.circuit.Circuit.designated.Goals as goal

pub returns : goal.returns
returns c config place here =
    let self = c.args.self.now in
    let lan : self.lan ≡ true = grind (arith, c.if-not-is_lan.false, c.is_lan.ensures) in
    let up : some_up (at self.levels c.args.level).heard ≡ true = grind (arith, c.if-not-some_up.false, c.some_up.ensures (at self.levels c.args.level).heard c.up-up.ensures.up) in
    let best = c.elected-best.ensures ∙ ap (λ (b : model.Candidate). elect b (map neighbour_of c.up-up.result.now)) (c.oneself.ensures config place here)
    ∙ ap (λ (ns : List Neighbour). elect (model.oneself config place self) ns) c.up-up.ensures.up in
    ap (λ (p : ℕ × ℕ). Some p) (c.designated_from.ensures ∙ ap system_and_lan best)
    ∙ ap (λ (o : Option model.Candidate). option_map system_and_lan o) (sym (designated-some config place self c.args.level lan up))
