use Rattle.std.proofs.Common.{Option, ◌∙◌, ap, sym}
use Rattle.std.specs.Option.{option_map}
use Rattle.adjacency.specs.declared.neighbour.Neighbour.{Neighbour}
use Rattle.adjacency.specs.Views.{neighbour_of}
use Rattle.model_router.specs.Receiving.{kept_system}
use Rattle.router_circuits.proofs.UpLemmas.{up-system}
use Rattle.router_circuits.proofs.senders.up_system.Goals as goal

pub returns-in-Some : goal.returns-in-Some
returns-in-Some c heard are e =
    c.system_in.ensures
    ∙ (ap (λ (o : Option Neighbour). kept_system (option_map neighbour_of o) c.args.from.boot) (sym c.in-Some.ensures)
    ∙ up-system c.args.up.now heard _ c.args.from.boot are e)

pub returns-in-None : goal.returns-in-None
returns-in-None c heard are e =
    ap (λ (o : Option Neighbour). kept_system (option_map neighbour_of o) c.args.from.boot) (sym c.in-None.ensures)
    ∙ up-system c.args.up.now heard _ c.args.from.boot are e
