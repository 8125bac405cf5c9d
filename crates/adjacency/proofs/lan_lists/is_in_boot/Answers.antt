use Rattle.std.proofs.Common.{Option, sym, ap}
use Rattle.adjacency.specs.declared.neighbour.Neighbour.{Neighbour}
use Rattle.adjacency.specs.Views.{snpa_of}
use Rattle.adjacency.specs.Inside.{keeps_boot}
use Rattle.ordered.proofs.MapLemmas.{find-place, find-gap}
use Rattle.adjacency.proofs.lan_lists.is_in_boot.Goals as goal

pub returns-in-Ok : goal.returns-in-Ok
returns-in-Ok c =
    let at = rw c.in-Ok.is at c.requires in
    sym (ap (λ (o : Option Neighbour). keeps_boot o c.args.neighbour.boot) (find-place snpa_of c.args.heard.now _ c.in-Ok.at _ at))

pub returns-in-Err : goal.returns-in-Err
returns-in-Err c =
    let at = rw c.in-Err.is at c.requires in
    sym (ap (λ (o : Option Neighbour). keeps_boot o c.args.neighbour.boot) (find-gap snpa_of c.args.heard.now _ c.in-Err.field-0 at))
