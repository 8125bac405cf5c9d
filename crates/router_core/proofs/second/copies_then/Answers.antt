use Rattle.std.proofs.Common.{length, sym, ap, ◌∙◌}
use Rattle.router_core.specs.Seconds.{bare_later}
use Rattle.router_core.proofs.KeepLemmas.{later-faces}
use Rattle.router_core.proofs.SecondLemmas.{bare-faces, length-map, same-fit}
use Rattle.router_core.proofs.second.copies_then.Goals as goal

-- src/second.rt
pub returns-then-not-some_end-clause-later : goal.returns-then-not-some_end-clause-later
returns-then-not-some_end-clause-later c = sym (later-faces c.args.circuits.now (sym c.some_end.ensures ∙ c.if-not-some_end.true))

-- src/second.rt
pub returns-in-Ok-clause-later : goal.returns-in-Ok-clause-later
returns-in-Ok-clause-later c = bare-faces c.args.circuits.now c.in-Ok.copies.items c.in-Ok.ensures

-- src/second.rt
pub returns-in-Ok-clause-count : goal.returns-in-Ok-clause-count
returns-in-Ok-clause-count c = ap length c.in-Ok.ensures ∙ length-map bare_later c.args.circuits.now

-- src/second.rt
pub returns-in-Ok-clause-fit : goal.returns-in-Ok-clause-fit
returns-in-Ok-clause-fit c = same-fit c.args.circuits.now c.in-Ok.copies.items c.in-Ok.ensures
