use Rattle.std.proofs.Common.{ap}
use Rattle.isis_base.specs.declared.prefix.Prefix.{Prefix}
use Rattle.isis_base.specs.declared.level.Level.TheVariants as level
use Rattle.isis_base.specs.Prefixes.{prefix_number}
use Rattle.router_routes.specs.Outlooks.{outlook_of}
use Rattle.router_core.proofs.LeakedUpLemmas.{leaked-up}
use Rattle.router_core.proofs.laws.leaked_up_law.Goals as goal

-- src/laws.rt
pub returns : goal.returns
returns c = λ before r routes are.
    leaked-up before r routes (c.leaks_law.ensures (outlook_of before) routes level.Two are)
    (λ item there. let of = (c.leak_laws.ensures.up routes item there).1 in
    record { route = of.0; held = of.1; rank = of.2; to = ap (λ (p : Prefix). prefix_number p) of.3 })
