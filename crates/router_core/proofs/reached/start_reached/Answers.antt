use Rattle.std.proofs.Common.{List, subst}
use Rattle.std.specs.List.{AllByRecursion}
use Rattle.isis_tlv.specs.Fits.{IsArea}
use Rattle.router_core.proofs.ReachedLemmas.{start-reached}
use Rattle.router_core.proofs.reached.start_reached.Goals as goal

-- src/reached.rt
pub returns : goal.returns
returns c =
    start-reached c.args.config.now c.args.boot c.requires.valid c.small_system_law.ensures
    (subst (λ (a : List (List _)). AllByRecursion IsArea a) c.as_slice.ensures c.areas_law.ensures) c.requires.boot
