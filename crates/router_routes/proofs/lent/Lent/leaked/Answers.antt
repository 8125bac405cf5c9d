use Rattle.std.proofs.Common.{◌∙◌, map, ap, sym}
use Rattle.router_routes.specs.Leaks.{pair_of}
use Rattle.router_routes.proofs.UnleakedLemmas.{lent-unattached, lent-unleaked}
use Rattle.router_routes.proofs.lent.Lent.leaked.Goals as goal

pub returns-in-One : goal.returns-in-One
returns-in-One c = record {
  prefixes = ap (map pair_of) c.new.ensures.items ∙ sym (lent-unleaked c.args.self.now c.args.level c.in-One.is c.requires);
  attached = sym (lent-unattached c.args.self.now c.in-One.is);
}
