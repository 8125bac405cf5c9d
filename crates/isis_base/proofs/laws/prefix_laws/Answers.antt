use Rattle.std.proofs.Common.{refl}
use Rattle.isis_base.proofs.PrefixValues.{prefix_from-prefix, prefix-same}
use Rattle.isis_base.proofs.laws.prefix_laws.Goals as goal

pub returns-clause-from : goal.returns-clause-from
returns-clause-from c = prefix_from-prefix c.args.a c.args.a.address c.args.a.length refl refl

pub returns-clause-one : goal.returns-clause-one
returns-clause-one c = prefix-same c.args.a c.args.b
