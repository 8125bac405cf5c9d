use Rattle.std.proofs.Common.{ap, arith}
use Rattle.isis_base.specs.Identifiers.{lsp_from}
use Rattle.isis_base.proofs.ArrayLemmas.{list_of_8}
use Rattle.isis_base.proofs.lsp_number.lsp_of.Goals as goal

pub returns-clause-octets : goal.returns-clause-octets
returns-clause-octets c = list_of_8 c.args.octets (omega arith)

pub returns-clause-value : goal.returns-clause-value
returns-clause-value c = ap lsp_from (list_of_8 c.args.octets (omega arith))
