use Rattle.route_table.specs.Ranks.{prefix_number}
use Rattle.walk_text.proofs.answer.forward.Goals as goal

pub returns-in-Err-clause-refused : goal.returns-in-Err-clause-refused
returns-in-Err-clause-refused c = λ looks are. c.in-Err.ensures.refused looks c.args.from (prefix_number c.args.prefix) are
