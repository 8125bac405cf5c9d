use Rattle.std.proofs.Common.{arith}
use Rattle.lab_text.proofs.LabLemmas.{names-count}
use Rattle.lab_text.proofs.lab_run.router_names_of.Goals as goal

pub returns-clause-count : goal.returns-clause-count
returns-clause-count c = names-count c.names.result.now c.args.script.now.routers c.names.ensures

pub returns-clause-few : goal.returns-clause-few
returns-clause-few c = let count = names-count c.names.result.now c.args.script.now.routers c.names.ensures in omega (arith, count, c.routers-routers.ensures.sound.routers)
