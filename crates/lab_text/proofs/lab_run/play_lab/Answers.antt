use Rattle.lab_text.proofs.LabLemmas.{script-tells, script-routers, script-links, script-claimed}
use Rattle.lab_text.proofs.lab_run.play_lab.Goals as goal

pub returns-clause-tells : goal.returns-clause-tells
returns-clause-tells c = script-tells c.args.script.now c.args.lab.now c.play_script.result c.requires.same c.play_script.ensures.value

pub returns-clause-claimed : goal.returns-clause-claimed
returns-clause-claimed c = script-claimed c.args.script.now c.args.lab.now c.play_script.result c.requires.same c.play_script.ensures.claimed

pub returns-clause-routers : goal.returns-clause-routers
returns-clause-routers c = script-routers c.args.script.now c.args.lab.now c.play_script.result c.requires.same c.play_script.ensures.laid

pub returns-clause-links : goal.returns-clause-links
returns-clause-links c = script-links c.args.script.now c.args.lab.now c.play_script.result c.requires.same c.play_script.ensures.laid
