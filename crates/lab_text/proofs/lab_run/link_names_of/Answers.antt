use Rattle.std.proofs.Common.{arith}
use Rattle.lab_text.proofs.LabLemmas.{links-count}
use Rattle.lab_text.proofs.lab_run.link_names_of.Goals as goal

pub returns-clause-count : goal.returns-clause-count
returns-clause-count c = links-count c.link_names.result.now c.args.script.now.links c.link_names.ensures

pub returns-clause-few : goal.returns-clause-few
returns-clause-few c = let count = links-count c.link_names.result.now c.args.script.now.links c.link_names.ensures in omega (arith, count, c.links-links.ensures.sound.links)
