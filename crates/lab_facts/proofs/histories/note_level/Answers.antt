use Rattle.lab_facts.proofs.SeenLemmas.{seen-remembered}
use Rattle.lab_facts.proofs.histories.note_level.Goals as goal

pub returns : goal.returns
returns g c past enough h = seen-remembered c.args.history.now past c.args.level c.args.router.now (enough c.if-looked_at.false) h
