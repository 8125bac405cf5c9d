use Rattle.lsp_store.proofs.EditLemmas.{last-empty}
use Rattle.lsp_store.proofs.edits.take_page.Goals as goal

pub returns-clause-page : goal.returns-clause-page
returns-clause-page g c = (last-empty c.args.pool.now.items c.pop.new.self.items c.pop.result c.unwrap.result c.requires.empty c.pop.ensures.items c.unwrap.ensures).1

pub returns-clause-empty : goal.returns-clause-empty
returns-clause-empty g c = (last-empty c.args.pool.now.items c.pop.new.self.items c.pop.result c.unwrap.result c.requires.empty c.pop.ensures.items c.unwrap.ensures).0
