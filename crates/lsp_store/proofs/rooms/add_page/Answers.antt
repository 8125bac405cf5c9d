use Rattle.lsp_store.proofs.PageLemmas.{empty-push}
use Rattle.lsp_store.proofs.rooms.add_page.Goals as goal

pub returns-clause-empty : goal.returns-clause-empty
returns-clause-empty g c = rw (c.push_reserved.ensures.items, c.in-Ok-reserve.ensures.items) (empty-push _ _ c.requires.empty c.in-Ok-new.ensures)
