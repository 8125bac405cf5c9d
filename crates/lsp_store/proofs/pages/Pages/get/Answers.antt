use Rattle.isis_base.specs.Identifiers.{lsp_number}
use Rattle.lsp_store.proofs.EditLemmas.{absent}
use Rattle.lsp_store.proofs.pages.Pages.get.Goals as goal

pub returns-in-Err : goal.returns-in-Err
returns-in-Err g c = absent c.deref.result.now c.self.inside.pages.items c.self.inside.spare c.args.self.now c.self.view_is c.to_number-n.result (lsp_number c.args.id) c.to_number-n.ensures c.in-Err.field-0 c.in-Err.ensures c.deref.ensures.value
