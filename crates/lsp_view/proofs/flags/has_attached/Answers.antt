use Rattle.lsp_view.proofs.FlagLemmas.{attached-bit}
use Rattle.lsp_view.proofs.flags.has_attached.Goals as goal

pub returns : goal.returns
returns c = attached-bit c.args.flags
