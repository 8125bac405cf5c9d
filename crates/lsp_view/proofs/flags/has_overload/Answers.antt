use Rattle.lsp_view.proofs.FlagLemmas.{overload-bit}
use Rattle.lsp_view.proofs.flags.has_overload.Goals as goal

pub returns : goal.returns
returns c = overload-bit c.args.flags
