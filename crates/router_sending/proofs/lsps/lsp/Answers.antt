use Rattle.std.proofs.Common.{◌∙◌, ℕ, List, [], ◌++◌, sym, ap}
use Rattle.std.specs.Option.{option_copied}
use Rattle.model_datagram.specs.Lsps.{lsp_sent}
use Rattle.flag_sync.specs.FlagRows.{cell_of}
use Rattle.router_sending.specs.Writing.{frame_of}
use Rattle.router_sending.proofs.SendLemmas.{lsp-datagram}
use Rattle.router_sending.proofs.lsps.lsp.Goals as goal

pub returns : goal.returns
returns c config boot place circuit id row sends =
    let s = c.args.sender.now in
    let cell = cell_of c.args.entry.now row in
    c.in_ok-put_lsp.ensures.ok row
    ∙ ap (λ (front : List ℕ). front ++ lsp_sent (option_copied c.level_key.result) cell) c.in_ok-octets.ensures.octets
    ∙ (λ i. frame_of (sym c.system_law.ensures i) s.boot [] ++ lsp_sent (c.level_key.ensures i) cell)
    ∙ lsp-datagram s config boot place circuit sends c.args.level id cell
