use Rattle.std.proofs.Common.{◌-◌, ◌∙◌, List, ap}
use Rattle.isis_base.specs.declared.entry.LspEntry.{LspEntry}
use Rattle.isis_base.specs.Identifiers.{lsp_number}
use Rattle.model_router.specs.Datagrams as sent
use Rattle.flag_sync.specs.Heard.{entries_of}
use Rattle.model_datagram.specs.Datagrams.{datagram}
use Rattle.router_core.specs.Sending.{config_of, circuit_of}
use Rattle.router_core.proofs.SendingLemmas.{sends-here, put-one}
use Rattle.router_core.proofs.sending.put_piece.Goals as goal

-- src/sending.rt
pub returns : goal.returns
returns c =
    put-one c.push.result c.push.new.self c.args.out.now c.args.sender.now _ c.in_ok-octets.octets
    (c.in_ok-octets.ensures (config_of c.args.sender.now) c.args.sender.now.boot (c.args.sender.now.circuit - 1) (circuit_of c.args.sender.now) (sends-here c.args.sender.now c.requires.here)
    ∙ ap (λ (es : List LspEntry). datagram (config_of c.args.sender.now) c.args.sender.now.boot (c.args.sender.now.circuit - 1) (circuit_of c.args.sender.now) (sent.Csnp c.args.level (lsp_number c.args.piece.start) (lsp_number c.args.piece.end) (entries_of es))) (c.as_slice.ensures.value ∙ c.in-Ok.ensures))
    c.push.ensures.ok
