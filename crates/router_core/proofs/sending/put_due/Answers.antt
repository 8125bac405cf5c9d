use Rattle.std.proofs.Common.{◌-◌, ◌∙◌, sym}
use Rattle.flag_sync.proofs.WalkLemmas.{due-row}
use Rattle.router_core.specs.Sending.{config_of, circuit_of}
use Rattle.router_core.proofs.SendingLemmas.{sends-here, due-one, due-none}
use Rattle.router_core.proofs.sending.put_due.Goals as goal

-- src/sending.rt
pub lsp-requires : goal.lsp-requires
lsp-requires c =
    c.requires.may (sym (due-row (c.args.sender.now.circuit - 1) c.args.entry.now c.args.row.now) ∙ (sym c.is_due.ensures ∙ c.if-is_due.true))

-- src/sending.rt
pub returns-then-is_due : goal.returns-then-is_due
returns-then-is_due c =
    due-one c.push.result c.push.new.self c.args.out.now c.args.sender.now c.args.level c.args.entry.now c.args.row.now c.in_ok-octets.octets
    (sym (due-row (c.args.sender.now.circuit - 1) c.args.entry.now c.args.row.now) ∙ (sym c.is_due.ensures ∙ c.if-is_due.true))
    (λ id. c.in_ok-octets.ensures (config_of c.args.sender.now) c.args.sender.now.boot (c.args.sender.now.circuit - 1) (circuit_of c.args.sender.now) id c.args.row.now (sends-here c.args.sender.now c.requires.here))
    c.push.ensures.ok

-- src/sending.rt
pub returns : goal.returns
returns c id rest =
    due-none c.args.out.now c.args.sender.now c.args.level id c.args.entry.now c.args.row.now rest
    (sym (due-row (c.args.sender.now.circuit - 1) c.args.entry.now c.args.row.now) ∙ (sym c.is_due.ensures ∙ c.if-is_due.false))
