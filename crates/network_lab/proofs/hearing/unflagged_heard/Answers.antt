use Rattle.std.proofs.Common.{List, Option, Some, sym, ap, ◌∙◌}
use Rattle.isis_base.specs.declared.entry.LspEntry.{LspEntry}
use Rattle.isis_base.specs.declared.identifiers.LspId.{LspId}
use Rattle.isis_base.specs.Identifiers.{lsp_number}
use Rattle.model_router.specs.Events.{SnpHeard}
use Rattle.model_router.specs.Numbers.{system_number}
use Rattle.flag_sync.specs.Heard.{entries_of}
use Rattle.router_desk.specs.Opening.{envelope_of}
use Rattle.router_desk.specs.declared.heard.Heard.{Heard}
use Rattle.router_desk.specs.declared.heard.Heard.TheVariants as heard
use Rattle.router_desk.specs.Heard.{message_of}
use Rattle.network_lab.specs.Hearing.{unflagged_range}
use Rattle.network_lab.proofs.hearing.unflagged_heard.Goals as goal

pub returns-in-Some : goal.returns-in-Some
returns-in-Some g c on lan =
    let r = c.args.r.now in
    let from = c.in-Snp.from in
    let source = c.in-Snp.source in
    let level = c.in-Snp.level in
    c.unflagged_range.ensures on (envelope_of from) (system_number source) lan
    ∙ (ap (λ (es : List LspEntry). unflagged_range r on (SnpHeard level (envelope_of from) (system_number source) (Some (lsp_number c.in-Some.first, lsp_number c.in-Some.last)) (entries_of es))) c.as_slice.ensures.value
    ∙ (sym (ap (λ (range : Option (LspId × LspId)). unflagged_range r on (message_of (heard.Snp level from source range c.in-Snp.entries))) c.in-Some.is)
    ∙ sym (ap (λ (h : Heard). unflagged_range r on (message_of h)) c.in-Snp.is)))
