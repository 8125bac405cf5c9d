use Rattle.std.proofs.Common.{◌*◌, ◌+◌, ℕ, List, sym, ap, ap₂, ◌∙◌, subst, arith}
use Rattle.isis_base.specs.declared.identifiers.LspId.{LspId}
use Rattle.lsp_store.specs.Maps.{between}
use Rattle.lsp_store.specs.declared.entry.Entry.{Entry}
use Rattle.lab_facts.specs.Entries.{live_of, Left}
use Rattle.lab_facts.proofs.SightingLemmas.{note-all}
use Rattle.lab_facts.proofs.history.History.note.Goals as goal

pub loop-id-init : goal.loop-id-init
loop-id-init c whole l =
    subst (λ (es : List (LspId × Entry)). Left c.args.self.now (live_of es) whole)
    (sym (c.range-entries.ensures ∙ (ap₂ (λ (m n : ℕ). between m n c.store.result.now.entries) c.from_number-start.ensures c.from_number-end.ensures
    ∙ ap (λ (d : _). between (c.system_to_number-first.result * 65536) (c.system_to_number-first.result * 65536 + 65535) d.entries) c.store.ensures))) l

pub returns : goal.returns
returns c seen h =
    let value = c.system_to_number-first.ensures.value in
    note-all c.args.self.now c.loop-id.self _ (c.system_to_number-first.result * 65536) (c.system_to_number-first.result * 65536 + 65535) c.args.book.now.store.entries c.loop-id.entries c.args.book.now.rows seen
    (omega (arith, value)) (omega (arith, value)) c.requires c.in_default.ensures.steps.0 c.loop-id.invariant h
