use Rattle.std.proofs.Common.{◌∙◌, subst, sym}
use Rattle.router_core.proofs.AsideLemmas.{Entries}
use Rattle.router_core.proofs.SightLemmas.{Ends, ends-end, ends-first, ends-turn}
use Rattle.router_core.proofs.renewing.ended_told.Goals as goal

-- src/renewing.rt
pub loop-id-init : goal.loop-id-init
loop-id-init c r l shown =
    subst (λ (es : Entries). Ends r l c.args.store.now.entries es c.new.result.items c.new-2.result.entries) (sym (c.pairs-left.ensures ∙ c.pages.ensures.entries))
    (ends-first r l c.args.store.now.entries c.new.result.items c.new-2.result.entries c.new.ensures.items c.new-2.ensures.entries)

-- src/renewing.rt
pub loop-id-preserved : goal.loop-id-preserved
loop-id-preserved c r l shown =
    ends-turn r l c.args.store.now.entries c.loop-id.left c.next.new.self c.in-Some.id c.in-Some.entry.now c.loop-id.movers.nodes.items c.tell_end.new.movers.nodes.items c.loop-id.movers.aside.entries c.tell_end.new.movers.aside.entries
    c.in-Some.ensures.steps (λ sight aside. c.in-Ok.ensures r l sight shown aside) (c.loop-id.invariant r l shown)

-- src/renewing.rt
pub returns : goal.returns
returns c r l shown = ends-end r l c.args.store.now.entries c.loop-id.left c.loop-id.movers.nodes.items c.loop-id.movers.aside.entries c.in_default.ensures.steps.0 (c.loop-id.invariant r l shown)
