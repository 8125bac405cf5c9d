use Rattle.std.proofs.Common.{List, [], ◌∷◌, ◌++◌, sym, ap, ◌∙◌, subst, append_assoc, append-nil}
use Rattle.isis_base.specs.declared.identifiers.SystemId.{SystemId}
use Rattle.isis_base.specs.declared.identifiers.LspId.{LspId}
use Rattle.lsp_store.specs.declared.entry.Entry.{Entry}
use Rattle.walk_text.specs.Foreign.{systems_in, IsLeastForeign}
use Rattle.walk_text.proofs.strangers.least_foreign.Goals as goal

pub loop-id-init : goal.loop-id-init
loop-id-init c = λ before h. (
  [],
  subst (λ (xs : List SystemId). IsLeastForeign c.args.known.now xs c.args.least) (sym (append-nil before)) h,
  ap systems_in (c.into_iter-id-iterator.ensures.into_iter_gives ∙ c.live-id-items.ensures),
)

pub loop-id-preserved : goal.loop-id-preserved
loop-id-preserved c = λ before h.
    let b = c.loop-id.invariant before h in
    let system : SystemId = c.in-Some.id.node.system in (
      b.0 ++ (system ∷ []),
      subst (λ (xs : List SystemId). IsLeastForeign c.args.known.now xs c.lesser-least.result) (append_assoc before b.0 (system ∷ [])) (c.lesser-least.ensures (before ++ b.0) b.1),
      append_assoc b.0 (system ∷ []) (systems_in c.next.new.self) ∙ (ap (λ (l : List (LspId × Entry)). b.0 ++ systems_in l) (sym c.in-Some.ensures.steps) ∙ b.2),
    )

pub returns : goal.returns
returns c = λ before h.
    let b = c.loop-id.invariant before h in
    let all = sym (append-nil b.0) ∙ (ap (λ (l : List (LspId × Entry)). b.0 ++ systems_in l) (sym c.in-None.ensures.steps.0) ∙ b.2) in
    subst (λ (xs : List SystemId). IsLeastForeign c.args.known.now (before ++ xs) c.loop-id.least) all b.1
