use Rattle.std.proofs.Common.{◌∙◌, sym, subst}
use Rattle.std.proofs.lemmas.Result.{on_ok_weaker}
use Rattle.flag_sync.specs.Heard.{entry_of}
use Rattle.model_router.specs.Receiving.{scene_of}
use Rattle.model_router.specs.Takes.{take_entry}
use Rattle.router_core.specs.Asides.{IsHeldAside}
use Rattle.router_core.specs.Givens.{given}
use Rattle.router_core.proofs.AsideLemmas.{answer-aside, stays-aside}
use Rattle.router_core.proofs.parts.Parts.put_answer.Goals as goal

-- src/snp_told.rt
pub returns-then-not-is_apart_in : goal.returns-then-not-is_apart_in
returns-then-not-is_apart_in c nodes place s covered aside =
    stays-aside c.args.self.now c.args.level nodes s c.args.aside.now.entries place c.args.entry.now aside c.lsp_id_law.ensures covered (sym c.is_apart_in.ensures ∙ c.if-not-is_apart_in.true)

-- src/snp_told.rt
pub returns : goal.returns
returns c =
    on_ok_weaker c.put_in.result
    (λ is nodes place s covered aside.
    subst (IsHeldAside c.args.self.now c.args.level nodes (take_entry (scene_of given c.args.self.now c.args.level) s c.args.self.now.config.system place (entry_of c.args.entry.now))) (sym is)
    (answer-aside c.args.self.now c.args.level nodes s c.args.aside.now.entries place c.args.entry.now c.in-Ok.told aside c.lsp_id_law.ensures c.in-Ok.ensures (sym c.is_apart_in.ensures ∙ c.if-not-is_apart_in.false)))
    c.put_in.ensures
