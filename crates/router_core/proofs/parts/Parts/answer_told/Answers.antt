use Rattle.std.proofs.Common.{◌≡◌, ◌∙◌, sym, ap}
use Rattle.isis_base.specs.Identifiers.{lsp_number}
use Rattle.model_router.specs.Numbers.{system_number}
use Rattle.model_router.specs.Routers.{Router, level_of}
use Rattle.model_router.specs.Takes.{whose_of}
use Rattle.router_core.proofs.AsideLemmas.{issued-held}
use Rattle.router_core.proofs.parts.Parts.answer_told.Goals as goal

-- src/snp_told.rt
pub entry_above-requires-clause-wanted : goal.entry_above-requires-clause-wanted
entry_above-requires-clause-wanted c =
    let r = c.args.self.now in
    let n = lsp_number c.args.entry.now.id in
    let system : system_number c.system.result ≡ r.config.system = c.system.ensures ∙ ap (λ (q : Router). q.config.system) c.self.view_is in
    let state = c.level.ensures.state in
    c.requires.wanted (issued-held r.config.system n (level_of r c.args.level) (sym (c.whose.ensures ∙ (λ i. whose_of (system i) (state i) n)) ∙ c.in-Issued.is))
