use Rattle.std.proofs.Common.{◌≡◌, List, sym, subst}
use Rattle.isis_base.specs.declared.identifiers.LspId.{LspId}
use Rattle.isis_base.specs.Identifiers.{lsp_number}
use Rattle.model_router.specs.LetGos.{with_id}
use Rattle.ordered.specs.Keyed.{IsPlace}
use Rattle.lab_facts.specs.Sightings.{Memory}
use Rattle.lab_facts.proofs.SightingLemmas.{with-held}
use Rattle.lab_facts.proofs.history.History.add.Goals as goal

pub returns-in-Ok-clause-doubled : goal.returns-in-Ok-clause-doubled
returns-in-Ok-clause-doubled c =
    subst (λ (m : Memory). m.doubled ≡ with_id m.doubled (lsp_number c.args.id)) c.self.view_is
    (sym (with-held c.self.inside.doubled.items (lsp_number c.args.id) c.in-Ok.field-0 (subst (λ (xs : List LspId). IsPlace lsp_number xs (lsp_number c.args.id) c.in-Ok.field-0) c.deref.ensures.value c.in-Ok.ensures)))
