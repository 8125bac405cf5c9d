use Rattle.std.proofs.Common.{◌≡◌, ℕ, List, None, sym, ap, ◌∙◌}
use Rattle.isis_base.specs.Identifiers.{lsp_number}
use Rattle.model_router.specs.LetGos.{contains}
use Rattle.model_router.specs.Maps.{find}
use Rattle.model_router.specs.OwnLsps.{withdraw_one}
use Rattle.router_levels.specs.Views.{state_of}
use Rattle.router_levels.proofs.RenewLemmas.{wanted-find, kept-wanted, not-wanted}
use Rattle.router_levels.proofs.level_parts.LevelParts.withdraw.Goals as goal

pub returns-then-not-is_in-clause-state : goal.returns-then-not-is_in-clause-state
returns-then-not-is_in-clause-state c wants e =
    let n = lsp_number c.args.id in
    let none : find wants n ≡ None = not-wanted (find wants n) (sym (wanted-find wants n) ∙ ap (λ (ns : List ℕ). contains ns n) e ∙ sym c.if-not-is_in.ensures) in
    c.retire_held.ensures.state ∙ ap (withdraw_one (state_of c.args.self.now) n) (sym none)

pub returns-else-not-is_in-clause-state : goal.returns-else-not-is_in-clause-state
returns-else-not-is_in-clause-state c wants e =
    let n = lsp_number c.args.id in
    kept-wanted (state_of c.args.self.now) n (find wants n) (sym (wanted-find wants n) ∙ ap (λ (ns : List ℕ). contains ns n) e ∙ sym c.if-not-is_in.ensures)
