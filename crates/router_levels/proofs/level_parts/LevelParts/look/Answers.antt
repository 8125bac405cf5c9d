use Rattle.std.proofs.Common.{inl, inr, refl, ap, ◌∙◌}
use Rattle.isis_base.specs.declared.identifiers.LspId.{LspId}
use Rattle.isis_base.specs.Identifiers.{lsp_number}
use Rattle.model_router.specs.Books.{cell_at}
use Rattle.model_router.specs.OwnLsps.{Wait, Exhaust, Number, retire_held}
use Rattle.model_datagram.specs.Lsps.{given_octets}
use Rattle.router_levels.specs.Views.{state_of}
use Rattle.router_levels.proofs.EntryLemmas.{room-one}
use Rattle.router_levels.proofs.RenewLemmas.{looked, first-room}
use Rattle.router_levels.proofs.level_parts.LevelParts.look.Goals as goal

pub returns-in-Wait-clause-state : goal.returns-in-Wait-clause-state
returns-in-Wait-clause-state c leaks attached r level under =
    looked (given_octets leaks attached) r level (state_of c.args.self.now) (lsp_number c.args.draft.id) c.args.draft.contents Wait c.in-Wait.ensures.next

pub returns-in-Exhausted-clause-state : goal.returns-in-Exhausted-clause-state
returns-in-Exhausted-clause-state c leaks attached r level under =
    let s = state_of c.args.self.now in
    c.retire_held.ensures.state
    ∙ ap (λ (id : LspId). retire_held s (lsp_number id) (cell_at s.book (lsp_number id))) c.id-id.ensures
    ∙ looked (given_octets leaks attached) r level s (lsp_number c.args.draft.id) c.args.draft.contents Exhaust c.in-Exhausted.ensures.next

pub returns-in-Number-clause-state : goal.returns-in-Number-clause-state
returns-in-Number-clause-state c leaks attached r level under =
    (rw c.unwrap.ensures at (c.issue.ensures.state leaks attached r level under))
    ∙ looked (given_octets leaks attached) r level (state_of c.args.self.now) (lsp_number c.args.draft.id) c.args.draft.contents (Number c.in-Number.number) c.in-Number.ensures.next

pub unwrap-requires : goal.unwrap-requires
unwrap-requires c =
    elim (c.in-Number.ensures.place c.in-Number.number refl) [
      | inl h ↦ c.issue.ensures.fits h (room-one c.args.self.now (first-room c.args.self.now c.requires.room))
      | inr h ↦ c.issue.ensures.held h
    ]
