use Rattle.std.proofs.Common.{◌≡◌, ℕ, List, length}
use Rattle.std.specs.Option.{option_map}
use Rattle.isis_base.specs.Identifiers.{lsp_number}
use Rattle.model_router.specs.Routers.{Contents}
use Rattle.model_router.specs.OwnLsps.{withdraw_all}
use Rattle.lsp_fragments.specs.Kept.{first_id}
use Rattle.flag_sync.specs.Walks.{numbers_of}
use Rattle.router_levels.specs.Views.{state_of}
use Rattle.router_levels.specs.Drafts.{numbers_wanted}
use Rattle.router_levels.proofs.RenewLemmas.{behind}
use Rattle.router_levels.proofs.level_parts.LevelParts.withdraw_all.Given as goal

-- those that are still to be looked at give what all give
abbrev pub invariant-loop-next : goal.invariant-loop-next
invariant-loop-next l = record {
  head : option_map lsp_number l.next ≡ first_id (behind l.next l.self.own.issued);
  state : (wants : List (ℕ × Contents)) → numbers_wanted wants ≡ numbers_of l.ids → withdraw_all (state_of l.self) wants (behind l.next l.self.own.issued) ≡ withdraw_all (state_of l.fn.self) wants l.fn.self.own.issued;
  circuits : l.self.book.circuits ≡ l.fn.self.book.circuits;
}

abbrev pub decreases-loop-next : goal.decreases-loop-next
decreases-loop-next l = length (behind l.next l.self.own.issued)
